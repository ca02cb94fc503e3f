-- Names that go behind others change no part whose nets are there.
use Rattle.std.specs.Prelude.{[], ◌≡◌, ℕ, zero, suc, ◌<◌, List, ◌∷◌, ◌++◌, map, length, Option, None, Some}
use Rattle.std.proofs.Common.{refl, ap, ◌∙◌, arith}
use Rattle.std.specs.List.{AllByRecursion}
use Rattle.std.specs.Option.{option_map, option_to_list}
use Rattle.cg_netlist.proofs.OrderedForm.{names}
use Rattle.cg_netlist_parts.proofs.Kept.{CellNets, GaterNets}
use Rattle.cg_netlist.specs.Circuit.{GatingCell, LogicCell}
use Rattle.cg_net.specs.Names.{NetName, net_name}
use Rattle.cg_netlist.specs.Wiring.{map_cell, map_gater}

module _ {N M : Type 0} (f g : N → M) where
  abbrev Agree : N → Type 0
  Agree x = f x ≡ g x

  pub nets_agree : (xs : List N) → AllByRecursion Agree xs → map f xs ≡ map g xs
  nets_agree [] all = refl
  nets_agree (x ∷ xs) all = ap (λ y. y ∷ map f xs) all.0 ∙ ap (λ ys. g x ∷ ys) (nets_agree xs all.1)

  option_agrees : (o : Option N) → AllByRecursion Agree (option_to_list o) → option_map f o ≡ option_map g o
  option_agrees None all = refl
  option_agrees (Some x) all = ap (λ y. Some y) all.0

  pub cell_agrees : (k : LogicCell N) → CellNets Agree k → map_cell f k ≡ map_cell g k
  cell_agrees k is =
      ap (λ xs. record { inputs = xs; output = f k.output; function = k.function }) (nets_agree k.inputs is.inputs)
      ∙ ap (λ y. record { inputs = map g k.inputs; output = y; function = k.function }) is.output

  pub gater_agrees : (k : GatingCell N) → GaterNets Agree k → map_gater f k ≡ map_gater g k
  gater_agrees k is =
      ap (λ c. record { clock = c; enable = f k.enable; test = option_map f k.test; output = f k.output; cell = k.cell }) is.clock
      ∙ (ap (λ e. record { clock = g k.clock; enable = e; test = option_map f k.test; output = f k.output; cell = k.cell }) is.asked.0
      ∙ (ap (λ t. record { clock = g k.clock; enable = g k.enable; test = t; output = f k.output; cell = k.cell }) (option_agrees k.test is.asked.1)
      ∙ ap (λ o. record { clock = g k.clock; enable = g k.enable; test = option_map g k.test; output = o; cell = k.cell }) is.output))

  pub all_agree : {X Y : Type 0} (h k : X → Y) (P : X → Type 0) → ((x : X) → P x → h x ≡ k x) → (xs : List X) → AllByRecursion P xs → map h xs ≡ map k xs
  all_agree h k P one [] all = refl
  all_agree h k P one (x ∷ xs) all = ap (λ y. y ∷ map h xs) (one x all.0) ∙ ap (λ ys. k x ∷ ys) (all_agree h k P one xs all.1)

-- a net that is there keeps its name where names go behind the others
pub name_kept : (names more : List NetName) (x : ℕ) → x < length names → net_name (names ++ more) x ≡ net_name names x
name_kept [] more x lt = absurd (omega arith)
name_kept (n ∷ names) more zero lt = refl
name_kept (n ∷ names) more (suc x) lt = name_kept names more x (omega (arith, lt))
