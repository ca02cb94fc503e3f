-- The parts that a builder is told say the netlist without its gating cells.
use Rattle.std.proofs.Common.{[], ◌≡◌, ℕ, ◌≤◌, Bool, false, List, ◌++◌, map, length, slice_get, unwrap_or, Option, None, Some, Result, Ok, Err}
use Rattle.std.proofs.Common.{nat_eq, refl, ap, sym, ◌∙◌, subst, IfOk, MatchResult, IsErrAnd}
use Rattle.std.specs.List.{IsDistinct}
use Rattle.std.specs.Option.{option_map, option_to_list}
use Rattle.std.proofs.lemmas.List.{append-nil}
use Rattle.std.proofs.lemmas.Option.{slice_get-map}
use Rattle.cg_limit.specs.declared.TheConstants.{MOST_NETS, MOST_REGISTERS}
use Rattle.cg_netlist.proofs.Used.{output_is_used}
use Rattle.cg_netlist_parts.proofs.AtMostOne.{says_one}
use Rattle.cg_netlist_parts.proofs.SaidByItsParts.{none_left, says_own}
use Rattle.cg_netlist_parts.proofs.TakenFromNetlist.{taken_own}
use Rattle.cg_netlist.specs.Circuit.{Circuit, RegisterCell}
use Rattle.cg_netlist.specs.Netlist.{IsNetlist}
use Rattle.cg_netlist_builder.specs.Building.{Building, Finishes, fresh}
use Rattle.cg_netlist_parts.specs.declared.fault.NetFault.{NetFault}
use Rattle.cg_netlist_parts.specs.Part.{Clock, Input, Logic, Output}
use Rattle.cg_netlist_parts.specs.Said.{nothing_said, said}
use Rattle.cg_netlist_parts.specs.Says.{AreTaken, Says, parts_from, register_part}
use Rattle.cg_net.specs.Names.{NetName, net_name}
use Rattle.cg_netlist.specs.Wiring.{map_cell, map_register, named}
use Rattle.cg_netlist_telling.proofs.SaidAll.{map_twice, said_all}
use Rattle.cg_netlist_telling.proofs.OrderedNames.{named_ordered}
use Rattle.cg_netlist_telling.proofs.ToldParts.{within_limit}
use Rattle.cg_netlist_telling.specs.NamedParts.{cell_parts, clock_parts, clocked_parts, input_parts, output_parts}
use Rattle.cg_netlist_telling.specs.Telling.{MayTell, told, with_parts}
use Rattle.cg_extract.proofs.Bare.{bare_formed, bare_netlist, in_order}
use Rattle.cg_extract.proofs.Kept.{same_number, used_kept}
use Rattle.cg_extract.proofs.Renumbered.{distinct_mapped}
use Rattle.cg_extract.specs.Lifted.{bare, kept_nets, number_of, on_clock, ungated}
use Rattle.cg_extract.specs.inner.BareParts.{bare_parts}

-- what a value has that is there, it has where the faults are mapped
pub mapped : {T F E : Type 0} (P : T → Type 0) (Q : F → E → Type 0) (r : Result T F) (k : Result T E) → MatchResult r (λ x. k ≡ Ok x) (λ fault. IsErrAnd k (Q fault)) → IfOk r P → IfOk k P
mapped P Q (Ok x) k is h = subst (λ z. IfOk z P) (sym is) h
mapped P Q (Err fault) (Ok y) is h = absurd is
mapped P Q (Err fault) (Err e) is h = tt

-- the register of a number, on the clock
pub register_at : (c : Circuit) (k : ℕ) (r : RegisterCell ℕ ℕ) (clock : ℕ) → slice_get c.registers k ≡ Some r → clock ≡ unwrap_or c.clock 0 → slice_get (ungated c).registers k ≡ Some (record r { clock = clock })
register_at c k r clock at is = slice_get-map (on_clock c) c.registers k ∙ (ap (option_map (on_clock c)) at ∙ ap (λ n. Some (record r { clock = n })) (sym is))

module _ (c : Circuit) (whole : IsNetlist c) (once : IsDistinct nat_eq c.outputs) where
  abbrev no : RegisterCell NetName NetName → Bool
  no r = false

  abbrev names : List NetName
  names = c.names

  pub outputs_once : IsDistinct nat_eq (bare c).outputs
  outputs_once = distinct_mapped (number_of c) (kept_nets c) (same_number c whole) c.outputs (λ x among. used_kept c whole x (output_is_used c x among)) once

  -- the parts, kind by kind
  parts_are : parts_from no (named (ungated c)) ≡ bare_parts c.names c
  parts_are =
      let e1 : map (λ net. Input net) (map (net_name names) c.inputs) ≡ input_parts names c.inputs = map_twice (λ net. Input net) (net_name names) c.inputs in
      let e2 : map (λ net. Output net) (map (net_name names) c.outputs) ≡ output_parts names c.outputs = map_twice (λ net. Output net) (net_name names) c.outputs in
      let e3 : map (λ net. Clock net) (option_to_list (option_map (net_name names) c.clock)) ≡ clock_parts names c.clock = clock_is c.clock in
      let e4 : map (λ cell. Logic cell) (map (map_cell (net_name names)) c.cells) ≡ cell_parts names c.cells = map_twice (λ cell. Logic cell) (map_cell (net_name names)) c.cells in
      let e6 : map (register_part no) (map (map_register (net_name names)) (ungated c).registers) ≡ clocked_parts names (ungated c).registers = map_twice (register_part no) (map_register (net_name names)) (ungated c).registers in
      (λ i. e1 i ++ e2 i ++ e3 i ++ e4 i ++ [] ++ e6 i)
      ∙ ap (λ xs. xs ++ clocked_parts names (ungated c).registers) (append-nil (input_parts names c.inputs ++ output_parts names c.outputs ++ clock_parts names c.clock ++ cell_parts names c.cells))
    where
      clock_is : (o : Option ℕ) → map (λ net. Clock net) (option_to_list (option_map (net_name names) o)) ≡ clock_parts names o
      clock_is None = refl
      clock_is (Some x) = refl

  same_parts : parts_from no (named (bare c)) ≡ bare_parts c.names c
  same_parts = ap (parts_from no) (named_ordered (ungated c) (bare_formed c whole) (in_order c whole)) ∙ parts_are

  parts_taken : AreTaken c.model (bare_parts c.names c)
  parts_taken = subst (AreTaken c.model) same_parts (taken_own (bare c) no (bare_netlist c whole) outputs_once (none_left (named (bare c))))

  parts_say : Says c.model (bare_parts c.names c) (bare c)
  parts_say = subst (λ ps. Says c.model ps (bare c)) same_parts (says_own (bare c) no (bare_netlist c whole) outputs_once (none_left (named (bare c))))

  told_said : with_parts nothing_said (bare_parts c.names c) ≡ said (bare_parts c.names c)
  told_said = said_all [] (bare_parts c.names c)

  -- a builder may be told them
  pub may_tell : MayTell (fresh c.model) (bare_parts c.names c)
  may_tell = record {
    open_yet = refl;
    each = parts_taken.each;
    within = within_limit (with_parts nothing_said (bare_parts c.names c)) (let nets = parts_taken.few_nets in let registers = parts_taken.few_registers in record {
      nets = subst (λ s. length s.nets ≤ MOST_NETS) (sym told_said) nets;
      registers = subst (λ s. length s.registers ≤ MOST_REGISTERS) (sym told_said) registers;
    });
  }

  -- and then makes that netlist
  netlist_finished : (b : Building) → b ≡ told (fresh c.model) (bare_parts c.names c) → (netlist : Circuit) → Finishes b (Ok netlist) → netlist ≡ bare c
  netlist_finished b is netlist finishes =
      let its_said : said (bare_parts c.names c) ≡ b.said = sym told_said ∙ ap (λ (d : Building). d.said) (sym is) in
      says_one c.model (bare_parts c.names c) netlist (bare c) (subst (λ model. Says model (bare_parts c.names c) netlist) (ap (λ (d : Building). d.model) is) (finishes (bare_parts c.names c) its_said)) parts_say

  -- whatever its faults are mapped to
  pub finished : {E : Type 0} (Q : NetFault → E → Type 0) (b : Building) (made : Result Circuit NetFault) (kept : Result Circuit E) → b ≡ told (fresh c.model) (bare_parts c.names c) → Finishes b made
      → MatchResult made (λ netlist. kept ≡ Ok netlist) (λ fault. IsErrAnd kept (Q fault)) → IfOk kept (λ netlist. netlist ≡ bare c)
  finished Q b (Ok netlist) kept is finishes mapped = subst (λ r. IfOk r (λ n. n ≡ bare c)) (sym mapped) (netlist_finished b is netlist finishes)
  finished Q b (Err fault) (Ok netlist) is finishes mapped = absurd mapped
  finished Q b (Err fault) (Err e) is finishes mapped = tt
