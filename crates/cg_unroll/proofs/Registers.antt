-- What a register of a machine reads.
use Rattle.std.proofs.Common.{◌≡◌, ℕ, ◌<◌, List, [], ◌∷◌, ◌++◌, map, slice_get, slice_index_or, Some, IsTrue, refl, sym, ◌∙◌, ap}
use Rattle.std.proofs.Common.{subst}
use Rattle.std.specs.List.{All}
use Rattle.std.proofs.lemmas.List.Elements.{All-head}
use Rattle.std.proofs.lemmas.Option.{none-some, same_Some}
use Rattle.cg_cell.specs.Build.{Run, chain, plain}
use Rattle.cg_claim.specs.Build.{aig_values, mux_run, next_run, next_run_of}
use Rattle.cg_machine.specs.Machine.{MachineData, enable_of}
use Rattle.cg_cell.specs.Domain.{AreValid, Seen}
use Rattle.cg_cell.specs.Eval.{build_term}
use Rattle.cg_cell.proofs.Building.{keeps_self}
use Rattle.cg_aig.specs.Aig.{aig_ops}
use Rattle.cg_netlist.specs.Circuit.{RegisterCell}
use Rattle.cg_netlist.specs.declared.parts.RegisterKind.TheVariants.{Plain}
use Rattle.cg_claim.specs.Reach.{register_term}
use Rattle.cg_unroll.specs.Building.{Built}

-- the function of a register with these literals of nets
abbrev pub data_run : (ℕ → ℕ) → ℕ → RegisterCell ℕ ℕ → Seen → Run
data_run nets own cell s = build_term aig_ops (map nets cell.inputs ++ own ∷ []) (register_term cell.kind) s

pub plain_built : (s : Seen) (v a : ℕ) → v ≡ a → IsTrue (aig_ops.is_valid s v) → Built s s v (plain a s)
plain_built s v a is valid = record { builds = record { answered = sym is; left = refl }; keeps = keeps_self aig_ops s; valid = valid }

-- a plain register takes its one input
pub plain_data : (nets : ℕ → ℕ) (own : ℕ) (cell : RegisterCell ℕ ℕ) (net v : ℕ) (s : Seen) → cell.kind ≡ Plain → slice_get cell.inputs 0 ≡ Some net → v ≡ nets net → IsTrue (aig_ops.is_valid s v) → Built s s v (data_run nets own cell s)
plain_data nets own cell net v s kind at is valid = subst (λ k. Built s s v (build_term aig_ops (map nets cell.inputs ++ own ∷ []) (register_term k) s)) (sym kind) (plain_built s v (slice_index_or (map nets cell.inputs ++ own ∷ []) 0 0) (is ∙ go cell.inputs at) valid)
  where
    go : (ins : List ℕ) → slice_get ins 0 ≡ Some net → nets net ≡ slice_index_or (map nets ins ++ own ∷ []) 0 0
    go [] at = absurd (none-some net at)
    go (x ∷ ins) at = ap nets (sym (same_Some x net at))

pub valid_append : (s : Seen) (xs : List ℕ) (own : ℕ) → AreValid aig_ops s xs → IsTrue (aig_ops.is_valid s own) → AreValid aig_ops s (xs ++ own ∷ [])
valid_append s [] own valid h = (h, tt)
valid_append s (x ∷ xs) own valid h = (valid.0, valid_append s xs own valid.1 h)

pub first_within : (n net : ℕ) (nets : List ℕ) → All (λ x. x < n) (net ∷ nets) → net < n
first_within n net nets all = All-head (λ x. x < n) net nets all

-- the next bit of a register that is there
pub next_is : (m : MachineData) (nets states : ℕ → ℕ) (r own : ℕ) (s : Seen) (cell : RegisterCell ℕ ℕ) → slice_get m.circuit.registers r ≡ Some cell → own ≡ states r
    → next_run aig_values m nets states r s ≡ chain (data_run nets own cell s) (λ a t. mux_run aig_values (enable_of m r) nets a own t)
next_is m nets states r own s cell at is =
    ap (λ o. next_run_of aig_values o (enable_of m r) nets (states r) s) at
    ∙ ap (λ w. chain (data_run nets w cell s) (λ a t. mux_run aig_values (enable_of m r) nets a w t)) (sym is)
