-- What an added gate is, as operations of the list.
use Rattle.std.proofs.Common.{◌≡◌, ℕ, ◌&&◌, List, [], ◌∷◌, length, slice_index_or, Result, Ok, Err, IfOk, IsTrue, refl, sym, ◌∙◌}
use Rattle.std.proofs.Common.{subst, arith}
use Rattle.cg_cell.specs.Build.{Run, build_and, build_or}
use Rattle.cg_cell.specs.Domain.{Makes, Seen, Stands}
use Rattle.cg_cell.specs.Eval.{build_term}
use Rattle.cg_cell.specs.EvalCover.{cover_term}
use Rattle.cg_cell.specs.declared.fit.FitKind.{FitKind}
use Rattle.cg_cell.specs.declared.fit.FitKind.TheVariants.{And2, Or2}
use Rattle.cg_cell.proofs.Building.{and_stops}
use Rattle.cg_cell.proofs.RunsGrow.{grows_and}
use Rattle.cg_aig.specs.Aig.{aig_and, aig_ops, inverse}
use Rattle.cg_aig.specs.AigLaws.{aig_lawful}
use Rattle.cg_aig.specs.Limits.{AndRefuses}
use Rattle.cg_aig.specs.declared.fault.AigFault.{AigFault}
use Rattle.cg_aig.proofs.GateRuns.{SameEnd, and_run, or_run}
use Rattle.cg_aig.proofs.RunsFit.{aig_growing}
use Rattle.cg_machine.specs.Gates.{HasInputs, gate_cover}
use Rattle.cg_unroll.specs.Building.{Built, MayFail}
use Rattle.cg_unroll.proofs.Building.{stops_fails}

pub same_built : (s t : Seen) (v : ℕ) (r q : Run) → SameEnd r q → Built s t v q → Built s t v r
same_built s t v r q e b = record { builds = record { answered = e.answer ∙ b.builds.answered; left = e.domain ∙ b.builds.left }; keeps = b.keeps; valid = b.valid }

pub same_fails : (r q : Run) (fault : AigFault) → SameEnd r q → MayFail q.domain fault → MayFail r.domain fault
same_fails r q fault e h = subst (λ d. MayFail d fault) (sym e.domain) h

-- the run of a gate's cover, by its kind
abbrev pub gate_term : FitKind → List ℕ → Seen → Run
gate_term kind inputs s = build_term aig_ops inputs (cover_term (gate_cover kind)) s

-- an `and` of the list
pub and_built : (s t : Seen) (a b : ℕ) (r : Result ℕ AigFault) → IfOk r (λ v. Makes s (aig_and s a b) t v) → IfOk r (λ v. Stands aig_ops s t v (λ bits. aig_ops.bit s bits a && aig_ops.bit s bits b))
    → IfOk r (λ v. Built s t v (build_and aig_ops a b s))
and_built s t a b (Ok v) made stands = record { builds = record { answered = made.answered; left = made.left }; keeps = stands.keeps; valid = stands.valid }
and_built s t a b (Err fault) made stands = tt

pub and_fails : (s : Seen) (a b : ℕ) (fault : AigFault) → AndRefuses s a b fault → MayFail (build_and aig_ops a b s).domain fault
and_fails s a b fault h = stops_fails s s (build_and aig_ops a b s) fault (grows_and aig_ops aig_growing s a b) (and_stops AndRefuses aig_ops s s a b fault h refl)

pub and_pins : (ins : List ℕ) (a b : ℕ) (s : Seen) → HasInputs And2 (length ins) → a ≡ slice_index_or ins 0 a → b ≡ slice_index_or ins 1 b → SameEnd (gate_term And2 ins s) (build_and aig_ops a b s)
and_pins [] a b s h ea eb = absurd (omega (arith, h))
and_pins (x ∷ []) a b s h ea eb = absurd (omega (arith, h))
and_pins (x ∷ y ∷ []) a b s h ea eb =
    subst (λ p. SameEnd (gate_term And2 (x ∷ y ∷ []) s) (build_and aig_ops p b s)) (sym ea)
    (subst (λ q. SameEnd (gate_term And2 (x ∷ y ∷ []) s) (build_and aig_ops x q s)) (sym eb) (and_run x y s))
and_pins (x ∷ y ∷ z ∷ ins) a b s h ea eb = absurd (omega (arith, h))

pub or_pins : (ins : List ℕ) (a b : ℕ) (s : Seen) → HasInputs Or2 (length ins) → a ≡ slice_index_or ins 0 a → b ≡ slice_index_or ins 1 b → SameEnd (gate_term Or2 ins s) (build_or aig_ops a b s)
or_pins [] a b s h ea eb = absurd (omega (arith, h))
or_pins (x ∷ []) a b s h ea eb = absurd (omega (arith, h))
or_pins (x ∷ y ∷ []) a b s h ea eb =
    subst (λ p. SameEnd (gate_term Or2 (x ∷ y ∷ []) s) (build_or aig_ops p b s)) (sym ea)
    (subst (λ q. SameEnd (gate_term Or2 (x ∷ y ∷ []) s) (build_or aig_ops x q s)) (sym eb) (or_run x y s))
or_pins (x ∷ y ∷ z ∷ ins) a b s h ea eb = absurd (omega (arith, h))

-- the inverse of a literal of the list is one too
pub inverse_valid : (s : Seen) (a : ℕ) → IsTrue (aig_ops.is_valid s a) → IsTrue (aig_ops.is_valid s (inverse a))
inverse_valid s a h = (aig_lawful.not_stands s a h).valid
