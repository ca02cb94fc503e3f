-- What is decided of a goal, where it stands by another name.
use Rattle.std.proofs.Common.{◌≡◌, ℕ, Bool, List, Option, None, Some, is_some, refl, sym, subst}
use Rattle.std.specs.Option.{IfSome}
use Rattle.std.specs.declared.alloc.Global.{Global}
use Rattle.std.specs.declared.vec.Vec.{Vec}
use Rattle.cg_cell.specs.Domain.{Seen}
use Rattle.cg_claim.specs.declared.leaf.Leaf.{Leaf}
use Rattle.cg_cnf.specs.Clauses.{IsOneAt}
use Rattle.cg_decide.specs.Decision.{IsNeverOne}
use Rattle.cg_judge.specs.Verdict.{IsVerdict, ToldOne}
use Rattle.cg_judge.specs.declared.verdict.Verdict.{Verdict}

pub verdict_there : (s t : Seen) (g h : ℕ) (k l : List Leaf) (wanted : Bool) (v : Verdict) → s ≡ t → g ≡ h → k ≡ l → IsVerdict s g k wanted v → IsVerdict t h l wanted v
verdict_there s t g h k l wanted v lists goals leaves is =
    subst (λ z. IsVerdict z h l wanted v) lists (subst (λ z. IsVerdict s z l wanted v) goals (subst (λ z. IsVerdict s g z wanted v) leaves is))

pub told_there : (s t : Seen) (g h : ℕ) (b : Bool) → s ≡ t → g ≡ h → ToldOne s g b → ToldOne t h b
told_there s t g h b lists goals is = subst (λ z. ToldOne z h b) lists (subst (λ z. ToldOne s z b) goals is)

-- whether bits were found
pub told_found : (s : Seen) (g : ℕ) (o : Option (Vec Bool Global)) (b : Bool) → b ≡ is_some o → (o ≡ None → IsNeverOne s g) → IfSome o (λ bits. IsOneAt s g bits.items) → ToldOne s g b
told_found s g None b is never some = subst (ToldOne s g) (sym is) (never refl)
told_found s g (Some bits) b is never some = subst (ToldOne s g) (sym is) (record { bits = bits.items; one = some })
