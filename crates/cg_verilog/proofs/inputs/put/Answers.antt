use Rattle.std.proofs.Common.{◌≡◌, ◌∙◌, Bor, List, Some, ap, map, refl, sym, ℕ}
use Rattle.std.specs.Prelude.{slice_get}
use Rattle.cg_verilog.proofs.FewNames.{put_known}
use Rattle.cg_verilog.proofs.inputs.put.Goals as goal

pub returns-in-Some : goal.returns-in-Some
returns-in-Some c =
    let seen = λ (bs : List (Bor (List ℕ))). map {A = Bor (List ℕ)} {B = List ℕ} (λ b. b.now) bs in
    let names = c.args.names.now.items in
    let found : slice_get (seen names) c.in-Some.field-0 ≡ Some c.args.name.now = ap (λ bs. slice_get (seen bs) c.in-Some.field-0) (sym c.deref.ensures) ∙ c.in-Some.ensures in
    put_known (seen names) (seen names) c.args.name.now c.in-Some.field-0 found refl
