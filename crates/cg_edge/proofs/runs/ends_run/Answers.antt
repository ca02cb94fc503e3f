use Rattle.std.proofs.Common.{◌≡◌, Bool, true, false, not, nat_eq, refl, sym, ap, ◌∙◌, slice_get, ℕ}
use Rattle.std.proofs.lemmas.Bool.{eqb-true}
use Rattle.std.proofs.lemmas.Option.{same_Some}
use Rattle.cg_netlist.specs.Circuit.{RegisterCell}
use Rattle.cg_netlist.specs.View.{register_seen}
use Rattle.cg_edge.proofs.runs.ends_run.Goals as goal

from_not : (b : Bool) → not b ≡ false → b ≡ true
from_not true is = refl
from_not false is = sym is

pub returns : goal.returns
returns c r is at =
    let rs : Rattle.std.specs.Prelude.List (RegisterCell ℕ ℕ) = c.args.netlist.now.registers in
    let own : RegisterCell ℕ ℕ = register_seen c.register-own.result in
    let next : RegisterCell ℕ ℕ = register_seen c.register-next.result in
    let same : own ≡ r = same_Some own r (sym c.register-own.ensures ∙ (ap (slice_get rs) c.new.ensures ∙ at)) in
    let alike : c.number.result ≡ c.number-2.result = eqb-true c.number.result c.number-2.result (from_not (nat_eq c.number.result c.number-2.result) is) in
    (next, ap (slice_get rs) (sym c.new-2.ensures) ∙ c.register-next.ensures, sym c.number-2.ensures.number ∙ (sym alike ∙ (c.number.ensures.number ∙ ap (λ (x : RegisterCell ℕ ℕ). x.clock) same)))
