use Rattle.std.proofs.Common.{◌||◌, ◌&&◌, false, not, nat_eq, ◌∙◌, ap, arith}
use Rattle.std.specs.Option.{option_map_or}
use Rattle.cg_net.specs.NetSets.{is_in}
use Rattle.cg_odc.specs.inner.Guarding.{guards_by}
use Rattle.cg_odc.proofs.Guarded.{by_none, by_some}
use Rattle.cg_odc.proofs.guards.Guards.note.Goals as goal

pub returns-in_ok-spread : goal.returns-in_ok-spread
returns-in_ok-spread c = λ are.
    let m = c.args.machine.now in
    let reg = c.args.reg in
    let h = c.in-Some.guard in
    record {
      count = c.in_ok-spread.ensures.count ∙ are.count;
      each = λ g below q.
          c.in_ok-spread.ensures.each g (let e = are.count in omega (arith, e, below)) q
          ∙ (ap (λ b. b || (is_in c.as_slice.result.now g && (not (nat_eq g reg) && not (nat_eq g h)) && nat_eq q h)) (are.each g below q)
          ∙ (ap (λ b. guards_by m reg g q || (b && (not (nat_eq g reg) && not (nat_eq g h)) && nat_eq q h)) (ap (λ l. is_in l g) c.as_slice.ensures.parts ∙ c.in_ok-support.ensures.registers g)
          ∙ by_some m reg g q h (c.in-Some.ensures q)));
    }

pub returns-in_default : goal.returns-in_default
returns-in_default c = λ are. record {
  count = are.count;
  each = λ g below q. are.each g below q ∙ by_none c.args.machine.now c.args.reg g q (c.guard_of.ensures q ∙ ap (λ o. option_map_or (nat_eq q) o false) c.in_default.is);
}
