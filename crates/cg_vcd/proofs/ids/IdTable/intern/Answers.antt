use Rattle.std.proofs.Common.{◌≡◌, ◌∙◌, ◌++◌, ◌∷◌, [], Some, ap, arith, false, length, refl, slice_get, subst, sym}
use Rattle.cg_net.specs.Names.{is_known}
use Rattle.cg_net.proofs.NameLemmas.{last_name, with_name-known}
use Rattle.cg_net.proofs.NamesInOrder.{known_there}
use Rattle.cg_vcd.specs.inner.IdPlaces.{IsTable, lookup}
use Rattle.cg_vcd.proofs.IdNumbers.{not_found, table_more}
use Rattle.cg_vcd.proofs.ids.IdTable.intern.Goals as goal

pub returns-in-Some-clause-names : goal.returns-in-Some-clause-names
returns-in-Some-clause-names c =
    sym (with_name-known c.args.self.now c.args.id.now (known_there c.args.self.now c.in-Some.number c.args.id.now c.in-Some.ensures))

pub invariant_of-self-in-Ok : goal.invariant_of-self-in-Ok
invariant_of-self-in-Ok c =
    let ids = c.self.inside.ids.items in
    let short = c.self.inside.short.items in
    let long = c.self.inside.long in
    let place : c.len-number.result ≡ length c.self.inside.ids.items = omega (arith, c.len-number.ensures, c.self.inside.ids.ok.0) in
    let new : is_known c.self.inside.ids.items c.args.id.now ≡ false = rw c.self.view_is c.in_default.ensures in
    let unknown = not_found ids short long c.self.invariant c.args.id.now (lookup short long c.args.id.now) refl new in
    let own : lookup c.put.new.short.items c.put.new.long c.args.id.now ≡ Some (length c.self.inside.ids.items) =
    subst (λ n. lookup c.put.new.short.items c.put.new.long c.args.id.now ≡ Some n) place c.in-Ok.ensures.number in
    subst (λ ids. IsTable ids c.put.new.short.items c.put.new.long) (sym c.in_ok-push.ensures.items)
    (table_more ids short c.put.new.short.items long c.put.new.long c.self.invariant c.args.id.now unknown own c.in-Ok.ensures.others)

pub returns-in-Ok-clause-number : goal.returns-in-Ok-clause-number
returns-in-Ok-clause-number c =
    let ids = c.self.inside.ids.items in
    let place : c.len-number.result ≡ length c.self.inside.ids.items = omega (arith, c.len-number.ensures, c.self.inside.ids.ok.0) in
    ap (λ xs. slice_get xs c.len-number.result) c.in_ok-push.ensures.items
    ∙ (ap (slice_get (c.self.inside.ids.items ++ c.args.id.now ∷ [])) place ∙ last_name ids c.args.id.now)
