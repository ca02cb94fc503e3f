use Rattle.std.proofs.Common.{◌≡◌, true, false, Some, ◌++◌, ◌∷◌, [], length, slice_get, subst, sym, ap, ◌∙◌}
use Rattle.cg_net.specs.Names.{is_known, with_name}
use Rattle.cg_net.proofs.NameLemmas.{inserted_name, last_name, name_at, unknown_name, with_name-known, with_name-unknown}
use Rattle.cg_net.proofs.names.NetNames.intern.Goals as goal

-- the name is none of the table's
unknown : (c : goal.In_ok-insert) → is_known c.self.inside.set.keys c.args.name.now ≡ false
unknown c = unknown_name c.self.inside.set.keys c.args.name.now c.get_index_of.result c.in_default.not-Some c.get_index_of.ensures.found

pub returns-in-Some-clause-names : goal.returns-in-Some-clause-names
returns-in-Some-clause-names c = sym (with_name-known c.args.self.now c.args.name.now (subst (λ names. is_known names c.args.name.now ≡ true) c.self.view_is (sym c.in-Some.ensures.found)))

pub returns-in-Some-clause-number : goal.returns-in-Some-clause-number
returns-in-Some-clause-number c = subst (λ names. slice_get names c.in-Some.number ≡ Some c.args.name.now) c.self.view_is (name_at c.self.inside.set.keys c.args.name.now c.in-Some.number c.in-Some.ensures.within (sym c.in-Some.ensures.index))

-- the names after the table has taken this one
taken : (c : goal.In_ok-insert) → c.insert.new.self.keys ≡ c.self.inside.set.keys ++ c.args.name.now ∷ []
taken c = inserted_name c.self.inside.set.keys c.insert.new.self.keys c.in_ok-key.key c.args.name.now c.in_ok-key.ensures (unknown c) c.in_ok-insert.ensures.keys

pub returns-clause-names : goal.returns-clause-names
returns-clause-names c = taken c ∙ (sym (with_name-unknown c.self.inside.set.keys c.args.name.now (unknown c)) ∙ ap (λ names. with_name names c.args.name.now) c.self.view_is)

pub returns-clause-number : goal.returns-clause-number
returns-clause-number c =
    subst (λ n. slice_get c.insert.new.self.keys n ≡ Some c.args.name.now) (sym c.len-number.ensures.len) (ap (λ names. slice_get names (length c.self.inside.set.keys)) (taken c) ∙ last_name c.self.inside.set.keys c.args.name.now)
