use Rattle.std.proofs.Common.{◌≡◌, ◌∷◌, [], ◌++◌, ◌∙◌, Some, ap, length, get_or}
use Rattle.cg_sat_state.specs.declared.trail.Entry.{Entry}
use Rattle.cg_sat_state.specs.Store.{Store}
use Rattle.cg_sat.proofs.Grown.{turned, turned_worth, lits_fit, prefix_pushed}
use Rattle.cg_sat.proofs.search.turn_back.Goals as goal

pub returns-clause-search : goal.returns-clause-search
returns-clause-search c =
    let a = c.requires.asserts in
    let first : c.index-first.result.now ≡ a.first = c.index-first.ensures ∙ ap (λ ls. get_or ls 0 c.index-first.result.now) a.whole in
    let entry : Entry = record { lit = c.index-first.result.now; reason = Some c.len-place.result } in
    rw c.in_ok-add.ensures.added (turned c.args.count c.args.draft.now.clauses c.args.trail.now c.push.new.self c.args.learnt.cut c.args.learnt.lits.items entry c.requires.search a
    first (ap Some (c.len-place.ensures.count ∙ ap (λ (cs : Store). length cs) c.clauses.ensures)) (c.in_ok-push.ensures.added ∙ ap (λ es. es ++ entry ∷ []) c.in_ok-cut_to.ensures))

pub returns-clause-worth : goal.returns-clause-worth
returns-clause-worth c =
    let entry : Entry = record { lit = c.index-first.result.now; reason = Some c.len-place.result } in
    turned_worth c.args.count c.args.draft.now.clauses c.args.trail.now c.push.new.self c.args.learnt.cut c.args.learnt.lits.items entry c.requires.search c.requires.asserts
    (ap Some (c.len-place.ensures.count ∙ ap (λ (cs : Store). length cs) c.clauses.ensures)) (c.in_ok-push.ensures.added ∙ ap (λ es. es ++ entry ∷ []) c.in_ok-cut_to.ensures)

pub add-requires-clause-lits : goal.add-requires-clause-lits
add-requires-clause-lits c = lits_fit c.args.count c.args.draft.now.clauses c.args.trail.now c.args.learnt.cut c.args.learnt.lits.items c.requires.search c.requires.asserts c.requires.few

pub returns-clause-prefix : goal.returns-clause-prefix
returns-clause-prefix c formula prefix = rw c.in_ok-add.ensures.added (prefix_pushed formula c.args.draft.now.clauses c.args.learnt.lits.items prefix)
