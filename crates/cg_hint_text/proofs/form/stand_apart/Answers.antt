use Rattle.std.proofs.Common.{rules, cond, ◌≡◌, true, false, take, List, Some, slice_get, refl, sym, ◌∙◌, ap}
use Rattle.std.specs.BTreeMap.{is_at}
use Rattle.std.specs.BTreeSet.{contains}
use Rattle.std.specs.Cmp.Lexicographic.{slice_cmp}
use Rattle.std.specs.Ordering.{nat_cmp}
use Rattle.std.proofs.lemmas.Option.{slice_get_read}
use Rattle.cg_net.specs.Names.{is_known}
use Rattle.cg_net.proofs.TableLemmas.{take_next}
use Rattle.cg_hint_text.specs.Reading.{Word}
use Rattle.cg_hint_text.proofs.WordsApart.{apart_behind, one_more_known}
use Rattle.cg_hint_text.proofs.form.stand_apart.Goals as goal

pub loop-word-preserved : goal.loop-word-preserved
loop-word-preserved c =
    let ws : List Word = c.args.words.now in
    let i = c.loop-word.word-index in
    let w = c.word-item.result in
    let at : slice_get ws i ≡ Some w = slice_get_read ws _ i w refl c.loop-word-test.true c.word-item.is in
    let same : c.new.result ≡ w = c.new.ensures ∙ c.bytes.ensures in
    let absent : contains (slice_cmp nat_cmp) c.loop-word.before w ≡ false = search rules in
    let unknown : is_known (take i ws) w ≡ false = sym (c.loop-word.invariant.1 w) ∙ absent in
    let known = one_more_known c.loop-word.before c.insert.new.self (take i ws) w c.loop-word.invariant.1
    (λ name. c.in_ok-insert.ensures.updates.0 name ∙ ap (λ (k : Word). cond (is_at (slice_cmp nat_cmp k) name) true (contains (slice_cmp nat_cmp) c.loop-word.before name)) same) in (
      apart_behind ws i w at unknown ∙ c.loop-word.invariant.0,
      λ name. known name ∙ ap (λ seen. is_known seen name) (sym (take_next ws i w at)),
    )
