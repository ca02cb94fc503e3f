use Rattle.std.proofs.Common.{◌≡◌, List, ℕ, [], drop, take}
use Rattle.std.specs.BTreeSet.{contains}
use Rattle.std.specs.Cmp.Lexicographic.{slice_cmp}
use Rattle.std.specs.Ordering.{nat_cmp}
use Rattle.cg_net.specs.Names.{is_known}
use Rattle.cg_hint_text.specs.Reading.{stand_apart}
use Rattle.cg_hint_text.proofs.form.stand_apart.Given as goal

abbrev pub invariant-loop-word : goal.invariant-loop-word
invariant-loop-word l =
    let seen = take l.word-index l.words in
    (stand_apart seen (drop l.word-index l.words) ≡ stand_apart [] l.words)
    × ((name : List ℕ) → contains (slice_cmp nat_cmp) l.before name ≡ is_known seen name)
