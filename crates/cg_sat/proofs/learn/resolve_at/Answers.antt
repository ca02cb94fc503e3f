use Rattle.std.proofs.Common.{◌≡◌, ◌∙◌, false, arith, get_or, ap, sym, rules}
use Rattle.std.proofs.lemmas.Option.{slice_get-get_or, get_or_from_slice_get}
use Rattle.cg_sat_state.specs.declared.trail.Entry.{Entry}
use Rattle.cg_sat.proofs.Marks.{blank, read_off, not_none}
use Rattle.cg_sat.proofs.Walk.{derives_skip}
use Rattle.cg_sat.proofs.learn.resolve_at.Goals as goal

pub unreachable-requires : goal.unreachable-requires
unreachable-requires c =
    let is = slice_get-get_or c.args.trail.now c.args.at blank c.requires.within in
    not_none (get_or c.args.trail.now c.args.at blank).reason c.in_default.is
    (c.requires.implied c.args.at (get_or c.args.trail.now c.args.at blank) (omega arith) (omega arith) is)

pub returns-then-not-index-clause-derives : goal.returns-then-not-index-clause-derives
returns-then-not-index-clause-derives c =
    let off : c.index.result.now ≡ false = search rules in
    derives_skip c.args.clauses.now c.args.trail.now c.args.work.now.marks.items c.args.work.now.kept.items c.args.work.now.hints.items c.args.at
    (get_or c.args.trail.now c.args.at blank) (slice_get-get_or c.args.trail.now c.args.at blank c.requires.within)
    (read_off c.args.work.now.marks.items _ c.index.result.now c.index.ensures off) c.requires.derives

pub resolve-requires-clause-stands : goal.resolve-requires-clause-stands
resolve-requires-clause-stands c entry e =
    ap (λ (f : Entry). f.reason) (sym (get_or_from_slice_get c.args.trail.now c.args.at entry blank e)) ∙ c.in-Some.is
