use Rattle.std.proofs.Common.{◌∙◌, sym}
use Rattle.cg_vcd.proofs.IdNumbers.{long_others, short_others}
use Rattle.cg_vcd.proofs.ids.put.Goals as goal

pub returns-then-is_short-clause-others : goal.returns-then-is_short-clause-others
returns-then-is_short-clause-others c = λ other differ.
    short_others c.args.short.now.items c.put_short.new.short.items c.args.long.now c.args.id.now c.args.number (sym c.is_short.ensures ∙ c.if-is_short.true)
    (λ place away. c.put_short.ensures.others place (λ e. away (e ∙ c.place_of.ensures))) other differ

pub returns-clause-others : goal.returns-clause-others
returns-clause-others c = λ other differ.
    long_others c.args.short.now.items c.args.long.now c.insert.new.self c.args.id.now c.args.number (sym c.is_short.ensures ∙ c.if-is_short.false)
    (λ x apart. c.in_ok-insert.ensures.updates.2 x apart) other differ
