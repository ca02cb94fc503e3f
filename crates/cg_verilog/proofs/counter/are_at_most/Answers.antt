use Rattle.std.proofs.Common.{◌≡◌, ◌∙◌, arith, length, sym}
use Rattle.cg_verilog.proofs.CounterLemmas.{longer_at_most, same_length, shorter_at_most}
use Rattle.cg_verilog.proofs.counter.are_at_most.Goals as goal

pub returns-then-digits-others : goal.returns-then-digits-others
returns-then-digits-others c = sym (shorter_at_most c.args.digits.now c.args.others.now c.requires.digits c.requires.others c.if-digits-others.true)

pub returns-then-others-digits : goal.returns-then-others-digits
returns-then-others-digits c = sym (longer_at_most c.args.digits.now c.args.others.now c.requires.digits c.requires.others c.if-others-digits.true)

pub returns : goal.returns
returns c = let same : length c.args.digits.now ≡ length c.args.others.now = omega arith in c.at_most.ensures ∙ same_length c.args.digits.now c.args.others.now c.requires.digits c.requires.others same
