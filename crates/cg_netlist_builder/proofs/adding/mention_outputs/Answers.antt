use Rattle.std.proofs.Common.{Bor, ℕ, Bool, List, map}
use Rattle.std.specs.Option.{option_copied}
use Rattle.std.proofs.lemmas.Option.{slice_get-get_or}
use Rattle.std.proofs.lemmas.Result.{err_from_is_err_and}
use Rattle.cg_netlist_builder.proofs.AddedParts.{fault_step, inverted_step, mentioned_step, put_nets}
use Rattle.cg_netlist_builder.proofs.adding.mention_outputs.Goals as goal

pub returns-in_err-net-clause-mentions : goal.returns-in_err-net-clause-mentions
returns-in_err-net-clause-mentions c =
    let xs = c.args.outputs.now in
    let i = c.loop-output.output-index in
    let p = err_from_is_err_and c.from_residual-in_err-net.result c.from_residual-in_err-net.ensures.1 in
    rw (p.1, p.2) (fault_step (λ (output : Bor (List ℕ) × ℕ). output.0.now) xs i _ (slice_get-get_or xs i _ c.loop-output-test.true) c.args.names.now c.loop-output.names c.in_err-net.field-0.0 c.loop-output.invariant.mentioned.names c.in_err-net.ensures.mentions)

pub loop-output-preserved : goal.loop-output-preserved
loop-output-preserved c =
    let xs = c.args.outputs.now in
    let i = c.loop-output.output-index in
    record {
      mentioned = mentioned_step (λ (output : Bor (List ℕ) × ℕ). output.0.now) xs i _ (slice_get-get_or xs i _ c.loop-output-test.true) c.args.names.now c.loop-output.names c.mention.new.names (map (λ (net : ℕ × Bool). net.0) c.loop-output.nets.items) (map (λ (net : ℕ × Bool). net.0) c.put_few.new.few.items) c.in_ok-net.net c.loop-output.invariant.mentioned c.in_ok-net.ensures.mentions (put_nets c.loop-output.nets.items c.put_few.new.few.items c.in_ok-net.net c.is_inverse.result c.in_ok-put_few.ensures);
      inverted = inverted_step (option_copied c.args.cell) xs i _ (slice_get-get_or xs i _ c.loop-output-test.true) c.loop-output.nets.items c.put_few.new.few.items (c.in_ok-net.net, c.is_inverse.result) c.loop-output.invariant.inverted c.is_inverse.ensures c.in_ok-put_few.ensures;
    }
