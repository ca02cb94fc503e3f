use Rattle.std.proofs.Common.{ℕ, List, Some, ap, sym, ◌∙◌}
use Rattle.std.proofs.lemmas.Option.{slice_get-get_or}
use Rattle.cg_netlist_parts.specs.Part.{Output, Part}
use Rattle.cg_net.specs.Names.{net_name}
use Rattle.cg_netlist_telling.proofs.ToldParts.{may_at, told_at}
use Rattle.cg_netlist_telling.proofs.parts.tell_outputs.Goals as goal

pub tell_output-requires : goal.tell_output-requires
tell_output-requires c =
    let nets : List ℕ = c.args.nets.now in
    let i : ℕ = c.loop-net.net-index in
    let x : ℕ = c.net-item.result in
    let part : ℕ → Part = λ net. Output (net_name c.args.names.now net) in
    may_at part c.args.builder.now c.loop-net.builder nets i x (slice_get-get_or nets i x c.loop-net-test.true ∙ ap (λ n. Some n) (sym c.net-item.is)) c.requires c.loop-net.invariant

pub loop-net-preserved : goal.loop-net-preserved
loop-net-preserved c =
    let nets : List ℕ = c.args.nets.now in
    let i : ℕ = c.loop-net.net-index in
    let x : ℕ = c.net-item.result in
    let part : ℕ → Part = λ net. Output (net_name c.args.names.now net) in
    told_at part c.args.builder.now c.loop-net.builder c.tell_output.new.builder nets i x (slice_get-get_or nets i x c.loop-net-test.true ∙ ap (λ n. Some n) (sym c.net-item.is)) c.loop-net.invariant c.in_ok-tell_output.ensures
