use Rattle.std.proofs.Common.{◌≡◌, ◌<◌, ℕ, Some, List, length, slice_get, sym, ◌∙◌, ap, subst, true}
use Rattle.std.proofs.lemmas.Option.{same_Some, slice_get_within}
use Rattle.cg_machine.specs.Added.{own_netlist}
use Rattle.cg_net.proofs.FoundNets.{kept_all}
use Rattle.cg_net.specs.NetSets.{is_in, with_nets}
use Rattle.cg_netlist.proofs.Used.{input_is_used}
use Rattle.cg_netlist.specs.Circuit.{Circuit, LogicCell}
use Rattle.cg_netlist.specs.Netlist.{IsNetlist}
use Rattle.cg_netlist.specs.View.{cell_seen}
use Rattle.cg_stage_groups.proofs.Fronts.{among_more, front_more}
use Rattle.cg_stage_groups.proofs.Steps.{used_within}
use Rattle.cg_stage_groups.proofs.front.Front.find_inputs.Goals as goal

pub cell-requires : goal.cell-requires
cell-requires c = subst (λ (n : Circuit). c.args.id < length n.cells) (sym c.netlist-netlist.ensures.netlist) (slice_get_within (own_netlist c.args.machine.now).cells c.args.id c.requires.drives.0 c.requires.drives.1)

pub put_ahead-requires : goal.put_ahead-requires
put_ahead-requires c = among_more c.args.self.now.ahead.items c.args.self.now.found c.cell.result.inputs.now c.extend.new.self c.in_ok-extend.ensures c.requires.ahead

pub returns-clause-front : goal.returns-clause-front
returns-clause-front c = λ roots front.
    let m = c.args.machine.now in
    let d = c.requires.drives in
    let seen : slice_get (own_netlist m).cells c.args.id ≡ Some (cell_seen c.cell.result) = subst (λ (n : Circuit). slice_get n.cells c.args.id ≡ Some (cell_seen c.cell.result)) c.netlist-netlist.ensures.netlist c.cell.ensures in
    let inputs : c.cell.result.inputs.now ≡ d.0.inputs = ap (λ (z : LogicCell ℕ). z.inputs) (same_Some (cell_seen c.cell.result) d.0 (sym seen ∙ d.1)) in
    front_more m roots c.args.self.now.found c.args.self.now.ahead.items c.extend.new.self c.put_ahead.new.ahead.items c.args.id c.args.net d.0 d.1 d.2 c.requires.net
    (λ x among. used_within (own_netlist m) (subst IsNetlist c.netlist-netlist.ensures.netlist c.nets-nets.ensures.netlist) x (input_is_used (own_netlist m) c.args.id x d.0 d.1 among))
    (c.in_ok-extend.ensures ∙ ap (with_nets c.args.self.now.found) inputs) c.in_ok-put_ahead.ensures front

pub returns-clause-found : goal.returns-clause-found
returns-clause-found c = subst (λ (l : List ℕ). is_in l c.args.net ≡ true) (sym c.in_ok-extend.ensures) (kept_all c.args.self.now.found c.cell.result.inputs.now c.args.net c.requires.net)
