use Rattle.std.proofs.Common.{◌≡◌, ◌<◌, ℕ, List, Some, length, slice_get, refl, sym, ◌∙◌, ap, subst, arith}
use Rattle.std.proofs.lemmas.List.Elements.{All-get_or}
use Rattle.std.proofs.lemmas.Option.{same_Some, slice_get_read}
use Rattle.cg_netlist.specs.Circuit.{RegisterCell}
use Rattle.cg_netlist.specs.History.{next_value}
use Rattle.cg_netlist.specs.Moment.{values_at}
use Rattle.cg_netlist.specs.View.{kind_seen, register_seen}
use Rattle.cg_netlist.proofs.RegisterNext.{flop_inputs, flop_kind, one_input, plain_next, register_inputs_within}
use Rattle.cg_netlist.proofs.netlist.Netlist.next_value.Goals as goal

pub bounds-values-number : goal.bounds-values-number
bounds-values-number c =
    let inputs : List ℕ = c.register-register.result.inputs.now in
    let one = one_input c.args.self.now c.nets-nets.ensures.netlist.well_formed c.args.id (register_seen c.register-register.result) c.register-register.ensures (ap kind_seen c.in-Plain.is) in
    let first : 0 < length inputs = omega (arith, one) in
    subst (λ net. net < length c.args.values.now) (sym c.number.ensures.number)
    (All-get_or (λ net. net < length c.args.values.now) inputs 0 c.index-register-0.result first (register_inputs_within c.args.self.now c.nets-nets.ensures.netlist.well_formed c.args.id (register_seen c.register-register.result) c.register-register.ensures (length c.args.values.now) c.requires.values))

pub flop_value-requires-clause-nets : goal.flop_value-requires-clause-nets
flop_value-requires-clause-nets c = register_inputs_within c.args.self.now c.nets-nets.ensures.netlist.well_formed c.args.id (register_seen c.register-register.result) c.register-register.ensures (length c.args.values.now) c.requires.values

pub flop_value-requires-clause-kind : goal.flop_value-requires-clause-kind
flop_value-requires-clause-kind c = flop_kind c.args.self.now c.nets-nets.ensures.netlist.well_formed c.args.id (register_seen c.register-register.result) c.register-register.ensures c.in-Cell.cell.now (ap kind_seen c.in-Cell.is)

pub flop_value-requires-clause-fits : goal.flop_value-requires-clause-fits
flop_value-requires-clause-fits c = flop_inputs c.args.self.now c.nets-nets.ensures.netlist.well_formed c.args.id (register_seen c.register-register.result) c.register-register.ensures c.in-Cell.cell.now (ap kind_seen c.in-Cell.is)

pub returns-in-Plain : goal.returns-in-Plain
returns-in-Plain c = λ register at.
    let seen : RegisterCell ℕ ℕ = register_seen c.register-register.result in
    let inputs : List ℕ = c.register-register.result.inputs.now in
    let one = one_input c.args.self.now c.nets-nets.ensures.netlist.well_formed c.args.id seen c.register-register.ensures (ap kind_seen c.in-Plain.is) in
    let first : slice_get inputs 0 ≡ Some c.number.result = slice_get_read inputs _ 0 c.index-register-0.result refl (omega (arith, one)) c.index-register-0.is ∙ ap Some (c.index-register-0.is ∙ sym c.number.ensures.number) in
    plain_next c.args.self.now c.nets-nets.ensures.netlist.well_formed c.args.id seen c.register-register.ensures (ap kind_seen c.in-Plain.is) c.args.values.now c.requires.values c.number.result first c.args.own
    ∙ ap (λ (r : RegisterCell ℕ ℕ). next_value r.kind (values_at c.args.values.now r.inputs) c.args.own) (same_Some seen register (sym c.register-register.ensures ∙ at))
