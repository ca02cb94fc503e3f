use Rattle.std.proofs.Common.{◌≡◌, ◌<◌, ◌≤◌, ℕ, List, Some, length, slice_get, refl, sym, ◌∙◌, ap, subst, arith}
use Rattle.std.proofs.lemmas.List.{length-map}
use Rattle.std.proofs.lemmas.List.Elements.{All-get_or}
use Rattle.std.proofs.lemmas.Option.{same_Some, slice_get_read}
use Rattle.cg_netlist.specs.Circuit.{RegisterCell}
use Rattle.cg_netlist.specs.History.{next_value}
use Rattle.cg_netlist.specs.Moment.{values_at}
use Rattle.cg_netlist.specs.View.{kind_seen, register_seen}
use Rattle.cg_netlist.proofs.RegisterNext.{flop_inputs, flop_kind, one_input, plain_next, register_inputs_within}
use Rattle.cg_word.proofs.Lanes.{lane_or}
use Rattle.cg_word.specs.Words.{lane, lane_bit}
use Rattle.cg_hold.proofs.moves.data_word.Goals as goal

pub bounds-nets-number : goal.bounds-nets-number
bounds-nets-number c =
    let inputs : List ℕ = c.register-register.result.inputs.now in
    let one = one_input c.args.netlist.now c.nets-nets.ensures.netlist.well_formed c.args.reg (register_seen c.register-register.result) c.register-register.ensures (ap kind_seen c.in-Plain.is) in
    let first : 0 < length inputs = omega (arith, one) in
    subst (λ net. net < length c.args.nets.now) (sym c.number.ensures.number)
    (All-get_or (λ net. net < length c.args.nets.now) inputs 0 c.index-register-0.result first (register_inputs_within c.args.netlist.now c.nets-nets.ensures.netlist.well_formed c.args.reg (register_seen c.register-register.result) c.register-register.ensures (length c.args.nets.now) c.requires.nets))

pub flop_word-requires-clause-nets : goal.flop_word-requires-clause-nets
flop_word-requires-clause-nets c = register_inputs_within c.args.netlist.now c.nets-nets.ensures.netlist.well_formed c.args.reg (register_seen c.register-register.result) c.register-register.ensures (length c.args.nets.now) c.requires.nets

pub flop_word-requires-clause-kind : goal.flop_word-requires-clause-kind
flop_word-requires-clause-kind c = flop_kind c.args.netlist.now c.nets-nets.ensures.netlist.well_formed c.args.reg (register_seen c.register-register.result) c.register-register.ensures c.in-Cell.cell.now (ap kind_seen c.in-Cell.is)

pub flop_word-requires-clause-fits : goal.flop_word-requires-clause-fits
flop_word-requires-clause-fits c = flop_inputs c.args.netlist.now c.nets-nets.ensures.netlist.well_formed c.args.reg (register_seen c.register-register.result) c.register-register.ensures c.in-Cell.cell.now (ap kind_seen c.in-Cell.is)

pub returns-in-Plain : goal.returns-in-Plain
returns-in-Plain c = λ register at.
    let seen : RegisterCell ℕ ℕ = register_seen c.register-register.result in
    let inputs : List ℕ = c.register-register.result.inputs.now in
    let nets : List ℕ = c.args.nets.now in
    let one = one_input c.args.netlist.now c.nets-nets.ensures.netlist.well_formed c.args.reg seen c.register-register.ensures (ap kind_seen c.in-Plain.is) in
    let first : slice_get inputs 0 ≡ Some c.number.result = slice_get_read inputs _ 0 c.index-register-0.result refl (omega (arith, one)) c.index-register-0.is ∙ ap Some (c.index-register-0.is ∙ sym c.number.ensures.number) in
    record {
      at = λ i below.
          let long : length c.args.netlist.now.names ≤ length (lane i nets) = omega (arith, length-map nets (lane_bit i), c.requires.nets) in
          sym (lane_or i nets c.number.result)
          ∙ (plain_next c.args.netlist.now c.nets-nets.ensures.netlist.well_formed c.args.reg seen c.register-register.ensures (ap kind_seen c.in-Plain.is) (lane i nets) long c.number.result first (lane_bit i c.args.own)
          ∙ ap (λ (r : RegisterCell ℕ ℕ). next_value r.kind (values_at (lane i nets) r.inputs) (lane_bit i c.args.own)) (same_Some seen register (sym c.register-register.ensures ∙ at)));
    }
