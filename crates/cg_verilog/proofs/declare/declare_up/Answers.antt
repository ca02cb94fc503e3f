use Rattle.std.proofs.Common.{[], ◌≡◌, ◌+◌, ◌<◌, ◌∷◌, ◌∙◌, List, ap, arith, map, nat_le, false, rules, subst, sym, Err, Result}
use Rattle.std.proofs.lemmas.Bool.Decides.{nat_tests}
use Rattle.cg_netlist.specs.declared.fault.AddFault.{AddFault}
use Rattle.cg_netlist_builder.specs.Building.{Building}
use Rattle.cg_netlist_parts.specs.Part.{Part}
use Rattle.cg_verilog_text.specs.Telling.{with_parts}
use Rattle.cg_verilog.specs.Declaring.{bit_name, bits_up, side_part}
use Rattle.cg_verilog.specs.Hearing.{Hears}
use Rattle.cg_verilog.proofs.Declared.{up_first, up_more}
use Rattle.cg_verilog.proofs.HearingLemmas.{IsLeft, told_fault, told_next}
use Rattle.cg_verilog.proofs.declare.declare_up.Goals as goal

pub returns-in_err-declare_bit : goal.returns-in_err-declare_bit
returns-in_err-declare_bit c =
    let side = c.args.side in
    let net = c.args.net.now in
    let high = c.args.high.now in
    let index = c.bits.index in
    let all = map (side_part side) (bits_up c.args.low high net) in
    let first = up_first index high net c.bits.invariant.order in
    let fault = c.in_err-declare_bit.field-0.0 in
    let same : c.from_residual.result ≡ Err fault = search rules in
    let P : Result (Unit {0}) AddFault → Type 0 = λ r. Hears c.args.builder.now c.declare_bit.new.builder (with_parts all c.args.builder.now.said) r in
    subst P (sym same)
    (told_fault all c.args.builder.now c.bits.builder c.declare_bit.new.builder c.declare_bit.new.builder (side_part side (bit_name net index) ∷ []) (map (side_part side) first.0) fault
    (subst (λ (ps : List Part). IsLeft all c.args.builder.now c.bits.builder ps) (ap (map (side_part side)) first.1) c.bits.invariant.left) c.in_err-declare_bit.ensures)

pub bits-preserved : goal.bits-preserved
bits-preserved c =
    let side = c.args.side in
    let net = c.args.net.now in
    let high = c.args.high.now in
    let index = c.bits.index in
    let next = c.in_ok-index.index in
    let step : next ≡ index + 1 = c.in_ok-index.ensures in
    let apart : nat_le high index ≡ false = sym c.is_at_most.ensures ∙ c.if-is_at_most.false in
    let less : index < high = grind (arith, nat_tests) in
    let all = map (side_part side) (bits_up c.args.low high net) in
    let left = map (side_part side) (bits_up next high net) in
    record {
      left = told_next all c.args.builder.now c.bits.builder c.declare_bit.new.builder (side_part side (bit_name net index) ∷ []) left
          (subst (λ (ps : List Part). IsLeft all c.args.builder.now c.bits.builder ps) (ap (map (side_part side)) (up_more index high next net less step)) c.bits.invariant.left) c.in_ok-declare_bit.ensures;
      order = omega (arith, less, step);
      fine = ap (λ (b : Building). b.refused) c.in_ok-declare_bit.ensures.1 ∙ c.bits.invariant.fine;
    }
