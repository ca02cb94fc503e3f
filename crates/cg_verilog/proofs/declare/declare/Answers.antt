use Rattle.std.proofs.Common.{◌≡◌, ◌+◌, ◌<◌, ◌++◌, ◌∙◌, List, ap, arith, drop, length, map, rules, subst, sym, Err, Result}
use Rattle.std.specs.List.{flat_map}
use Rattle.cg_netlist.specs.declared.fault.AddFault.{AddFault}
use Rattle.cg_netlist_builder.specs.Building.{Building}
use Rattle.cg_netlist_parts.specs.Part.{Part}
use Rattle.cg_verilog_text.specs.Meaning.{bits_of}
use Rattle.cg_verilog_text.specs.Telling.{with_parts}
use Rattle.cg_verilog.specs.Declaring.{side_part}
use Rattle.cg_verilog.specs.Hearing.{Hears}
use Rattle.cg_verilog.proofs.Declared.{declared_drop}
use Rattle.cg_verilog.proofs.HearingLemmas.{IsLeft, told_fault, told_next}
use Rattle.cg_verilog.proofs.declare.declare.Goals as goal

pub returns-in_err-declare_bits : goal.returns-in_err-declare_bits
returns-in_err-declare_bits c =
    let side = c.args.side in
    let range = c.args.range.now in
    let nets = c.args.nets.now in
    let k = c.nets.net-index in
    let net = c.net-item.result in
    let within : k < length nets = omega arith in
    let all = map (side_part side) (flat_map (bits_of range) nets) in
    let left = map (side_part side) (flat_map (bits_of range) (drop (k + 1) nets)) in
    let next : map (side_part side) (flat_map (bits_of range) (drop k nets)) ≡ map (side_part side) (bits_of range net) ++ left =
    declared_drop side range nets k net within ∙ ap (λ n. map (side_part side) (bits_of range n) ++ left) (sym c.net-item.is) in
    let fault = c.in_err-declare_bits.field-0.0 in
    let same : c.from_residual.result ≡ Err fault = search rules in
    let P : Result (Unit {0}) AddFault → Type 0 = λ r. Hears c.args.builder.now c.declare_bits.new.builder (with_parts all c.args.builder.now.said) r in
    subst P (sym same)
    (told_fault all c.args.builder.now c.nets.builder c.declare_bits.new.builder c.declare_bits.new.builder (map (side_part side) (bits_of range net)) left fault
    (subst (λ (ps : List Part). IsLeft all c.args.builder.now c.nets.builder ps) next c.nets.invariant.left) c.in_err-declare_bits.ensures)

pub nets-preserved : goal.nets-preserved
nets-preserved c =
    let side = c.args.side in
    let range = c.args.range.now in
    let nets = c.args.nets.now in
    let k = c.nets.net-index in
    let net = c.net-item.result in
    let within : k < length nets = omega arith in
    let all = map (side_part side) (flat_map (bits_of range) nets) in
    let left = map (side_part side) (flat_map (bits_of range) (drop (k + 1) nets)) in
    let next : map (side_part side) (flat_map (bits_of range) (drop k nets)) ≡ map (side_part side) (bits_of range net) ++ left =
    declared_drop side range nets k net within ∙ ap (λ n. map (side_part side) (bits_of range n) ++ left) (sym c.net-item.is) in
    record {
      left = told_next all c.args.builder.now c.nets.builder c.declare_bits.new.builder (map (side_part side) (bits_of range net)) left
          (subst (λ (ps : List Part). IsLeft all c.args.builder.now c.nets.builder ps) next c.nets.invariant.left) c.in_ok-declare_bits.ensures;
      fine = ap (λ (b : Building). b.refused) c.in_ok-declare_bits.ensures.1 ∙ c.nets.invariant.fine;
    }
