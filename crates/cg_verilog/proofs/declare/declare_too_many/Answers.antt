use Rattle.std.proofs.Common.{[], ◌≡◌, ◌<◌, ◌∷◌, ◌∙◌, List, Some, ap, length, map, rules, subst, sym, Err, Result}
use Rattle.cg_limit.specs.declared.TheConstants.{MOST_NETS}
use Rattle.cg_net.specs.Names.{NetName}
use Rattle.cg_netlist.specs.declared.fault.AddFault.{AddFault}
use Rattle.cg_netlist_parts.specs.Part.{Part}
use Rattle.cg_netlist_parts.proofs.Different.{Apart}
use Rattle.cg_text.specs.Numbers.{digits_after}
use Rattle.cg_verilog_text.specs.Items.{Range}
use Rattle.cg_verilog_text.specs.Meaning.{bits_of}
use Rattle.cg_verilog_text.specs.Telling.{with_parts}
use Rattle.cg_verilog.specs.Declaring.{bit_name, side_part}
use Rattle.cg_verilog.specs.Hearing.{Hears}
use Rattle.cg_verilog.proofs.HearingLemmas.{IsLeft, all_left, told_fault}
use Rattle.cg_verilog.proofs.ManyBits.{bits_apart, bits_first, too_many}
use Rattle.cg_verilog.proofs.declare.declare_too_many.Goals as goal

pub returns-in_err-declare_bit : goal.returns-in_err-declare_bit
returns-in_err-declare_bit c =
    let side = c.args.side in
    let net : NetName = c.args.net.now in
    let index = c.in_ok-first.first in
    let bits : List NetName = bits_of (Some c.args.range.now) net in
    let all : List Part = map (side_part side) bits in
    let first = bits_first c.args.range.now net in
    let is : index ≡ digits_after 0 c.args.range.now.high = c.in_ok-first.ensures ∙ ap (λ (r : Range). digits_after 0 r.high) c.range.view_is in
    let split : bits ≡ bit_name net index ∷ first.0 = first.1 ∙ ap (λ k. bit_name net k ∷ first.0) (sym is) in
    let fault = c.in_err-declare_bit.field-0.0 in
    let same : c.from_residual-in_err-declare_bit.result ≡ Err fault = search rules in
    let P : Result (Unit {0}) AddFault → Type 0 = λ r. Hears c.args.builder.now c.declare_bit.new.builder (with_parts all c.args.builder.now.said) r in
    subst P (sym same)
    (told_fault all c.args.builder.now c.args.builder.now c.declare_bit.new.builder c.declare_bit.new.builder (side_part side (bit_name net index) ∷ []) (map (side_part side) first.0) fault
    (subst (λ (ps : List Part). IsLeft all c.args.builder.now c.args.builder.now ps) (ap (map (side_part side)) split) (all_left all c.args.builder.now)) c.in_err-declare_bit.ensures)

pub returns : goal.returns
returns c =
    let side = c.args.side in
    let net : NetName = c.args.net.now in
    let index = c.in_ok-first.first in
    let bits : List NetName = bits_of (Some c.args.range.now) net in
    let first = bits_first c.args.range.now net in
    let is : index ≡ digits_after 0 c.args.range.now.high = c.in_ok-first.ensures ∙ ap (λ (r : Range). digits_after 0 r.high) c.range.view_is in
    let split : bits ≡ bit_name net index ∷ first.0 = first.1 ∙ ap (λ k. bit_name net k ∷ first.0) (sym is) in
    let apart : Apart (bit_name net index ∷ first.0) = subst Apart split (bits_apart c.args.range.now net) in
    let many : MOST_NETS < length (bit_name net index ∷ first.0) = subst (λ (l : List NetName). MOST_NETS < length l) split c.requires.many in
    ap (λ l. with_parts (map (side_part side) l) c.args.builder.now.said) split
    ∙ too_many side (bit_name net index) first.0 c.args.builder.now.said c.declare_bit.new.builder.said apart many c.in_ok-declare_bit.ensures.0
