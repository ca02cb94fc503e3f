use Rattle.std.proofs.Common.{◌≡◌, ◌<◌, ◌∙◌, ap, length, map, subst, sym}
use Rattle.cg_limit.specs.declared.TheConstants.{MOST_NETS}
use Rattle.cg_net.specs.Names.{NetName}
use Rattle.cg_text.specs.Numbers.{digits_after}
use Rattle.cg_verilog_text.specs.Items.{Range}
use Rattle.cg_verilog_text.specs.Meaning.{indices}
use Rattle.cg_verilog.specs.Declaring.{bit_name}
use Rattle.cg_verilog.proofs.ManyBits.{many_bits}
use Rattle.cg_verilog.proofs.declare.declare_vector.Goals as goal

pub declare_too_many-requires-clause-many : goal.declare_too_many-requires-clause-many
declare_too_many-requires-clause-many c =
    let net : NetName = c.args.net.now in
    let high : c.in_ok-high.high ≡ digits_after 0 c.args.range.now.high = c.in_ok-high.ensures ∙ ap (λ (r : Range). digits_after 0 r.high) c.range.view_is in
    let low : c.in_ok-low.low ≡ digits_after 0 c.args.range.now.low = c.in_ok-low.ensures ∙ ap (λ (r : Range). digits_after 0 r.low) c.range.view_is in
    let many = many_bits net c.in_ok-high.high c.in_ok-low.low MOST_NETS (sym c.is_far_from.ensures ∙ c.if-is_far_from.true) in
    subst (λ n. MOST_NETS < length (map (bit_name net) (indices (digits_after 0 c.args.range.now.high) n))) low
    (subst (λ n. MOST_NETS < length (map (bit_name net) (indices n c.in_ok-low.low))) high many)
