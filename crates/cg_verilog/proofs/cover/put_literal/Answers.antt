use Rattle.std.proofs.Common.{◌≡◌, ◌∙◌, Some, ap, false, set, subst}
use Rattle.cg_net.specs.Names.{NetName, is_known}
use Rattle.cg_verilog_text.specs.Forms.{Literal}
use Rattle.cg_verilog.proofs.CoverRows.{put_one, unknown_bit}
use Rattle.cg_verilog.proofs.cover.put_literal.Goals as goal

pub returns-in-None : goal.returns-in-None
returns-in-None c = λ before is.
    let net : c.bytes.result.now ≡ c.args.literal.now.net = c.bytes.ensures.bytes ∙ ap (λ (k : Literal NetName). k.net) c.literal.view_is in
    is ∙ unknown_bit before c.args.literal.now c.args.inputs.now (subst (λ n. is_known c.args.inputs.now n ≡ false) net c.in-None.ensures)

pub returns-in-Some : goal.returns-in-Some
returns-in-Some c = λ before is.
    let net : c.bytes.result.now ≡ c.args.literal.now.net = c.bytes.ensures.bytes ∙ ap (λ (k : Literal NetName). k.net) c.literal.view_is in
    let plain : c.literal.inside.plain ≡ c.args.literal.now.plain = ap (λ (k : Literal NetName). k.plain) c.literal.view_is in
    put_one before c.args.literal.now c.args.inputs.now c.args.row.now c.put_bit.new.row c.in-Some.place c.len-different.ensures.different
    (c.in-Some.ensures ∙ ap (λ (n : NetName). Some n) net)
    (λ at. c.put_bit.ensures.none at ∙ ap (λ b. set c.args.row.now c.in-Some.place (Some b)) plain)
    c.put_bit.ensures.some is
