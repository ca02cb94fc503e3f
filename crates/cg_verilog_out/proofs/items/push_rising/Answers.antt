use Rattle.std.proofs.Common.{◌≡◌, [], ◌∷◌, ◌++◌, codes, append_assoc}
use Rattle.cg_verilog_text.specs.Written.{item_line, name_text, update_text}
use Rattle.cg_verilog_text.specs.WrittenItems.{rising}
use Rattle.cg_verilog_out.proofs.items.push_rising.Goals as goal

pub returns : goal.returns
returns c =
    let old = c.args.out.now.items in
    let assoc : ((((old ++ codes "  always @(posedge ") ++ name_text c.args.clock.now) ++ codes ") ") ++ update_text (record { net = c.args.net.now; takes = c.args.takes.now })) ++ 10 ∷ []
    ≡ old ++ item_line (rising c.args.clock.now c.args.net.now c.args.takes.now) = simp append_assoc in
    cc (c.in_ok-extend_from_slice.ensures.items, c.in_ok-push_name.ensures, c.in_ok-extend_from_slice-2.ensures.items, c.in_ok-push_update.ensures, c.in_ok-push.ensures.items)
