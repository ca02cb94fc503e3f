use Rattle.std.proofs.Common.{◌≡◌, ◌∙◌, ap, subst, sym}
use Rattle.cg_verilog_text.specs.Items.{item, items, line_of}
use Rattle.cg_verilog_expression.specs.Readings.{Stops}
use Rattle.cg_verilog_expression.specs.declared.stop.Stop.{Stop}
use Rattle.cg_verilog_expression.specs.declared.stop.Stop.TheVariants.{At}
use Rattle.cg_verilog.specs.Reads.{StopsAtItem}
use Rattle.cg_verilog.specs.Summary.{Summary, ending, put}
use Rattle.cg_verilog.specs.Tellings.{summed}
use Rattle.cg_verilog.proofs.ItemsLeft.{AreLeft, items_end, items_more, items_shrink, items_stop, line_same}
use Rattle.cg_verilog.proofs.reader.tell_items.Goals as goal

pub returns-then-is_word-clause-told : goal.returns-then-is_word-clause-told
returns-then-is_word-clause-told c =
    let library = c.args.library.now in
    let whole = ending library (summed c.args.telling.now) (items c.args.reading.now.0) in
    (c.items.invariant.sound, items_end library (summed c.items.telling) c.items.reading.0 whole c.items.invariant.left (sym c.if-is_word.ensures))

pub returns-in-Err-At-clause-told : goal.returns-in-Err-At-clause-told
returns-in-Err-At-clause-told c =
    let library = c.args.library.now in
    let whole = ending library (summed c.args.telling.now) (items c.args.reading.now.0) in
    let s = summed c.items.telling in
    let stops : Stops c.items.reading.1 (item c.items.reading.0) (At c.in-Err-At.line) =
    subst (λ (stop : Stop). Stops c.items.reading.1 (item c.items.reading.0) stop) c.in-Err-At.field-0-is c.in-Err-At.ensures.left in (
      c.items.invariant.sound,
      subst (λ line. StopsAtItem whole s c.args.reading.now.1 line) (sym c.in-Err-At.line-is)
          (subst (λ end. StopsAtItem whole s end c.in-Err-At.line) c.items.invariant.end
          (items_stop library c.items.reading.1 s c.items.reading.0 whole c.in-Err-At.line c.items.invariant.left (sym c.if-is_word.ensures) stops)),
    )

pub items-smaller : goal.items-smaller
items-smaller c = items_shrink c.args.library.now c.items.reading.0 c.in-Ok.item c.read_item.new.reading.0 c.in-Ok.ensures.left

pub items-preserved : goal.items-preserved
items-preserved c =
    let library = c.args.library.now in
    let whole = ending library (summed c.args.telling.now) (items c.args.reading.now.0) in
    let s = summed c.items.telling in
    let ts = c.items.reading.0 in
    let later = c.read_item.new.reading.0 in
    let one = c.in-Ok.item in
    let line : c.line-line.result ≡ line_of 0 ts = c.line-line.ensures ∙ line_same library c.items.reading.1 ts one later c.in-Ok.ensures.left in
    let told : summed c.put.new.self ≡ put library s (record { line = line_of 0 ts; item = one }) = c.in_ok-put-in-Ok.ensures.1 ∙ ap (λ n. put library s (record { line = n; item = one })) line in
    record {
      left = subst (λ (t : Summary). AreLeft library t later whole) (sym told) (items_more library s ts one later whole c.items.invariant.left (sym c.if-is_word.ensures) c.in-Ok.ensures.left);
      end = c.in-Ok.ensures.end ∙ c.items.invariant.end;
      sound = c.in_ok-put-in-Ok.ensures.0;
    }
