use Rattle.std.proofs.Common.{◌≡◌, ◌+◌, ◌<◌, ◌++◌, ◌∷◌, [], ℕ, Bool, true, if◌then◌else◌, length, map, slice_get, Some, ap, sym, ◌∙◌, arith}
use Rattle.std.specs.List.{range_with_len}
use Rattle.cg_stage_list_laws.specs.HoldList.{hold_width}
use Rattle.cg_register_text.specs.Causes.{Tried, cause_of}
use Rattle.cg_register_text.specs.Words.{GatedData, tried_of}
use Rattle.cg_register_text.specs.declared.cause.Cause.{Cause}
use Rattle.cg_register_text.specs.inner.Finding.{is_measured, measured_regs}
use Rattle.cg_register_text.proofs.LineLemmas.{range_more}
use Rattle.cg_register_text.proofs.Measured.{count_more, value_at}
use Rattle.cg_register_text.proofs.finding.causes_by.Goals as goal

pub cause-found-requires-clause-width : goal.cause-found-requires-clause-width
cause-found-requires-clause-width c = λ on.
    let t : Tried = tried_of c.args.told.now in
    let n : ℕ = c.loop-number.number in
    let test : ℕ → Bool = is_measured t in
    let value : ℕ → ℕ = hold_width t.began in
    let here : 0 + n ≡ c.new.result = (let e : 0 + n ≡ n = omega arith in e) ∙ sym c.new.ensures in
    let count = c.registers-number-end.ensures.count in
    let seen = ap (λ (g : GatedData). length g.read.registers) c.told.view_is in
    let below : n < length t.read.registers = omega (arith, c.loop-number-test.true, count, seen) in
    let at = value_at test value 0 (length t.read.registers) n below (ap test here ∙ on) in
    ap (λ l. slice_get l c.loop-number.next) c.requires.widths
    ∙ (ap (slice_get (map value (measured_regs t))) c.loop-number.invariant.next
    ∙ (at ∙ ap (λ k. Some (value k)) here))

pub loop-number-preserved : goal.loop-number-preserved
loop-number-preserved c =
    let t : Tried = tried_of c.args.told.now in
    let n : ℕ = c.loop-number.number in
    let next : ℕ = c.loop-number.next in
    let f : ℕ → Cause = cause_of t in
    let test : ℕ → Bool = is_measured t in
    record {
      causes =
          c.in_ok-push.ensures.items
          ∙ (ap (λ l. l ++ c.cause-found.result ∷ []) c.loop-number.invariant.causes
          ∙ (ap (λ x. map f (range_with_len 0 n) ++ x ∷ []) (c.cause-found.ensures.cause ∙ ap f c.new.ensures)
          ∙ sym (range_more f n)));
      next = count_more test n next c.cause-found.new.next c.loop-number.invariant.next (c.cause-found.ensures.next ∙ ap (λ r. if test r then next + 1 else next) c.new.ensures);
    }
