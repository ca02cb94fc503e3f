use Rattle.std.proofs.Common.{◌≡◌, ◌++◌, ◌+◌, ◌-◌, ℕ, List, ap, sym, ◌∙◌, map, get_or, length, slice_get, Some, arith, append_assoc}
use Rattle.std.specs.List.{range_with_len}
use Rattle.std.specs.Option.{option_copied}
use Rattle.std.proofs.lemmas.Option.{same_Some, slice_get-get_or, slice_get_within}
use Rattle.cg_text.specs.Written.{line_text, text_of}
use Rattle.cg_register_text.specs.Causes.{cause_of}
use Rattle.cg_register_text.specs.Words.{GatedData, line_words, tried_of}
use Rattle.cg_register_text.specs.declared.cause.Cause.{Cause}
use Rattle.cg_register_text.specs.declared.cause.Cause.TheVariants.{Gated}
use Rattle.cg_register_text.proofs.LineLemmas.{lines_on, range_at}
use Rattle.cg_register_text.proofs.text.push_lines.Goals as goal

pub bounds-causes-number : goal.bounds-causes-number
bounds-causes-number c =
    let g = c.args.told.now in
    let k = c.registers.number in
    let f : ℕ → Cause = cause_of (tried_of g) in
    let count : c.registers-number-end.result ≡ length g.read.registers = c.registers-number-end.ensures.count ∙ ap (λ (x : GatedData). length x.read.registers) c.told.view_is in
    let there = range_at f (length g.read.registers) k (omega (arith, c.registers-test.true, count)) in
    slice_get_within c.args.causes.now k (f k) (ap (λ l. slice_get l k) c.requires.causes ∙ there)

pub push_line-requires-clause-cause : goal.push_line-requires-clause-cause
push_line-requires-clause-cause c =
    let g = c.args.told.now in
    let k = c.registers.number in
    let f : ℕ → Cause = cause_of (tried_of g) in
    let count : c.registers-number-end.result ≡ length g.read.registers = c.registers-number-end.ensures.count ∙ ap (λ (x : GatedData). length x.read.registers) c.told.view_is in
    let there : slice_get c.args.causes.now k ≡ Some (f k) = ap (λ l. slice_get l k) c.requires.causes ∙ range_at f (length g.read.registers) k (omega (arith, c.registers-test.true, count)) in
    same_Some (get_or c.args.causes.now k Gated) (f k) (sym (slice_get-get_or c.args.causes.now k Gated (slice_get_within c.args.causes.now k (f k) there)) ∙ there) ∙ ap f (sym c.new.ensures)

pub registers-preserved : goal.registers-preserved
registers-preserved c =
    let g = c.args.told.now in
    let k = c.registers.number in
    let n = length g.read.registers in
    let line : ℕ → List (List ℕ) = line_words g (option_copied c.args.rises) in
    let left : ℕ → List ℕ = λ j. text_of (map line (range_with_len j (n - j))) in
    let old = c.registers.text.items in
    let count : c.registers-number-end.result ≡ n = c.registers-number-end.ensures.count ∙ ap (λ (x : GatedData). length x.read.registers) c.told.view_is in
    ap (λ l. l ++ left (k + 1)) (c.in_ok-push_line.ensures ∙ ap (λ j. old ++ line_text (line j)) c.new.ensures)
    ∙ (append_assoc old (line_text (line k)) (left (k + 1))
    ∙ (ap (λ l. old ++ l) (sym (lines_on line k n (omega (arith, c.registers-test.true, count))))
    ∙ c.registers.invariant))
