-- What is read with marks between, turn by turn, each by what was read before it.
use Rattle.std.proofs.Common.{◌≡◌, ℕ, zero, suc, ◌<◌, ◌≤◌, Bool, true, false, List, [], ◌∷◌, ◌++◌, length, refl, ap, ◌∙◌, sym, subst, if◌then◌else◌, arith}
use Rattle.cg_verilog_text.specs.Reading.{Got, Read, Reader, Stuck, More, Last, behind, is_mark, is_next, part_turn, parted, take_turn, turns_within}
use Rattle.cg_verilog_text.specs.Tokens.{Token}
use Rattle.cg_verilog_expression.specs.Readings.{Stops}
use Rattle.cg_verilog_expression.specs.declared.stop.Stop.{Stop}
use Rattle.cg_verilog_expression.specs.declared.stop.Stop.TheVariants.{At, NoMemory}
use Rattle.cg_verilog_expression.proofs.Passing.{next_shrinks}
use Rattle.cg_verilog_expression.proofs.Shorter.{Takes, got_shorter}

module _ {A : Type 0} (byte : ℕ) (one : List A → Reader A) (takes : (items : List A) → Takes (one items)) where
  abbrev pub turned : ℕ → List A → Reader (List A)
  turned n items tokens = turns_within n (λ so_far tokens. part_turn byte so_far (one so_far tokens)) items tokens

  -- there are turns left for these tokens, and they read what is to be read
  pub record IsLeft (items : List A) (tokens : List Token) (whole : Read (List A)) : Type 0 where
    pub turns : ℕ
    pub enough : length tokens < turns
    pub same : turned turns items tokens ≡ whole

  step_of : (n : ℕ) (ts : List Token) → length ts < n → (m : ℕ) × (n ≡ suc m)
  step_of zero ts less = absurd (omega arith)
  step_of (suc m) ts less = (m, refl)

  pub begins : (items : List A) (ts : List Token) → IsLeft items ts (parted byte one items ts)
  begins items ts = record { turns = suc (length ts); enough = omega arith; same = refl }

  pub begins_empty : (items : List A) (ts : List Token) → items ≡ [] → IsLeft items ts (parted byte one [] ts)
  begins_empty items ts none = record { turns = suc (length ts); enough = omega arith; same = ap (λ l. turned (suc (length ts)) l ts) none }

  turn_stops : (items : List A) (ts left : List Token) (whole : Read (List A)) → IsLeft items ts whole → one items ts ≡ Stuck left → whole ≡ Stuck left
  turn_stops items ts left whole here is =
      let n = step_of here.turns ts here.enough in
      sym here.same ∙ (ap (λ k. turned k items ts) n.1 ∙ ap (λ read. take_turn (part_turn byte items read) (turned n.0)) is)

  pub stops_whole : (end : ℕ) (items : List A) (ts : List Token) (whole : Read (List A)) (stop : Stop) → IsLeft items ts whole → Stops end (one items ts) stop → Stops end whole stop
  stops_whole end items ts whole (At line) here stops = record { left = stops.left; stuck = turn_stops items ts stops.left whole here stops.stuck; line_is = stops.line_is }
  stops_whole end items ts whole NoMemory here stops = tt

  pub turn_last : (items : List A) (ts : List Token) (x : A) (later : List Token) (whole : Read (List A)) → IsLeft items ts whole → one items ts ≡ Got x later → is_next (is_mark byte) later ≡ false → whole ≡ Got (items ++ x ∷ []) later
  turn_last items ts x later whole here is ends =
      let n = step_of here.turns ts here.enough in
      sym here.same ∙ (ap (λ k. turned k items ts) n.1 ∙ (ap (λ read. take_turn (part_turn byte items read) (turned n.0)) is
      ∙ ap (λ b. take_turn (if b then More (items ++ x ∷ []) (behind later) else Last (items ++ x ∷ []) later) (turned n.0)) ends))

  pub turn_more : (items : List A) (ts : List Token) (x : A) (later : List Token) (whole : Read (List A)) → IsLeft items ts whole → one items ts ≡ Got x later → is_next (is_mark byte) later ≡ true → IsLeft (items ++ x ∷ []) (behind later) whole
  turn_more items ts x later whole here is goes =
      let n = step_of here.turns ts here.enough in
      let less : length later < length ts = got_shorter (length ts) (one items ts) x later (takes items (length ts) ts (omega arith)) is in
      let fewer : length (behind later) < length later = next_shrinks (is_mark byte) later goes in
      let enough = here.enough in
      let count = n.1 in
      record {
        turns = n.0;
        enough = omega (arith, less, fewer, enough, count);
        same = sym (ap (λ k. turned k items ts) n.1 ∙ (ap (λ read. take_turn (part_turn byte items read) (turned n.0)) is
            ∙ ap (λ b. take_turn (if b then More (items ++ x ∷ []) (behind later) else Last (items ++ x ∷ []) later) (turned n.0)) goes)) ∙ here.same;
      }

  -- a turn leaves fewer tokens
  pub turn_shrinks : (items : List A) (ts : List Token) (x : A) (later : List Token) → one items ts ≡ Got x later → is_next (is_mark byte) later ≡ true → length (behind later) < length ts
  turn_shrinks items ts x later is goes =
      let less : length later < length ts = got_shorter (length ts) (one items ts) x later (takes items (length ts) ts (omega arith)) is in
      let fewer : length (behind later) < length later = next_shrinks (is_mark byte) later goes in
      omega (arith, less, fewer)

  -- a turn as a loop makes it: what is read is put behind the others, and the mark is passed over
  pub turn_on : (items : List A) (ts : List Token) (x : A) (later : List Token) (whole : Read (List A)) → IsLeft items ts whole → one items ts ≡ Got x later → true ≡ is_next (is_mark byte) later
      → (now : List A) (left : List Token) → now ≡ items ++ x ∷ [] → left ≡ behind later → IsLeft now left whole
  turn_on items ts x later whole here is goes now left put passed =
      let next : IsLeft (items ++ x ∷ []) (behind later) whole = turn_more items ts x later whole here is (sym goes) in
      subst (λ l. IsLeft l left whole) (sym put) (subst (λ l. IsLeft (items ++ x ∷ []) l whole) (sym passed) next)

  pub turn_less : (items : List A) (ts : List Token) (x : A) (later : List Token) → one items ts ≡ Got x later → true ≡ is_next (is_mark byte) later → (left : List Token) → left ≡ behind later → length left < length ts
  turn_less items ts x later is goes left passed = subst (λ l. length l < length ts) (sym passed) (turn_shrinks items ts x later is (sym goes))

  pub turn_out : (items : List A) (ts : List Token) (x : A) (later : List Token) (whole : Read (List A)) → IsLeft items ts whole → one items ts ≡ Got x later → false ≡ is_next (is_mark byte) later
      → (now : List A) → now ≡ items ++ x ∷ [] → whole ≡ Got now later
  turn_out items ts x later whole here is ends now put = turn_last items ts x later whole here is (sym ends) ∙ ap (λ l. Got l later) (sym put)
