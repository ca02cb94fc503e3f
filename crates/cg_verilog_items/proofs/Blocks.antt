-- Registers between `begin` and `end`, turn by turn.
use Rattle.std.proofs.Common.{◌≡◌, ℕ, zero, suc, ◌<◌, Bool, true, false, List, [], ◌∷◌, ◌++◌, length, refl, ap, ◌∙◌, sym, if◌then◌else◌, arith, codes}
use Rattle.cg_verilog_text.specs.Items.{Update, block_turn, update, update_turn}
use Rattle.cg_verilog_text.specs.Reading.{Got, Last, More, Read, Stuck, behind, is_next, is_word, take_turn, turns, turns_within}
use Rattle.cg_verilog_text.specs.Tokens.{Token}
use Rattle.cg_verilog_expression.specs.Readings.{Stops}
use Rattle.cg_verilog_expression.specs.declared.stop.Stop.{Stop}
use Rattle.cg_verilog_expression.specs.declared.stop.Stop.TheVariants.{At, NoMemory}
use Rattle.cg_verilog_expression.proofs.Shorter.{got_shorter}
use Rattle.cg_verilog_items.proofs.ShorterItems.{update_shorter}

abbrev turned : ℕ → List Update → List Token → Read (List Update)
turned n updates ts = turns_within n block_turn updates ts

abbrev ends : List Token → Bool
ends ts = is_next (is_word (codes "end")) ts

-- there are turns left for these tokens, and they read what is to be read
pub record IsBlockLeft (updates : List Update) (tokens : List Token) (whole : Read (List Update)) : Type 0 where
  pub turns : ℕ
  pub enough : length tokens < turns
  pub same : turns_within turns block_turn updates tokens ≡ whole

step_of : (n : ℕ) (ts : List Token) → length ts < n → (m : ℕ) × (n ≡ suc m)
step_of zero ts less = absurd (omega arith)
step_of (suc m) ts less = (m, refl)

pub block_begins_at : (updates : List Update) (ts : List Token) → updates ≡ [] → IsBlockLeft updates ts (turns block_turn [] ts)
block_begins_at updates ts none = record { turns = suc (length ts); enough = omega arith; same = ap (λ l. turned (suc (length ts)) l ts) none }

pub block_ends : (updates : List Update) (ts : List Token) (whole : Read (List Update)) → IsBlockLeft updates ts whole → is_next (is_word (codes "end")) ts ≡ true → whole ≡ Got updates (behind ts)
block_ends updates ts whole here is =
    let n = step_of here.turns ts here.enough in
    sym here.same ∙ (ap (λ k. turned k updates ts) n.1
    ∙ ap (λ b. take_turn (if b then Last updates (behind ts) else update_turn updates (update ts)) (turned n.0)) is)

next_turn : (updates : List Update) (ts : List Token) (whole : Read (List Update)) (here : IsBlockLeft updates ts whole) → is_next (is_word (codes "end")) ts ≡ false
    → whole ≡ take_turn (update_turn updates (update ts)) (turned (step_of here.turns ts here.enough).0)
next_turn updates ts whole here goes =
    let n = step_of here.turns ts here.enough in
    sym here.same ∙ (ap (λ k. turned k updates ts) n.1
    ∙ ap (λ b. take_turn (if b then Last updates (behind ts) else update_turn updates (update ts)) (turned n.0)) goes)

pub block_stops : (end : ℕ) (updates : List Update) (ts : List Token) (whole : Read (List Update)) (stop : Stop) → IsBlockLeft updates ts whole → is_next (is_word (codes "end")) ts ≡ false → Stops end (update ts) stop → Stops end whole stop
block_stops end updates ts whole (At line) here goes stops = record {
  left = stops.left;
  stuck = next_turn updates ts whole here goes ∙ ap (λ read. take_turn (update_turn updates read) (turned (step_of here.turns ts here.enough).0)) stops.stuck;
  line_is = stops.line_is;
}
block_stops end updates ts whole NoMemory here goes stops = tt

pub block_more : (updates : List Update) (ts : List Token) (x : Update) (later : List Token) (whole : Read (List Update)) → IsBlockLeft updates ts whole → is_next (is_word (codes "end")) ts ≡ false → update ts ≡ Got x later → IsBlockLeft (updates ++ x ∷ []) later whole
block_more updates ts x later whole here goes is =
    let n = step_of here.turns ts here.enough in
    let less : length later < length ts = got_shorter (length ts) (update ts) x later (update_shorter (length ts) ts (omega arith)) is in
    let enough = here.enough in
    let count = n.1 in
    record {
      turns = n.0;
      enough = omega (arith, less, enough, count);
      same = sym (next_turn updates ts whole here goes ∙ ap (λ read. take_turn (update_turn updates read) (turned n.0)) is);
    }

pub block_shrinks : (ts : List Token) (x : Update) (later : List Token) → update ts ≡ Got x later → length later < length ts
block_shrinks ts x later is = got_shorter (length ts) (update ts) x later (update_shorter (length ts) ts (omega arith)) is
