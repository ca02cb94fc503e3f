-- What is told behind a word.
use Rattle.std.proofs.Common.{◌≡◌, ℕ, Bool, true, List, [], ◌∷◌, Result, Ok, Err, Option, Some, None}
use Rattle.std.proofs.Common.{refl, sym, ap, ◌∙◌, inl, inr, length}
use Rattle.cg_vcd.specs.declared.change.Change.{Change}
use Rattle.cg_vcd.specs.declared.fault.VcdFault.{VcdFault}
use Rattle.cg_vcd.specs.VcdFaults.{◌>>=◌}
use Rattle.cg_net.specs.NetSets.{is_in}
use Rattle.cg_vcd.specs.Kinds.{bit_of, is_bit_byte}
use Rattle.std.proofs.lemmas.Bool.{cases_Bool}
use Rattle.cg_text.specs.Spots.{Spot}
use Rattle.cg_vcd.specs.declared.fault.VcdFault.TheVariants.{BadToken}
use Rattle.cg_vcd.specs.declared.kind.Kind.TheVariants.{Comment}
use Rattle.cg_vcd.specs.Kinds.{kind_of}
use Rattle.cg_vcd.specs.VcdWords.{is_end}
use Rattle.cg_vcd.specs.inner.WordsLeft.{skip_left}
use Rattle.cg_vcd.specs.Changes.{Free, InComment, StepsRead, put_change, told, end_of_changes, with_change, with_step_end}
use Rattle.cg_vcd.specs.Rows.{ended, fault_or}
use Rattle.cg_vcd.specs.inner.Values.{Begun, all_rows, line_after, rows_before, rows_from, rows_left, with_value}

module _ (inputs : List ℕ) (clock : ℕ) (b : Begun) (rows : List (List Bool)) where
  -- a change was read
  abbrev pub behind : Change → Begun
  behind change = record { before = b.before; latest = with_value b.latest change.id change.bit; line = line_after b.line clock change }

  change_first : (count : ℕ) (change : Change) (fault : Option VcdFault) (step : List Change) (later : List (List Change))
      → rows_from inputs clock count b (ended fault ((change ∷ step) ∷ later)) ≡ rows_from inputs clock count (behind change) (ended fault (step ∷ later))
  change_first count change None step later = refl
  change_first count change (Some fault) step [] = refl
  change_first count change (Some fault) step (next ∷ later) = refl

  pub change_read_on : (change : Change) (later : StepsRead) → all_rows inputs clock b rows (with_change change later) ≡ all_rows inputs clock (behind change) rows later
  change_read_on change later =
      ap (λ r. ◌>>=◌ {B = List (List Bool)} (rows_before rows r) (fault_or later.fault)) (change_first (length rows) change later.fault later.step later.later)

  -- the end of a step that is not the last
  ended_next : (fault : Option VcdFault) (step next : List Change) (later : List (List Change)) → ended fault (step ∷ next ∷ later) ≡ step ∷ ended fault (next ∷ later)
  ended_next None step next later = refl
  ended_next (Some fault) step next later = refl

  pub step_end_read_on : (later : StepsRead) → all_rows inputs clock b rows (with_step_end later)
      ≡ ◌>>=◌ {B = List (List Bool)} (rows_left inputs clock b rows ([] ∷ ended later.fault (later.step ∷ later.later))) (fault_or later.fault)
  step_end_read_on later =
      ap (λ steps. ◌>>=◌ {B = List (List Bool)} (rows_left inputs clock b rows steps) (fault_or later.fault)) (ended_next later.fault [] later.step later.later)

pub same_begun : (before before' latest latest' : ℕ → Option Bool) (line line' : ℕ) → before ≡ before' → latest ≡ latest' → line ≡ line'
    → ◌≡◌ {A = Begun} (record { before = before; latest = latest; line = line }) (record { before = before'; latest = latest'; line = line' })
same_begun before before' latest latest' line line' e f g = rw (e, f, g) refl

-- a change of an id that is used
pub put_read_on : (used : List ℕ) (number : Option ℕ) (id id_line line byte : ℕ) (bit : Option Bool) (later : StepsRead) → number ≡ Some id → is_in used id ≡ true → is_bit_byte byte ≡ true → bit ≡ bit_of byte
    → put_change used number id_line line byte later ≡ with_change (record { id = id; bit = bit; line = line }) later
put_read_on used number id id_line line byte bit later known is_used is_bit e = rw (known, is_used, is_bit, e) refl

module _ (ids : List (List ℕ)) (used : List ℕ) (end : ℕ) (time : Option ℕ) where
  -- a comment that ends
  comment_left : (ws rest : List Spot) → skip_left end ws ≡ Ok rest → told ids used end InComment time ws ≡ told ids used end Free time rest
  comment_left [] rest e = absurd (cc)
  comment_left (w ∷ ws) rest e = elim (cases_Bool (is_end w.text)) [
    | inl closes ↦ let same : ◌≡◌ {A = Result (List Spot) VcdFault} (Ok ws) (Ok rest) = sym (rw closes refl) ∙ e in let ws_is : ws ≡ rest = cc in rw closes (ap (told ids used end Free time) ws_is)
    | inr goes ↦ rw goes (comment_left ws rest (sym (rw goes refl) ∙ e))
  ]

  -- a comment that does not
  comment_lost : (ws : List Spot) (fault : VcdFault) → skip_left end ws ≡ Err fault → told ids used end InComment time ws ≡ end_of_changes (Some fault)
  comment_lost [] fault e = let same : BadToken end ≡ fault = cc in ap (λ f. end_of_changes (Some f)) same
  comment_lost (w ∷ ws) fault e = elim (cases_Bool (is_end w.text)) [
    | inl closes ↦ let same : ◌≡◌ {A = Result (List Spot) VcdFault} (Ok ws) (Err fault) = sym (rw closes refl) ∙ e in absurd (cc)
    | inr goes ↦ rw goes (comment_lost ws fault (sym (rw goes refl) ∙ e))
  ]

  pub comment_ok : (w : Spot) (ws rest : List Spot) → Comment ≡ kind_of w.text → skip_left end ws ≡ Ok rest → told ids used end Free time (w ∷ ws) ≡ told ids used end Free time rest
  comment_ok w ws rest kind e = let is : kind_of w.text ≡ Comment = sym kind in rw is (comment_left ws rest e)

  pub comment_err : (w : Spot) (ws : List Spot) (fault : VcdFault) → Comment ≡ kind_of w.text → skip_left end ws ≡ Err fault → told ids used end Free time (w ∷ ws) ≡ end_of_changes (Some fault)
  comment_err w ws fault kind e = let is : kind_of w.text ≡ Comment = sym kind in rw is (comment_lost ws fault e)
