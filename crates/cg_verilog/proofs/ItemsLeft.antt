-- Items, told one after another.
use Rattle.std.proofs.Common.{◌≡◌, ℕ, zero, suc, ◌<◌, Bool, true, false, List, [], ◌∷◌, length, refl, ap, ◌∙◌, sym, if◌then◌else◌, arith, codes}
use Rattle.cg_cell.specs.Cell.{CellData}
use Rattle.cg_verilog_text.specs.Items.{Item, item, items, items_within, line_of, put_item}
use Rattle.cg_verilog_text.specs.Reading.{Got, Read, is_next, is_word}
use Rattle.cg_verilog_text.specs.Tokens.{Token}
use Rattle.cg_verilog_expression.specs.Readings.{Stops}
use Rattle.cg_verilog_expression.specs.declared.stop.Stop.TheVariants.{At}
use Rattle.cg_verilog_expression.proofs.Shorter.{got_shorter}
use Rattle.cg_verilog_items.proofs.ShorterItems.{item_shorter}
use Rattle.cg_verilog.specs.Reads.{StopsAtItem}
use Rattle.cg_verilog.specs.Summary.{Ending, Summary, ending, put}

abbrev ends : List Token → Bool
ends ts = is_next (is_word (codes "endmodule")) ts

module _ (library : List CellData) where
  -- there are turns left for these tokens, and what they tell is what is to be told
  pub record AreLeft (s : Summary) (tokens : List Token) (whole : Ending) : Type 0 where
    pub turns : ℕ
    pub enough : length tokens < turns
    pub same : ending library s (items_within turns tokens) ≡ whole

  step_of : (n : ℕ) (ts : List Token) → length ts < n → (m : ℕ) × (n ≡ suc m)
  step_of zero ts less = absurd (omega arith)
  step_of (suc m) ts less = (m, refl)

  pub items_begin : (s : Summary) (ts : List Token) → AreLeft s ts (ending library s (items ts))
  items_begin s ts = record { turns = suc (length ts); enough = omega arith; same = refl }

  abbrev told : ℕ → Summary → List Token → Bool → Read Item → Ending
  told m s ts b read = ending library s (if b then record { found = []; whole = true; left = ts } else put_item (line_of 0 ts) read (items_within m))

  turn : (s : Summary) (ts : List Token) (whole : Ending) (here : AreLeft s ts whole) → whole ≡ told (step_of here.turns ts here.enough).0 s ts (ends ts) (item ts)
  turn s ts whole here = sym here.same ∙ ap (λ k. ending library s (items_within k ts)) (step_of here.turns ts here.enough).1

  pub items_end : (s : Summary) (ts : List Token) (whole : Ending) → AreLeft s ts whole → is_next (is_word (codes "endmodule")) ts ≡ true → whole ≡ record { summary = s; whole = true; left = ts }
  items_end s ts whole here is = turn s ts whole here ∙ ap (λ b. told (step_of here.turns ts here.enough).0 s ts b (item ts)) is

  pub items_stop : (end : ℕ) (s : Summary) (ts : List Token) (whole : Ending) (line : ℕ) → AreLeft s ts whole → is_next (is_word (codes "endmodule")) ts ≡ false → Stops end (item ts) (At line) → StopsAtItem whole s end line
  items_stop end s ts whole line here goes stops = record {
    left = stops.left;
    is = turn s ts whole here ∙ (ap (λ b. told (step_of here.turns ts here.enough).0 s ts b (item ts)) goes ∙ ap (λ read. told (step_of here.turns ts here.enough).0 s ts false read) stops.stuck);
    line_is = stops.line_is;
  }

  pub line_same : (end : ℕ) (ts : List Token) (one : Item) (later : List Token) → item ts ≡ Got one later → line_of end ts ≡ line_of 0 ts
  line_same end [] one later is = absurd (let less : length later < 0 = got_shorter 0 (item []) one later (item_shorter 0 [] (omega arith)) is in omega (arith, less))
  line_same end (t ∷ ts) one later is = refl

  pub items_more : (s : Summary) (ts : List Token) (one : Item) (later : List Token) (whole : Ending) → AreLeft s ts whole → is_next (is_word (codes "endmodule")) ts ≡ false → item ts ≡ Got one later
      → AreLeft (put library s (record { line = line_of 0 ts; item = one })) later whole
  items_more s ts one later whole here goes is =
      let n = step_of here.turns ts here.enough in
      let less : length later < length ts = got_shorter (length ts) (item ts) one later (item_shorter (length ts) ts (omega arith)) is in
      let enough = here.enough in
      let count = n.1 in
      record {
        turns = n.0;
        enough = omega (arith, less, enough, count);
        same = sym (turn s ts whole here ∙ (ap (λ b. told n.0 s ts b (item ts)) goes ∙ ap (λ read. told n.0 s ts false read) is));
      }

  pub items_shrink : (ts : List Token) (one : Item) (later : List Token) → item ts ≡ Got one later → length later < length ts
  items_shrink ts one later is = got_shorter (length ts) (item ts) one later (item_shorter (length ts) ts (omega arith)) is
