-- Items that are written are read back.
use Rattle.std.proofs.Common.{[], ◌≡◌, ℕ, ◌+◌, Bool, true, false, List, ◌∷◌, ◌++◌, length}
use Rattle.std.proofs.Common.{refl, ap, sym, ◌∙◌, subst, append_assoc, IsTrue, None, arith, ◌<◌}
use Rattle.std.specs.Prelude.{codes}
use Rattle.cg_cell.specs.Name.{is_name}
use Rattle.cg_net.specs.Names.{NetName}
use Rattle.cg_verilog_text.specs.Forms.{Constant}
use Rattle.cg_verilog_text.specs.Items.{Item, Input, Output, Assign, Initial, item}
use Rattle.cg_verilog_text.specs.Reading.{Got}
use Rattle.cg_verilog_text.specs.Tokens.{Token, tokens_from}
use Rattle.cg_verilog_text.specs.Written.{item_line, name_text}
use Rattle.cg_verilog_text.specs.WrittenItems.{declared_alone, rising}
use Rattle.cg_verilog_text.specs.declared.kind.Kind.{Kind}
use Rattle.cg_verilog_text.specs.declared.kind.Kind.TheVariants.{Plain, Escaped, Number, Arrow, Mark}
use Rattle.cg_verilog_text.proofs.Lexing.{name_is_solid, solid_token}

abbrev pub T : ℕ → Kind → List ℕ → Token
T line kind text = record { line = line; kind = kind; text = text }

-- what is written of an item is read back as the item, and what follows is left
pub record IsReadBack (i : Item) : Type 0 where
  pub reads : (end line : ℕ) (rest : List ℕ) → item (tokens_from end 0 true line (item_line i ++ rest)) ≡ Got i (tokens_from end 0 true (line + 1) rest)
  pub grows : (end line : ℕ) (rest : List ℕ) → length (tokens_from end 0 true (line + 1) rest) < length (tokens_from end 0 true line (item_line i ++ rest))

pub read_back : (i : Item) (toks : ℕ → List Token → List Token)
    → ((end line : ℕ) (rest : List ℕ) → tokens_from end 0 true line (item_line i ++ rest) ≡ toks line (tokens_from end 0 true (line + 1) rest))
    → ((line : ℕ) (later : List Token) → item (toks line later) ≡ Got i later) → ((line : ℕ) (later : List Token) → length later < length (toks line later))
    → IsReadBack i
read_back i toks tokens_are reads grows =
    record {
      reads = λ end line rest. ap item (tokens_are end line rest) ∙ reads line (tokens_from end 0 true (line + 1) rest);
      grows = λ end line rest.
          let more : length (tokens_from end 0 true (line + 1) rest) < length (toks line (tokens_from end 0 true (line + 1) rest)) = grows line (tokens_from end 0 true (line + 1) rest) in
          subst (λ n. length (tokens_from end 0 true (line + 1) rest) < n) (ap length (sym (tokens_are end line rest))) more;
    }

pub input_back : (n : NetName) → IsTrue (is_name n) → IsReadBack (Input None (n ∷ []))
input_back n named = read_back (Input None (n ∷ []))
    (λ line later. T line Plain (codes "input") ∷ T line Escaped n ∷ T line Mark (codes ";") ∷ later)
    (λ end line rest. ap (tokens_from end 0 true line) (let e : item_line (Input None (n ∷ [])) ++ rest ≡ codes "  input " ++ (name_text n ++ (59 ∷ 10 ∷ rest)) = simp append_assoc in e)
    ∙ ap (λ later. T line Plain (codes "input") ∷ later) (solid_token end line false n (59 ∷ 10 ∷ rest) (name_is_solid n named)))
    (λ line later. rw named refl) (λ line later. omega arith)

pub output_back : (n : NetName) → IsTrue (is_name n) → IsReadBack (Output None (n ∷ []))
output_back n named = read_back (Output None (n ∷ []))
    (λ line later. T line Plain (codes "output") ∷ T line Escaped n ∷ T line Mark (codes ";") ∷ later)
    (λ end line rest. ap (tokens_from end 0 true line) (let e : item_line (Output None (n ∷ [])) ++ rest ≡ codes "  output " ++ (name_text n ++ (59 ∷ 10 ∷ rest)) = simp append_assoc in e)
    ∙ ap (λ later. T line Plain (codes "output") ∷ later) (solid_token end line false n (59 ∷ 10 ∷ rest) (name_is_solid n named)))
    (λ line later. rw named refl) (λ line later. omega arith)

pub reg_back : (n : NetName) → IsTrue (is_name n) → IsReadBack (declared_alone n)
reg_back n named = read_back (declared_alone n)
    (λ line later. T line Plain (codes "reg") ∷ T line Escaped n ∷ T line Mark (codes ";") ∷ later)
    (λ end line rest. ap (tokens_from end 0 true line) (let e : item_line (declared_alone n) ++ rest ≡ codes "  reg " ++ (name_text n ++ (59 ∷ 10 ∷ rest)) = simp append_assoc in e)
    ∙ ap (λ later. T line Plain (codes "reg") ∷ later) (solid_token end line false n (59 ∷ 10 ∷ rest) (name_is_solid n named)))
    (λ line later. rw named refl) (λ line later. omega arith)

pub initial_back : (n : NetName) (b : Bool) → IsTrue (is_name n) → IsReadBack (Initial n b)
initial_back n true named = read_back (Initial n true)
    (λ line later. T line Plain (codes "initial") ∷ T line Escaped n ∷ T line Mark (codes "=") ∷ T line Number (codes "1'b1") ∷ T line Mark (codes ";") ∷ later)
    (λ end line rest. ap (tokens_from end 0 true line) (let e : item_line (Initial n true) ++ rest ≡ codes "  initial " ++ (name_text n ++ (codes "= 1'b1;" ++ 10 ∷ rest)) = simp append_assoc in e)
    ∙ ap (λ later. T line Plain (codes "initial") ∷ later) (solid_token end line false n (codes "= 1'b1;" ++ 10 ∷ rest) (name_is_solid n named)))
    (λ line later. rw named refl) (λ line later. omega arith)
initial_back n false named = read_back (Initial n false)
    (λ line later. T line Plain (codes "initial") ∷ T line Escaped n ∷ T line Mark (codes "=") ∷ T line Number (codes "1'b0") ∷ T line Mark (codes ";") ∷ later)
    (λ end line rest. ap (tokens_from end 0 true line) (let e : item_line (Initial n false) ++ rest ≡ codes "  initial " ++ (name_text n ++ (codes "= 1'b0;" ++ 10 ∷ rest)) = simp append_assoc in e)
    ∙ ap (λ later. T line Plain (codes "initial") ∷ later) (solid_token end line false n (codes "= 1'b0;" ++ 10 ∷ rest) (name_is_solid n named)))
    (λ line later. rw named refl) (λ line later. omega arith)

pub constant_back : (n : NetName) (b : Bool) → IsTrue (is_name n) → IsReadBack (Assign n (Constant b))
constant_back n true named = read_back (Assign n (Constant true))
    (λ line later. T line Plain (codes "assign") ∷ T line Escaped n ∷ T line Mark (codes "=") ∷ T line Number (codes "1'b1") ∷ T line Mark (codes ";") ∷ later)
    (λ end line rest. ap (tokens_from end 0 true line) (let e : item_line (Assign n (Constant true)) ++ rest ≡ codes "  assign " ++ (name_text n ++ (codes "= 1'b1;" ++ 10 ∷ rest)) = simp append_assoc in e)
    ∙ ap (λ later. T line Plain (codes "assign") ∷ later) (solid_token end line false n (codes "= 1'b1;" ++ 10 ∷ rest) (name_is_solid n named)))
    (λ line later. rw named refl) (λ line later. omega arith)
constant_back n false named = read_back (Assign n (Constant false))
    (λ line later. T line Plain (codes "assign") ∷ T line Escaped n ∷ T line Mark (codes "=") ∷ T line Number (codes "1'b0") ∷ T line Mark (codes ";") ∷ later)
    (λ end line rest. ap (tokens_from end 0 true line) (let e : item_line (Assign n (Constant false)) ++ rest ≡ codes "  assign " ++ (name_text n ++ (codes "= 1'b0;" ++ 10 ∷ rest)) = simp append_assoc in e)
    ∙ ap (λ later. T line Plain (codes "assign") ∷ later) (solid_token end line false n (codes "= 1'b0;" ++ 10 ∷ rest) (name_is_solid n named)))
    (λ line later. rw named refl) (λ line later. omega arith)

pub rising_back : (c q d : NetName) → IsTrue (is_name c) → IsTrue (is_name q) → IsTrue (is_name d) → IsReadBack (rising c q d)
rising_back c q d named_c named_q named_d = read_back (rising c q d)
    (λ line later. T line Plain (codes "always") ∷ T line Mark (codes "@") ∷ T line Mark (codes "(") ∷ T line Plain (codes "posedge") ∷ T line Escaped c
    ∷ T line Mark (codes ")") ∷ T line Escaped q ∷ T line Arrow (codes "<=") ∷ T line Escaped d ∷ T line Mark (codes ";") ∷ later)
    (λ end line rest.
    let after_d = 59 ∷ 10 ∷ rest in
    let after_q = codes "<= " ++ (name_text d ++ after_d) in
    let after_c = codes ") " ++ (name_text q ++ after_q) in
    ap (tokens_from end 0 true line) (let e : item_line (rising c q d) ++ rest ≡ codes "  always @(posedge " ++ (name_text c ++ after_c) = simp append_assoc in e)
    ∙ ap (λ later. T line Plain (codes "always") ∷ T line Mark (codes "@") ∷ T line Mark (codes "(") ∷ T line Plain (codes "posedge") ∷ later) (
    solid_token end line false c after_c (name_is_solid c named_c)
    ∙ ap (λ later. T line Escaped c ∷ T line Mark (codes ")") ∷ later) (solid_token end line false q after_q (name_is_solid q named_q)
    ∙ ap (λ later. T line Escaped q ∷ T line Arrow (codes "<=") ∷ later) (solid_token end line false d after_d (name_is_solid d named_d)))))
    (λ line later. rw (named_c, named_q, named_d) refl) (λ line later. omega arith)
