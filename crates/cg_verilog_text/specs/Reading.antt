-- Reading tokens: what was read and the tokens behind it, or the tokens from the first one on that is not allowed there.
use Rattle.std.specs.Prelude.{ℕ, zero, suc, Bool, true, false, not, ◌&&◌, if◌then◌else◌, List, [], ◌∷◌, ◌++◌, length, codes}
use Rattle.std.specs.List.{list_any}
use Rattle.std.specs.Str.{bytes_eq}
use Rattle.cg_cell.specs.Name.{is_name}
use Rattle.cg_text.specs.Numbers.{is_number}
use Rattle.cg_verilog_text.specs.Tokens.{Token}
use Rattle.cg_verilog_text.specs.declared.kind.Kind.TheVariants.{Plain, Escaped, Number, Arrow, Mark}

pub data Read (A : Type 0) : Type 0 where
  Got : A → List Token → Read A
  Stuck : List Token → Read A

abbrev pub Reader : Type 0 → Type 0
Reader A = List Token → Read A

-- one thing, and then what it leads to
abbrev pub after : {A B : Type 0} → Read A → (A → Reader B) → Read B
after (Got a later) next = next a later
after (Stuck later) next = Stuck later

-- the token that is next passes a test; it is read if it does
abbrev pub is_next : (Token → Bool) → List Token → Bool
is_next test [] = false
is_next test (token ∷ later) = test token

abbrev pub pass : (Token → Bool) → Reader (List ℕ)
pass test [] = Stuck []
pass test (token ∷ later) = if test token then Got token.text later else Stuck (token ∷ later)

-- the tokens behind the next one
abbrev pub behind : List Token → List Token
behind [] = []
behind (token ∷ later) = later

-- what tokens are: a mark, `<=`, a word, a name, a number, a bit
abbrev pub is_mark : ℕ → Token → Bool
is_mark byte token = elim token.kind [ Mark ↦ bytes_eq token.text (byte ∷ []) | _ ↦ false ]

abbrev pub is_arrow : Token → Bool
is_arrow token = elim token.kind [ Arrow ↦ true | _ ↦ false ]

abbrev pub is_word : List ℕ → Token → Bool
is_word word token = elim token.kind [ Plain ↦ bytes_eq token.text word | _ ↦ false ]

abbrev pub keywords : List (List ℕ)
keywords =
    codes "module" ∷ codes "endmodule" ∷ codes "input" ∷ codes "output" ∷ codes "wire" ∷ codes "reg" ∷ codes "assign" ∷ codes "always"
    ∷ codes "posedge" ∷ codes "begin" ∷ codes "end" ∷ codes "initial" ∷ []

abbrev pub is_plain : Token → Bool
is_plain token = elim token.kind [ Plain ↦ not (list_any (bytes_eq token.text) keywords) | _ ↦ false ]

abbrev pub is_identifier : Token → Bool
is_identifier token =
    elim token.kind [ Plain ↦ not (list_any (bytes_eq token.text) keywords) | Escaped ↦ is_name token.text | _ ↦ false ]

-- the name of an instance is not kept, so an escaped one may be anything
abbrev pub is_label : Token → Bool
is_label token = elim token.kind [ Plain ↦ not (list_any (bytes_eq token.text) keywords) | Escaped ↦ true | _ ↦ false ]

abbrev pub is_numeral : Token → Bool
is_numeral token = elim token.kind [ Number ↦ is_number token.text | _ ↦ false ]

abbrev pub zeros : List (List ℕ)
zeros = codes "1'b0" ∷ codes "1'h0" ∷ []

abbrev pub ones : List (List ℕ)
ones = codes "1'b1" ∷ codes "1'h1" ∷ []

abbrev pub is_bit : Token → Bool
is_bit token = elim token.kind [ Number ↦ list_any (bytes_eq token.text) (zeros ++ ones) | _ ↦ false ]

-- and reading them
abbrev pub mark : ℕ → Reader (List ℕ)
mark byte tokens = pass (is_mark byte) tokens

abbrev pub word : List ℕ → Reader (List ℕ)
word text tokens = pass (is_word text) tokens

abbrev pub name : Reader (List ℕ)
name tokens = pass is_identifier tokens

abbrev pub bit : Reader Bool
bit tokens = after (pass is_bit tokens) (λ text later. Got (list_any (bytes_eq text) ones) later)

-- this, and a mark behind it
abbrev pub ended_by : {A : Type 0} → ℕ → Read A → Read A
ended_by byte read = after read (λ a later. after (mark byte later) (λ _ last. Got a last))

-- a net: a name, or a plain identifier and a number in brackets, which the net's name has
abbrev pub indexed : List ℕ → Reader (List ℕ)
indexed text tokens = ended_by 93 (after (pass is_numeral tokens) (λ index later. Got (text ++ 91 ∷ (index ++ 93 ∷ [])) later))

abbrev pub net : Reader (List ℕ)
net tokens =
    after (name tokens)
    (λ text later. if is_next is_plain tokens && is_next (is_mark 91) later then indexed text (behind later) else Got text later)

-- Turns: each goes on from what was read so far, or is the last. There are no more turns than tokens, since each reads one.
pub data Turn (A : Type 0) : Type 0 where
  More : A → List Token → Turn A
  Last : A → List Token → Turn A
  Halt : List Token → Turn A

abbrev pub take_turn : {A : Type 0} → Turn A → (A → Reader A) → Read A
take_turn (More a later) next = next a later
take_turn (Last a later) next = Got a later
take_turn (Halt later) next = Stuck later

abbrev pub turns_within : {A : Type 0} → ℕ → (A → List Token → Turn A) → A → Reader A
turns_within zero turn a tokens = Stuck tokens
turns_within (suc n) turn a tokens = take_turn (turn a tokens) (turns_within n turn)

abbrev pub turns : {A : Type 0} → (A → List Token → Turn A) → A → Reader A
turns turn a tokens = turns_within (suc (length tokens)) turn a tokens

-- one or more of a kind with a mark between each two, behind those that were read so far; what is read may depend on these
abbrev pub part_turn : {A : Type 0} → ℕ → List A → Read A → Turn (List A)
part_turn byte so_far (Stuck later) = Halt later
part_turn byte so_far (Got a later) =
    if is_next (is_mark byte) later then More (so_far ++ a ∷ []) (behind later) else Last (so_far ++ a ∷ []) later

abbrev pub parted : {A : Type 0} → ℕ → (List A → Reader A) → List A → Reader (List A)
parted byte one so_far tokens = turns (λ so_far tokens. part_turn byte so_far (one so_far tokens)) so_far tokens

abbrev pub separated : {A : Type 0} → ℕ → Reader A → Reader (List A)
separated byte one tokens = parted byte (λ so_far. one) [] tokens
