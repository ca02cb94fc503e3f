-- What is written with a mark between each two is read back.
use Rattle.std.proofs.Common.{[], ◌≡◌, ℕ, zero, suc, ◌≤◌, true, false, List, ◌∷◌, ◌++◌, map, length}
use Rattle.std.proofs.Common.{ap, ◌∙◌, append_assoc, if◌then◌else◌, arith}
use Rattle.std.specs.List.{AllByRecursion}
use Rattle.cg_verilog_text.specs.Reading.{Got, Reader, Turn, More, Last, behind, is_mark, is_next, part_turn, parted, take_turn, turns_within}
use Rattle.cg_verilog_text.specs.Tokens.{Token, tokens_from}
use Rattle.cg_verilog_text.specs.Written.{between}

-- Values of a kind: the tokens of each, before what follows
module _ {A : Type 0} (toks : A → List Token → List Token) (separator : Token) where
  abbrev pub more_toks : List A → List Token → List Token
  more_toks [] later = later
  more_toks (x ∷ xs) later = separator ∷ toks x (more_toks xs later)

  abbrev pub all_toks : A → List A → List Token → List Token
  all_toks x xs later = toks x (more_toks xs later)

  module _ (grows : (x : A) (later : List Token) → length later ≤ length (toks x later)) where
    pub many_toks : (x : A) (xs : List A) (later : List Token) → length xs ≤ length (all_toks x xs later)
    many_toks x xs later =
        let some : length xs ≤ length (more_toks xs later) = go xs in
        let more : length (more_toks xs later) ≤ length (all_toks x xs later) = grows x (more_toks xs later) in
        omega (arith, some, more)
      where
        go : (xs : List A) → length xs ≤ length (more_toks xs later)
        go [] = omega arith
        go (y ∷ ys) =
            let some : length ys ≤ length (more_toks ys later) = go ys in
            let more : length (more_toks ys later) ≤ length (toks y (more_toks ys later)) = grows y (more_toks ys later) in
            omega (arith, some, more)

  -- reading them, each behind those before it
  module _ (byte : ℕ) (one : List A → Reader A) (Fits : List A → A → Type 0) (splits : is_mark byte separator ≡ true)
      (reads : (so_far : List A) (x : A) (later : List Token) → Fits so_far x → one so_far (toks x later) ≡ Got x later) where
    abbrev pub AllFit : List A → List A → Type 0
    AllFit so_far [] = Unit {0}
    AllFit so_far (x ∷ xs) = Fits so_far x × AllFit (so_far ++ x ∷ []) xs

    abbrev turn : List A → List Token → Turn (List A)
    turn so_far tokens = part_turn byte so_far (one so_far tokens)

    pub turns_back : (n : ℕ) (so_far : List A) (x : A) (xs : List A) (later : List Token) → length xs ≤ n → AllFit so_far (x ∷ xs) → is_next (is_mark byte) later ≡ false
        → turns_within (suc n) turn so_far (all_toks x xs later) ≡ Got (so_far ++ x ∷ xs) later
    turns_back n so_far x [] later few fit ends =
        ap (λ read. take_turn (part_turn byte so_far read) (turns_within n turn)) (reads so_far x later fit.0)
        ∙ ap (λ b. take_turn (if b then More (so_far ++ x ∷ []) (behind later) else Last (so_far ++ x ∷ []) later) (turns_within n turn)) ends
    turns_back zero so_far x (y ∷ ys) later few fit ends = absurd (omega arith)
    turns_back (suc n) so_far x (y ∷ ys) later few fit ends =
        ap (λ read. take_turn (part_turn byte so_far read) (turns_within (suc n) turn)) (reads so_far x (more_toks (y ∷ ys) later) fit.0)
        ∙ (ap (λ b. take_turn (if b then More (so_far ++ x ∷ []) (all_toks y ys later) else Last (so_far ++ x ∷ []) (more_toks (y ∷ ys) later)) (turns_within (suc n) turn)) splits
        ∙ (turns_back n (so_far ++ x ∷ []) y ys later (omega arith) fit.1 ends
        ∙ ap (λ all. Got all later) (append_assoc so_far (x ∷ []) (y ∷ ys))))

    pub parted_back : ((x : A) (later : List Token) → length later ≤ length (toks x later)) → (so_far : List A) (x : A) (xs : List A) (later : List Token) → AllFit so_far (x ∷ xs) → is_next (is_mark byte) later ≡ false
        → parted byte one so_far (all_toks x xs later) ≡ Got (so_far ++ x ∷ xs) later
    parted_back grows so_far x xs later fit ends = turns_back (length (all_toks x xs later)) so_far x xs later (many_toks grows x xs later) fit ends

  -- and their tokens are those of their texts
  module _ (end line : ℕ) (text : A → List ℕ) (between_text : List ℕ) (Good : A → Type 0)
      (tokens_of : (x : A) (rest : List ℕ) → Good x → tokens_from end 0 false line (text x ++ rest) ≡ toks x (tokens_from end 0 false line rest))
      (separates : (rest : List ℕ) → tokens_from end 0 false line (between_text ++ rest) ≡ separator ∷ tokens_from end 0 false line rest) where
    pub between_tokens : (x : A) (xs : List A) (rest : List ℕ) → AllByRecursion Good (x ∷ xs) → tokens_from end 0 false line (between between_text (map text (x ∷ xs)) ++ rest) ≡ all_toks x xs (tokens_from end 0 false line rest)
    between_tokens x [] rest good = tokens_of x rest good.0
    between_tokens x (y ∷ ys) rest good =
        let later = between between_text (map text (y ∷ ys)) in
        ap (tokens_from end 0 false line) (let e : ((text x ++ between_text) ++ later) ++ rest ≡ text x ++ (between_text ++ (later ++ rest)) = simp append_assoc in e)
        ∙ (tokens_of x (between_text ++ (later ++ rest)) good.0
        ∙ ap (toks x) (separates (later ++ rest) ∙ ap (λ tokens. separator ∷ tokens) (between_tokens y ys rest good.1)))
