-- Names of added nets are names, and none of them is `NIL`.
use Rattle.std.proofs.Common.{◌≡◌, ◌≢◌, ℕ, ◌+◌, ◌-◌, ◌%◌, ◌^◌, ◌<◌, ◌≤◌, true, false, not, ◌&&◌, nat_lt, nat_eq, IsTrue, List, []}
use Rattle.std.proofs.Common.{◌∷◌, ◌++◌, length, slice_get, Some, codes, refl, ap, sym, ◌∙◌, arith, append_assoc}
use Rattle.std.specs.List.{list_all}
use Rattle.std.specs.Fmt.{decimal}
use Rattle.std.proofs.lemmas.Bool.{and_parts, lt-ltb}
use Rattle.std.proofs.lemmas.Fmt.{decimal_by_steps}
use Rattle.std.proofs.lemmas.List.{length-append}
use Rattle.std.proofs.lemmas.List.Folds.{list_all-append}
use Rattle.std.proofs.lemmas.Option.{same_Some}
use Rattle.cg_cell.specs.Name.{ends_name, is_name, is_name_byte}
use Rattle.cg_netlist.proofs.NetsOf.{other_eqb}

-- bytes that stand in names, of which the last is a digit
pub record EndsInDigit (n : ℕ) (ds : List ℕ) : Type 0 where
  pub bytes : list_all is_name_byte ds ≡ true
  pub front : List ℕ
  pub last : ℕ
  pub is : ds ≡ front ++ last ∷ []
  pub high : 48 ≤ last
  pub low : last < 58

digit_byte : (b : ℕ) → 48 ≤ b → is_name_byte b ≡ true
digit_byte b high =
    let over : nat_lt 32 b ≡ true = lt-ltb 32 b (omega (arith, high)) in
    let other : nat_eq b 35 ≡ false = other_eqb b 35 (λ e. let none : ⊥ = omega (arith, e, high) in none) in
    ap (λ x. x && not (nat_eq b 35)) over ∙ ap (λ x. true && not x) other

one_digit : (n : ℕ) → n < 10 → EndsInDigit n ((48 + n) ∷ [])
one_digit n small = record { bytes = ap (λ x. x && true) (digit_byte (48 + n) (omega arith)); front = []; last = 48 + n; is = refl; high = omega arith; low = omega (arith, small) }

digits_end : (n : ℕ) → n < 2 ^ 64 → EndsInDigit n (decimal n)
digits_end = decimal_by_steps EndsInDigit one_digit (λ n ds big rest.
    let low : n % 10 < 10 = omega arith in
    record {
      bytes = list_all-append is_name_byte ds ((48 + n % 10) ∷ []) ∙ (ap (λ x. x && (is_name_byte (48 + n % 10) && true)) rest.bytes ∙ ap (λ x. true && (x && true)) (digit_byte (48 + n % 10) (omega arith)));
      front = ds;
      last = 48 + n % 10;
      is = refl;
      high = omega arith;
      low = omega (arith, low);
    })

at_end : (xs : List ℕ) (x : ℕ) → slice_get (xs ++ x ∷ []) (length xs) ≡ Some x
at_end [] x = refl
at_end (y ∷ xs) x = at_end xs x

-- a name with a number behind it is a name
pub name_added : (prefix : List ℕ) (k : ℕ) → IsTrue (is_name prefix) → k < 2 ^ 64 → IsTrue (is_name (prefix ++ decimal k))
name_added prefix k name small =
    let d = digits_end k small in
    let whole : prefix ++ decimal k ≡ (prefix ++ d.front) ++ d.last ∷ [] = ap (λ ds. prefix ++ ds) d.is ∙ sym (append_assoc prefix d.front (d.last ∷ [])) in
    let count : length (prefix ++ decimal k) - 1 ≡ length (prefix ++ d.front) = omega (arith, ap length whole, length-append (prefix ++ d.front) (d.last ∷ [])) in
    let last : slice_get (prefix ++ decimal k) (length (prefix ++ decimal k) - 1) ≡ Some d.last = ap (slice_get (prefix ++ decimal k)) count ∙ (ap (λ bs. slice_get bs (length (prefix ++ d.front))) whole ∙ at_end (prefix ++ d.front) d.last) in
    let other : nat_eq d.last 92 ≡ false = other_eqb d.last 92 (λ e. let none : ⊥ = omega (arith, e, d.low) in none) in
    let bytes : list_all is_name_byte (prefix ++ decimal k) ≡ true = list_all-append is_name_byte prefix (decimal k) ∙ (ap (λ x. x && list_all is_name_byte (decimal k)) (and_parts (ends_name (slice_get prefix (length prefix - 1))) (list_all is_name_byte prefix) name).1 ∙ d.bytes) in
    ap (λ o. ends_name o && list_all is_name_byte (prefix ++ decimal k)) last ∙ (ap (λ x. not x && list_all is_name_byte (prefix ++ decimal k)) other ∙ bytes)

pub never_nil : (prefix : List ℕ) (k : ℕ) → k < 2 ^ 64 → prefix ++ decimal k ≢ codes "NIL"
never_nil prefix k small same =
    let d = digits_end k small in
    let whole : (prefix ++ d.front) ++ d.last ∷ [] ≡ codes "NIL" = append_assoc prefix d.front (d.last ∷ []) ∙ (ap (λ ds. prefix ++ ds) (sym d.is) ∙ same) in
    let count : length (prefix ++ d.front) ≡ 2 = omega (arith, ap length whole, length-append (prefix ++ d.front) (d.last ∷ [])) in
    let last : Some d.last ≡ Some 76 = sym (at_end (prefix ++ d.front) d.last) ∙ (ap (λ bs. slice_get bs (length (prefix ++ d.front))) whole ∙ ap (slice_get (codes "NIL")) count) in
    let is : d.last ≡ 76 = same_Some d.last 76 last in
    let none : ⊥ = omega (arith, is, d.low) in
    none
