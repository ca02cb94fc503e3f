use Rattle.std.proofs.Common.{◌≡◌, ◌∙◌, ◌-◌, ◌++◌, ℕ, zero, suc, Bool, List, [], None, Option, ap, arith, refl, take}
use Rattle.std.specs.Prelude.{replicate}
use Rattle.cg_verilog.proofs.CoverRows.{none_row}
use Rattle.cg_verilog.proofs.cover.make_row.Goals as goal

abbrev Row : Type 0
Row = List (Option Bool)

none_taken : (n : ℕ) (row : Row) → row ≡ [] → take n row ≡ []
none_taken zero row is = refl
none_taken (suc n) row is = ap (λ (r : Row). take (suc n) r) is

-- a row that was emptied and filled up holds no bit
filled : (n k : ℕ) (row : Row) → row ≡ [] → k ≡ 0 → take n row ++ replicate (n - k) (let none : Option Bool = None in none) ≡ replicate n (let none : Option Bool = None in none)
filled n k row empty none =
    let all : n - k ≡ n = omega arith in
    ap (λ (r : Row). r ++ replicate (n - k) (let none : Option Bool = None in none)) (none_taken n row empty) ∙ ap (λ m. replicate m (let none : Option Bool = None in none)) all

pub literals-init : goal.literals-init
literals-init c =
    c.in_ok-resize.ensures.items
    ∙ (filled _ _ _ c.clear.ensures.items c.clear.ensures.len
    ∙ (ap (λ n. replicate n (let none : Option Bool = None in none)) c.len.ensures.count ∙ none_row c.args.inputs.now))
