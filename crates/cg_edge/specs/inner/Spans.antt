-- Lists that stand in one list, one behind the other.
use Rattle.std.specs.Prelude.{◌≡◌, ℕ, ◌+◌, ◌<◌, ◌≤◌, List, drop, slice_get, slice_index_or, Some, take}
use Rattle.std.specs.List.{All}
use Rattle.cg_edge.specs.declared.readers.Span.{Span}

-- the list that stands at a span
abbrev pub spanned : List ℕ → Span → List ℕ
spanned all span = take span.count (drop span.first all)

-- a span ends within n elements
abbrev pub IsWithin : ℕ → Span → Type 0
IsWithin n span = span.first + span.count ≤ n

-- lists that are filled, and for how many elements each has room
pub record Filled : Type 0 where
  pub lists : List (List ℕ)
  pub room : List ℕ

-- each span has so much room behind its first element, within n elements and before the spans behind it
pub record AreApart (room : List ℕ) (spans : List Span) (n : ℕ) : Type 0 where
  pub taken : (x : ℕ) (a : Span) → slice_get spans x ≡ Some a → a.count ≤ slice_index_or room x 0
  pub fits : (x : ℕ) (a : Span) → slice_get spans x ≡ Some a → a.first + slice_index_or room x 0 ≤ n
  pub apart : (x y : ℕ) (a b : Span) → x < y → slice_get spans x ≡ Some a → slice_get spans y ≡ Some b → a.first + slice_index_or room x 0 ≤ b.first

-- nothing stands at these spans
abbrev pub AreEmpty : List Span → Type 0
AreEmpty spans = All (λ span. span.count ≡ 0) spans
