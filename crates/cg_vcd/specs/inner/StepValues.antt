-- How the values of ids are kept while the changes of a step are read.
use Rattle.std.specs.Prelude.{◌≡◌, ◌<◌, ℕ, Bool, false, List, length, slice_get, Option, None, Some}
use Rattle.std.specs.List.{All}
use Rattle.cg_net.specs.NetSets.{is_in}
use Rattle.cg_vcd.specs.declared.values.Values.{Values}
use Rattle.cg_vcd.specs.inner.Values.{kept}

-- no id has a value
abbrev pub without_value : ℕ → Option Bool
without_value id = None

-- for each id it is marked whether it is among these
abbrev pub Marked : List Bool → List ℕ → Type 0
Marked marks ids = (id : ℕ) → id < length marks → slice_get marks id ≡ Some (is_in ids id)

-- each other id than these has the value that it had
abbrev pub SameBut : List ℕ → (ℕ → Option Bool) → (ℕ → Option Bool) → Type 0
SameBut ids before latest = (id : ℕ) → is_in ids id ≡ false → latest id ≡ before id

-- the ids that were given a value in the step are noted, and no other has another than before
pub record AreValues (v : Values) : Type 0 where
  pub latest : length v.latest.items ≡ length v.before.items
  pub marks : length v.marks.items ≡ length v.before.items
  pub given : All (λ id. id < length v.before.items) v.given.items
  pub marked : Marked v.marks.items v.given.items
  pub others : SameBut v.given.items (kept v.before.items) (kept v.latest.items)
