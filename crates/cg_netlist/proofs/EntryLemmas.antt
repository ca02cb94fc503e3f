-- Lemmas on tables of things that may not be there.
use Rattle.std.proofs.Common.{ℕ, zero, suc, ◌<◌, ◌≡◌, ◌≢◌, List, [], ◌∷◌, Option, Some, None, length, set, get_or}
use Rattle.std.proofs.Common.{refl, ap}
use Rattle.std.specs.List.{slice_get}
use Rattle.std.specs.Option.{option_flatten}
use Rattle.std.proofs.lemmas.Option.{slice_get_within}
use Rattle.cg_net.proofs.TableLemmas.{slice_get-set_same, slice_get-set_other}
use Rattle.cg_netlist.specs.inner.Ranking.{entry}

entry_get : (table : List (Option ℕ)) (k r : ℕ) → entry table k ≡ Some r → slice_get table k ≡ Some (Some r)
entry_get [] k r is = absurd (cc)
entry_get (o ∷ table) zero r is = ap Some is
entry_get (o ∷ table) (suc k) r is = entry_get table k r is

pub entry_or : (table : List (Option ℕ)) (k : ℕ) → get_or table k None ≡ entry table k
entry_or [] k = refl
entry_or (o ∷ table) zero = refl
entry_or (o ∷ table) (suc k) = entry_or table k

pub entry_within : (table : List (Option ℕ)) (k r : ℕ) → entry table k ≡ Some r → k < length table
entry_within table k r is = slice_get_within table k (Some r) (entry_get table k r is)

pub entry-set_same : (table : List (Option ℕ)) (k : ℕ) (o : Option ℕ) → k < length table → entry (set table k o) k ≡ o
entry-set_same table k o lt = ap option_flatten (slice_get-set_same table k o lt)

pub entry-set_other : (table : List (Option ℕ)) (k j : ℕ) (o : Option ℕ) → j ≢ k → entry (set table k o) j ≡ entry table j
entry-set_other table k j o other = ap option_flatten (slice_get-set_other table k j o other)
