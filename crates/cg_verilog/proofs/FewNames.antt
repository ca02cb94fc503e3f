-- A few names, one more of them, and what they are where each was put.
use Rattle.std.proofs.Common.{◌≡◌, ◌<◌, ℕ, suc, zero, true, false, ◌||◌, List, [], ◌∷◌, ◌++◌, map, length, ap, sym, ◌∙◌, arith, get_or, Some, subst}
use Rattle.std.specs.Prelude.{slice_get}
use Rattle.std.specs.Str.{bytes_eq}
use Rattle.cg_net.specs.Names.{NetName, is_known, with_name}
use Rattle.cg_net.proofs.DifferentNames.{with_names_different}
use Rattle.cg_net.proofs.NameLemmas.{with_name-known, with_name-unknown}
use Rattle.cg_netlist_parts.proofs.KnownNames.{known-append, same_word, word_at}
use Rattle.cg_verilog_text.specs.Meaning.{once}
use Rattle.cg_verilog.specs.NamesSeen.{AreDifferent}
use Rattle.cg_verilog.proofs.CoverRows.{once_names}

-- one name more is none of them either
pub known_next : (names : List NetName) (name other : NetName) → is_known names name ≡ false → bytes_eq name other ≡ false → is_known (names ++ other ∷ []) name ≡ false
known_next names name other none apart = known-append names (other ∷ []) name ∙ (ap (λ b. b || is_known (other ∷ []) name) none ∙ ap (λ b. b || false) apart)

-- a name that is put where it is found, or is not
pub put_known : (names new : List NetName) (name : NetName) (i : ℕ) → slice_get names i ≡ Some name → new ≡ names → new ≡ with_name names name
put_known names new name i at same = same ∙ sym (with_name-known names name (word_at names i name at))

pub put_unknown : (names new : List NetName) (name : NetName) → is_known names name ≡ false → new ≡ names ++ name ∷ [] → new ≡ with_name names name
put_unknown names new name none put = put ∙ sym (with_name-unknown names name none)

-- names, each once, differ
pub once_different : (names all : List NetName) → names ≡ once bytes_eq all → AreDifferent names
once_different names all is = subst AreDifferent (once_names all ∙ sym is) (with_names_different [] all (λ i j d below within. absurd (omega (arith, within))))

-- the name at a place
pub found_at : {A : Type 0} (now : A → NetName) (names : List A) (i : ℕ) (d : A) (name : NetName) → i < length names → bytes_eq name (now (get_or names i d)) ≡ true → slice_get (map now names) i ≡ Some name
found_at now [] i d name within same = absurd (omega (arith, within))
found_at now (n ∷ names) zero d name within same = ap (λ (m : NetName). Some m) (sym (same_word name (now n) same))
found_at now (n ∷ names) (suc i) d name within same = found_at now names i d name (omega (arith, within)) same
