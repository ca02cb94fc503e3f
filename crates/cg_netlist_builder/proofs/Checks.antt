-- What each check finds is the first net that fails it.
use Rattle.std.proofs.Common.{◌≡◌, ℕ, Bool, not, ◌&&◌, ◌||◌, nat_lt, List, [], ◌∷◌, Option, length, ap, ◌∙◌, subst, arith}
use Rattle.std.specs.List.{AllByRecursion, list_any}
use Rattle.cg_netlist.specs.Circuit.{GatingCell}
use Rattle.cg_net.specs.NetSets.{is_in}
use Rattle.cg_net.specs.Marks.{AreMarksOf, is_marked}
use Rattle.cg_netlist_builder.specs.inner.FirstNet.{IsFirst, marked_before}
use Rattle.cg_netlist.specs.Chains.{chain}
use Rattle.cg_netlist.specs.Places.{CellWithin}
use Rattle.cg_netlist_builder.specs.inner.Numbers.{GaterWithin}
use Rattle.cg_netlist_builder.proofs.EarlierNets.{before_is}
use Rattle.cg_netlist_builder.proofs.MarkLemmas.{same_first}

-- marks that are shown tell the first net
pub marked_first : (marks shown : List Bool) (count n : ℕ) (test : ℕ → Bool) (first : Option ℕ) → shown ≡ marks → count ≡ n → AreMarksOf marks count test → IsFirst (length shown) (is_marked shown) first → IsFirst n test first
marked_first marks shown count n test first shown_is count_is table found =
    let there : IsFirst n (is_marked marks) first = subst (λ m. IsFirst m (is_marked marks) first) (table.fits ∙ count_is) (subst (λ ms. IsFirst (length ms) (is_marked ms) first) shown_is found) in
    same_first (is_marked marks) test n first (λ net lt. table.tells net (omega (arith, lt, count_is))) there

pub undriven_found : (used driven shown : List Bool) (n count : ℕ) (us ds : List ℕ) (first : Option ℕ) → shown ≡ driven → count ≡ n → AreMarksOf used n (is_in us) → AreMarksOf driven count (is_in ds)
    → IsFirst (length used) (λ net. is_marked used net && not (is_marked shown net)) first → IsFirst n (λ net. is_in us net && not (is_in ds net)) first
undriven_found used driven shown n count us ds first shown_is count_is used_table driven_table found =
    let there : IsFirst n (λ net. is_marked used net && not (is_marked driven net)) first = subst (λ m. IsFirst m (λ net. is_marked used net && not (is_marked driven net)) first) used_table.fits (subst (λ ms. IsFirst (length used) (λ net. is_marked used net && not (is_marked ms net)) first) shown_is found) in
    same_first (λ net. is_marked used net && not (is_marked driven net)) (λ net. is_in us net && not (is_in ds net)) n first
    (λ net lt. ap (λ b. b && not (is_marked driven net)) (used_table.tells net lt) ∙ ap (λ b. is_in us net && not b) (driven_table.tells net (omega (arith, lt, count_is)))) there

pub roots_found : (rooted sources used shown given : List Bool) (n count : ℕ) (rs ss us : List ℕ) (first : Option ℕ) → shown ≡ rooted → given ≡ sources → count ≡ n → AreMarksOf rooted count (is_in rs) → AreMarksOf sources count (is_in ss) → AreMarksOf used n (is_in us)
    → IsFirst (length shown) (λ net. is_marked shown net && ((not (is_marked given net) || marked_before shown net) || is_marked used net)) first
    → IsFirst n (λ net. is_in rs net && ((not (is_in ss net) || list_any (λ other. nat_lt other net) rs) || is_in us net)) first
roots_found rooted sources used shown given n count rs ss us first shown_is given_is count_is root_table source_table used_table found =
    let Test : List Bool → List Bool → ℕ → Bool = λ cs is net. is_marked cs net && ((not (is_marked is net) || marked_before cs net) || is_marked used net) in
    let there : IsFirst n (Test rooted sources) first = subst (λ m. IsFirst m (Test rooted sources) first) (root_table.fits ∙ count_is) (subst (λ is. IsFirst (length rooted) (Test rooted is) first) given_is (subst (λ cs. IsFirst (length cs) (Test cs given) first) shown_is found)) in
    same_first (Test rooted sources) (λ net. is_in rs net && ((not (is_in ss net) || list_any (λ other. nat_lt other net) rs) || is_in us net)) n first (λ net lt.
    ap (λ x. x && ((not (is_marked sources net) || marked_before rooted net) || is_marked used net)) (root_table.tells net (omega (arith, lt, count_is)))
    ∙ (ap (λ x. is_in rs net && ((not x || marked_before rooted net) || is_marked used net)) (source_table.tells net (omega (arith, lt, count_is)))
    ∙ (ap (λ x. is_in rs net && ((not (is_in ss net) || x) || is_marked used net)) (before_is rooted rs count net root_table (omega (arith, lt, count_is)))
    ∙ ap (λ x. is_in rs net && ((not (is_in ss net) || list_any (λ other. nat_lt other net) rs) || x)) (used_table.tells net lt)))) there

pub gaters_found : (gated used unreached shown lost : List Bool) (n count : ℕ) (gs us : List ℕ) (test : ℕ → Bool) (first : Option ℕ) → shown ≡ gated → lost ≡ unreached → count ≡ n → AreMarksOf gated n (is_in gs) → AreMarksOf used n (is_in us) → AreMarksOf unreached count test
    → IsFirst (length shown) (λ net. is_marked shown net && (is_marked used net || is_marked lost net)) first → IsFirst n (λ net. is_in gs net && (is_in us net || test net)) first
gaters_found gated used unreached shown lost n count gs us test first shown_is lost_is count_is gater_table used_table lost_table found =
    let Test : List Bool → List Bool → ℕ → Bool = λ cs ls net. is_marked cs net && (is_marked used net || is_marked ls net) in
    let there : IsFirst n (Test gated unreached) first = subst (λ m. IsFirst m (Test gated unreached) first) gater_table.fits (subst (λ ls. IsFirst (length gated) (Test gated ls) first) lost_is (subst (λ cs. IsFirst (length cs) (Test cs lost) first) shown_is found)) in
    same_first (Test gated unreached) (λ net. is_in gs net && (is_in us net || test net)) n first (λ net lt.
    ap (λ x. x && (is_marked used net || is_marked unreached net)) (gater_table.tells net lt)
    ∙ (ap (λ x. is_in gs net && (x || is_marked unreached net)) (used_table.tells net lt) ∙ ap (λ x. is_in gs net && (is_in us net || x)) (lost_table.tells net (omega (arith, lt, count_is))))) there

pub chain_within : (n : ℕ) (gs : List (GatingCell ℕ)) → AllByRecursion (GaterWithin n) gs → AllByRecursion (CellWithin n) (chain gs)
chain_within n [] all = tt
chain_within n (g ∷ gs) all = (record { inputs = (all.0.clock, tt); output = all.0.output }, chain_within n gs all.1)
