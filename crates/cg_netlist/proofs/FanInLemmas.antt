-- The cells that drive the inputs of each cell, one behind the other.
use Rattle.std.proofs.Common.{◌≡◌, ◌<◌, ℕ, suc, ◌+◌, ◌-◌, List, [], ◌∷◌, ◌++◌, Option, Some, None, refl, sym, ◌∙◌, ap, subst, arith, length, map, take, append_assoc}
use Rattle.std.specs.Prelude.{drop, get_or}
use Rattle.std.specs.List.{cons_option, slice_get}
use Rattle.std.specs.Option.{option_to_list}
use Rattle.std.proofs.lemmas.List.{get_or_default, length-append, map-append}
use Rattle.std.proofs.lemmas.List.Elements.{filter_map-append}
use Rattle.cg_netlist.specs.Circuit.{LogicCell}
use Rattle.cg_netlist.specs.inner.Ranking.{drivers_at, entry}
use Rattle.cg_netlist.specs.inner.CutAt.{EndsAt, cut_at}
use Rattle.cg_netlist.proofs.CutAtPlaces.{IsPart, ends_more, part_is, part_more, part_within, parts}
use Rattle.cg_net.proofs.TableLemmas.{take_next}

single : (o : Option ℕ) → cons_option o [] ≡ option_to_list o
single None = refl
single (Some k) = refl

-- one net more
pub driver_more : (drivers : List (Option ℕ)) (nets : List ℕ) (i net : ℕ) (above new old : List ℕ) → slice_get nets i ≡ Some net → above ≡ old ++ drivers_at drivers (take i nets)
    → new ≡ above ++ option_to_list (entry drivers net) → new ≡ old ++ drivers_at drivers (take (i + 1) nets)
driver_more drivers nets i net above new old at so_far put =
    let more : drivers_at drivers (take (i + 1) nets) ≡ drivers_at drivers (take i nets) ++ option_to_list (entry drivers net) =
    ap (drivers_at drivers) (take_next nets i net at) ∙ (filter_map-append (entry drivers) (take i nets) (net ∷ [])
    ∙ ap (λ l. drivers_at drivers (take i nets) ++ l) (single (entry drivers net))) in
    rw (put, so_far, more, append_assoc) refl

-- the cells that drive the inputs of the first cells
pub record AreCut (drivers : List (Option ℕ)) (cells : List (LogicCell ℕ)) (starts above : List ℕ) : Type 0 where
  pub ends : EndsAt (length above) starts
  pub parts : cut_at starts above ≡ map (λ c. drivers_at drivers c.inputs) cells

-- one cell more
pub cell_more : (drivers : List (Option ℕ)) (cells : List (LogicCell ℕ)) (i n : ℕ) (cell : LogicCell ℕ) (starts above starts-2 above-2 : List ℕ) → slice_get cells i ≡ Some cell
    → AreCut drivers (take i cells) starts above → above-2 ≡ above ++ drivers_at drivers cell.inputs → n ≡ length above-2 → starts-2 ≡ starts ++ n ∷ []
    → AreCut drivers (take (i + 1) cells) starts-2 above-2
cell_more drivers cells i n cell starts above starts-2 above-2 at cut put long placed =
    let f : LogicCell ℕ → List ℕ = λ c. drivers_at drivers c.inputs in
    let ys = drivers_at drivers cell.inputs in
    let m = length (above ++ ys) in
    let starts-is : starts-2 ≡ starts ++ m ∷ [] = placed ∙ ap (λ k. starts ++ k ∷ []) (long ∙ ap length put) in
    let ends : EndsAt m (starts ++ m ∷ []) = ends_more (length above) m starts cut.ends (omega (arith, length-append above ys)) in
    let is : cut_at (starts ++ m ∷ []) (above ++ ys) ≡ map f (take (i + 1) cells) =
    part_more starts above ys cut.ends
    ∙ (ap (λ parts. parts ++ ys ∷ []) cut.parts
    ∙ (sym (map-append f (take i cells) (cell ∷ [])) ∙ ap (map f) (sym (take_next cells i cell at)))) in
    subst (λ xs. AreCut drivers (take (i + 1) cells) starts-2 xs) (sym put) (subst (λ ss. AreCut drivers (take (i + 1) cells) ss (above ++ ys)) (sym starts-is) (record { ends = ends; parts = is }))

-- what is asked of the part of a cell
pub record IsCellPart (starts above : List ℕ) (lists : List (List ℕ)) (cell start end : ℕ) : Type 0 where
  pub part : IsPart (length above) start end
  pub is : take (end - start) (drop start above) ≡ get_or lists cell []

pub cell_below : (starts above : List ℕ) (lists : List (List ℕ)) (cell : ℕ) → EndsAt (length above) starts → cut_at starts above ≡ lists → cell < length lists → suc cell < length starts
cell_below starts above lists cell ends view below = omega (arith, parts (length above) starts above ends, ap length view, below)

pub cell_part : (starts above : List ℕ) (lists : List (List ℕ)) (cell start end : ℕ) → EndsAt (length above) starts → cut_at starts above ≡ lists → cell < length lists
    → start ≡ get_or starts cell start → end ≡ get_or starts (cell + 1) end → IsCellPart starts above lists cell start end
cell_part starts above lists cell start end ends view below begins stops =
    let n = length above in
    let lt = cell_below starts above lists cell ends view below in
    let first : start ≡ get_or starts cell 0 = begins ∙ get_or_default starts cell start 0 (omega (arith, lt)) in
    let one : cell + 1 ≡ suc cell = omega arith in
    let last : end ≡ get_or starts (suc cell) 0 = stops ∙ (ap (λ k. get_or starts k end) one ∙ get_or_default starts (suc cell) end 0 lt) in
    let part = part_within n starts cell ends lt in
    record {
      part = record { rises = omega (arith, first, last, part.rises); within = omega (arith, last, part.within) };
      is = ap (λ k. take (end - k) (drop k above)) first ∙ (ap (λ k. take (k - get_or starts cell 0) (drop (get_or starts cell 0) above)) last
          ∙ (sym (part_is n starts above cell ends lt) ∙ ap (λ ls. get_or ls cell []) view));
    }
