-- What a walk reads, and what it keeps from cell to cell.
use Rattle.std.proofs.Common.{◌≡◌, ℕ, suc, ◌+◌, ◌<◌, ◌≤◌, Bool, List, [], ◌∷◌, ◌++◌, drop, get_or, length, set, slice_get}
use Rattle.std.proofs.Common.{slice_set, take, Some, refl, sym, ◌∙◌, ap, subst, arith, add-one, drop-cons}
use Rattle.std.specs.Borrow.{Bor}
use Rattle.std.specs.Fn.{Called}
use Rattle.std.specs.List.{All, cons_option}
use Rattle.std.proofs.lemmas.List.{length-set, take_more, take_more_set}
use Rattle.std.proofs.lemmas.Option.{get_or_from_slice_get, slice_get_within}
use Rattle.cg_netlist.specs.Circuit.{Circuit, LogicCell}
use Rattle.cg_netlist.specs.Moment.{function_value, values_at}
use Rattle.cg_netlist.specs.Netlist.{IsNetlist}
use Rattle.cg_netlist.specs.Nets.{put_cells}
use Rattle.cg_netlist.specs.Walk.{CalledAtCell, CalledEach, IsCellCall, MayWalk, Step, TakesCell, TakesEach, Walks}
use Rattle.cg_netlist.proofs.CellFits.{cell_fits}
use Rattle.cg_netlist.proofs.Values.{length-values_at, values_at-append}

-- one more value is read
pub gathered : {X : Type 0} (values scratch : List X) (nets : List ℕ) (i net : ℕ) (y : X) → slice_get nets i ≡ Some net → slice_get values net ≡ Some y → i < length scratch → take i scratch ≡ values_at values (take i nets)
    → take (i + 1) (set scratch i y) ≡ values_at values (take (i + 1) nets)
gathered values scratch nets i net y at is below before =
    let front : take (i + 1) nets ≡ take i nets ++ net ∷ [] = take_more nets i net (slice_get_within nets i net at) ∙ ap (λ x. take i nets ++ x ∷ []) (get_or_from_slice_get nets i net net at) in
    take_more_set scratch i y below
    ∙ (ap (λ l. l ++ y ∷ []) before
    ∙ (ap (λ o. values_at values (take i nets) ++ cons_option o []) (sym is)
    ∙ (sym (values_at-append values (take i nets) (net ∷ [])) ∙ ap (values_at values) (sym front))))

-- nets that are below a number are below a greater one
pub within_more : (n m : ℕ) (nets : List ℕ) → n ≤ m → All (λ net. net < n) nets → All (λ net. net < m) nets
within_more n m nets more all k d below = let small = all k d below in omega (arith, more, small)

-- the list from a place on begins with what stands there
pub drop_at : (xs : List ℕ) (i x : ℕ) → slice_get xs i ≡ Some x → drop i xs ≡ x ∷ drop (i + 1) xs
drop_at xs i x at =
    let here : get_or xs i x ≡ x = get_or_from_slice_get xs i x x at in
    let below : i < length xs = slice_get_within xs i x at in
    let one : suc i ≡ i + 1 = sym (add-one i) in
    drop-cons xs i x below ∙ (ap (λ y. y ∷ drop (suc i) xs) here ∙ ap (λ n. x ∷ drop n xs) one)

-- a call at a reference to these values
pub called_at_cell : {F T : Type 0} (g : Step F T) (f : F) (k : ℕ) (xs : List T) (y : T) (f' : F) {shown : Bor (List T)} → Called g f (k, (shown, tt)) y f' → shown.now ≡ xs → CalledAtCell g f k xs y f'
called_at_cell g f k xs y f' {shown} called is = record { shown = shown; shows = is; called = called }

module _ {F T : Type 0} (g : Step F T) (cells : List (LogicCell ℕ)) where
  -- what was called so far, and what is still to be called, make one walk
  abbrev pub GoesOn : List ℕ → F → List T → List ℕ → F → List T → Type 0
  GoesOn order f values ks f' values' = (last : F) (left : List T) → CalledEach g cells ks f' values' last left → CalledEach g cells order f values last left

  pub goes_on : (order : List ℕ) (f : F) (values : List T) (k : ℕ) (ks : List ℕ) (f' : F) (values' : List T) (cell : LogicCell ℕ) (y : T) (f'' : F)
      → GoesOn order f values (k ∷ ks) f' values' → slice_get cells k ≡ Some cell → CalledAtCell g f' k (values_at values' cell.inputs) y f'' → GoesOn order f values ks f'' (slice_set values' cell.output y)
  goes_on order f values k ks f' values' cell y f'' so_far at called last left rest = so_far last left (cell, y, f'', at, called, rest)

  -- what a step keeps, a walk keeps
  pub walk_keeps : (P : List ℕ → F → List T → Type 0)
      → ((k : ℕ) (ks : List ℕ) (cell : LogicCell ℕ) (f : F) (values : List T) (y : T) (f' : F) → slice_get cells k ≡ Some cell → P (k ∷ ks) f values → CalledAtCell g f k (values_at values cell.inputs) y f' → P ks f' (slice_set values cell.output y))
      → (ks : List ℕ) (f : F) (values : List T) (last : F) (left : List T) → CalledEach g cells ks f values last left → P ks f values → P [] last left
  walk_keeps P step [] f values last left walks holds = subst (λ (q : F). P [] q left) (sym walks.0) (subst (P [] f) (sym walks.1) holds)
  walk_keeps P step (k ∷ ks) f values last left walks holds = walk_keeps P step ks walks.2 (slice_set values walks.0.output walks.1) last left walks.5 (step k ks walks.0 f values walks.1 walks.2 walks.3 holds walks.4)

  -- a closure may be walked with, where each of its steps keeps what the next one needs
  pub takes_each : (P : List ℕ → F → List T → Type 0)
      → ((k : ℕ) (ks : List ℕ) (cell : LogicCell ℕ) (f : F) (values : List T) → slice_get cells k ≡ Some cell → P (k ∷ ks) f values → TakesCell g f k (values_at values cell.inputs))
      → ((k : ℕ) (ks : List ℕ) (cell : LogicCell ℕ) (f : F) (values : List T) (y : T) (f' : F) → slice_get cells k ≡ Some cell → P (k ∷ ks) f values → CalledAtCell g f k (values_at values cell.inputs) y f' → P ks f' (slice_set values cell.output y))
      → (ks : List ℕ) (f : F) (values : List T) → P ks f values → TakesEach g cells ks f values
  takes_each P takes step [] f values holds = tt
  takes_each P takes step (k ∷ ks) f values holds = λ cell at. (
    takes k ks cell f values at holds,
    λ y f' called. takes_each P takes step ks f' (slice_set values cell.output y) (step k ks cell f values y f' at holds called),
  )

-- with a closure that no call changes and that answers each cell's function, the cells are put
puts_each : {F : Type 0} (g : Step F Bool) (cells : List (LogicCell ℕ)) (f : F)
    → ((k : ℕ) (cell : LogicCell ℕ) (xs : List Bool) (y : Bool) (f' : F) → slice_get cells k ≡ Some cell → CalledAtCell g f k xs y f' → (y ≡ function_value cell.function xs) × (f' ≡ f))
    → (ks : List ℕ) (values : List Bool) (last : F) (left : List Bool) → CalledEach g cells ks f values last left → left ≡ put_cells (values_at cells ks) values
puts_each g cells f answers [] values last left walks = walks.1
puts_each {F} g cells f answers (k ∷ ks) values last left walks =
    let cell : LogicCell ℕ = walks.0 in
    let told = answers k cell (values_at values cell.inputs) walks.1 walks.2 walks.3 walks.4 in
    let later = puts_each g cells f answers ks (slice_set values cell.output walks.1) last left (subst (λ (q : F). CalledEach g cells ks q (slice_set values cell.output walks.1) last left) told.1 walks.5) in
    later
    ∙ (ap (λ y. put_cells (values_at cells ks) (slice_set values cell.output y)) told.0
    ∙ ap (λ o. put_cells (cons_option o (values_at cells ks)) values) (sym walks.3))

pub walked_puts : {F : Type 0} (g : Step F Bool) (cells : List (LogicCell ℕ)) (f : F) (ks : List ℕ) (values : List Bool) (last : F) (left : List Bool) → Walks g cells ks f values last left
    → ((k : ℕ) (cell : LogicCell ℕ) (xs : List Bool) (y : Bool) (f' : F) → slice_get cells k ≡ Some cell → CalledAtCell g f k xs y f' → (y ≡ function_value cell.function xs) × (f' ≡ f)) → left ≡ put_cells (values_at cells ks) values
walked_puts g cells f ks values last left walks answers = puts_each g cells f answers ks values last left walks.called

-- a closure that no call changes may be walked with, where it may be called at each cell
pub pure_may_walk : {F T : Type 0} (g : Step F T) (c : Circuit) (f : F) → IsNetlist c → (ks : List ℕ) (values : List T) → length c.names ≤ length values → ((k : ℕ) (shown : Bor (List T)) → IsCellCall c k shown.now → g.pre f (k, (shown, tt)))
    → ((k : ℕ) (xs : List T) (y : T) (f' : F) → CalledAtCell g f k xs y f' → f' ≡ f) → MayWalk g c.cells ks f values
pure_may_walk {F} {T} g c f good ks values long may same = record {
  takes = takes_each g c.cells (λ left q vs. (q ≡ f) × (length c.names ≤ length vs))
      (λ k left cell q vs at holds. λ shown is.
      let fits = cell_fits c good k cell at in
      let inside : All (λ net. net < length vs) cell.inputs = within_more (length c.names) (length vs) cell.inputs holds.1 fits.inputs in
      subst (λ (p : F). g.pre p (k, (shown, tt))) (sym holds.0) (may k shown (cell, at, ap length is ∙ length-values_at vs cell.inputs inside)))
      (λ k left cell q vs y f' at holds called. (same k (values_at vs cell.inputs) y f' (subst (λ (p : F). CalledAtCell g p k (values_at vs cell.inputs) y f') holds.0 called), (let more = length-set vs cell.output y in omega (arith, more, holds.1))))
      ks f values (refl, long);
}
