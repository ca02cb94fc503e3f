-- The nets at which registers can show are those with one of them in their cone.
use Rattle.std.proofs.Common.{◌≡◌, ℕ, ◌+◌, Bool, true, false, ◌||◌, ◌&&◌, cond, List, [], ◌∷◌, ◌++◌, map, take, nat_eq}
use Rattle.std.proofs.Common.{slice_get, Option, Some, None, refl, sym, ◌∙◌, ap}
use Rattle.std.specs.List.{filter, list_any}
use Rattle.std.specs.Option.{option_map_or, option_to_list}
use Rattle.std.proofs.lemmas.Bool.{both_ways, eqb-true, eq-eqb}
use Rattle.std.proofs.lemmas.List.Elements.{filter-append}
use Rattle.std.proofs.lemmas.List.Folds.{list_any-append}
use Rattle.cg_netlist.specs.Circuit.{LogicCell, RegisterCell, shown_nets}
use Rattle.cg_net.specs.NetSets.{is_in}
use Rattle.cg_netlist_cone.specs.Cone.{cone_of}
use Rattle.cg_machine.specs.Claims.{Literal, Target, Shown, Next as NextTarget, Joined}
use Rattle.cg_machine.specs.Machine.{MachineData, enable_of, walk_of}
use Rattle.cg_claim.specs.declared.name.ClaimName.{ClaimName}
use Rattle.cg_claim.specs.declared.name.ClaimName.TheVariants.{Output, Next as NextName, Enable as EnableName}
use Rattle.cg_claim.specs.Reach.{feeds, inputs_of_register, next_asks_own, next_nets, registers_of}
use Rattle.cg_claim.specs.Targets.{meets, output_targets, unseen_targets}
use Rattle.cg_claim_reach.specs.inner.Spreading.{is_next_marked, is_shown, marked_outputs, shows, spread, with_cell}
use Rattle.std.proofs.Math.Bool.{or-false}
use Rattle.cg_net.proofs.TableLemmas.{take_next}

pub map_append : {X Y : Type 0} (f : X → Y) (xs ys : List X) → map f (xs ++ ys) ≡ map f xs ++ map f ys
map_append f [] ys = refl
map_append f (x ∷ xs) ys = ap (λ l. f x ∷ l) (map_append f xs ys)

-- some of a list pass one of two tests where some pass one, or some the other
regroup : (a b c d : Bool) → ((a || b) || (c || d)) ≡ ((a || c) || (b || d))
regroup true b c d = refl
regroup false true true d = refl
regroup false true false d = refl
regroup false false c d = refl

pub any_or : {X : Type 0} (f g : X → Bool) (xs : List X) → list_any (λ x. f x || g x) xs ≡ (list_any f xs || list_any g xs)
any_or f g [] = refl
any_or f g (x ∷ xs) = ap (λ b. (f x || g x) || b) (any_or f g xs) ∙ regroup (f x) (g x) (list_any f xs) (list_any g xs)

pub any_same : {X : Type 0} (f g : X → Bool) (xs : List X) → ((x : X) → f x ≡ g x) → list_any f xs ≡ list_any g xs
any_same f g [] same = refl
any_same f g (x ∷ xs) same = ap (λ b. b || list_any f xs) (same x) ∙ ap (λ b. g x || b) (any_same f g xs same)

-- one element more
pub any_on : {X : Type 0} (test : X → Bool) (xs : List X) (i : ℕ) (x : X) (old b : Bool) → slice_get xs i ≡ Some x → b ≡ test x → old ≡ list_any test (take i xs) → (old || b) ≡ list_any test (take (i + 1) xs)
any_on test xs i x old b at is so_far =
    ap (λ c. c || b) so_far ∙ (ap (λ c. list_any test (take i xs) || c) (is ∙ sym (or-false (test x))) ∙ (sym (list_any-append test (take i xs) (x ∷ [])) ∙ ap (list_any test) (sym (take_next xs i x at))))

any_false : {X : Type 0} (xs : List X) → list_any (λ x. false) xs ≡ false
any_false [] = refl
any_false (x ∷ xs) = any_false xs

any_swap : {X Y : Type 0} (R : X → Y → Bool) (xs : List X) (ys : List Y) → list_any (λ x. list_any (R x) ys) xs ≡ list_any (λ y. list_any (λ x. R x y) xs) ys
any_swap R [] ys = sym (any_false ys)
any_swap R (x ∷ xs) ys = ap (λ b. list_any (R x) ys || b) (any_swap R xs ys) ∙ sym (any_or (R x) (λ y. list_any (λ z. R z y) xs) ys)

eq_turned : (x y : ℕ) → nat_eq x y ≡ nat_eq y x
eq_turned x y = go (nat_eq x y) refl (nat_eq y x) refl
  where
    go : (a : Bool) → nat_eq x y ≡ a → (b : Bool) → nat_eq y x ≡ b → a ≡ b
    go true is true that = refl
    go false is false that = refl
    go true is false that = absurd (both_ways (nat_eq y x) that (eq-eqb y x (sym (eqb-true x y is))))
    go false is true that = absurd (both_ways (nat_eq x y) is (eq-eqb x y (sym (eqb-true y x that))))

-- one is among the others where one of these is among it
among_turned : (xs ys : List ℕ) → list_any (is_in xs) ys ≡ list_any (is_in ys) xs
among_turned xs ys =
    any_swap (λ y x. nat_eq y x) ys xs ∙ any_same (λ x. list_any (λ y. nat_eq y x) ys) (is_in ys) xs (λ x. any_same (λ y. nat_eq y x) (nat_eq x) ys (λ y. eq_turned y x))

any_equal : (o : ℕ) (a : Bool) (xs : List ℕ) → list_any (λ x. nat_eq x o && a) xs ≡ (is_in xs o && a)
any_equal o a [] = refl
any_equal o a (x ∷ xs) = ap (λ b. (nat_eq x o && a) || b) (any_equal o a xs) ∙ (ap (λ c. (c && a) || (is_in xs o && a)) (eq_turned x o) ∙ spread_and (nat_eq o x) (is_in xs o) a)
  where
    spread_and : (b c a : Bool) → ((b && a) || (c && a)) ≡ ((b || c) && a)
    spread_and true true true = refl
    spread_and true true false = refl
    spread_and true false true = refl
    spread_and true false false = refl
    spread_and false c a = refl

-- marks that are alike spread alike
pub spread_same : (cells : List (LogicCell ℕ)) (f g : ℕ → Bool) → ((y : ℕ) → f y ≡ g y) → (y : ℕ) → spread cells f y ≡ spread cells g y
spread_same [] f g same y = same y
spread_same (cell ∷ cells) f g same y =
    spread_same cells (with_cell cell f) (with_cell cell g) (λ x. ap (λ b. b || (nat_eq x cell.output && list_any f cell.inputs)) (same x) ∙ ap (λ b. g x || (nat_eq x cell.output && b)) (any_same f g cell.inputs same)) y

-- a mark spreads to one of some nets exactly where it stands in their cone
pub spread_cone : (cells : List (LogicCell ℕ)) (marked : ℕ → Bool) (roots : List ℕ) → list_any (spread cells marked) roots ≡ list_any marked (cone_of cells roots)
spread_cone [] marked roots = refl
spread_cone (cell ∷ cells) marked roots =
    spread_cone cells (with_cell cell marked) roots
    ∙ (any_or marked (λ x. nat_eq x cell.output && list_any marked cell.inputs) (cone_of cells roots)
    ∙ (ap (λ b. list_any marked (cone_of cells roots) || b) (any_equal cell.output (list_any marked cell.inputs) (cone_of cells roots)) ∙ go (is_in (cone_of cells roots) cell.output)))
  where
    go : (b : Bool) → (list_any marked (cone_of cells roots) || (b && list_any marked cell.inputs)) ≡ list_any marked (cond b (cone_of cells roots ++ cell.inputs) (cone_of cells roots))
    go true = sym (list_any-append marked (cone_of cells roots) cell.inputs)
    go false = or-false (list_any marked (cone_of cells roots))

module _ (m : MachineData) (G : List ℕ) where
  -- registers feed nets where they show their bits at one
  fed : (nets : List ℕ) → list_any (is_shown m G) nets ≡ list_any (feeds m nets) G
  fed nets = any_swap (λ y r. shows m y r) nets G ∙ any_same (λ r. list_any (λ y. shows m y r) nets) (feeds m nets) G (λ r. go (slice_get m.circuit.registers r))
    where
      go : (o : Option (RegisterCell ℕ ℕ)) → list_any (λ y. option_map_or (λ cell. is_in (shown_nets cell) y) o false) nets ≡ option_map_or (λ cell. list_any (is_in nets) (shown_nets cell)) o false
      go None = any_false nets
      go (Some cell) = among_turned (shown_nets cell) nets

  module _ (marked : ℕ → Bool) (is : (y : ℕ) → marked y ≡ spread (walk_of m) (is_shown m G) y) where
    -- one of some nets is marked where a register is in their cone
    roots_marked : (roots : List ℕ) → list_any marked roots ≡ list_any (feeds m (cone_of (walk_of m) roots)) G
    roots_marked roots = any_same marked (spread (walk_of m) (is_shown m G)) roots is ∙ (spread_cone (walk_of m) (is_shown m G) roots ∙ fed (cone_of (walk_of m) roots))

    output_meets : (E : List Literal) (y : ℕ) → marked y ≡ meets m E G (Shown y)
    output_meets E y = sym (or-false (marked y)) ∙ (roots_marked (y ∷ []) ∙ any_same (feeds m (cone_of (walk_of m) (y ∷ []))) _ G (λ r. sym (or-false (feeds m (cone_of (walk_of m) (y ∷ [])) r))))

    next_meets : (E : List Literal) (r : ℕ) → is_next_marked m marked (is_in G r) r ≡ meets m E G (NextTarget r)
    next_meets E r =
        ap (λ b. (is_in G r && next_asks_own m r) || b) (sym (list_any-append marked (inputs_of_register m r) (option_to_list (enable_of m r))))
        ∙ (turned (is_in G r && next_asks_own m r) (list_any marked (next_nets m r))
        ∙ (ap (λ b. b || (is_in G r && next_asks_own m r)) (roots_marked (next_nets m r))
        ∙ (ap (λ b. list_any (feeds m (cone_of (walk_of m) (next_nets m r))) G || b) (sym (any_equal r (next_asks_own m r) G))
        ∙ sym (any_or (feeds m (cone_of (walk_of m) (next_nets m r))) (λ k. nat_eq k r && next_asks_own m r) G))))
      where
        turned : (a b : Bool) → (a || b) ≡ (b || a)
        turned true true = refl
        turned true false = refl
        turned false true = refl
        turned false false = refl

    joined_meets : (E : List Literal) → list_any marked (map (λ (l : Literal). l.0) E) ≡ meets m E G Joined
    joined_meets E = roots_marked (map (λ (l : Literal). l.0) E) ∙ any_same (feeds m (cone_of (walk_of m) (map (λ (l : Literal). l.0) E))) _ G (λ r. sym (or-false (feeds m (cone_of (walk_of m) (map (λ (l : Literal). l.0) E)) r)))

    outputs_named : (E : List Literal) (k : ℕ) (ys : List ℕ) → map (λ (t : ClaimName × Target). t.0) (filter (λ (t : ClaimName × Target). meets m E G t.1) (output_targets k ys)) ≡ marked_outputs marked k ys
    outputs_named E k [] = refl
    outputs_named E k (y ∷ ys) = go (filter (λ (t : ClaimName × Target). meets m E G t.1) (output_targets (k + 1) ys)) (marked_outputs marked (k + 1) ys) (outputs_named E (k + 1) ys) (marked y) (meets m E G (Shown y)) (output_meets E y)
      where
        go : (rest : List (ClaimName × Target)) (named : List ClaimName) → map (λ (t : ClaimName × Target). t.0) rest ≡ named → (a b : Bool) → a ≡ b → map (λ (t : ClaimName × Target). t.0) (cond b ((Output k, Shown y) ∷ rest) rest) ≡ cond a (Output k ∷ named) named
        go rest named same true true e = ap (λ l. Output k ∷ l) same
        go rest named same false false e = same
        go rest named same true false e = absurd cc
        go rest named same false true e = absurd cc

    nexts_named : (E : List Literal) (rs : List ℕ) → map (λ (t : ClaimName × Target). t.0) (filter (λ (t : ClaimName × Target). meets m E G t.1) (map (λ (r : ℕ). (NextName r, NextTarget r)) rs)) ≡ map NextName (filter (λ r. is_next_marked m marked (is_in G r) r) rs)
    nexts_named E [] = refl
    nexts_named E (r ∷ rs) = go (filter (λ (t : ClaimName × Target). meets m E G t.1) (map (λ (r : ℕ). (NextName r, NextTarget r)) rs)) (filter (λ r. is_next_marked m marked (is_in G r) r) rs) (nexts_named E rs) (is_next_marked m marked (is_in G r) r) (meets m E G (NextTarget r)) (next_meets E r)
      where
        go : (rest : List (ClaimName × Target)) (named : List ℕ) → map (λ (t : ClaimName × Target). t.0) rest ≡ map NextName named → (a b : Bool) → a ≡ b → map (λ (t : ClaimName × Target). t.0) (cond b ((NextName r, NextTarget r) ∷ rest) rest) ≡ map NextName (cond a (r ∷ named) named)
        go rest named same true true e = ap (λ l. NextName r ∷ l) same
        go rest named same false false e = same
        go rest named same true false e = absurd cc
        go rest named same false true e = absurd cc

    enable_named : (E : List Literal) → map (λ (t : ClaimName × Target). t.0) (filter (λ (t : ClaimName × Target). meets m E G t.1) ((EnableName, Joined) ∷ [])) ≡ cond (list_any marked (map (λ (l : Literal). l.0) E)) (EnableName ∷ []) []
    enable_named E = go (list_any marked (map (λ (l : Literal). l.0) E)) (meets m E G Joined) (joined_meets E)
      where
        go : (a b : Bool) → a ≡ b → map (λ (t : ClaimName × Target). t.0) (cond b ((EnableName, Joined) ∷ []) []) ≡ cond a (EnableName ∷ []) []
        go true true e = refl
        go false false e = refl
        go true false e = absurd cc
        go false true e = absurd cc

    -- the names of the targets that meet the registers
    pub targets_named : (E : List Literal) → (marked_outputs marked 0 m.circuit.outputs ++ map NextName (filter (λ r. is_next_marked m marked (is_in G r) r) (registers_of m))) ++ cond (list_any marked (map (λ (l : Literal). l.0) E)) (EnableName ∷ []) [] ≡ map (λ (t : ClaimName × Target). t.0) (unseen_targets m E G)
    targets_named E =
        let P : ClaimName × Target → Bool = λ t. meets m E G t.1 in
        let outs = output_targets 0 m.circuit.outputs in
        let nexts : List (ClaimName × Target) = map (λ (r : ℕ). (NextName r, NextTarget r)) (registers_of m) in
        let last : List (ClaimName × Target) = (EnableName, Joined) ∷ [] in
        sym (ap (map (λ (t : ClaimName × Target). t.0)) (filter-append P (outs ++ nexts) last ∙ ap (λ l. l ++ filter P last) (filter-append P outs nexts))
        ∙ (map_append (λ (t : ClaimName × Target). t.0) (filter P outs ++ filter P nexts) (filter P last)
        ∙ (ap (λ l. l ++ map (λ (t : ClaimName × Target). t.0) (filter P last)) (map_append (λ (t : ClaimName × Target). t.0) (filter P outs) (filter P nexts))
        ∙ (ap (λ l. (l ++ map (λ (t : ClaimName × Target). t.0) (filter P nexts)) ++ map (λ (t : ClaimName × Target). t.0) (filter P last)) (outputs_named E 0 m.circuit.outputs)
        ∙ (ap (λ l. (marked_outputs marked 0 m.circuit.outputs ++ l) ++ map (λ (t : ClaimName × Target). t.0) (filter P last)) (nexts_named E (registers_of m))
        ∙ ap (λ l. (marked_outputs marked 0 m.circuit.outputs ++ map NextName (filter (λ r. is_next_marked m marked (is_in G r) r) (registers_of m))) ++ l) (enable_named E))))))

    -- the names as they are put together
    pub all_named : (E : List Literal) (first second third last : List ClaimName) (joined : Bool)
        → first ≡ [] → second ≡ first ++ marked_outputs marked 0 m.circuit.outputs → third ≡ second ++ map NextName (filter (λ r. is_next_marked m marked (is_in G r) r) (registers_of m))
        → joined ≡ list_any (λ (l : Literal). marked l.0) E → last ≡ third ++ cond joined (EnableName ∷ []) [] → last ≡ map (λ (t : ClaimName × Target). t.0) (unseen_targets m E G)
    all_named E first second third last joined none outs nexts is enables =
        let O : List ClaimName = marked_outputs marked 0 m.circuit.outputs in
        let N : List ClaimName = map NextName (filter (λ r. is_next_marked m marked (is_in G r) r) (registers_of m)) in
        enables ∙ (ap (λ l. l ++ cond joined (EnableName ∷ []) []) (nexts ∙ ap (λ l. l ++ N) (outs ∙ ap (λ l. l ++ O) none))
        ∙ (ap (λ b. (O ++ N) ++ cond b (EnableName ∷ []) []) (is ∙ mapped E) ∙ targets_named E))
      where
        mapped : (ls : List Literal) → list_any (λ (l : Literal). marked l.0) ls ≡ list_any marked (map (λ (l : Literal). l.0) ls)
        mapped [] = refl
        mapped (l ∷ ls) = ap (λ b. marked l.0 || b) (mapped ls)
