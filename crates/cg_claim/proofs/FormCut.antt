-- One copy of a machine, of which the nets of a cut are given and the cells behind them are left out, is built as it is: the values of
-- the nets of the cut stand for their bits, and so do those that are laid.
use Rattle.std.proofs.Common.{◌≡◌, ℕ, zero, suc, Bool, true, false, not, ◌||◌, cond, if◌then◌else◌, List, [], ◌∷◌, nat_eq, IsTrue}
use Rattle.std.proofs.Common.{slice_get, Option, None, Some, refl, sym, ◌∙◌, ap, subst, inl, inr}
use Rattle.std.specs.List.{filter}
use Rattle.std.proofs.lemmas.Bool.{both_ways, cases_Bool, eqb-true, not_from_false}
use Rattle.std.proofs.lemmas.Option.{none-some}
use Rattle.cg_cell.specs.Domain.{Seen}
use Rattle.cg_net.specs.NetSets.{is_in}
use Rattle.cg_netlist.specs.Circuit.{LogicCell, cell_nets, data_inputs}
use Rattle.cg_netlist.specs.Moment.{bit}
use Rattle.cg_netlist.specs.Nets.{IsOrdered, beside, outputs}
use Rattle.cg_netlist_cone.specs.Cone.{cone_of}
use Rattle.cg_netlist_cone.proofs.Cones.{cone_closed}
use Rattle.cg_machine.specs.Machine.{IsInputs, IsMachine, IsState, MachineData, values, walk_of}
use Rattle.cg_claim.specs.Build.{Values, lay, start_nets}
use Rattle.cg_claim.specs.Reach.{feeds}
use Rattle.cg_claim.specs.declared.leaf.Leaf.{Leaf}
use Rattle.cg_claim.specs.declared.leaf.LeafSource.TheVariants.{Input}
use Rattle.cg_claim.specs.form.Build.{leaf_value, cut_start, reached_cells}
use Rattle.cg_claim.specs.form.Leaves.{is_cut}
use Rattle.cg_claim.specs.form.Reach.{cut_walk}
use Rattle.cg_claim.proofs.CellsLaid.{IsFit, Laid, lay_holds}
use Rattle.cg_claim.proofs.Goal.{copy_holds}
use Rattle.cg_claim.proofs.GivenNets.{are_terms, bits_given, given_same, given_valid, shown_feeds}

-- cells that pass a test, in their order
kept_at : (test : LogicCell ℕ → Bool) (cells : List (LogicCell ℕ)) (j : ℕ) (cell : LogicCell ℕ) → slice_get (filter test cells) j ≡ Some cell → (k : ℕ) × (slice_get cells k ≡ Some cell)
kept_at test [] j cell at = absurd (none-some cell at)
kept_at test (c ∷ cells) j cell at = go (λ i. kept_at test cells i cell) (test c) j at
  where
    go : ((i : ℕ) → slice_get (filter test cells) i ≡ Some cell → (k : ℕ) × (slice_get cells k ≡ Some cell))
        → (b : Bool) (j : ℕ) → slice_get (cond b (c ∷ filter test cells) (filter test cells)) j ≡ Some cell → (k : ℕ) × (slice_get (c ∷ cells) k ≡ Some cell)
    go known true zero h = (0, h)
    go known true (suc j) h = let r = known j h in (suc r.0, r.1)
    go known false j h = let r = known j h in (suc r.0, r.1)

both_off : (a b : Bool) → (a || b) ≡ false → (a ≡ false) × (b ≡ false)
both_off true b h = absurd (both_ways true h refl)
both_off false b h = (refl, h)

none_kept : (test : LogicCell ℕ → Bool) (cells : List (LogicCell ℕ)) (x : ℕ) → is_in (outputs cells) x ≡ false → is_in (outputs (filter test cells)) x ≡ false
none_kept test [] x out = refl
none_kept test (c ∷ cells) x out = go (none_kept test cells x) (test c)
  where
    parts : (nat_eq x c.output ≡ false) × (is_in (outputs cells) x ≡ false)
    parts = both_off (nat_eq x c.output) (is_in (outputs cells) x) out

    go : (is_in (outputs cells) x ≡ false → is_in (outputs (filter test cells)) x ≡ false) → (b : Bool) → is_in (outputs (cond b (c ∷ filter test cells) (filter test cells))) x ≡ false
    go known true = ap (λ b. b || is_in (outputs (filter test cells)) x) parts.0 ∙ known parts.1
    go known false = known parts.1

ordered_kept : (test : LogicCell ℕ → Bool) (cells : List (LogicCell ℕ)) → IsOrdered cells → IsOrdered (filter test cells)
ordered_kept test [] ordered = tt
ordered_kept test (c ∷ cells) ordered = go (ordered_kept test cells ordered.1) (test c)
  where
    go : IsOrdered (filter test cells) → (b : Bool) → IsOrdered (cond b (c ∷ filter test cells) (filter test cells))
    go known true = (
      (λ x among.
          let parts = both_off (nat_eq x c.output) (is_in (outputs cells) x) (ordered.0 x among) in
          ap (λ b. b || is_in (outputs (filter test cells)) x) parts.0 ∙ none_kept test cells x parts.1),
      known,
    )
    go known false = known

-- what is no output of the cells that are kept is none of all, unless it is left out
none_left : (test : ℕ → Bool) (cells : List (LogicCell ℕ)) (x : ℕ) → test x ≡ true → is_in (outputs (filter (λ cell. test cell.output) cells)) x ≡ false → is_in (outputs cells) x ≡ false
none_left test [] x passes out = refl
none_left test (c ∷ cells) x passes out = go (none_left test cells x passes) (nat_eq x c.output) refl (test c.output) refl out
  where
    go : (is_in (outputs (filter (λ cell. test cell.output) cells)) x ≡ false → is_in (outputs cells) x ≡ false) → (e : Bool) → nat_eq x c.output ≡ e → (b : Bool) → test c.output ≡ b → is_in (outputs (cond b (c ∷ filter (λ cell. test cell.output) cells) (filter (λ cell. test cell.output) cells))) x ≡ false → (e || is_in (outputs cells) x) ≡ false
    go known true same true is h = absurd (both_ways true (ap (λ b. b || is_in (outputs (filter (λ cell. test cell.output) cells)) x) (sym same) ∙ h) refl)
    go known true same false is h = absurd (both_ways (test c.output) is (subst (λ y. test y ≡ true) (eqb-true x c.output same) passes))
    go known false other true is h = known ((both_off (nat_eq x c.output) (is_in (outputs (filter (λ cell. test cell.output) cells)) x) h).1)
    go known false other false is h = known h

module _ (d : Values) (bits : List Bool) (fit : IsFit d bits) (m : MachineData) (good : IsMachine m) where
  -- one copy
  pub copy_cut : (cut : Option (List ℕ)) (roots : List ℕ) (u : Seen) (leaves : List Leaf) (copy : ℕ) (input states : ℕ → ℕ) (st xs : List Bool) → IsState m st → IsInputs m xs → IsTrue (d.ops.is_sound u)
      → ((y : ℕ) → IsTrue (d.ops.is_valid u (leaf_value d leaves copy (Input y))))
      → ((y : ℕ) → is_cut cut y ≡ true → is_in (cone_of (cut_walk m cut) roots) y ≡ true → d.ops.bit u bits (leaf_value d leaves copy (Input y)) ≡ bit (values m st xs) y)
      → ((y : ℕ) → IsTrue (d.ops.is_valid u (input y))) → ((r : ℕ) → IsTrue (d.ops.is_valid u (states r)))
      → ((y : ℕ) → is_in (data_inputs m.circuit) y ≡ true → is_in (cone_of (cut_walk m cut) roots) y ≡ true → d.ops.bit u bits (input y) ≡ beside false (data_inputs m.circuit) xs y)
      → ((r : ℕ) → feeds m (cone_of (cut_walk m cut) roots) r ≡ true → d.ops.bit u bits (states r) ≡ bit st r)
      → Laid d.ops bits (is_in (cone_of (cut_walk m cut) roots)) (bit (values m st xs)) u (lay d (reached_cells m cut (cone_of (cut_walk m cut) roots)) (record { domain = u; at = cut_start d m cut leaves copy (start_nets d m input states) }))
  copy_cut None roots u leaves copy input states st xs state_long inputs_long sound past_valid past inputs_valid states_valid ins sts =
      copy_holds d bits fit m good roots u input states st xs state_long inputs_long sound inputs_valid states_valid ins sts
  copy_cut (Some cut) roots u leaves copy input states st xs state_long inputs_long sound past_valid past inputs_valid states_valid ins sts =
      let walk : List (LogicCell ℕ) = cut_walk m (Some cut) in
      let ordered : IsOrdered walk = ordered_kept (λ cell. not (is_in cut cell.output)) (walk_of m) good.walk.ordered in
      lay_holds d bits fit walk (is_in (cone_of walk roots)) (bit (values m st xs)) (record { domain = u; at = cut_start d m (Some cut) leaves copy (start_nets d m input states) })
      (λ j cell at. let k = kept_at (λ cell. not (is_in cut cell.output)) (walk_of m) j cell at in are_terms m good st xs state_long inputs_long k.0 cell k.1)
      ordered (cone_closed walk roots ordered)
      (λ y. choose_valid y (is_in cut y))
      (λ y among out. choose y among out (is_in cut y) refl)
    where
      given_ok : (y : ℕ) → IsTrue (d.ops.is_valid u (start_nets d m input states y))
      given_ok = given_valid d bits fit u m.circuit input states (fit.zero.has u sound) inputs_valid (λ r. (d.ops.bit u bits (states r), record { valid = states_valid r; bit = refl }))

      choose_valid : (y : ℕ) (b : Bool) → IsTrue (d.ops.is_valid u (if b then leaf_value d leaves copy (Input y) else start_nets d m input states y))
      choose_valid y true = past_valid y
      choose_valid y false = given_ok y

      no_cell : (y : ℕ) → is_in cut y ≡ false → is_in (outputs (cut_walk m (Some cut))) y ≡ false → is_in (cell_nets m.circuit) y ≡ false
      no_cell y free out = elim (cases_Bool (is_in (cell_nets m.circuit) y)) [
        | inl cell ↦ absurd (both_ways (is_in (outputs (walk_of m)) y) (none_left (λ x. not (is_in cut x)) (walk_of m) y (not_from_false (is_in cut y) free) out) (good.walk.whole y cell))
        | inr none ↦ none
      ]

      choose : (y : ℕ) → is_in (cone_of (cut_walk m (Some cut)) roots) y ≡ true → is_in (outputs (cut_walk m (Some cut))) y ≡ false → (b : Bool) → is_in cut y ≡ b
          → d.ops.bit u bits (if b then leaf_value d leaves copy (Input y) else start_nets d m input states y) ≡ bit (values m st xs) y
      choose y among out true is = past y is among
      choose y among out false is =
          given_same d bits fit u m.circuit input states (beside false (data_inputs m.circuit) xs) (bit st) y (fit.zero.has u sound)
          (λ here. ins y here among)
          (λ p by. record { valid = states_valid p.0; bit = sts p.0 (shown_feeds m (cone_of (cut_walk m (Some cut)) roots) y p among by) })
          ∙ sym (bits_given m good st xs state_long inputs_long y (no_cell y is out))
