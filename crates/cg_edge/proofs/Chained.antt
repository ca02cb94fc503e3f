-- Gating cells that are driven one after another, each behind the one that drives its clock pin.
use Rattle.std.proofs.Common.{◌≡◌, ◌≢◌, ℕ, ◌+◌, ◌<◌, inl, inr, Bool, true, false, ◌&&◌, List, length, slice_get, slice_index_or}
use Rattle.std.proofs.Common.{slice_set, Option, None, Some, refl, sym, ◌∙◌, ap, subst, arith}
use Rattle.std.specs.Option.{option_map_or, option_to_list}
use Rattle.std.proofs.lemmas.Bool.{both_ways, cases_Bool}
use Rattle.std.proofs.lemmas.List.{length-set}
use Rattle.std.proofs.lemmas.Option.{get_or_from_slice_get, same_Some, unwrap_or-slice_get, slice_get_within}
use Rattle.cg_netlist.specs.Circuit.{Circuit, GatingCell, clock_nets, gater_outputs}
use Rattle.cg_net.specs.NetSets.{is_in}
use Rattle.cg_netlist.specs.Moment.{bit}
use Rattle.cg_netlist.specs.WellFormed.{IsWellFormed}
use Rattle.cg_netlist.proofs.Given.{clock_no_gater, distinct_gaters, from_option}
use Rattle.cg_net.proofs.Members.{is_in_left, is_in_right, one_place}
use Rattle.cg_net.proofs.TableLemmas.{same_or_not, slice_get-set_other, slice_get-set_same}
use Rattle.cg_netlist.proofs.Values.{at_map}
use Rattle.cg_edge.specs.inner.Keeping.{AreDriven, IsChain, SameBut, ShowClocks}
use Rattle.cg_edge.proofs.Facts.{gater_among, gater_output}

-- bits of equal places
pub same_bit : (vs ws : List Bool) (x : ℕ) → slice_get vs x ≡ slice_get ws x → bit vs x ≡ bit ws x
same_bit vs ws x same = sym (unwrap_or-slice_get vs x false) ∙ (ap (λ o. Rattle.std.specs.Prelude.unwrap_or o false) same ∙ unwrap_or-slice_get ws x false)

pub bit_set : (nets : List Bool) (x : ℕ) (b : Bool) → x < length nets → bit (slice_set nets x b) x ≡ b
bit_set nets x b below = get_or_from_slice_get (slice_set nets x b) x b false (slice_get-set_same nets x b below)

pub bit_other : (nets : List Bool) (x y : ℕ) (b : Bool) → y ≢ x → bit (slice_set nets x b) y ≡ bit nets y
bit_other nets x y b differ = same_bit (slice_set nets x b) nets y (slice_get-set_other nets x y b differ)

-- a write at one of the nets
pub same_set : (touched : List ℕ) (old cur : List Bool) (x : ℕ) (b : Bool) → SameBut touched old cur → is_in touched x ≡ true → SameBut touched old (slice_set cur x b)
same_set touched old cur x b same among = record {
  long = length-set cur x b ∙ same.long;
  same = λ y apart. slice_get-set_other cur x y b (λ e. both_ways (is_in touched x) (ap (is_in touched) (sym e) ∙ apart) among) ∙ same.same y apart;
}

module _ (c : Circuit) (good : IsWellFormed c) (chain : List ℕ) (chained : IsChain c chain) (latches : List Bool) where
  pub driven_more : (cur : List Bool) (i k : ℕ) (a : GatingCell ℕ) → length cur ≡ length c.names → AreDriven c chain latches cur i → slice_get chain i ≡ Some k → slice_get c.gaters k ≡ Some a
      → AreDriven c chain latches (slice_set cur a.output (slice_index_or latches k false && bit cur a.clock)) (i + 1)
  driven_more cur i k a long driven here at j l b below there placed =
      let v : Bool = slice_index_or latches k false && bit cur a.clock in
      let own : bit (slice_set cur a.output v) a.output ≡ (slice_index_or latches k false && bit (slice_set cur a.output v) a.clock) =
      bit_set cur a.output v (gater_output c good k a at (length cur) long)
      ∙ ap (λ p. slice_index_or latches k false && p) (sym (bit_other cur a.output a.clock v (chained.ordered i i k k a a (omega arith) here here at at))) in
      elim (same_or_not l k) [
        | inl e ↦
            let same : a ≡ b = same_Some a b (sym at ∙ (ap (slice_get c.gaters) (sym e) ∙ placed)) in
            subst (λ (g : GatingCell ℕ). bit (slice_set cur a.output v) g.output ≡ (slice_index_or latches l false && bit (slice_set cur a.output v) g.clock)) same
            (subst (λ n. bit (slice_set cur a.output v) a.output ≡ (slice_index_or latches n false && bit (slice_set cur a.output v) a.clock)) (sym e) own)
        | inr differ ↦
            let earlier : j < i = elim (same_or_not j i) [
              | inl e ↦ absurd (differ (same_Some l k (sym there ∙ (ap (slice_get chain) e ∙ here))))
              | inr e ↦ omega (arith, e)
            ] in
            let outputs : b.output ≢ a.output = λ e. differ (one_place (gater_outputs c) l k a.output (distinct_gaters c good.driven) (at_map (λ (g : GatingCell ℕ). g.output) c.gaters l b placed ∙ ap (λ x. Some x) e) (at_map (λ (g : GatingCell ℕ). g.output) c.gaters k a at)) in
            bit_other cur a.output b.output v outputs
            ∙ (driven j l b earlier there placed
            ∙ ap (λ p. slice_index_or latches l false && p) (sym (bit_other cur a.output b.clock v (chained.ordered j i l k b a (omega arith) there here placed at))))
      ]

  -- all gating cells are driven, and the clock is no output of one
  pub clocks_shown : (clock : Bool) (old mid new : List Bool) → length old ≡ length c.names → mid ≡ option_map_or (λ net. slice_set old net clock) c.clock old
      → SameBut (gater_outputs c) mid new → AreDriven c chain latches new (length chain) → ShowClocks c clock latches new × SameBut (clock_nets c) old new
  clocks_shown clock old mid new long is_mid same driven = (
    record {
      on_clock = λ net is.
          same_bit new mid net (same.same net (clock_no_gater c good.driven net is))
          ∙ (ap (λ m. bit m net) (set net is) ∙ bit_set old net clock (Rattle.cg_edge.proofs.Facts.clock_net_within c good (length old) long net (is_in_left (option_to_list c.clock) (gater_outputs c) net (from_option c.clock net is))));
      on_gaters = λ k a at. let j = chained.placed k (slice_get_within c.gaters k a at) in driven j.0 k a (slice_get_within chain j.0 k j.1) j.1 at;
    },
    go c.clock refl,
  )
    where
      set : (net : ℕ) → c.clock ≡ Some net → mid ≡ slice_set old net clock
      set net is = is_mid ∙ ap (λ o. option_map_or (λ net. slice_set old net clock) o old) is

      none : c.clock ≡ None → mid ≡ old
      none is = is_mid ∙ ap (λ o. option_map_or (λ net. slice_set old net clock) o old) is

      -- what is apart from the clock nets is apart from the gating cells' outputs
      apart_gaters : (x : ℕ) → is_in (clock_nets c) x ≡ false → is_in (gater_outputs c) x ≡ false
      apart_gaters x apart = elim (cases_Bool (is_in (gater_outputs c) x)) [
        | inl among ↦ absurd (both_ways (is_in (clock_nets c) x) apart (is_in_right (option_to_list c.clock) (gater_outputs c) x among))
        | inr out ↦ out
      ]

      go : (o : Option ℕ) → c.clock ≡ o → SameBut (clock_nets c) old new
      go None is = record { long = same.long ∙ ap length (none is); same = λ x apart. same.same x (apart_gaters x apart) ∙ ap (λ m. slice_get m x) (none is) }
      go (Some net) is = record {
        long = same.long ∙ (ap length (set net is) ∙ length-set old net clock);
        same = λ x apart. same.same x (apart_gaters x apart) ∙ (ap (λ m. slice_get m x) (set net is)
            ∙ slice_get-set_other old net x clock (λ e. both_ways (is_in (clock_nets c) net) (ap (is_in (clock_nets c)) (sym e) ∙ apart) (is_in_left (option_to_list c.clock) (gater_outputs c) net (from_option c.clock net is))));
      }
