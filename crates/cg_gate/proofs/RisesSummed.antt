-- The rises of registers sum up to edges: a netlist has one history on which a stimulus is played.
use Rattle.std.proofs.Common.{◌≡◌, ℕ, List, Option, None, Some, refl, sym, ap, ◌∙◌}
use Rattle.std.specs.Prelude.{sum}
use Rattle.cg_gate.specs.Played.{EdgesAre, HasEdges, SumUp}
use Rattle.cg_netlist.proofs.Histories.{has_one_history}
use Rattle.cg_netlist.specs.Circuit.{Circuit}
use Rattle.cg_netlist.specs.History.{Moment, edges}
use Rattle.cg_netlist.specs.WellFormed.{IsWellFormed}
use Rattle.cg_plan_text.specs.declared.summary.Edges.{Edges}
use Rattle.cg_register_text.proofs.EdgesRisen.{rises_are_edges}
use Rattle.cg_register_text.specs.Rises.{HasRises, RisesWhere, rises_of}
use Rattle.cg_register_text.specs.declared.rises.BothRises.{BothRises}
use Rattle.cg_stimulus.proofs.Playing.{start_is, wave_is}
use Rattle.cg_stimulus.specs.Inputs.{IsFor, IsStimulus, Rows}
use Rattle.cg_stimulus.specs.Played.{IsPlayed, played_start, played_wave}

-- the rises and the edges are of one history
one_sum : (c : Circuit) → IsWellFormed c → (stimulus : Rows) → IsStimulus stimulus → IsFor c stimulus → (rises : List ℕ) → HasRises c stimulus.rows rises → (count : ℕ) → HasEdges c stimulus.rows count → sum rises ≡ count
one_sum c formed stimulus good for' rises risen count counted =
    let same : risen.history ≡ counted.history =
    has_one_history c formed (played_start c) (played_wave c stimulus.rows) (start_is c) (wave_is c stimulus good for') risen.history counted.history risen.played counted.played in
    ap sum risen.counted ∙ (rises_are_edges c risen.history ∙ (ap (edges c) same ∙ sym counted.counted))

module _ (read written : Circuit) (read_formed : IsWellFormed read) (written_formed : IsWellFormed written) where
  pub sum_up : (stimulus : Option Rows) → ((rows : Rows) → stimulus ≡ Some rows → IsStimulus rows × IsFor read rows × IsFor written rows) → (rises : Option BothRises) → RisesWhere stimulus read written rises
      → (both : Option Edges) → EdgesAre stimulus read written both → SumUp rises both
  sum_up None fit None risen None counted = tt
  sum_up None fit None risen (Some both) counted = absurd (cc)
  sum_up None fit (Some rises) risen both counted = absurd (cc)
  sum_up (Some stimulus) fit None risen both counted = absurd risen
  sum_up (Some stimulus) fit (Some rises) risen None counted = absurd counted
  sum_up (Some stimulus) fit (Some rises) risen (Some both) counted =
      let its = fit stimulus refl in (
        one_sum read read_formed stimulus its.0 its.1 rises.original risen.before both.original counted.before,
        one_sum written written_formed stimulus its.0 its.2 rises.written risen.after both.written counted.after,
      )

-- where a stimulus is played on both netlists, their registers rise somehow
pub rise_somehow : (read written : Circuit) (stimulus : Rows) → (history : List Moment) × IsPlayed read stimulus.rows history → (history : List Moment) × IsPlayed written stimulus.rows history
    → (rises : Option BothRises) × RisesWhere (Some stimulus) read written rises
rise_somehow read written stimulus before after = (
  Some (record { original = rises_of read before.0; written = rises_of written after.0 }),
  record { before = record { history = before.0; played = before.1; counted = refl }; after = record { history = after.0; played = after.1; counted = refl } },
)
