use Rattle.std.proofs.Common.{◌≡◌, ◌+◌, ◌≤◌, true, false, length, ap, ◌∙◌, ◌++◌, List, Bool, take, drop, subst, refl, arith}
use Rattle.cg_netlist.specs.Circuit.{data_inputs}
use Rattle.cg_report.specs.Place.{Place, Plays}
use Rattle.cg_report.specs.declared.player.Next.TheVariants.{Low, High, Ended}
use Rattle.cg_report.specs.inner.Playing.{left_of}
use Rattle.cg_report.proofs.PlayedOn.{plays_on, high_left, low_left, end_left, row_padded, take_front}
use Rattle.cg_report.proofs.player.Player.step.Goals as goal

pub returns-in-High : goal.returns-in-High
returns-in-High c =
    let inside = c.self.inside in
    let width = length (data_inputs inside.simulator.circuit) in
    let wide = length (data_inputs c.play.new.simulator.circuit) in
    let same : wide ≡ width = ap (λ d. length (data_inputs d)) c.play.ensures.ticks.circuit in
    let rows = inside.stimulus.now.rows in
    let old : Place = record { simulated = inside.simulator; rows = rows; left = left_of width inside.next inside.inputs.items inside.row rows; edges = inside.edges } in
    let new : Place = record { simulated = c.play.new.simulator; rows = rows; left = left_of wide Low inside.inputs.items (inside.row + 1) rows; edges = inside.edges + c.play.result } in
    record {
      steps = subst (λ place. Plays place new) c.self.view_is
          (plays_on old new (record { clock = true; inputs = c.deref.result.now }) c.play.ensures.ticks c.play.ensures.shows refl
          (high_left width wide inside.next inside.inputs.items c.deref.result.now inside.row rows c.in-High.is same c.deref.ensures.value)
          (ap (λ n. inside.edges + n) c.play.ensures.rises));
    }

pub returns-in-Low : goal.returns-in-Low
returns-in-Low c =
    let inside = c.self.inside in
    let width = length (data_inputs inside.simulator.circuit) in
    let wide = length (data_inputs c.play-in-Low.new.simulator.circuit) in
    let same : wide ≡ width = ap (λ d. length (data_inputs d)) c.play-in-Low.ensures.ticks.circuit in
    let rows = inside.stimulus.now.rows in
    let bits = c.row.result.now in
    let filled : List Bool = take inside.inputs.len (c.set_row.new.inputs ++ drop (length c.set_row.new.inputs) inside.inputs.items) in
    let long : length c.set_row.new.inputs ≡ inside.inputs.len = c.set_row.ensures.long ∙ c.deref_mut.ensures.len in
    let whole : filled ≡ c.set_row.new.inputs = take_front inside.inputs.len c.set_row.new.inputs (drop (length c.set_row.new.inputs) inside.inputs.items) long in
    let old : Place = record { simulated = inside.simulator; rows = rows; left = left_of width inside.next inside.inputs.items inside.row rows; edges = inside.edges } in
    let new : Place = record { simulated = c.play-in-Low.new.simulator; rows = rows; left = left_of wide High filled inside.row rows; edges = inside.edges + c.play-in-Low.result } in
    record {
      steps = subst (λ place. Plays place new) c.self.view_is
          (plays_on old new (record { clock = false; inputs = c.deref-in-Low.result.now }) c.play-in-Low.ensures.ticks c.play-in-Low.ensures.shows refl
          (low_left width wide inside.next inside.inputs.items filled c.deref-in-Low.result.now bits inside.row rows c.in-Low.is same c.deref-in-Low.ensures.value
          (whole ∙ row_padded inside.inputs.items bits c.set_row.new.inputs (length inside.stimulus.now.inputs) width (c.set_row.ensures.filled ∙ ap (λ xs. bits ++ drop (length bits) xs) c.deref_mut.ensures.value) c.row.ensures.wide c.self.invariant.zeros)
          c.row.ensures.bits)
          (ap (λ n. inside.edges + n) c.play-in-Low.ensures.rises));
    }

pub returns-in-Low-2 : goal.returns-in-Low-2
returns-in-Low-2 c =
    let inside = c.self.inside in
    let width = length (data_inputs inside.simulator.circuit) in
    let wide = length (data_inputs c.play-in-Low-2.new.simulator.circuit) in
    let rows = inside.stimulus.now.rows in
    let past : length rows ≤ inside.row = omega (arith, c.if-self-rows.false, c.rows.ensures.count) in
    let old : Place = record { simulated = inside.simulator; rows = rows; left = left_of width inside.next inside.inputs.items inside.row rows; edges = inside.edges } in
    let new : Place = record { simulated = c.play-in-Low-2.new.simulator; rows = rows; left = left_of wide Ended inside.inputs.items inside.row rows; edges = inside.edges + c.play-in-Low-2.result } in
    record {
      steps = subst (λ place. Plays place new) c.self.view_is
          (plays_on old new (record { clock = false; inputs = c.deref-in-Low-2.result.now }) c.play-in-Low-2.ensures.ticks c.play-in-Low-2.ensures.shows refl
          (end_left width wide inside.next inside.inputs.items c.deref-in-Low-2.result.now inside.row rows c.in-Low-2.is c.deref-in-Low-2.ensures.value past)
          (ap (λ n. inside.edges + n) c.play-in-Low-2.ensures.rises));
    }
