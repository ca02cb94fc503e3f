use Rattle.std.proofs.Common.{◌≡◌, true, false, refl, subst, ◌∙◌}
use Rattle.cg_netlist.specs.WellFormed.{IsWellFormed}
use Rattle.cg_edge.specs.Simulated.{Simulated, Ticks}
use Rattle.cg_edge.specs.inner.Kept.{moment_of, present_at}
use Rattle.cg_edge.proofs.Shown.{shows_on}
use Rattle.cg_edge.proofs.simulator.Simulator.tick.Goals as goal

pub invariant_of-self : goal.invariant_of-self
invariant_of-self c =
    let k = c.self.invariant in
    record {
      scheduled = k.scheduled;
      started = k.started;
      fit = c.advance.ensures.bits;
      marks_long = c.advance.ensures.marks ∙ k.marks_long;
      marked = c.advance.ensures.marked;
      shown = λ ticked. (c.advance.ensures.follows c.self.inside.start.items (λ none. (k.first none).state)).nets.shows_state;
      first = λ none. absurd (let no_tick : true ≡ false = none in cc);
    }

pub returns-clause-ticks : goal.returns-clause-ticks
returns-clause-ticks c =
    let s = c.self.inside in
    let bits = c.advance.new.bits in
    let new : Simulated = record { circuit = s.schedule.netlist.now; start = s.start.items; present = present_at true bits; rose = bits.rose.items } in
    subst (λ (old : Simulated). Ticks old new (record { clock = c.args.clock; inputs = c.args.inputs.now })) c.self.view_is (record {
      circuit = refl;
      start = refl;
      now = moment_of bits;
      present = refl;
      follows = c.advance.ensures.follows s.start.items (λ none. (c.self.invariant.first none).state);
      rose = c.advance.ensures.rose;
    })

pub returns-clause-shows : goal.returns-clause-shows
returns-clause-shows c =
    let s = c.self.inside in
    let bits = c.advance.new.bits in
    let new : Simulated = record { circuit = s.schedule.netlist.now; start = s.start.items; present = present_at true bits; rose = bits.rose.items } in
    shows_on c.args.self.now new (record { clock = c.args.clock; inputs = c.args.inputs.now }) (subst (λ (old : Simulated). IsWellFormed old.circuit) c.self.view_is c.self.invariant.scheduled.netlist.well_formed) c.requires (returns-clause-ticks c)
