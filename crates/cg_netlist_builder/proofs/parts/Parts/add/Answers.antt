use Rattle.std.proofs.Common.{Bor, List, ℕ, map, refl}
use Rattle.std.proofs.lemmas.Result.{MatchResult-weaker}
use Rattle.cg_netlist.specs.declared.parts.LogicFunction.TheVariants.{Cell as PlacedCell, Cover as CoverFunction}
use Rattle.cg_netlist_builder.specs.Calls.{cell_of}
use Rattle.cg_netlist_builder.specs.declared.adding.PartWords.TheVariants.{Input as InputWord, Output as OutputWord, Clock as ClockWord, Cover, Placed}
use Rattle.cg_netlist_builder.specs.declared.adding.PartWords.TheVariants.{Gater, Register as RegisterWord}
use Rattle.cg_netlist_builder.specs.declared.parts.Parts.TheInside.{Inside}
use Rattle.cg_netlist_builder.specs.inner.Numbers.{Numbers}
use Rattle.cg_netlist_builder.specs.inner.Words.{gater_said, register_said}
use Rattle.cg_netlist_parts.specs.Part.{Clock, GaterPart, Input, Logic, Output}
use Rattle.cg_netlist_builder.proofs.Hearing.{hears_cell, hears_clock, hears_gater, hears_input, hears_output, hears_register}
use Rattle.cg_netlist_builder.proofs.Telling.{mention_fails, register_fails, said_by}
use Rattle.cg_netlist_builder.proofs.parts.Parts.add.Goals as goal

abbrev numbers : Inside → Numbers
numbers p = record { names = p.names; inputs = p.inputs; outputs = p.outputs; clocks = p.clocks; cells = p.cells.items; gaters = p.gaters.items; registers = p.registers.items }

pub returns-in-Input : goal.returns-in-Input
returns-in-Input c =
    let n = numbers c.self.inside in
    let call = c.add_net in
    let net = c.in-Input.net in
    said_by n c.args.self.now (record n { names = call.new.names; inputs = call.new.nets }) c.args.part (InputWord net) call.result c.self.view_is c.in-Input.is c.requires.numbers c.requires.registers
    (λ good few. MatchResult-weaker call.result call.ensures (λ x puts. hears_input n net.now call.new.names puts.mentioned.few good few call.new.nets puts) (λ f e. mention_fails n (Input net.now) f (λ s. refl) e))

pub returns-in-Output : goal.returns-in-Output
returns-in-Output c =
    let n = numbers c.self.inside in
    let call = c.add_net-in-Output in
    let net = c.in-Output.net in
    said_by n c.args.self.now (record n { names = call.new.names; outputs = call.new.nets }) c.args.part (OutputWord net) call.result c.self.view_is c.in-Output.is c.requires.numbers c.requires.registers
    (λ good few. MatchResult-weaker call.result call.ensures (λ x puts. hears_output n net.now call.new.names puts.mentioned.few good few call.new.nets puts) (λ f e. mention_fails n (Output net.now) f (λ s. refl) e))

pub returns-in-Clock : goal.returns-in-Clock
returns-in-Clock c =
    let n = numbers c.self.inside in
    let call = c.add_net-in-Clock in
    let net = c.in-Clock.net in
    said_by n c.args.self.now (record n { names = call.new.names; clocks = call.new.nets }) c.args.part (ClockWord net) call.result c.self.view_is c.in-Clock.is c.requires.numbers c.requires.registers
    (λ good few. MatchResult-weaker call.result call.ensures (λ x puts. hears_clock n net.now call.new.names puts.mentioned.few good few call.new.nets puts) (λ f e. mention_fails n (Clock net.now) f (λ s. refl) e))

pub returns-in-Cover : goal.returns-in-Cover
returns-in-Cover c =
    let n = numbers c.self.inside in
    let call = c.add_logic in
    let k = cell_of (map (λ (name : Bor (List ℕ)). name.now) c.in-Cover.inputs.now) c.in-Cover.output.now (CoverFunction c.in-Cover.cover) in
    said_by n c.args.self.now (record n { names = call.new.names; cells = call.new.cells.items }) c.args.part (Cover c.in-Cover.inputs c.in-Cover.output c.in-Cover.cover) call.result c.self.view_is c.in-Cover.is c.requires.numbers c.requires.registers
    (λ good few. MatchResult-weaker call.result call.ensures (λ x puts. hears_cell n call.new.names call.new.cells.items k good few puts) (λ f e. mention_fails n (Logic k) f (λ s. refl) e))

pub returns-in-Placed : goal.returns-in-Placed
returns-in-Placed c =
    let n = numbers c.self.inside in
    let call = c.add_placed in
    let k = cell_of (map (λ (name : Bor (List ℕ)). name.now) c.in-Placed.inputs.now) c.in-Placed.output.now (PlacedCell c.in-Placed.cell.now) in
    said_by n c.args.self.now (record n { names = call.new.names; cells = call.new.cells.items }) c.args.part (Placed c.in-Placed.cell c.in-Placed.inputs c.in-Placed.output) call.result c.self.view_is c.in-Placed.is c.requires.numbers c.requires.registers
    (λ good few. MatchResult-weaker call.result call.ensures (λ x puts. hears_cell n call.new.names call.new.cells.items k good few puts) (λ f e. mention_fails n (Logic k) f (λ s. refl) e))

pub returns-in-Gater : goal.returns-in-Gater
returns-in-Gater c =
    let n = numbers c.self.inside in
    let call = c.add_gater in
    let g = gater_said c.in-Gater.gater in
    said_by n c.args.self.now (record n { names = call.new.names; gaters = call.new.gaters.items }) c.args.part (Gater c.in-Gater.gater) call.result c.self.view_is c.in-Gater.is c.requires.numbers c.requires.registers
    (λ good few. MatchResult-weaker call.result call.ensures (λ x puts. hears_gater n call.new.names call.new.gaters.items g good few puts) (λ f e. mention_fails n (GaterPart g) f (λ s. refl) e))

pub returns-in-Register : goal.returns-in-Register
returns-in-Register c =
    let n = numbers c.self.inside in
    let call = c.add_register in
    let r = register_said c.in-Register.register in
    said_by n c.args.self.now (record n { names = call.new.names; registers = call.new.registers.items }) c.args.part (RegisterWord c.in-Register.register) call.result c.self.view_is c.in-Register.is c.requires.numbers c.requires.registers
    (λ good few. MatchResult-weaker call.result call.ensures (λ x puts. hears_register n call.new.names call.new.registers.items r good puts) (λ f e. register_fails n r f e))
