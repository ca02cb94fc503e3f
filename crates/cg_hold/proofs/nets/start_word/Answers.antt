use Rattle.std.proofs.Common.{ℕ, if◌then◌else◌, slice_index_or, sym, ◌∙◌, ap, subst, inl, inr}
use Rattle.cg_claim.proofs.DriversTell.{driver_tells}
use Rattle.cg_machine.specs.Machine.{MachineData}
use Rattle.cg_netlist.specs.Drivers.{IsDriver}
use Rattle.cg_netlist.specs.declared.driver.Driver.TheVariants.{Cell, Clock, Gater, Register}
use Rattle.cg_word.specs.Words.{word_not}
use Rattle.cg_hold.proofs.nets.start_word.Goals as goal

pub returns-then-inverted : goal.returns-then-inverted
returns-then-inverted c =
    let m : MachineData = c.args.machine.now in
    let word : ℕ = c.inverse.result in
    let state : ℕ → ℕ = λ r. slice_index_or c.args.state.now r 0 in
    let reg : ℕ = c.in-Register.reg in
    c.inverse.ensures
    ∙ (ap (λ n. word_not (state n)) c.number.ensures.number
    ∙ (ap (λ b. if b then word_not (state reg) else state reg) (sym c.if-inverted.true)
    ∙ sym (driver_tells m.circuit c.netlist-netlist.ensures.machine.well_formed.driven word_not 0 (λ _. word) state c.args.net (Register reg c.in-Register.inverted) c.in-Register.ensures)))

pub returns-else-inverted : goal.returns-else-inverted
returns-else-inverted c =
    let m : MachineData = c.args.machine.now in
    let word : ℕ = slice_index_or c.args.state.now c.number.result 0 in
    let state : ℕ → ℕ = λ r. slice_index_or c.args.state.now r 0 in
    let reg : ℕ = c.in-Register.reg in
    ap state c.number.ensures.number
    ∙ (ap (λ b. if b then word_not (state reg) else state reg) (sym c.if-inverted.false)
    ∙ sym (driver_tells m.circuit c.netlist-netlist.ensures.machine.well_formed.driven word_not 0 (λ _. word) state c.args.net (Register reg c.in-Register.inverted) c.in-Register.ensures))

pub returns-in-Clock : goal.returns-in-Clock
returns-in-Clock c =
    let m : MachineData = c.args.machine.now in
    let driven = c.netlist-netlist.ensures.machine.well_formed.driven in
    let net : ℕ = c.args.net in
    let state : ℕ → ℕ = λ r. slice_index_or c.args.state.now r 0 in
    elim c.in-Clock.is [
      | inl clock ↦ sym (driver_tells m.circuit driven word_not 0 (λ _. 0) state net Clock (subst (IsDriver m.circuit net) clock c.driver.ensures))
      | inr other ↦ elim other [
        | inl cell ↦ sym (driver_tells m.circuit driven word_not 0 (λ _. 0) state net (Cell cell.0) (subst (IsDriver m.circuit net) cell.1 c.driver.ensures))
        | inr gater ↦ sym (driver_tells m.circuit driven word_not 0 (λ _. 0) state net (Gater gater.0) (subst (IsDriver m.circuit net) gater.1 c.driver.ensures))
      ]
    ]
