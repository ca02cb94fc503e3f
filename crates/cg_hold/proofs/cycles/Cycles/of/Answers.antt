use Rattle.std.proofs.Common.{◌≡◌, ℕ, List, length, sym, ◌∙◌, ap, subst}
use Rattle.std.proofs.lemmas.List.{with_items_is}
use Rattle.cg_machine.specs.Machine.{MachineData, walk_of}
use Rattle.cg_hold.proofs.Cycled.{cycles_made}
use Rattle.cg_hold.specs.declared.cycles.CycleWords.{CycleWords}
use Rattle.cg_hold.specs.inner.Cycles.{AreCycles}
use Rattle.cg_hold.specs.inner.Laying.{AreMoves, IsStart, Lays}
use Rattle.cg_hold.proofs.cycles.Cycles.of.Goals as goal

pub returns : goal.returns
returns c =
    let m : MachineData = c.args.machine.now in
    let state : List ℕ = c.in_ok-state.state.items in
    let start : List ℕ = c.in_ok-nets.nets.items in
    let nets : List ℕ = c.lay_cells.new.words in
    let starts : IsStart m state start = subst (λ s. IsStart m s start) c.deref.ensures.value c.in_ok-nets.ensures in
    let laid : Lays (walk_of m) start nets = subst (λ old. Lays (walk_of m) old nets) c.deref_mut.ensures.value c.lay_cells.ensures in
    let filled = with_items_is c.in_ok-nets.nets nets (c.lay_cells.auto.words ∙ c.deref_mut.ensures.len) in
    let moved : AreMoves m state nets c.in_ok-moves.moves.items =
    subst (λ ns. AreMoves m state ns c.in_ok-moves.moves.items) (c.deref-3.ensures.value ∙ filled) (subst (λ s. AreMoves m s c.deref-3.result.now c.in_ok-moves.moves.items) c.deref-2.ensures.value c.in_ok-moves.ensures) in
    let long : length state ≡ length m.circuit.registers = c.in_ok-state.ensures ∙ c.registers.ensures in
    subst (λ (words : CycleWords). AreCycles m words)
    (ap (λ ns. record { nets = ns; moves = c.in_ok-moves.moves.items }) (sym (c.from_vec.ensures ∙ filled)) ∙ ap (λ (ms : List ℕ). record { nets = c.from_vec.result; moves = ms }) (sym c.from_vec-2.ensures))
    (cycles_made m c.netlist-netlist.ensures.machine state start nets c.in_ok-moves.moves.items long starts laid moved)
