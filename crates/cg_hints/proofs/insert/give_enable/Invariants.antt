use Rattle.std.proofs.Common.{◌≡◌, drop}
use Rattle.cg_stage_laws.specs.Joined.{enabled}
use Rattle.cg_hints.proofs.insert.give_enable.Given as goal

abbrev pub invariant-loop-reg : goal.invariant-loop-reg
invariant-loop-reg l = record {
  left : enabled (record { machine = l.machine; net = l.net }) (drop l.reg-index l.regs) ≡ enabled (record { machine = l.fn.machine; net = l.net }) l.regs;
  own : l.machine.own_registers ≡ l.fn.machine.own_registers;
  circuit : l.machine.circuit ≡ l.fn.machine.circuit;
}
