use Rattle.std.proofs.Common.{◌≡◌, drop}
use Rattle.cg_liberty.specs.Kinds.{inverses_read, output_texts}
use Rattle.cg_liberty.proofs.Readings.{behind}
use Rattle.cg_liberty.proofs.flop.read_inverses.Given as goal

abbrev pub invariant-ports : goal.invariant-ports
invariant-ports l = behind l.inverses (inverses_read l.states (output_texts (drop l.port-index l.ports))) ≡ inverses_read l.states (output_texts l.ports)
