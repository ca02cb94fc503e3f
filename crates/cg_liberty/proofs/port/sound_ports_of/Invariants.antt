use Rattle.std.proofs.Common.{◌≡◌, drop}
use Rattle.cg_liberty.specs.Port.{sound_ports}
use Rattle.cg_liberty.proofs.SoundPorts.{prepended}
use Rattle.cg_liberty.proofs.port.sound_ports_of.Given as goal

abbrev pub invariant-pins : goal.invariant-pins
invariant-pins l = prepended l.ports (sound_ports (drop l.pin-index l.pins)) ≡ sound_ports l.pins
