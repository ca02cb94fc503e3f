use Rattle.std.proofs.Common.{List, Some, refl, slice_get, sym, subst}
use Rattle.cg_netlist.specs.View.{register_seen}
use Rattle.cg_netlist_parts.specs.Part.{Part}
use Rattle.cg_netlist_telling.proofs.OwnPart.{own_part}
use Rattle.cg_netlist_telling.specs.Telling.{MayTell, WasTold}
use Rattle.cg_extract.proofs.extract.tell_on_clock.Goals as goal

pub tell_register-requires : goal.tell_register-requires
tell_register-requires c =
    subst (MayTell c.args.builder.now) (own_part c.args.names.now (Some c.args.clock) (slice_get c.args.netlist.now.registers c.args.reg) (register_seen c.register-register.result) c.args.clock c.register-register.ensures refl) c.requires.parts

pub returns : goal.returns
returns c =
    subst (λ (ps : List Part). WasTold c.args.builder.now ps c.tell_register.new.builder c.tell_register.result)
    (sym (own_part c.args.names.now (Some c.args.clock) (slice_get c.args.netlist.now.registers c.args.reg) (register_seen c.register-register.result) c.args.clock c.register-register.ensures refl)) c.tell_register.ensures
