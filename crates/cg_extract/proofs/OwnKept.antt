-- Gates that are added for gating cells stand behind the parts of the netlist without them.
use Rattle.std.proofs.Common.{ℕ, List, [], ◌∷◌, Option, None, Some, ◌∙◌, arith}
use Rattle.cg_cell.specs.declared.fit.FitKind.TheVariants.{And2}
use Rattle.cg_machine.specs.Machine.{MachineData}
use Rattle.cg_machine.proofs.OwnKept.{IsFront, Keeps, gate_keeps, named_start, onward, own_is_whole, stays}
use Rattle.cg_netlist.specs.Circuit.{Circuit, GatingCell}
use Rattle.cg_extract.specs.Laws.{HasOwn}
use Rattle.cg_extract.specs.Lifted.{Lifting, bare, by_depth, chained, enable_under, lift_each, lift_one, lifted, number_of}
use Rattle.cg_extract.specs.Lifted.{unlifted}

chained_keeps : (m : MachineData) (parent : Option ℕ) (enable : ℕ) → IsFront m → Keeps m (chained m parent enable).machine
chained_keeps m None enable front = stays m front
chained_keeps m (Some parent) enable front = gate_keeps m And2 (parent ∷ enable ∷ []) front

each_keeps : (c : Circuit) (l : Lifting) (gaters : List (GatingCell ℕ)) → IsFront l.machine → Keeps l.machine (lift_each c l gaters).machine
each_keeps c l [] front = stays l.machine front
each_keeps c l (g ∷ gaters) front =
    let one : Lifting = lift_one c l g in
    let first : Keeps l.machine one.machine = chained_keeps l.machine (enable_under l.enables g.clock) (number_of c g.enable) front in
    onward l.machine one.machine (lift_each c one gaters).machine first (each_keeps c one gaters first.front)

pub own_kept : (c : Circuit) (prefix : List ℕ) → HasOwn c prefix (lifted c prefix)
own_kept c prefix =
    let keeps = each_keeps c (unlifted c prefix) (by_depth c) (record { cells = omega arith; registers = omega arith }) in
    record { own = keeps.same ∙ own_is_whole (bare c) prefix; names = keeps.names (named_start (bare c) prefix); prefix = keeps.prefix }
