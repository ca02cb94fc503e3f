use Rattle.std.proofs.Common.{◌<◌, List, ℕ, length, sym, subst}
use Rattle.std.specs.List.{All}
use Rattle.cg_unroll.proofs.unroller.Unroller.unseen.Goals as goal

pub reach_with-requires-clause-asked : goal.reach_with-requires-clause-asked
reach_with-requires-clause-asked c =
    let m = c.args.machine.now in
    record {
      enables = c.requires.nets;
      follows = subst (λ (g : List ℕ). All (λ r. r < length m.circuit.registers) g) (sym c.guards.ensures) c.requires.guards;
      changes = subst (λ (g : List ℕ). All (λ r. r < length m.circuit.registers) g) (sym c.regs.ensures) c.requires.registers;
      sides = (c.target_part.ensures.there, c.target_part-2.ensures.there);
    }

pub build-requires-clause-asked : goal.build-requires-clause-asked
build-requires-clause-asked c =
    let m = c.args.machine.now in
    record {
      enables = c.requires.nets;
      follows = subst (λ (g : List ℕ). All (λ r. r < length m.circuit.registers) g) (sym c.guards.ensures) c.requires.guards;
      changes = subst (λ (g : List ℕ). All (λ r. r < length m.circuit.registers) g) (sym c.regs.ensures) c.requires.registers;
      sides = (c.target_part.ensures.there, c.target_part-2.ensures.there);
    }
