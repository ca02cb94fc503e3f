use Rattle.std.proofs.Common.{◌≡◌, ℕ, arith, rules, subst, sym}
use Rattle.std.proofs.lemmas.Grind.{common_steps}
use Rattle.cg_cell.specs.Domain.{Stands}
use Rattle.cg_aig.specs.Aig.{aig_ops, constant_lit}
use Rattle.cg_aig.specs.AigLaws.{constant_stands}
use Rattle.cg_aig.proofs.list.Aig.constant.Goals as goal

pub returns-clause-stands : goal.returns-clause-stands
returns-clause-stands c =
    let e : c.of.result ≡ constant_lit c.args.bit = first_of (search rules, grind (arith, common_steps)) in
    subst (λ (a : ℕ). Stands aig_ops c.args.self.now c.args.self.now a (λ _. c.args.bit)) (sym e)
    (constant_stands c.args.self.now c.args.bit c.leaves.ensures.well_formed.sound)
