use Rattle.std.proofs.Common.{◌≡◌, ◌<◌, length, map, sym, ◌∙◌, ap, subst}
use Rattle.std.specs.List.{All}
use Rattle.std.specs.declared.alloc.Global.{Global}
use Rattle.std.specs.declared.vec.Vec.{Vec}
use Rattle.cg_claim.specs.Targets.{unseen_targets}
use Rattle.cg_claim.specs.declared.name.ClaimName.{ClaimName}
use Rattle.cg_claim.specs.declared.name.ClaimName.TheVariants.{Hold, Stable}
use Rattle.cg_machine.specs.Claims.{Target}
use Rattle.cg_plan.specs.inner.Naming.{AreNames}
use Rattle.cg_plan.proofs.Naming.{hold_names, if_ok, registers_there, stable_names, unseen_names}
use Rattle.cg_plan.proofs.claims.claim_names.Goals as goal

pub unseen_targets-requires-clause-registers : goal.unseen_targets-requires-clause-registers
unseen_targets-requires-clause-registers c =
    let m = c.args.machine.now in
    subst (All (λ r. r < length m.circuit.registers)) (sym c.as_slice-regs.ensures.parts) (registers_there m c.args.stage.now c.netlist-netlist.ensures.machine c.requires.fits)

pub returns-in-Hold-clause-names : goal.returns-in-Hold-clause-names
returns-in-Hold-clause-names c =
    let m = c.args.machine.now in
    let s = c.args.stage.now in
    if_ok c.hold_names.result (λ (v : Vec ClaimName Global). v.items ≡ map Hold c.as_slice-regs.result.now) (λ (v : Vec ClaimName Global). AreNames m s v.items)
    (λ v is. hold_names m s c.netlist-netlist.ensures.machine c.requires.fits v.items c.in-Hold.is (is ∙ ap (map Hold) c.as_slice-regs.ensures.parts)) c.hold_names.ensures

pub returns-in-Stable-clause-names : goal.returns-in-Stable-clause-names
returns-in-Stable-clause-names c =
    let m = c.args.machine.now in
    let s = c.args.stage.now in
    if_ok c.stable_names.result (λ (v : Vec ClaimName Global). v.items ≡ map Stable c.as_slice-regs.result.now) (λ (v : Vec ClaimName Global). AreNames m s v.items)
    (λ v is. stable_names m s c.netlist-netlist.ensures.machine c.requires.fits v.items c.in-Stable.is (is ∙ ap (map Stable) c.as_slice-regs.ensures.parts)) c.stable_names.ensures

pub returns-in-Unseen-clause-names : goal.returns-in-Unseen-clause-names
returns-in-Unseen-clause-names c =
    let m = c.args.machine.now in
    let s = c.args.stage.now in
    let E = c.as_slice.result.now in
    let G = c.as_slice-regs.result.now in
    if_ok c.unseen_targets.result (λ (v : Vec ClaimName Global). v.items ≡ map (λ (t : ClaimName × Target). t.0) (unseen_targets m E G)) (λ (v : Vec ClaimName Global). AreNames m s v.items)
    (λ v is. unseen_names m s c.netlist-netlist.ensures.machine c.requires.fits v.items c.in-Unseen.is
    (is ∙ (ap (λ D. map (λ (t : ClaimName × Target). t.0) (unseen_targets m D G)) c.as_slice.ensures.parts ∙ ap (λ H. map (λ (t : ClaimName × Target). t.0) (unseen_targets m s.enable H)) c.as_slice-regs.ensures.parts))) c.unseen_targets.ensures.names
