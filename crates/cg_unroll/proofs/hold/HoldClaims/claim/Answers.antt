use Rattle.std.proofs.Common.{◌≡◌, ℕ, ◌&&◌, IsTrue, sym, ◌∙◌, ap, subst}
use Rattle.std.proofs.lemmas.Result.{err_from_is_err_and}
use Rattle.cg_aig.specs.Aig.{aig_and, aig_ops, inverse}
use Rattle.cg_aig.specs.Limits.{AndRefuses}
use Rattle.cg_cell.specs.Domain.{Makes, Stands}
use Rattle.cg_machine.specs.Claims.{Literal}
use Rattle.cg_unroll.specs.Holding.{HasRoom, Holding, IsHolding}
use Rattle.cg_unroll.proofs.Holds.{off, off_valid, refused, stays, tells}
use Rattle.cg_unroll.proofs.hold.HoldClaims.claim.Goals as goal

pub and-requires-clause-left : goal.and-requires-clause-left
and-requires-clause-left c =
    let m = c.args.machine.now in
    let r = c.args.reg in
    let w = c.args.width in
    let l : Literal = c.args.literal in
    let good = c.netlist-netlist.ensures.machine in
    let inside = c.self.inside in
    let h : Holding = record { claim = record { aig = inside.builder.aig; goal = inside.builder.goal; leaves = inside.leaves }; nets = inside.builder.tables.before.nets; differs = inside.differs; ands = inside.ands } in
    let is : IsHolding m r w h = subst (IsHolding m r w) (sym c.self.view_is) c.in_ok-make_room.ensures.holding in
    let same : c.not.result ≡ off m good r w h is l c.requires.among = c.not.ensures.number ∙ ap inverse c.net_literal-enable.ensures in
    subst (λ v. IsTrue (aig_ops.is_valid h.claim.aig v)) (sym same) (off_valid m good r w h is l c.requires.among c.requires.net)

pub returns-in_err-self-inside-clause-refused : goal.returns-in_err-self-inside-clause-refused
returns-in_err-self-inside-clause-refused c =
    let m = c.args.machine.now in
    let r = c.args.reg in
    let w = c.args.width in
    let l : Literal = c.args.literal in
    let good = c.netlist-netlist.ensures.machine in
    let inside = c.self.inside in
    let h : Holding = record { claim = record { aig = inside.builder.aig; goal = inside.builder.goal; leaves = inside.leaves }; nets = inside.builder.tables.before.nets; differs = inside.differs; ands = inside.ands } in
    let is : IsHolding m r w h = subst (IsHolding m r w) (sym c.self.view_is) c.in_ok-make_room.ensures.holding in
    let same : c.not.result ≡ off m good r w h is l c.requires.among = c.not.ensures.number ∙ ap inverse c.net_literal-enable.ensures in
    let room : HasRoom h = subst HasRoom (sym c.self.view_is) c.in_ok-make_room.ensures.room in
    let fault = c.in_err-self-inside.field-0.0 in
    let passed = err_from_is_err_and c.from_residual-in_err-self-inside.result c.from_residual-in_err-self-inside.ensures.1 in
    rw (passed.1, passed.2) (refused m good r w h is l c.requires.among c.requires.net room fault
    (subst (λ v. AndRefuses h.claim.aig v h.differs fault) same c.in_err-self-inside.ensures.refused))

pub returns-clause-claim : goal.returns-clause-claim
returns-clause-claim c =
    let m = c.args.machine.now in
    let r = c.args.reg in
    let w = c.args.width in
    let l : Literal = c.args.literal in
    let good = c.netlist-netlist.ensures.machine in
    let inside = c.self.inside in
    let h : Holding = record { claim = record { aig = inside.builder.aig; goal = inside.builder.goal; leaves = inside.leaves }; nets = inside.builder.tables.before.nets; differs = inside.differs; ands = inside.ands } in
    let is : IsHolding m r w h = subst (IsHolding m r w) (sym c.self.view_is) c.in_ok-make_room.ensures.holding in
    let same : c.not.result ≡ off m good r w h is l c.requires.among = c.not.ensures.number ∙ ap inverse c.net_literal-enable.ensures in
    let t = c.and.new.self in
    let v : ℕ = c.in_ok-self-inside.field-0 in
    tells m good r w h is l c.requires.among c.requires.net t v
    (subst (λ a. Stands aig_ops h.claim.aig t v (λ bits. aig_ops.bit h.claim.aig bits a && aig_ops.bit h.claim.aig bits h.differs)) same c.in_ok-self-inside.ensures.stands)
    (subst (λ a. Makes h.claim.aig (aig_and h.claim.aig a h.differs) t v) same c.in_ok-self-inside.ensures.made)
    c.leaves-leaves.ensures.well_formed

pub returns-clause-holding : goal.returns-clause-holding
returns-clause-holding c =
    let m = c.args.machine.now in
    let r = c.args.reg in
    let w = c.args.width in
    let l : Literal = c.args.literal in
    let good = c.netlist-netlist.ensures.machine in
    let inside = c.self.inside in
    let h : Holding = record { claim = record { aig = inside.builder.aig; goal = inside.builder.goal; leaves = inside.leaves }; nets = inside.builder.tables.before.nets; differs = inside.differs; ands = inside.ands } in
    let is : IsHolding m r w h = subst (IsHolding m r w) (sym c.self.view_is) c.in_ok-make_room.ensures.holding in
    stays m good r w h is l c.requires.among c.requires.net c.and.new.self c.in_ok-self-inside.field-0 c.in_ok-self-inside.ensures.stands.keeps
