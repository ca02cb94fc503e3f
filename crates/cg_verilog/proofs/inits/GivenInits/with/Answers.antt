use Rattle.std.proofs.Common.{[], ◌≡◌, ◌∷◌, ◌++◌, ◌∙◌, ap, sym, true}
use Rattle.cg_net.specs.Names.{is_known}
use Rattle.cg_netlist_parts.proofs.KnownNames.{word_at}
use Rattle.cg_verilog.specs.GivenInits.{GivenInits}
use Rattle.cg_verilog.proofs.InitsSummed.{given_again, given_first}
use Rattle.cg_verilog.proofs.inits.GivenInits.with.Goals as goal

pub returns-in-Some : goal.returns-in-Some
returns-in-Some c =
    let net = c.args.net.now in
    let known : is_known c.args.self.nets net ≡ true =
    ap (λ (g : GivenInits). is_known g.nets net) (sym c.self.view_is) ∙ word_at c.self.inside.nets c.in-Some.field-0 net c.in-Some.ensures in
    ap (λ (g : GivenInits). record g { again = true }) c.self.view_is ∙ given_again c.args.self (record { net = net; value = c.args.value }) known

pub invariant_of-result-in-None : goal.invariant_of-result-in-None
invariant_of-result-in-None c =
    given_first c.self.inside.values.items c.args.value c.self.inside.nets c.args.net.now c.push.new.self.items c.intern.new.self c.self.invariant.0 c.self.invariant.1 c.in-None.ensures
    (c.in_ok-push-in-None.ensures.items ∙ ap (λ v. c.self.inside.values.items ++ v ∷ []) c.from.ensures) c.in_ok-intern-in-None.ensures.names
