use Rattle.std.proofs.Common.{◌≡◌, ◌∙◌, [], ℕ, Option, ap, sym}
use Rattle.std.specs.Prelude.{unwrap_or}
use Rattle.std.specs.Option.{option_and_then}
use Rattle.cg_net.specs.Names.{net_name}
use Rattle.cg_netlist_builder.specs.Inits.{init_given}
use Rattle.cg_netlist_builder.proofs.inits.late_init.Goals as goal

pub returns-in-Some : goal.returns-in-Some
returns-in-Some c =
    let names = c.args.names.now in
    let given : ℕ → Option ℕ = λ net. init_given c.args.nets.now c.args.inits.now (net_name names net) in
    let net = c.in-Some.net in
    let name_is : net_name names net ≡ c.name-name.result.now = ap (net_name names) (sym c.number.ensures.number) ∙ ap (λ o. unwrap_or o []) c.name-name.ensures in
    c.unwrap_or.ensures
    ∙ (ap (λ o. unwrap_or o c.register.inside.init) (c.init_given.ensures ∙ ap (init_given c.args.nets.now c.args.inits.now) (sym name_is))
    ∙ (ap (λ init. unwrap_or (given net) init) (ap (λ r. r.init) c.register.view_is)
    ∙ ap (λ o. unwrap_or (option_and_then given o) c.args.register.now.init) (sym c.in-Some.is ∙ c.shown_plainly.ensures)))
