use Rattle.std.proofs.Common.{◌≡◌, ◌||◌, ◌&&◌, not, Bool, ℕ, false, is_some, sym, ap, ◌∙◌, subst}
use Rattle.std.specs.Option.{option_to_list}
use Rattle.std.proofs.lemmas.Option.{same_Some}
use Rattle.cg_extract.specs.Lifted.{is_refused}
use Rattle.cg_netlist.specs.Circuit.{GatingCell, gater_outputs}
use Rattle.cg_net.specs.NetSets.{is_in}
use Rattle.cg_netlist.specs.View.{gater_seen}
use Rattle.cg_extract.proofs.NetPlaces.{pin_on_gater}
use Rattle.cg_extract.proofs.refused.is_refused.Goals as goal

pub returns-then-not-and2 : goal.returns-then-not-and2
returns-then-not-and2 c gater at =
    let netlist = c.args.netlist.now in
    let seen : GatingCell ℕ = gater_seen c.gater-gater.result in
    let behind : Bool = is_in (gater_outputs netlist) seen.clock in
    let same : seen ≡ gater = same_Some seen gater (sym c.gater-gater.ensures ∙ at) in
    let untested : is_some seen.test ≡ false = sym c.is_some.ensures ∙ c.if-is_some.false in
    subst (λ g. c.is_apart.result ≡ is_refused netlist c.args.and2 g) same
    (c.is_apart.ensures ∙ (ap (λ o. not (is_in (option_to_list o) seen.clock)) c.clock.ensures
    ∙ (pin_on_gater netlist c.gaters-gaters.ensures.netlist c.args.id seen c.gater-gater.ensures
    ∙ sym (ap (λ b. b || (not c.args.and2 && behind)) untested ∙ ap (λ b. not b && behind) c.if-not-and2.true))))
