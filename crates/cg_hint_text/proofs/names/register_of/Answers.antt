use Rattle.std.proofs.Common.{◌≡◌, true, Some, slice_get, sym, ◌∙◌, ap}
use Rattle.std.specs.Option.{option_and_then}
use Rattle.cg_net.specs.Names.{is_known}
use Rattle.cg_net.proofs.NamesInOrder.{known_there}
use Rattle.cg_hint_text.specs.Reading.{first_showing}
use Rattle.cg_hint_text.proofs.Named.{place_is, register_driven}
use Rattle.cg_hint_text.proofs.names.register_of.Goals as goal

pub returns : goal.returns
returns c =
    let d = c.args.netlist.now in
    let name = c.args.name.now in
    let net = c.in_ok-net.net in
    let good = c.nets-nets.ensures.netlist in
    let at : slice_get d.names net ≡ Some name = c.in_ok-net.ensures in
    let known : is_known d.names name ≡ true = known_there d.names net name at in
    c.named_register.ensures ∙ (sym (register_driven d good c.driver.result net c.driver.ensures) ∙ sym (ap (option_and_then (λ n. first_showing n d.registers)) (place_is d good name net known at)))
