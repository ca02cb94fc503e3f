use Rattle.std.proofs.Common.{◌≡◌, List, ℕ, None, nat_eq, ap, sym, ◌∙◌, arith}
use Rattle.std.specs.List.{position}
use Rattle.cg_netlist.specs.Ordered.{place_in}
use Rattle.cg_insert.proofs.Lookups.{no_place}
use Rattle.cg_netlist_telling.proofs.OrderedNames.{place_small}
use Rattle.cg_insert.proofs.clocked.Enables.place.Goals as goal

pub returns-in-None : goal.returns-in-None
returns-in-None c =
    let keys : List ℕ = c.self.inside.nets.keys in
    let none : position (nat_eq c.args.net) keys ≡ None = ap (λ n. position (nat_eq n) keys) (sym c.number.ensures.number) ∙ sym c.in-None.ensures.index in
    let past = no_place (nat_eq c.args.net) keys none in
    let small = place_small keys c.args.net in
    let same : c.len.result ≡ place_in keys c.args.net = omega (arith, past, small, c.len.ensures.len) in
    same ∙ ap (λ ks. place_in ks c.args.net) c.self.view_is
