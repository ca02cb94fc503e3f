use Rattle.std.proofs.Common.{◌≡◌, ◌++◌, ◌&&◌, ◌||◌, ℕ, List, not, nat_lt, length, ◌∙◌, ap, subst}
use Rattle.std.specs.List.{list_any}
use Rattle.cg_net.specs.NetSets.{is_in}
use Rattle.cg_netlist_builder.specs.inner.FirstNet.{IsFirst}
use Rattle.cg_netlist_builder.specs.inner.Numbers.{rooted, used}
use Rattle.cg_netlist_builder.proofs.Checks.{roots_found}
use Rattle.cg_netlist_builder.proofs.ToldNets.{asked_of, rooted_within}
use Rattle.cg_netlist_builder.proofs.finish.bad_root.Goals as goal

pub marks-requires : goal.marks-requires
marks-requires c =
    let n = c.args.told.now in
    asked_of n c.requires.numbers (rooted n) c.args.roots.now c.len-count.result (c.len-count.ensures.count ∙ ap (λ d. length d.names) c.told.view_is) c.requires.roots (rooted_within n c.requires.numbers)

pub returns : goal.returns
returns c =
    let n = c.args.told.now in
    let sources : c.deref.result.now ≡ n.inputs ++ n.clocks = c.deref.ensures.value ∙ (c.in_ok-add_listed.ensures ∙ (ap (λ xs. xs ++ c.told.inside.clocks) (c.in_ok-sources.ensures ∙ ap (λ d. d.inputs) c.told.view_is) ∙ ap (λ xs. n.inputs ++ xs) (ap (λ d. d.clocks) c.told.view_is))) in
    let P : List ℕ → List ℕ → Type 0 = λ rs ss. IsFirst (length n.names) (λ net. is_in rs net && ((not (is_in ss net) || list_any (λ other. nat_lt other net) rs) || is_in (used n) net)) c.first_bad_clock.result in
    subst (P (rooted n)) sources (subst (λ rs. P rs c.deref.result.now) c.requires.roots
    (roots_found c.in_ok-rooted.rooted.items c.in_ok-sources-2.sources.items c.args.used.now c.deref-2.result.now c.deref-3.result.now (length n.names) c.len-count.result c.args.roots.now c.deref.result.now (used n) c.first_bad_clock.result c.deref-2.ensures.value c.deref-3.ensures.value
    (c.len-count.ensures.count ∙ ap (λ d. length d.names) c.told.view_is) c.in_ok-rooted.ensures c.in_ok-sources-2.ensures c.requires.used c.first_bad_clock.ensures))
