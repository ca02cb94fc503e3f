use Rattle.std.proofs.Common.{◌≡◌, ℕ, ◌<◌, ◌+◌, Some, refl, sym, ◌∙◌, ap, subst, arith, length, take, set, unwrap_or}
use Rattle.std.specs.List.{slice_get}
use Rattle.std.specs.Option.{option_flatten}
use Rattle.std.proofs.lemmas.List.{length-take}
use Rattle.std.proofs.lemmas.List.Elements.{All-get_or}
use Rattle.std.proofs.lemmas.Option.{slice_get_read}
use Rattle.cg_netlist.specs.inner.Ranking.{entry}
use Rattle.cg_netlist.specs.Ranks.{driving_cell}
use Rattle.cg_netlist.proofs.DrivingCells.{driver_more}
use Rattle.cg_net.proofs.TableLemmas.{take_next}
use Rattle.cg_netlist.proofs.net_driver.net_drivers.Goals as goal

pub loop-i-preserved : goal.loop-i-preserved
loop-i-preserved c =
    let cells = c.args.cells.now in
    let i = c.loop-i.i in
    let cell = c.index-cells-i.result in
    let drivers = c.loop-i.drivers.items in
    let at : slice_get cells i ≡ Some cell = slice_get_read cells _ i cell refl c.loop-i-test.true c.index-cells-i.is in
    let net_is : c.number-net.result ≡ cell.output = c.number-net.ensures.number ∙ ap (λ k. k.output) c.cell.view_is in
    let within : cell.output < c.args.count = subst (λ k. k.output < c.args.count) (sym c.index-cells-i.is) (All-get_or (λ k. k.output < c.args.count) cells i cell c.loop-i-test.true c.requires) in
    let old : entry drivers c.number-net.result ≡ c.index.result.now = ap option_flatten (slice_get_read drivers _ c.number-net.result c.index.result.now refl (omega (arith, c.loop-i.invariant.fits, net_is, within)) c.index.ensures) in
    let now : c.first.result ≡ Some (unwrap_or (entry drivers cell.output) i) = c.first.ensures ∙ ap (λ o. Some (unwrap_or o i)) (sym old ∙ ap (entry drivers) net_is) in
    let more = driver_more drivers c.args.count cells i cell c.first.result c.loop-i.invariant.fits (omega (arith, c.loop-i-test.true)) c.loop-i.invariant.tells (omega (arith, length-take i cells, c.loop-i-test.true)) within (take_next cells i cell at) now in
    let P : ℕ → Type 0 = λ n. (length (set drivers n c.first.result) ≡ c.args.count) × ((net : ℕ) → net < c.args.count → entry (set drivers n c.first.result) net ≡ driving_cell (take (i + 1) cells) net) in
    let final = subst P (sym net_is) more in
    record { fits = final.0; tells = final.1 }
