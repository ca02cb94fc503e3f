use Rattle.std.proofs.Common.{◌≡◌, Result, true, sym, ◌∙◌, subst}
use Rattle.cg_netlist_parts.specs.Part.{Part}
use Rattle.cg_netlist_placed.specs.declared.fault.PlacedFault.{PlacedFault}
use Rattle.cg_netlist_placed.specs.Placed.{placed_at}
use Rattle.cg_blif_text.specs.Placing.{gate_at, give_nets, one_part}
use Rattle.cg_blif_text.specs.Telling.{with_said}
use Rattle.cg_blif.specs.Hearing.{Hears, heard_placed}
use Rattle.cg_blif.specs.declared.fault.Refusal.{Refusal}
use Rattle.cg_blif.proofs.GateLemmas.{hears_told, nets_given}
use Rattle.cg_blif.proofs.parts.add_cell.Goals as goal

pub returns : goal.returns
returns c =
    let give : give_nets c.args.words.now ≡ true = sym c.give_nets.ensures ∙ c.if-not-give_nets.false in
    let hears = hears_told c.args.builder.now c.add_placed.new.builder (placed_at c.args.cell.now c.args.words.now) c.add_placed.result c.requires c.add_placed.ensures in
    let H : Result Part PlacedFault → Result (Unit {0}) Refusal → Type 0 = λ made answer. Hears c.args.builder.now c.add_placed.new.builder (with_said c.args.builder.now.said (one_part made)) answer in
    subst (H (gate_at c.args.words.now c.args.cell.now)) (sym c.heard_placed.ensures)
    (subst (λ made. H made (heard_placed c.add_placed.result)) (sym (nets_given c.args.words.now c.args.cell.now give)) hears)
