use Rattle.std.proofs.Common.{arith, nat_eq, refl, sym}
use Rattle.cg_verilog_text.specs.CoverForms.{term_of}
use Rattle.cg_verilog_out.proofs.OpenTermLemmas.{goes_on}
use Rattle.cg_verilog_out.proofs.term.OpenTerm.add_row.Goals as goal

pub places-preserved : goal.places-preserved
places-preserved c =
    goes_on c.args.netlist.now.names c.places.self c.add_place.new.self c.args.inputs.now c.args.row.now c.places.at _ _ _ _ (term_of nat_eq c.args.inputs.now c.args.row.now)
    (omega (arith, c.places-test.true, c.requires.long)) (omega (arith, c.places-test.true)) (sym c.index-inputs-at.is) refl c.in_ok-add_place.ensures c.places.invariant
