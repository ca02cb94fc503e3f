use Rattle.std.proofs.Common.{rules, ◌≡◌, ◌+◌, ◌++◌, ◌∷◌, [], ◌∙◌, ap, sym, length, arith, length-append}
use Rattle.std.proofs.lemmas.List.{length-map}
use Rattle.std.specs.Map.{values_of}
use Rattle.cg_cell.specs.declared.fit.FitKind.TheVariants.{Gater, TestGater, Inv, And2, Or2}
use Rattle.cg_cell.proofs.DistinctCells.{names_push}
use Rattle.cg_cell.proofs.Libraries.{cells_push, noted_fit}
use Rattle.cg_cell.proofs.library.Library.add.Goals as goal

pub invariant_of-self-2 : goal.invariant_of-self-2
invariant_of-self-2 c =
    let before = values_of c.self.inside.cells.entries in
    let after = values_of c.push.new.cells.entries in
    let counted : length c.self.inside.cells.entries ≡ length before = sym (length-map c.self.inside.cells.entries (λ e. e.1)) in
    let added : after ≡ before ++ c.args.cell ∷ [] = c.in_ok-push.ensures.added in
    let number : c.len.result ≡ length before = c.len.ensures.len ∙ counted in
    record {
      names = c.push.ensures.named;
      few = let grown : length after ≡ length before + 1 = ap length added ∙ length-append before (c.args.cell ∷ []) in omega (arith, grown, counted, c.in_ok-may_take.ensures.few, ap length c.self.view_is);
      are_cells = cells_push before c.args.cell after c.self.invariant.are_cells c.name.ensures.cell added;
      distinct = names_push before c.args.cell after c.self.invariant.distinct (search rules) added;
      gaters = noted_fit Gater before c.args.cell after c.self.inside.gater c.len.result c.fits.result c.note-gater.result c.self.invariant.gaters number c.fits.ensures added c.note-gater.ensures;
      test_gaters = noted_fit TestGater before c.args.cell after c.self.inside.test_gater c.len.result c.fits-2.result c.note-test_gater.result c.self.invariant.test_gaters number c.fits-2.ensures added c.note-test_gater.ensures;
      inverters = noted_fit Inv before c.args.cell after c.self.inside.inv c.len.result c.fits-3.result c.note-inv.result c.self.invariant.inverters number c.fits-3.ensures added c.note-inv.ensures;
      ands = noted_fit And2 before c.args.cell after c.self.inside.and2 c.len.result c.fits-4.result c.note-and2.result c.self.invariant.ands number c.fits-4.ensures added c.note-and2.ensures;
      ors = noted_fit Or2 before c.args.cell after c.self.inside.or2 c.len.result c.fits-5.result c.note-or2.result c.self.invariant.ors number c.fits-5.ensures added c.note-or2.ensures;
    }
