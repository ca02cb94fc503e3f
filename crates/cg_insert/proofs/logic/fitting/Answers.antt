use Rattle.std.proofs.Common.{◌≡◌, slice_get, unwrap_or, refl, ap, sym, ◌∙◌, subst}
use Rattle.std.specs.List.{position_or_len}
use Rattle.std.specs.Option.{IsSome}
use Rattle.std.proofs.lemmas.List.Folds.{find_at}
use Rattle.cg_cell.specs.Fit.{is_fit}
use Rattle.cg_insert.proofs.Lookups.{found_first, its_place}
use Rattle.cg_insert.specs.Insert.{no_cell}
use Rattle.cg_insert.proofs.logic.fitting.Goals as goal

pub unwrap-requires : goal.unwrap-requires
unwrap-requires c = subst IsSome (sym (c.fit.ensures.first ∙ found_first (is_fit c.args.kind) c.args.library.now c.requires.0 c.requires.1)) refl

pub returns : goal.returns
returns c =
    let fits = is_fit c.args.kind in
    let cells = c.args.library.now in
    let same : c.unwrap.result ≡ position_or_len fits cells = its_place fits cells c.unwrap.result (sym c.fit.ensures.first ∙ c.unwrap.ensures) in
    ap (λ o. unwrap_or o no_cell) (sym c.cell.ensures ∙ (ap (slice_get cells) same ∙ sym (find_at fits cells)))
