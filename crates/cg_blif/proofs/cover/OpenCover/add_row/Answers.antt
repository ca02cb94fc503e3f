use Rattle.std.proofs.Common.{◌≡◌, ap, length, subst, sym, ◌∙◌}
use Rattle.cg_cell.proofs.Covers.{have_one_length}
use Rattle.cg_blif_text.specs.OpenCovers.{IsOpen}
use Rattle.cg_blif.proofs.RowLemmas.{fits_more}
use Rattle.cg_blif.proofs.cover.OpenCover.add_row.Goals as goal

pub push-requires : goal.push-requires
push-requires c =
    let inputs = c.self.inside.inputs in
    let long : length c.args.places.now ≡ length inputs = c.requires ∙ sym (ap (λ o. length o.inputs) c.self.view_is) in
    have_one_length (length inputs) _ (fits_more (length inputs) c.self.inside.rows c.args.places.now c.self.invariant.fit long)

pub invariant_of-self : goal.invariant_of-self
invariant_of-self c =
    let same : c.push.new.self ≡ c.self.inside.rows = rw c.in_err-push.was at c.push.ensures in
    subst (λ rows. IsOpen (record { inputs = c.self.inside.inputs; output = c.self.inside.output; rows = rows; on = c.self.inside.on })) (sym same) c.self.invariant
