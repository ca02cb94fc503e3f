use Rattle.std.proofs.Common.{◌≡◌, false, Option, Some, slice_get, refl, sym, ◌∙◌, ap}
use Rattle.std.specs.Option.{option_flatten, option_map, option_map_or}
use Rattle.std.proofs.lemmas.Option.{slice_get_read}
use Rattle.cg_stage_groups.specs.declared.key.Key.{Key}
use Rattle.cg_stage_groups.specs.Keys.{key_seen}
use Rattle.cg_stage_groups.specs.Leaving.{leaves}
use Rattle.cg_stage_groups.proofs.Left.{cleared}
use Rattle.cg_stage_groups.proofs.leaving.clear.Goals as goal

pub returns : goal.returns
returns c = λ r.
    let keys = c.args.keys.now in
    let at : slice_get keys c.args.place ≡ Some c.index-keys-place.result = slice_get_read keys _ c.args.place c.index-keys-place.result refl c.if-place-keys.false c.index-keys-place.is in
    cleared c.args.inserted (key_seen c.args.tried.now) keys c.args.place r c.if-place-keys.false
    (ap (λ (o : Option (Option Key)). option_map_or (leaves c.args.inserted (key_seen c.args.tried.now)) (option_map key_seen (option_flatten o)) false) at ∙ (ap (λ (o : Option Key). option_map_or (leaves c.args.inserted (key_seen c.args.tried.now)) (option_map key_seen o) false) c.index-keys-place.is ∙ (sym c.is_left_out.ensures ∙ c.if-not-is_left_out.false)))
