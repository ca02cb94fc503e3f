use Rattle.std.proofs.Common.{◌≡◌, Bool, false, true, not, List, [], ◌∷◌, ◌++◌, ℕ, slice_index_or, slice_set, refl, ap, sym, ◌∙◌}
use Rattle.cg_stage_groups.specs.Keys.{groups_seen, key_seen}
use Rattle.cg_stage_groups.specs.declared.group.Groups.{Groups}
use Rattle.cg_stage_groups.proofs.Joined.{begins, goes_on}
use Rattle.cg_stage_groups.proofs.group.add.Goals as goal
use Rattle.cg_stage_groups.proofs.group.add.Goals.{then-new+in_ok-push, else-new}

is_new : (b : Bool) → not b ≡ true → b ≡ false
is_new true h = sym h
is_new false h = refl

is_old : (b : Bool) → not b ≡ false → b ≡ true
is_old true h = refl
is_old false h = sym h

pub returns-clause-added : goal.returns-clause-added
returns-clause-added c =
    let keys = c.args.found.now.keys.keys in
    let regs = c.args.found.now.regs.items in
    let key = c.in_ok-copy.field-0 in
    let place = c.in_ok-place.place in
    let more = c.push-2.new.self in
    let old = c.index_mut.result.now in
    elim c.if-new.branch [
      | then-new+in_ok-push w ↦
          ap (λ (f : Groups). groups_seen f.keys.keys (slice_set f.regs.items place more)) w.found-is
          ∙ begins keys c.insert_full.new.self.keys regs w.push.new.self.items key (key_seen c.args.key.now) c.args.reg place old more c.requires c.in_ok-copy.ensures (is_new _ (sym c.in_ok-place.ensures.added ∙ w.if-new.true))
          c.in_ok-place.ensures.keys c.in_ok-place.ensures.index (w.in_ok-push.ensures.items ∙ ap (λ (x : List ℕ). regs ++ x ∷ []) w.new.ensures)
          (c.index_mut.ensures.value ∙ ap (λ (f : Groups). slice_index_or f.regs.items place old) w.found-is) c.in_ok-push-2.ensures.parts
      | else-new w ↦
          ap (λ (f : Groups). groups_seen f.keys.keys (slice_set f.regs.items place more)) w.found-is
          ∙ goes_on keys c.insert_full.new.self.keys regs key (key_seen c.args.key.now) c.args.reg place old more c.requires c.in_ok-copy.ensures (is_old _ (sym c.in_ok-place.ensures.added ∙ w.if-new.false))
          c.in_ok-place.ensures.keys c.in_ok-place.ensures.unique c.in_ok-place.ensures.index
          (c.index_mut.ensures.value ∙ ap (λ (f : Groups). slice_index_or f.regs.items place old) w.found-is) c.in_ok-push-2.ensures.parts
    ]
