use Rattle.std.proofs.Common.{◌≡◌, ◌++◌, ℕ, List, slice_get, take, Some, refl, sym, ◌∙◌, ap, subst, arith}
use Rattle.std.specs.List.{flat_map}
use Rattle.std.proofs.lemmas.Option.{slice_get_read}
use Rattle.std.proofs.lemmas.List.{take_all}
use Rattle.cg_claim.specs.Reach.{next_nets}
use Rattle.cg_net.proofs.TableLemmas.{take_next}
use Rattle.cg_hold_widths.specs.inner.Marked.{next_nets_at}
use Rattle.cg_hold_widths.specs.inner.Masks.{AreMasks}
use Rattle.cg_hold_widths.proofs.Ahead.{flat_push, masks_first, masks_more}
use Rattle.cg_hold_widths.proofs.roots.roots.Goals as goal

pub loop-place-init : goal.loop-place-init
loop-place-init c = record { roots = c.new-roots.ensures.items; masks = masks_first c.args.machine.now c.args.masks.now c.requires.clear }

pub loop-place-preserved : goal.loop-place-preserved
loop-place-preserved c =
    let m = c.args.machine.now in
    let regs : List ℕ = c.args.regs.now in
    let place : ℕ = c.loop-place.place in
    let r : ℕ = c.index-regs-place.result in
    let at : slice_get regs place ≡ Some r = slice_get_read regs _ place r refl c.loop-place-test.true c.index-regs-place.is in
    record {
      roots =
          c.in_ok-push_roots.ensures.roots ∙ (ap (λ l. l ++ next_nets m r) c.loop-place.invariant.roots
          ∙ sym (ap (flat_map (next_nets m)) (take_next regs place r at) ∙ flat_push (next_nets m) (take place regs) r));
      masks = masks_more regs place r at m c.loop-place.masks c.push_roots.new.masks c.loop-place.invariant.masks c.in_ok-push_roots.ensures.masks;
    }

pub returns : goal.returns
returns c =
    let m = c.args.machine.now in
    let regs : List ℕ = c.args.regs.now in
    let whole : take c.loop-place.place regs ≡ regs = take_all c.loop-place.place regs (omega (arith, c.loop-place-test.false)) in
    record {
      roots = c.loop-place.invariant.roots ∙ ap (flat_map (next_nets m)) whole;
      masks = subst (λ l. AreMasks (next_nets_at m l) c.loop-place.masks) whole c.loop-place.invariant.masks;
    }
