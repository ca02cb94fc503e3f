use Rattle.std.proofs.Common.{◌≡◌, ◌<◌, Bool, true, false, Some, Result, inl, refl, length, slice_get, slice_index_or, sym, ◌∙◌, ap, subst, arith}
use Rattle.std.proofs.lemmas.Option.{same_Some, slice_get-get_or, slice_get_read}
use Rattle.std.proofs.lemmas.Result.{err_from_is_err_and}
use Rattle.cg_limit.specs.Answers.{OrNoMemory}
use Rattle.cg_machine.specs.Claims.{Literal}
use Rattle.cg_netlist.specs.declared.fault.AddFault.{AddFault}
use Rattle.cg_netlist.specs.declared.fault.AddFault.TheVariants.{NoMemory}
use Rattle.cg_hold.specs.declared.trial.Trial.{Trial}
use Rattle.cg_hold.specs.declared.trial.Trial.TheVariants.{Fails}
use Rattle.cg_hold.specs.inner.Choosing.{trial_of}
use Rattle.cg_hold.proofs.Room.{fine, not_refused, room_small, trial_fails, trial_is}
use Rattle.cg_hold.proofs.Trials.{refused_is}
use Rattle.cg_hold.proofs.trial.Trier.look_at.Goals as goal

pub returns-then-has_room-clause-trial : goal.returns-then-has_room-clause-trial
returns-then-has_room-clause-trial c = λ l at.
    let look = c.args.look.now in
    let m = look.search.now.machine.now in
    let r = look.reg in
    let w = look.search.now.width in
    let literals = look.literals.now in
    let place = c.args.place in
    let marks = c.args.marks.now in
    let there = c.requires.place in
    let count = c.requires.marks.count in
    let below : place < length marks = omega (arith, there, count) in
    let is : slice_get marks place ≡ Some true = slice_get-get_or marks place false below ∙ ap (λ (b : Bool). Some b) c.if-marked.true in
    let h = c.args.self.now.claims in
    trial_fails m r w h c.requires.holding l (room_small m c.netlist-netlist.ensures.machine r w h c.requires.holding (c.has_room.ensures c.if-has_room.true) l (c.requires.look.literals_of place l at)) (c.requires.marks.moved place l at is)

pub claim-requires-clause-among : goal.claim-requires-clause-among
claim-requires-clause-among c =
    let look = c.args.look.now in
    let m = look.search.now.machine.now in
    let r = look.reg in
    let w = look.search.now.width in
    let literals = look.literals.now in
    let place = c.args.place in
    let read = c.index-look-place.result in
    let k = slice_index_or literals place read in
    let here : slice_get literals place ≡ Some k = slice_get_read literals _ place read refl c.requires.place c.index-look-place.is ∙ ap (λ (z : Literal). Some z) c.index-look-place.is in
    (c.requires.look.literals_of place k here).0

pub claim-requires-clause-net : goal.claim-requires-clause-net
claim-requires-clause-net c =
    let look = c.args.look.now in
    let m = look.search.now.machine.now in
    let r = look.reg in
    let w = look.search.now.width in
    let literals = look.literals.now in
    let place = c.args.place in
    let read = c.index-look-place.result in
    let k = slice_index_or literals place read in
    let here : slice_get literals place ≡ Some k = slice_get_read literals _ place read refl c.requires.place c.index-look-place.is ∙ ap (λ (z : Literal). Some z) c.index-look-place.is in
    (c.requires.look.literals_of place k here).1

pub returns-then-marked-2-clause-trial : goal.returns-then-marked-2-clause-trial
returns-then-marked-2-clause-trial c = λ l at.
    let look = c.args.look.now in
    let m = look.search.now.machine.now in
    let r = look.reg in
    let w = look.search.now.width in
    let literals = look.literals.now in
    let place = c.args.place in
    let read = c.index-look-place.result in
    let k = slice_index_or literals place read in
    let here : slice_get literals place ≡ Some k = slice_get_read literals _ place read refl c.requires.place c.index-look-place.is ∙ ap (λ (z : Literal). Some z) c.index-look-place.is in
    let marks = c.args.marks.now in
    let there = c.requires.place in
    let count = c.requires.marks.count in
    let below : place < length marks = omega (arith, there, count) in
    let is : slice_get marks place ≡ Some true = slice_get-get_or marks place false below ∙ ap (λ (b : Bool). Some b) c.if-marked-2.true in
    subst (λ (z : Literal). trial_of m w r z ≡ fine Fails) (same_Some k l (sym here ∙ at))
    (trial_fails m r w c.args.self.now.claims c.requires.holding k c.in-Ok.ensures.claim.small (c.requires.marks.moved place k here is))

pub serves-requires-clause-literal : goal.serves-requires-clause-literal
serves-requires-clause-literal c =
    let look = c.args.look.now in
    let m = look.search.now.machine.now in
    let r = look.reg in
    let w = look.search.now.width in
    let literals = look.literals.now in
    let place = c.args.place in
    let read = c.index-look-place.result in
    let k = slice_index_or literals place read in
    let here : slice_get literals place ≡ Some k = slice_get_read literals _ place read refl c.requires.place c.index-look-place.is ∙ ap (λ (z : Literal). Some z) c.index-look-place.is in
    c.requires.look.literals_of place k here

pub returns-in_err-good-in-Ok-clause-trial : goal.returns-in_err-good-in-Ok-clause-trial
returns-in_err-good-in-Ok-clause-trial c = λ l at.
    let passed = err_from_is_err_and c.from_residual.result c.from_residual.ensures.1 in
    rw (passed.1, passed.2) (inl refl)

pub returns-in_ok-good-in-Ok-clause-trial : goal.returns-in_ok-good-in-Ok-clause-trial
returns-in_ok-good-in-Ok-clause-trial c = λ l at.
    let look = c.args.look.now in
    let m = look.search.now.machine.now in
    let r = look.reg in
    let w = look.search.now.width in
    let literals = look.literals.now in
    let place = c.args.place in
    let read = c.index-look-place.result in
    let k = slice_index_or literals place read in
    let here : slice_get literals place ≡ Some k = slice_get_read literals _ place read refl c.requires.place c.index-look-place.is ∙ ap (λ (z : Literal). Some z) c.index-look-place.is in
    subst (λ (z : Literal). trial_of m w r z ≡ fine c.tried.result) (same_Some k l (sym here ∙ at))
    (trial_is m r w c.args.self.now.claims c.requires.holding k c.in-Ok.ensures.claim.small c.in_ok-good-in-Ok.good c.in_ok-good-in-Ok.ensures.good ∙ ap fine (sym c.tried.ensures))

pub returns-in-Err-clause-trial : goal.returns-in-Err-clause-trial
returns-in-Err-clause-trial c = λ l at.
    let look = c.args.look.now in
    let m = look.search.now.machine.now in
    let r = look.reg in
    let w = look.search.now.width in
    let literals = look.literals.now in
    let place = c.args.place in
    let read = c.index-look-place.result in
    let k = slice_index_or literals place read in
    let here : slice_get literals place ≡ Some k = slice_get_read literals _ place read refl c.requires.place c.index-look-place.is ∙ ap (λ (z : Literal). Some z) c.index-look-place.is in
    subst (λ (z : Literal). OrNoMemory NoMemory (λ (t : Trial). t) c.refused.result (trial_of m w r z)) (same_Some k l (sym here ∙ at))
    (subst (λ (z : Result Trial AddFault). OrNoMemory NoMemory (λ (t : Trial). t) z (trial_of m w r k)) (sym c.refused.ensures)
    (refused_is c.list_laws.ensures.widths m c.netlist-netlist.ensures.machine r k (c.requires.look.literals_of place k here) w c.in-Err.fault c.in-Err.ensures.refused))

pub returns-in-Err-clause-holding : goal.returns-in-Err-clause-holding
returns-in-Err-clause-holding c =
    let look = c.args.look.now in
    let m = look.search.now.machine.now in
    let r = look.reg in
    let w = look.search.now.width in
    let literals = look.literals.now in
    let place = c.args.place in
    let read = c.index-look-place.result in
    let k = slice_index_or literals place read in
    let here : slice_get literals place ≡ Some k = slice_get_read literals _ place read refl c.requires.place c.index-look-place.is ∙ ap (λ (z : Literal). Some z) c.index-look-place.is in
    not_refused _ c.list_laws.ensures.widths m c.netlist-netlist.ensures.machine r w c.args.self.now.claims c.requires.holding k (c.requires.look.literals_of place k here) c.in-Err.fault c.in-Err.ensures.refused c.refused.result c.refused.ensures
