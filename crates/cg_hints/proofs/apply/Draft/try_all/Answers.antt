use Rattle.std.proofs.Common.{◌≡◌, ◌+◌, ◌∷◌, [], List, Some, Result, Err, IfErr, slice_get, drop, rules, refl, sym, subst}
use Rattle.std.proofs.lemmas.Option.{slice_get_read}
use Rattle.cg_netlist.specs.declared.fault.AddFault.{AddFault}
use Rattle.cg_hint_laws.specs.Answers.{MayFail}
use Rattle.cg_hint_laws.specs.Trying.{hinted}
use Rattle.cg_hint_laws.specs.declared.hint.Hint.{Hint}
use Rattle.cg_hints.proofs.Adding.{drop_at, drop_past}
use Rattle.cg_hints.proofs.Drafting.{underway_end, underway_fails, underway_next}
use Rattle.cg_hints.specs.inner.Drafting.{IsUnderway}
use Rattle.cg_hints.proofs.apply.Draft.try_all.Goals as goal

pub returns-in_err-try_one-clause-fault : goal.returns-in_err-try_one-clause-fault
returns-in_err-try_one-clause-fault c =
    let library = c.args.rules.now.library.now in
    let w = c.args.rules.now.width in
    let proof = c.args.rules.now.proof in
    let m = c.args.self.now.machine in
    let hs = c.args.hints.now in
    let i = c.loop-hint.hint-index in
    let h = c.hint-item.result in
    let d = c.loop-hint.self in
    let at : slice_get hs i ≡ Some h = slice_get_read hs _ i h refl c.loop-hint-test.true c.hint-item.is in
    let u : IsUnderway library w proof m hs (h ∷ drop (i + 1) hs) d = subst (λ (l : List Hint). IsUnderway library w proof m hs l d) (drop_at hs i h at) c.loop-hint.invariant in
    let fault = c.in_err-try_one.field-0.0 in
    let same : c.from_residual.result ≡ Err fault = search rules in
    subst (λ (r : Result (Unit {0}) AddFault). IfErr r (MayFail (hinted library w m hs))) (sym same)
    (underway_fails library w proof m hs h (drop (i + 1) hs) d fault u c.in_err-try_one.ensures.fault)

pub loop-hint-preserved : goal.loop-hint-preserved
loop-hint-preserved c =
    let library = c.args.rules.now.library.now in
    let w = c.args.rules.now.width in
    let proof = c.args.rules.now.proof in
    let m = c.args.self.now.machine in
    let hs = c.args.hints.now in
    let i = c.loop-hint.hint-index in
    let h = c.hint-item.result in
    let d = c.loop-hint.self in
    let at : slice_get hs i ≡ Some h = slice_get_read hs _ i h refl c.loop-hint-test.true c.hint-item.is in
    let u : IsUnderway library w proof m hs (h ∷ drop (i + 1) hs) d = subst (λ (l : List Hint). IsUnderway library w proof m hs l d) (drop_at hs i h at) c.loop-hint.invariant in
    underway_next library w proof m hs h (drop (i + 1) hs) d c.try_one.new.self u c.in_ok-try_one.ensures.step

pub returns-clause-applied : goal.returns-clause-applied
returns-clause-applied c =
    let library = c.args.rules.now.library.now in
    let w = c.args.rules.now.width in
    let proof = c.args.rules.now.proof in
    let m = c.args.self.now.machine in
    let hs = c.args.hints.now in
    let d = c.loop-hint.self in
    let none : drop c.loop-hint.hint-index hs ≡ [] = drop_past hs c.loop-hint.hint-index c.loop-hint-test.false in
    underway_end library w proof m hs d (subst (λ (l : List Hint). IsUnderway library w proof m hs l d) none c.loop-hint.invariant)
