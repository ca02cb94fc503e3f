use Rattle.std.proofs.Common.{◌≡◌, ◌<◌, ◌+◌, ℕ, Bool, ◌∙◌, ◌∷◌, ◌++◌, [], IsTrue, List, arith, drop, length, take, map, rules, ap}
use Rattle.std.proofs.Common.{subst, sym}
use Rattle.std.specs.Prelude.{Option, Some, nat_lt, option_map}
use Rattle.std.proofs.lemmas.List.{length-map, take_all}
use Rattle.std.proofs.lemmas.Bool.{ltb-true}
use Rattle.std.proofs.lemmas.Result.{err_from_is_err_and}
use Rattle.std.proofs.lemmas.Grind.{common_steps}
use borrow.Author.Rules.{get_or_read}
use Rattle.cg_cell.specs.Domain.{AreValid, Makes}
use Rattle.cg_cell.proofs.Exprs.{all_over-later, all_over-next}
use Rattle.cg_cell.specs.Build.{Evaluates, Stops}
use Rattle.cg_cell.specs.declared.expr.Expr.{Expr}
use Rattle.cg_cell.specs.declared.expr.Expr.TheFolds.{the_lemmas}
use Rattle.cg_cell.specs.Expr.{is_over, term_of, terms_of}
use Rattle.cg_cell.specs.Term.{Term, Input, inverse_times, term_value}
use Rattle.cg_cell.specs.Eval.{bits_at, build_term, so_far}
use Rattle.cg_cell.proofs.Building.{keeps_then}
use Rattle.cg_cell.proofs.Operations.{on_err}
use Rattle.cg_cell.proofs.Evals.{Going, going_more, input_evaluates, inverses_evaluate, inverses_stop, join_stops, none_stands}
use Rattle.cg_cell.proofs.Evals.{number_at, operand_stops, terms_more, terms_split, valid_then}
use Rattle.cg_cell.proofs.+eval.Goals as goal

pub expr::Expr::eval-returns-in-Variable-clause-built : goal.expr::Expr::eval-returns-in-Variable-clause-built
expr::Expr::eval-returns-in-Variable-clause-built g t c =
    let e : term_of c.args.self.now ≡ Input c.in-Variable.k = search (rules, the_lemmas) in
    let within : is_over (length c.args.inputs.now) c.args.self.now ≡ nat_lt c.in-Variable.k (length c.args.inputs.now) = search (rules, the_lemmas) in
    let below = ltb-true c.in-Variable.k (length c.args.inputs.now) (sym within ∙ c.requires.over) in
    let inputs : List ℕ = map g.D.Domain.number c.args.inputs.now in
    let room : c.in-Variable.k < length inputs = subst (λ n. c.in-Variable.k < n) (sym (length-map c.args.inputs.now g.D.Domain.number)) below in
    let value = ap g.D.Domain.number c.index-inputs-k.is ∙ number_at g.D.Domain.number c.args.inputs.now c.in-Variable.k c.index-inputs-k.result below in
    subst (λ (x : Term). Evaluates g.D.Domain.ops (g.D.Domain.seen c.args.domain.now) (g.D.Domain.seen c.args.domain.now) (g.D.Domain.number c.index-inputs-k.result)
    (build_term g.D.Domain.ops inputs x (g.D.Domain.seen c.args.domain.now))
    (λ bits. term_value (bits_at g.D.Domain.ops (g.D.Domain.seen c.args.domain.now) inputs bits) x)) (sym e)
    (input_evaluates g.D.Domain.ops inputs (g.D.Domain.seen c.args.domain.now) c.in-Variable.k (g.D.Domain.number c.index-inputs-k.result) c.requires.valid room value)

pub expr::Expr::eval-returns-in_ok-a-in-Not-clause-built : goal.expr::Expr::eval-returns-in_ok-a-in-Not-clause-built
expr::Expr::eval-returns-in_ok-a-in-Not-clause-built g t c =
    let made : term_of c.args.self.now ≡ inverse_times c.in-Not.signs (term_of c.in-Not.operand.value) = search (rules, the_lemmas) in
    let e = made ∙ ap (λ (x : Expr). inverse_times c.in-Not.signs (term_of x)) (sym c.deref.ensures) in
    subst (λ (x : Term). Evaluates g.D.Domain.ops (g.D.Domain.seen c.args.domain.now) (g.D.Domain.seen c.invert.new.domain) (g.D.Domain.number c.invert.result)
    (build_term g.D.Domain.ops (map g.D.Domain.number c.args.inputs.now) x (g.D.Domain.seen c.args.domain.now))
    (λ bits. term_value (bits_at g.D.Domain.ops (g.D.Domain.seen c.args.domain.now) (map g.D.Domain.number c.args.inputs.now) bits) x)) (sym e)
    (inverses_evaluate _ _ (term_of c.deref.result.now) _ _ _ _ _ c.in-Not.signs c.in_ok-a-in-Not.ensures.built c.invert.ensures)

pub expr::Expr::eval-returns-in_err-a-in-Not-clause-stopped : goal.expr::Expr::eval-returns-in_err-a-in-Not-clause-stopped
expr::Expr::eval-returns-in_err-a-in-Not-clause-stopped g t c =
    let made : term_of c.args.self.now ≡ inverse_times c.in-Not.signs (term_of c.in-Not.operand.value) = search (rules, the_lemmas) in
    let e = made ∙ ap (λ (x : Expr). inverse_times c.in-Not.signs (term_of x)) (sym c.deref.ensures) in
    let passed = err_from_is_err_and c.from_residual.result c.from_residual.ensures.1 in
    rw (passed.1, passed.2) (subst (λ (x : Term). Stops g.D.Domain.refuses (build_term g.D.Domain.ops (map g.D.Domain.number c.args.inputs.now) x (g.D.Domain.seen c.args.domain.now))
    c.in_err-a-in-Not.field-0.0 (g.D.Domain.seen c.eval.new.domain)) (sym e)
    (inverses_stop _ g.D.Domain.ops (map g.D.Domain.number c.args.inputs.now) (term_of c.deref.result.now) (g.D.Domain.seen c.args.domain.now) (g.D.Domain.seen c.eval.new.domain) c.in-Not.signs _ c.in_err-a-in-Not.ensures.stopped))

pub eval::eval_all-eval-requires : goal.eval::eval_all-eval-requires
eval::eval_all-eval-requires g t c =
    let next = all_over-next (length c.args.inputs.now) c.args.operands.now c.operands.operand-index c.operand-item.result c.operands-test.true c.operands.invariant.over in
    let over : IsTrue (is_over (length c.args.inputs.now) c.operand-item.result) =
    subst (λ (e : Expr). IsTrue (is_over (length c.args.inputs.now) e)) (sym c.operand-item.is) next in
    let valid : AreValid g.D.Domain.ops (g.D.Domain.seen c.operands.domain) (map g.D.Domain.number c.args.inputs.now) =
    valid_then g.D.Domain.ops (g.D.Domain.seen c.args.domain.now) (g.D.Domain.seen c.operands.domain) (map g.D.Domain.number c.args.inputs.now)
    c.operands.invariant.going.keeps c.requires.valid in
    first_of (search (rules, the_lemmas, get_or_read), grind (the_lemmas, arith, common_steps, over, valid))

pub eval::eval_all-returns-in_err-b-clause-stopped : goal.eval::eval_all-returns-in_err-b-clause-stopped
eval::eval_all-returns-in_err-b-clause-stopped g t c =
    let es = c.args.operands.now in
    let i = c.operands.operand-index in
    let s = g.D.Domain.seen c.args.domain.now in
    let inputs = map g.D.Domain.number c.args.inputs.now in
    let split : terms_of es ≡ terms_of (take i es) ++ (term_of c.operand-item.result ∷ terms_of (drop (i + 1) es)) =
    terms_split es i c.operand-item.result c.operands-test.true
    ∙ ap (λ (e : Expr). terms_of (take i es) ++ (term_of e ∷ terms_of (drop (i + 1) es))) (sym c.operand-item.is) in
    let passed = err_from_is_err_and c.from_residual.result c.from_residual.ensures.1 in
    rw (passed.1, passed.2) (subst (λ (l : List Term). Stops g.D.Domain.refuses (build_term g.D.Domain.ops inputs (so_far c.args.operator l) s) c.in_err-b.field-0.0 (g.D.Domain.seen c.eval.new.domain)) (sym split)
    (operand_stops g.D.Domain.number g.D.Domain.refuses g.D.Domain.ops inputs c.args.operator (terms_of (take i es)) (term_of c.operand-item.result)
    (terms_of (drop (i + 1) es)) s (g.D.Domain.seen c.operands.domain) (g.D.Domain.seen c.eval.new.domain) c.operands.answer c.in_err-b.field-0.0
    c.operands.invariant.going c.in_err-b.ensures.stopped))

pub eval::eval_all-returns-in_err-join-clause-stopped : goal.eval::eval_all-returns-in_err-join-clause-stopped
eval::eval_all-returns-in_err-join-clause-stopped g t c =
    let es = c.args.operands.now in
    let i = c.operands.operand-index in
    let s = g.D.Domain.seen c.args.domain.now in
    let inputs = map g.D.Domain.number c.args.inputs.now in
    let split : terms_of es ≡ terms_of (take i es) ++ (term_of c.operand-item.result ∷ terms_of (drop (i + 1) es)) =
    terms_split es i c.operand-item.result c.operands-test.true
    ∙ ap (λ (e : Expr). terms_of (take i es) ++ (term_of e ∷ terms_of (drop (i + 1) es))) (sym c.operand-item.is) in
    let passed = err_from_is_err_and c.from_residual-in_err-join.result c.from_residual-in_err-join.ensures.1 in
    rw (passed.1, passed.2) (subst (λ (l : List Term). Stops g.D.Domain.refuses (build_term g.D.Domain.ops inputs (so_far c.args.operator l) s) c.in_err-join.field-0.0 (g.D.Domain.seen c.join.new.domain)) (sym split)
    (join_stops g.D.Domain.number g.D.Domain.refuses g.D.Domain.ops inputs c.args.operator (terms_of (take i es)) (term_of c.operand-item.result)
    (terms_of (drop (i + 1) es)) s (g.D.Domain.seen c.operands.domain) (g.D.Domain.seen c.eval.new.domain) (g.D.Domain.seen c.join.new.domain)
    c.operands.answer (g.D.Domain.number c.in_ok-b.b) c.in_err-join.field-0.0
    c.operands.invariant.going c.in_ok-b.ensures.built.builds c.in_err-join.ensures.stopped))

pub eval::eval_all-operands-preserved : goal.eval::eval_all-operands-preserved
eval::eval_all-operands-preserved g t c =
    let es = c.args.operands.now in
    let i = c.operands.operand-index in
    let s = g.D.Domain.seen c.args.domain.now in
    let inputs = map g.D.Domain.number c.args.inputs.now in
    let more : terms_of (take (i + 1) es) ≡ terms_of (take i es) ++ term_of c.operand-item.result ∷ [] =
    terms_more es i c.operand-item.result c.operands-test.true
    ∙ ap (λ (e : Expr). terms_of (take i es) ++ term_of e ∷ []) (sym c.operand-item.is) in
    record {
      over = all_over-later (length c.args.inputs.now) es i c.operand-item.result c.operands-test.true c.operands.invariant.over;
      going = subst (λ (l : List Term). Going g.D.Domain.ops inputs c.args.operator l s (g.D.Domain.seen c.join.new.domain) (Some (g.D.Domain.number c.in_ok-join.field-0))) (sym more)
          (going_more g.D.Domain.number g.D.Domain.ops inputs c.args.operator (terms_of (take i es)) (term_of c.operand-item.result) s
          (g.D.Domain.seen c.operands.domain) (g.D.Domain.seen c.eval.new.domain) (g.D.Domain.seen c.join.new.domain) c.operands.answer
          (g.D.Domain.number c.in_ok-b.b) (g.D.Domain.number c.in_ok-join.field-0) c.requires.valid c.operands.invariant.going
          c.in_ok-b.ensures.built c.in_ok-join.ensures.built);
    }

pub eval::eval_all-returns-in-None-clause-built : goal.eval::eval_all-returns-in-None-clause-built
eval::eval_all-returns-in-None-clause-built g t c =
    let es = c.args.operands.now in
    let i = c.operands.operand-index in
    let s = g.D.Domain.seen c.args.domain.now in
    let inputs = map g.D.Domain.number c.args.inputs.now in
    let all : take i es ≡ es = take_all i es c.operands-test.false in
    let going = subst (λ (l : List Expr). Going g.D.Domain.ops inputs c.args.operator (terms_of l) s (g.D.Domain.seen c.operands.domain)
    (option_map g.D.Domain.number c.operands.answer)) all c.operands.invariant.going in
    let started = subst (λ (a : Option g.row.D-Value.Denot). Going g.D.Domain.ops inputs c.args.operator (terms_of es) s (g.D.Domain.seen c.operands.domain)
    (option_map g.D.Domain.number a)) c.in-None.is going in
    none_stands g.D.Domain.ops g.met.D.Domain.lawful inputs c.args.operator (terms_of es) s (g.D.Domain.seen c.operands.domain)
    (g.D.Domain.seen c.constant.new.self) (g.D.Domain.number c.constant.result) started c.constant.ensures.sound
    (subst (λ (b : Bool). Makes (g.D.Domain.seen c.operands.domain) (g.D.Domain.ops.constant_of (g.D.Domain.seen c.operands.domain) b)
    (g.D.Domain.seen c.constant.new.self) (g.D.Domain.number c.constant.result)) c.of_none.ensures c.constant.ensures.made)

pub eval::eval_all-returns-in_err-join-clause-kept : goal.eval::eval_all-returns-in_err-join-clause-kept
eval::eval_all-returns-in_err-join-clause-kept g t c =
    on_err _ _ (keeps_then _ _ _ _ (keeps_then _ _ _ _ c.operands.invariant.going.keeps c.in_ok-b.ensures.built.stands.keeps) c.in_err-join.ensures.kept)
