use Rattle.std.proofs.Common.{◌<◌, Bool, ◌∙◌, ap, length, map, subst, sym}
use Rattle.std.proofs.lemmas.List.{length-map}
use Rattle.cg_cell.specs.Build.{Evaluates}
use Rattle.cg_cell.specs.Term.{term_value}
use Rattle.cg_cell.specs.Eval.{bits_at, build_term}
use Rattle.cg_cell.specs.EvalCover.{given_term}
use Rattle.cg_cell.proofs.Evals.{input_evaluates, number_at}
use Rattle.cg_cell.proofs.EvalCovers.{given_inverse}
use Rattle.cg_cell.proofs.eval_cover.eval_given.Goals as goal

pub not-requires : goal.not-requires
not-requires g c =
    let value = ap g.D.Domain.number c.index-inputs-k.is ∙ number_at g.D.Domain.number c.args.inputs.now c.args.k c.index-inputs-k.result c.requires.below in
    let room : c.args.k < length (map g.D.Domain.number c.args.inputs.now) = subst (λ n. c.args.k < n) (sym (length-map c.args.inputs.now g.D.Domain.number)) c.requires.below in
    (input_evaluates g.D.Domain.ops (map g.D.Domain.number c.args.inputs.now) (g.D.Domain.seen c.args.domain.now) c.args.k (g.D.Domain.number c.index-inputs-k.result) c.requires.valid room value).stands.valid

pub returns-then-bit : goal.returns-then-bit
returns-then-bit g c =
    let value = ap g.D.Domain.number c.index-inputs-k.is ∙ number_at g.D.Domain.number c.args.inputs.now c.args.k c.index-inputs-k.result c.requires.below in
    let room : c.args.k < length (map g.D.Domain.number c.args.inputs.now) = subst (λ n. c.args.k < n) (sym (length-map c.args.inputs.now g.D.Domain.number)) c.requires.below in
    subst (λ (b : Bool). Evaluates g.D.Domain.ops (g.D.Domain.seen c.args.domain.now) (g.D.Domain.seen c.args.domain.now) (g.D.Domain.number c.index-inputs-k.result)
    (build_term g.D.Domain.ops (map g.D.Domain.number c.args.inputs.now) (given_term c.args.k b) (g.D.Domain.seen c.args.domain.now))
    (λ bits. term_value (bits_at g.D.Domain.ops (g.D.Domain.seen c.args.domain.now) (map g.D.Domain.number c.args.inputs.now) bits) (given_term c.args.k b))) (sym c.if-bit.true)
    (input_evaluates g.D.Domain.ops (map g.D.Domain.number c.args.inputs.now) (g.D.Domain.seen c.args.domain.now) c.args.k (g.D.Domain.number c.index-inputs-k.result) c.requires.valid room value)

pub returns-else-bit : goal.returns-else-bit
returns-else-bit g c =
    let value = ap g.D.Domain.number c.index-inputs-k.is ∙ number_at g.D.Domain.number c.args.inputs.now c.args.k c.index-inputs-k.result c.requires.below in
    let room : c.args.k < length (map g.D.Domain.number c.args.inputs.now) = subst (λ n. c.args.k < n) (sym (length-map c.args.inputs.now g.D.Domain.number)) c.requires.below in
    subst (λ (b : Bool). Evaluates g.D.Domain.ops (g.D.Domain.seen c.args.domain.now) (g.D.Domain.seen c.not.new.self) (g.D.Domain.number c.not.result)
    (build_term g.D.Domain.ops (map g.D.Domain.number c.args.inputs.now) (given_term c.args.k b) (g.D.Domain.seen c.args.domain.now))
    (λ bits. term_value (bits_at g.D.Domain.ops (g.D.Domain.seen c.args.domain.now) (map g.D.Domain.number c.args.inputs.now) bits) (given_term c.args.k b))) (sym c.if-bit.false)
    (given_inverse g.D.Domain.ops g.met.D.Domain.lawful (map g.D.Domain.number c.args.inputs.now) (g.D.Domain.seen c.args.domain.now) (g.D.Domain.seen c.not.new.self) c.args.k
    (g.D.Domain.number c.index-inputs-k.result) (g.D.Domain.number c.not.result)
    (input_evaluates g.D.Domain.ops (map g.D.Domain.number c.args.inputs.now) (g.D.Domain.seen c.args.domain.now) c.args.k (g.D.Domain.number c.index-inputs-k.result) c.requires.valid room value)
    c.not.ensures)
