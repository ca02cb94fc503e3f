use Rattle.std.proofs.Common.{◌≡◌, ◌<◌, ◌∙◌, Bor, List, ap, arith, length, map, ℕ}
use Rattle.cg_net.specs.Names.{NetName, with_names}
use Rattle.cg_verilog_text.specs.Forms.{Literal}
use Rattle.cg_verilog.proofs.CoverRows.{nets_done, nets_step}
use Rattle.cg_verilog.proofs.cover.few_of.Goals as goal

pub terms-preserved : goal.terms-preserved
terms-preserved c =
    let seen = λ (bs : List (Bor (List ℕ))). map {A = Bor (List ℕ)} {B = List ℕ} (λ b. b.now) bs in
    let term = c.term-item.result in
    let within : c.terms.term-index < length c.args.terms.now = omega arith in
    let put : seen c.in_ok-names.names.items ≡ with_names (seen c.terms.names.items) (map (λ (l : Literal NetName). l.net) term) =
    c.in_ok-names.ensures.names ∙ ap (λ (ls : List (Literal NetName)). with_names (seen c.terms.names.items) (map (λ (l : Literal NetName). l.net) ls)) c.as_slice.ensures.parts in
    record {
      left = nets_step (seen c.terms.names.items) (seen c.in_ok-names.names.items) c.args.terms.now c.terms.term-index term term within c.term-item.is put ∙ c.terms.invariant.left;
      named = c.in_ok-names.ensures.named;
    }

pub returns-clause-names : goal.returns-clause-names
returns-clause-names c =
    let seen = λ (bs : List (Bor (List ℕ))). map {A = Bor (List ℕ)} {B = List ℕ} (λ b. b.now) bs in
    nets_done (seen c.terms.names.items) c.args.terms.now c.terms.term-index c.terms-test.false c.terms.invariant.left
