use Rattle.std.proofs.Common.{◌≡◌, ◌<◌, ◌∙◌, List, ap, arith, length, map}
use Rattle.cg_net.specs.Names.{NetName, with_names}
use Rattle.cg_verilog_text.specs.Forms.{Literal}
use Rattle.cg_verilog.proofs.CoverRows.{nets_done, nets_step}
use Rattle.cg_verilog.proofs.cover.table_of.Goals as goal

pub terms-preserved : goal.terms-preserved
terms-preserved c =
    let term = c.term-item.result in
    let within : c.terms.term-index < length c.args.terms.now = omega arith in
    let put : c.in_ok-names.names ≡ with_names c.terms.names (map (λ (l : Literal NetName). l.net) term) =
    c.in_ok-names.ensures.names ∙ ap (λ (ls : List (Literal NetName)). with_names c.terms.names (map (λ (l : Literal NetName). l.net) ls)) c.as_slice.ensures.parts in
    record {
      left = nets_step c.terms.names c.in_ok-names.names c.args.terms.now c.terms.term-index term term within c.term-item.is put ∙ c.terms.invariant.left;
      named = c.in_ok-names.ensures.named;
    }

pub returns-clause-names : goal.returns-clause-names
returns-clause-names c = nets_done c.terms.names c.args.terms.now c.terms.term-index c.terms-test.false c.terms.invariant.left
