use Rattle.std.proofs.Common.{◌∷◌, ◌++◌, ◌∙◌, [], List, ap, subst, sym}
use Rattle.cg_net.specs.Names.{NetName, with_name}
use Rattle.cg_verilog_text.specs.Forms.{Literal}
use Rattle.cg_verilog_expression.specs.Terms.{AreKnown}
use Rattle.cg_verilog_expression.proofs.KnownNets.{known_more}
use Rattle.cg_verilog_expression.proofs.term.table_with.Goals as goal

pub returns : goal.returns
returns c =
    let names = c.in_ok-table.table.value in
    subst (λ (table : List NetName). AreKnown (c.args.literals.now ++ c.args.next.now ∷ []) table)
    (sym (c.in_ok-intern.ensures.names
    ∙ (ap (λ (before : List NetName). with_name before c.bytes.result.now) c.deref_mut.ensures.value
    ∙ ap (with_name names) (c.bytes.ensures.bytes ∙ ap (λ (k : Literal NetName). k.net) c.next.view_is))))
    (known_more c.args.literals.now c.args.next.now names c.in_ok-table.ensures)
