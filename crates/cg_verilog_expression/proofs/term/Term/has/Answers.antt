use Rattle.std.proofs.Common.{◌∙◌, List, ap, subst, sym}
use Rattle.std.specs.List.{list_any}
use Rattle.std.specs.Str.{bytes_eq}
use Rattle.cg_net.specs.Names.{NetName}
use Rattle.cg_verilog_text.specs.Forms.{Literal}
use Rattle.cg_verilog_expression.specs.Terms.{AreKnown, HasTable}
use Rattle.cg_verilog_expression.specs.declared.term.Table.{Table}
use Rattle.cg_verilog_expression.proofs.KnownNets.{found_net}
use Rattle.cg_verilog_expression.proofs.term.Term.has.Goals as goal

pub returns-in-With : goal.returns-in-With
returns-in-With c =
    let literals = c.self.inside.literals in
    let boxed : AreKnown literals c.in-With.table.value = subst (λ (table : Table). HasTable literals table) c.in-With.is c.self.invariant in
    let known : AreKnown literals c.deref.result.now = subst (λ (names : List NetName). AreKnown literals names) (sym c.deref.ensures) boxed in
    c.is_some.ensures
    ∙ (found_net literals c.deref.result.now c.args.net.now c.find.result known c.find.ensures
    ∙ ap (λ (ls : List (Literal NetName)). list_any (λ (l : Literal NetName). bytes_eq l.net c.args.net.now) ls) c.self.view_is)
