use Rattle.std.proofs.Common.{[], ◌≡◌, ◌∷◌, ◌++◌, List, IsTrue, subst, sym, ℕ}
use Rattle.cg_cell.specs.Name.{is_name}
use Rattle.cg_verilog_text.specs.Meaning.{index_text}
use Rattle.cg_verilog_text.proofs.NamesRead.{bit_named}
use Rattle.cg_verilog_expression.proofs.IndexedNames.{joined}
use Rattle.cg_verilog.proofs.declare.bit_name.Goals as goal

pub returns-clause-named : goal.returns-clause-named
returns-clause-named c =
    let net = c.args.net.now in
    let index = index_text c.args.index.now in
    let made : c.push-2.new.self.items ≡ net ++ 91 ∷ (index ++ 93 ∷ []) =
    joined net index c.in_ok-name.name.items c.push.new.self.items c.push_to.new.text.items c.push-2.new.self.items c.in_ok-name.ensures.items c.in_ok-push.ensures.items c.in_ok-push_to.ensures c.in_ok-push-2.ensures.items in
    subst (λ (l : List ℕ). IsTrue (is_name l)) (sym made) (bit_named net c.args.index.now c.requires)
