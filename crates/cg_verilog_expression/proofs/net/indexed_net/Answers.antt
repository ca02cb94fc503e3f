use Rattle.std.proofs.Common.{◌≡◌, ◌++◌, ◌∷◌, ◌∙◌, [], IsTrue, List, ℕ, ap, subst, sym}
use Rattle.cg_cell.specs.Name.{is_name}
use Rattle.cg_verilog_expression.proofs.IndexedNames.{indexed_name, joined}
use Rattle.cg_verilog_expression.proofs.net.indexed_net.Goals as goal

pub invariant_of-result : goal.invariant_of-result
invariant_of-result c =
    let name = c.args.name.now in
    let index = c.args.index.now in
    let first = c.in_ok-extend_from_slice.ensures.items ∙ ap (λ (l : List ℕ). l ++ name) c.new-made.ensures.items in
    let made : c.from_vec.result ≡ name ++ 91 ∷ (index ++ 93 ∷ []) =
    c.from_vec.ensures
    ∙ joined name index c.extend_from_slice.new.self.items c.push.new.self.items c.extend_from_slice-2.new.self.items c.push-2.new.self.items first c.in_ok-push.ensures.items c.in_ok-extend_from_slice-2.ensures.items c.in_ok-push-2.ensures.items in
    subst (λ (l : List ℕ). IsTrue (is_name l)) (sym made) (indexed_name name index c.requires.name c.requires.index)
