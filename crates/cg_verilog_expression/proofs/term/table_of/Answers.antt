use Rattle.std.proofs.Common.{◌≡◌, ◌<◌, ◌+◌, ◌∷◌, ◌++◌, ◌∙◌, [], List, ap, arith, length, subst, sym, take}
use Rattle.std.proofs.lemmas.List.{take_more}
use Rattle.cg_net.specs.Names.{NetName, with_name}
use Rattle.cg_verilog_text.specs.Forms.{Literal}
use Rattle.cg_verilog_expression.specs.Terms.{AreKnown}
use Rattle.cg_verilog_expression.proofs.KnownNets.{known_more}
use Rattle.cg_verilog_expression.proofs.term.table_of.Goals as goal

pub literals-preserved : goal.literals-preserved
literals-preserved c =
    let ls = c.args.literals.now in
    let i = c.literals.literal-index in
    let l = c.literal-item.result in
    let within : i < length ls = omega arith in
    let put : c.intern.new.self ≡ with_name c.literals.table l.net = c.in_ok-intern.ensures.names ∙ ap (with_name c.literals.table) (c.bytes.ensures.bytes ∙ ap (λ (k : Literal NetName). k.net) c.literal.view_is) in
    let more : take (i + 1) ls ≡ take i ls ++ l ∷ [] = take_more ls i l within ∙ ap (λ (k : Literal NetName). take i ls ++ k ∷ []) (sym c.literal-item.is) in
    subst (λ (table : List NetName). AreKnown (take (i + 1) ls) table) (sym put)
    (subst (λ (ks : List (Literal NetName)). AreKnown ks (with_name c.literals.table l.net)) (sym more) (known_more (take i ls) l c.literals.table c.literals.invariant))
