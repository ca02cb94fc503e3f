use Rattle.std.proofs.Common.{List, sym, subst}
use Rattle.std.specs.List.{All}
use Rattle.cg_gate.proofs.Hinted.{all_plain}
use Rattle.cg_gate.proofs.planning.renamed.Goals as goal
use Rattle.cg_hint_laws.specs.OfNetlist.{IsPlain}
use Rattle.cg_machine.specs.Claims.{Literal}

pub renamed_terms-requires : goal.renamed_terms-requires
renamed_terms-requires c =
    subst (λ (terms : List (List Literal)). All (λ (term : List Literal). All (λ (l : Literal). IsPlain c.args.netlist.now l.0) term) terms) (sym c.as_slice-2.ensures.parts)
    (all_plain c.args.netlist.now c.args.hint.now.terms c.requires.nets)
