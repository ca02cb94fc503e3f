use Rattle.std.proofs.Common.{[], List, sym, subst, unwrap_or}
use Rattle.std.specs.List.{All, AllByRecursion}
use Rattle.std.specs.Option.{option_copied}
use Rattle.cg_gate.proofs.planning.machine_hints.Goals as goal
use Rattle.cg_hint_laws.specs.OfNetlist.{IsOf}
use Rattle.cg_hint_laws.specs.declared.hint.Hint.{Hint}
use Rattle.cg_netlist.proofs.Each.{from_recursion}

pub renamed_hints-requires : goal.renamed_hints-requires
renamed_hints-requires c =
    let c' = c.args.netlist.now in
    let each : AllByRecursion (IsOf c') c.in-Some.hints.now = subst (λ o. AllByRecursion (IsOf c') (unwrap_or (option_copied o) [])) c.in-Some.is c.requires in
    subst (λ (hs : List Hint). All (IsOf c') hs) (sym c.as_slice.ensures.parts) (from_recursion (IsOf c') c.in-Some.hints.now each)
