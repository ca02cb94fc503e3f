use Rattle.std.proofs.Common.{◌*◌, ℕ, List, [], replicate, ◌∙◌, ap, arith}
use Rattle.std.specs.Option.{option_copied}
use Rattle.cg_hold.proofs.Taken.{chosen_none}
use Rattle.cg_hold.proofs.candidates.Chosen.of.Goals as goal

pub none-requires : goal.none-requires
none-requires g c = let small = c.netlist-netlist.ensures.machine.small in omega (arith, small, c.nets.ensures)

pub look_at_all-looked-requires-clause-chosen : goal.look_at_all-looked-requires-clause-chosen
look_at_all-looked-requires-clause-chosen g c =
    let m = c.args.machine.now in
    let none : ℕ → List (List ℕ) = λ n. replicate (2 * n) [] in
    chosen_none m (option_copied c.args.counts) c.args.width c.in_ok-chosen.chosen.lists.items c.in_ok-chosen.chosen.wide (c.in_ok-chosen.ensures.lists ∙ ap none c.nets.ensures) c.in_ok-chosen.ensures.wide

pub returns-in-Ok-looked-clause-chosen : goal.returns-in-Ok-looked-clause-chosen
returns-in-Ok-looked-clause-chosen g c = c.in-Ok-looked.ensures.chosen

pub returns-in-Err-clause-refused : goal.returns-in-Err-clause-refused
returns-in-Err-clause-refused g c = c.in-Err.ensures.refused
