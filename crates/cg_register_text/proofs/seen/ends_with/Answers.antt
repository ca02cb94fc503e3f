use Rattle.std.proofs.Common.{◌-◌, nat_eq, false, ap, sym, length, arith}
use Rattle.std.specs.Option.{option_map_or}
use Rattle.std.proofs.lemmas.Option.{slice_get_within}
use Rattle.cg_register_text.proofs.SeenTrials.{last_at}
use Rattle.cg_register_text.proofs.seen.ends_with.Goals as goal

pub returns-in-Some : goal.returns-in-Some
returns-in-Some c =
    let numbers = c.args.numbers.now in
    let last = c.in-Some.last.now in
    let at = sym c.in-Some.ensures.value in
    let within = slice_get_within numbers (length numbers - 1) last at in
    sym (ap (λ o. option_map_or (λ n. nat_eq n c.args.number) o false) (last_at numbers (length numbers - 1) last (omega (arith, within)) at))
