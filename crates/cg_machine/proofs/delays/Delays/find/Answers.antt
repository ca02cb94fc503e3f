use Rattle.std.proofs.Common.{ℕ, List, nat_eq, ap, ◌∙◌}
use Rattle.std.specs.List.{find}
use Rattle.std.specs.Option.{option_map}
use Rattle.std.specs.Map.{lookup}
use Rattle.cg_machine.proofs.Filed.{found_value}
use Rattle.cg_machine.proofs.delays.Delays.find.Goals as goal

pub returns : goal.returns
returns c =
    c.copied.ensures ∙ (c.get.ensures.value ∙ (ap (λ n. lookup (nat_eq n) c.self.inside.by_net.entries) c.number.ensures.number
    ∙ (found_value (nat_eq c.args.net) c.self.inside.by_net.entries ∙ ap (λ (es : List (ℕ × ℕ)). option_map (λ (e : ℕ × ℕ). e.1) (find (λ (e : ℕ × ℕ). nat_eq c.args.net e.0) es)) c.self.view_is)))
