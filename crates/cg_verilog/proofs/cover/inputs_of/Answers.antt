use Rattle.std.proofs.Common.{Bor, List, map, ℕ}
use Rattle.std.specs.List.{flat_map}
use Rattle.cg_net.specs.Names.{NetName}
use Rattle.cg_verilog_text.specs.Forms.{Literal}
use Rattle.cg_verilog.proofs.FewNames.{once_different}
use Rattle.cg_verilog.proofs.cover.inputs_of.Goals as goal

pub few-requires : goal.few-requires
few-requires c =
    once_different (map {A = Bor (List ℕ)} {B = List ℕ} (λ b. b.now) c.in_ok-names.names.items)
    (flat_map (λ (term : List (Literal NetName)). map (λ (l : Literal NetName). l.net) term) c.args.terms.now) c.in_ok-names.ensures.names
