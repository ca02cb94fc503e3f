use Rattle.std.proofs.Common.{Bor, List, map, refl, ℕ}
use Rattle.cg_verilog.proofs.Assigned.{hears_cover}
use Rattle.cg_verilog.proofs.assign.tell_names.Goals as goal

pub returns : goal.returns
returns c =
    let names = map {A = Bor (List ℕ)} {B = List ℕ} (λ b. b.now) c.args.names.now in
    hears_cover c.args.builder.now c.cover.new.self names names c.bytes.result.now c.args.output.now c.args.cover c.cover.result c.requires.fine refl c.bytes.ensures.bytes c.cover.ensures
