-- The netlist that was read is the one that was kept, or else the own one of the machine with which the plan begins, and of the plan's.
use Rattle.std.proofs.Common.{◌≡◌, Option, unwrap_or, ap, ◌∙◌}
use Rattle.std.specs.List.{AllByRecursion}
use Rattle.cg_extract.proofs.ForGating.{lifted_own}
use Rattle.cg_extract.specs.Lifted.{CanExtract, bare}
use Rattle.cg_extract.specs.Reading.{read_of}
use Rattle.cg_gate_laws.proofs.BegunSafe.{begun_safe}
use Rattle.cg_gate_laws.proofs.NetlistKept.{keeps_netlist}
use Rattle.cg_gate_laws.specs.Gated.{Gating, begun, planned}
use Rattle.cg_hint_laws.specs.OfNetlist.{IsOf}
use Rattle.cg_netlist.specs.Circuit.{Circuit}

module _ (by : Gating) (c : Circuit) (kept : Option Circuit) (can : CanExtract c by.prefix) (hints : AllByRecursion (IsOf c) by.hints) (is : unwrap_or kept (bare c) ≡ c) where
  pub read_begun : read_of kept (begun by c) ≡ c
  read_begun = ap (λ (d : Circuit). unwrap_or kept d) ((begun_safe by c can hints).own ∙ (lifted_own c by.prefix can).own) ∙ is

  pub read_planned : read_of kept (planned by c) ≡ c
  read_planned = ap (λ (d : Circuit). unwrap_or kept d) (keeps_netlist by c can hints) ∙ is
