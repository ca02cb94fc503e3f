-- The gating cell for which a netlist is refused is one of it.
use Rattle.std.proofs.Common.{◌≡◌, ◌<◌, ℕ, List, [], ◌∷◌, length, Option, None, Some}
use Rattle.std.proofs.Common.{arith}
use Rattle.cg_cell.specs.Cell.{CellData}
use Rattle.cg_extract.specs.Lifted.{is_refused}
use Rattle.cg_gate_laws.specs.Gated.{first_gater, has_and, refused_gater}
use Rattle.cg_netlist.specs.Circuit.{Circuit, GatingCell}
use Rattle.cg_tool.proofs.Names.{place_within}

gater_within : (gaters : List (GatingCell ℕ)) (k : ℕ) → first_gater gaters ≡ Some k → k < length gaters
gater_within [] k is = absurd (cc)
gater_within (gater ∷ gaters) k is = let same : 0 ≡ k = cc in omega (arith, same)

pub refused_within : (library : List CellData) (test : Option (List ℕ)) (c : Circuit) (k : ℕ) → refused_gater library test c ≡ Some k → k < length c.gaters
refused_within library None c k is = let below = place_within (is_refused c (has_and library)) 0 c.gaters k is in omega (arith, below)
refused_within library (Some name) c k is = gater_within c.gaters k is
