-- Where no gating cell is refused, none has a test pin.
use Rattle.std.proofs.Common.{◌≡◌, ℕ, Bool, List, [], ◌∷◌, Option, None, Some, refl}
use Rattle.std.specs.List.{position_from}
use Rattle.cg_cell.specs.Cell.{CellData}
use Rattle.cg_extract.specs.Lifted.{HasNoTests, first_refused, is_refused}
use Rattle.cg_gate_laws.specs.Gated.{first_gater, has_and, refused_gater}
use Rattle.cg_netlist.specs.Circuit.{Circuit, GatingCell}
use Rattle.cg_extract.proofs.ForGating.{unrefused_untested}

-- where there is no first one, there is none to be found
none_there : (p : GatingCell ℕ → Bool) (gaters : List (GatingCell ℕ)) → first_gater gaters ≡ None → position_from p 0 gaters ≡ None
none_there p [] none = refl
none_there p (gater ∷ gaters) none = absurd (cc)

pub unrefused : (library : List CellData) (test : Option (List ℕ)) (c : Circuit) → refused_gater library test c ≡ None → first_refused c (has_and library) ≡ None
unrefused library None c none = none
unrefused library (Some name) c none = none_there (is_refused c (has_and library)) c.gaters none

pub untested : (library : List CellData) (test : Option (List ℕ)) (c : Circuit) → refused_gater library test c ≡ None → HasNoTests c
untested library test c none = unrefused_untested c (has_and library) (unrefused library test c none)
