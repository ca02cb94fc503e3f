-- Telling a builder several parts, one after another.
use Rattle.std.specs.Prelude.{◌≡◌, List, [], ◌∷◌, None, Result, MatchResult}
use Rattle.std.specs.List.{AllByRecursion}
use Rattle.cg_netlist.specs.declared.fault.AddFault.{AddFault}
use Rattle.cg_netlist.specs.declared.fault.AddFault.TheVariants.{NoMemory}
use Rattle.cg_netlist_builder.specs.Building.{Building}
use Rattle.cg_netlist_parts.specs.Part.{Part}
use Rattle.cg_netlist_parts.specs.Said.{Said, limit_of, with_part}
use Rattle.cg_netlist_parts.specs.Says.{IsPart}

-- what was said, and more parts
abbrev pub with_parts : Said → List Part → Said
with_parts s [] = s
with_parts s (part ∷ parts) = with_parts (with_part s part) parts

-- a builder that was told more parts
abbrev pub told : Building → List Part → Building
told b parts = record b { said = with_parts b.said parts }

-- a builder may be told parts: it refused nothing, they are parts, and they pass no limit
pub record MayTell (b : Building) (parts : List Part) : Type 0 where
  pub open_yet : b.refused ≡ None
  pub each : AllByRecursion IsPart parts
  pub within : limit_of (with_parts b.said parts) ≡ None

-- it was told them, or memory was wanting
abbrev pub WasTold : Building → List Part → Building → Result (Unit {0}) AddFault → Type 0
WasTold old parts new result = MatchResult result (λ _. new ≡ told old parts) (λ fault. fault ≡ NoMemory)
