-- What is added to a machine.
use Rattle.std.specs.Prelude.{◌≡◌, ℕ, if◌then◌else◌, List, [], ◌∷◌, Option, None, Some}
use Rattle.std.specs.Option.{option_or}
use Rattle.cg_cell.specs.declared.fit.FitKind.TheVariants.{Inv}
use Rattle.cg_limit.specs.declared.Limit.{Limit}
use Rattle.cg_netlist.specs.declared.fault.AddFault.{AddFault}
use Rattle.cg_netlist.specs.declared.fault.AddFault.TheVariants.{Limit as LimitFault, NoMemory}
use Rattle.cg_machine.specs.Added.{Added, delay_limit, gate_limit}
use Rattle.cg_machine.specs.Claims.{Literal}
use Rattle.cg_machine.specs.Machine.{IsNet, MachineData}
use Rattle.cg_stage_laws.specs.Effects.{delayed, own_limit}
use Rattle.cg_stage_laws.specs.Joined.{join_all, join_all_limit}

-- a net is added to a machine and passes no limit: n is the machine that has it
pub record AddsNet (limit : Option Limit) (added : Added) (n : MachineData) (net : ℕ) : Type 0 where
  pub room : limit ≡ None
  pub is : added ≡ record { machine = n; net = net }
  pub is_net : IsNet n net

-- a fault of adding: the limit that is passed, or want of memory
abbrev pub MayPass : Option Limit → AddFault → Type 0
MayPass limit NoMemory = Unit {0}
MayPass limit (LimitFault passed) = limit ≡ Some passed

-- the limit that the net of a literal passes
abbrev pub literal_limit : MachineData → Literal → Option Limit
literal_limit m l = if l.1 then gate_limit m Inv (l.0 ∷ []) else None

-- the limit that joined nets pass, a cycle later and joined with an enable
abbrev pub delayed_limit : MachineData → List ℕ → Option ℕ → Option Limit
delayed_limit m nets own =
    let a = join_all m nets in
    option_or (join_all_limit m nets) (option_or (delay_limit a.machine a.net) (own_limit (delayed a) own))
