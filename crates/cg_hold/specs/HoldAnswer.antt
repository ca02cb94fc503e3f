-- What a search for hold stages answers.
use Rattle.std.specs.Prelude.{ℕ, if◌then◌else◌, Option, Result, Ok, Err}
use Rattle.cg_limit.specs.declared.Limit.TheVariants.{ClaimNodes}
use Rattle.cg_netlist.specs.declared.fault.AddFault.{AddFault}
use Rattle.cg_netlist.specs.declared.fault.AddFault.TheVariants.{Limit as LimitFault}
use Rattle.cg_machine.specs.Machine.{MachineData}
use Rattle.cg_stage_list_laws.specs.HoldList.{hold_list, hold_passes, hold_wide}
use Rattle.cg_stage_list_laws.specs.Literals.{ZeroCounts}
use Rattle.cg_hold.specs.declared.candidates.HoldFound.{HoldFound}

-- the list, and of how many registers the hold claims are too wide; or the limit, where a claim that is looked at passes it
abbrev pub hold_answer : MachineData → Option ZeroCounts → ℕ → Result HoldFound AddFault
hold_answer m counts width =
    if hold_passes m counts width then Err (LimitFault ClaimNodes)
    else Ok (record { stages = hold_list m counts width; wide = hold_wide m width })
