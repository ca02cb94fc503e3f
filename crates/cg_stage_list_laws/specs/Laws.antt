-- What is proved of lists of stages.
use Rattle.std.specs.Prelude.{◌≡◌, ℕ, Bool, true, List, Option}
use Rattle.cg_net.specs.NetSets.{is_in}
use Rattle.cg_machine.specs.Claims.{Literal}
use Rattle.cg_machine.specs.Machine.{IsMachine, MachineData}
use Rattle.cg_machine.specs.declared.stage.Earlier.{Earlier}
use Rattle.cg_claim.specs.Leaves.{width_of}
use Rattle.cg_claim.specs.Question.{hold_question}
use Rattle.cg_stage_list_laws.specs.Fit.{AllFit}
use Rattle.cg_stage_list_laws.specs.HoldList.{hold_list, hold_width}
use Rattle.cg_stage_list_laws.specs.Literals.{ZeroCounts}
use Rattle.cg_stage_list_laws.specs.StableList.{stable_list}
use Rattle.cg_stage_list_laws.specs.Supports.{input_cone}
use Rattle.cg_stage_list_laws.specs.UnseenList.{unseen_list}

-- the stages of each list fit the machine that it is made on, and no two of a list have a register in common
abbrev pub HoldListFits : Type 0
HoldListFits = (m : MachineData) (counts : Option ZeroCounts) (width : ℕ) → IsMachine m → AllFit m (hold_list m counts width)

abbrev pub StableListFits : Type 0
StableListFits = (m : MachineData) (earlier : List Earlier) → IsMachine m → AllFit m (stable_list m earlier)

abbrev pub UnseenListFits : Type 0
UnseenListFits = (m : MachineData) (test : Bool) (earlier : List Earlier) → IsMachine m → AllFit m (unseen_list m test earlier)

-- the hold claims of a register are all as wide as its width says
abbrev pub HoldWidthsAreOne : Type 0
HoldWidthsAreOne = (m : MachineData) (e : Literal) (r : ℕ) → IsMachine m → is_in (input_cone m r) e.0 ≡ true →
    width_of m (hold_question e r) ≡ hold_width m r
