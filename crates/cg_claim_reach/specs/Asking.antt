-- The question that the program holds as data.
use Rattle.std.specs.Prelude.{◌<◌, length, Option, Some, None}
use Rattle.std.specs.List.{All}
use Rattle.std.specs.Option.{option_map}
use Rattle.cg_machine.specs.Machine.{MachineData}
use Rattle.cg_claim.specs.Question.{Copy, Before, After, Changed, CopyPart, Net, Next, State, Enable, Side, Question}
use Rattle.cg_claim_reach.specs.declared.asked.Frame.{Frame}
use Rattle.cg_claim_reach.specs.declared.asked.Frame.TheVariants.{Before as BeforeFrame, After as AfterFrame, Changed as ChangedFrame}
use Rattle.cg_claim_reach.specs.declared.asked.Part.{Part as AskedPart}
use Rattle.cg_claim_reach.specs.declared.asked.Part.TheVariants.{Net as NetPart, Next as NextPart, State as StatePart}
use Rattle.cg_claim_reach.specs.declared.asked.Part.TheVariants.{Enable as EnablePart}
use Rattle.cg_claim_reach.specs.declared.asked.Side.{Side as AskedSide}
use Rattle.cg_claim_reach.specs.declared.asked.Asked.{Asked}

abbrev pub copy_of : Frame → Copy
copy_of BeforeFrame = Before
copy_of AfterFrame = After
copy_of ChangedFrame = Changed

abbrev pub part_of : AskedPart → CopyPart
part_of (NetPart y) = Net y
part_of (NextPart r) = Next r
part_of (StatePart r) = State r
part_of EnablePart = Enable

abbrev pub side_of : AskedSide → Side
side_of side = record { copy = copy_of side.frame; part = part_of side.part }

abbrev pub question_of : Asked → Question
question_of asked =
    record {
      enables = asked.enables.now;
      follows = asked.follows.now;
      changes = asked.changes.now;
      sides = option_map (λ s. (side_of s.0, side_of s.1)) asked.sides;
    }

-- the nets and registers that a part names are there
abbrev pub PartThere : MachineData → CopyPart → Type 0
PartThere m (Net y) = y < length m.circuit.names
PartThere m (Next r) = r < length m.circuit.registers
PartThere m (State r) = r < length m.circuit.registers
PartThere m Enable = Unit {0}

abbrev pub SidesThere : MachineData → Option (Side × Side) → Type 0
SidesThere m None = Unit {0}
SidesThere m (Some s) = PartThere m s.0.part × PartThere m s.1.part

-- all nets and registers that a question names are there
pub record AsksThere (m : MachineData) (q : Question) : Type 0 where
  pub enables : All (λ l. l.0 < length m.circuit.names) q.enables
  pub follows : All (λ r. r < length m.circuit.registers) q.follows
  pub changes : All (λ r. r < length m.circuit.registers) q.changes
  pub sides : SidesThere m q.sides
