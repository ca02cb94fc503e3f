-- The words of stages, of their claims and of what comes of them. Nets, registers and outputs have the names that they have in
-- the plan's machine.
use Rattle.std.specs.Prelude.{ℕ, Bool, if◌then◌else◌, List, [], ◌∷◌, ◌++◌, map, length, codes, slice_get, Option, None, Some}
use Rattle.std.specs.Fmt.{decimal}
use Rattle.std.specs.Option.{option_and_then}
use Rattle.cg_cell.specs.declared.fit.FitKind.{FitKind}
use Rattle.cg_cell.specs.declared.fit.FitKind.TheVariants.{And2, Gater, Inv, Or2, TestGater}
use Rattle.cg_claim.specs.declared.leaf.LeafBit.{LeafBit}
use Rattle.cg_claim.specs.declared.leaf.LeafSource.{LeafSource}
use Rattle.cg_claim.specs.declared.leaf.LeafSource.TheVariants as sources
use Rattle.cg_claim.specs.declared.name.ClaimName.{ClaimName}
use Rattle.cg_claim.specs.declared.name.ClaimName.TheVariants as claims
use Rattle.cg_machine.specs.Added.{first_output}
use Rattle.cg_machine.specs.Claims.{Literal}
use Rattle.cg_machine.specs.Machine.{MachineData}
use Rattle.cg_machine.specs.declared.stage.Stage.{Stage}
use Rattle.cg_machine.specs.declared.stage.StageKind.{StageKind}
use Rattle.cg_machine.specs.declared.stage.StageKind.TheVariants.{Hold, Stable, Unseen}
use Rattle.cg_net.specs.Names.{net_name}
use Rattle.cg_plan_laws.specs.declared.outcome.Outcome.{Outcome}
use Rattle.cg_plan_laws.specs.declared.outcome.Outcome.TheVariants.{Inserted, NeverIdle, NoCell, Refuted, Small, Wide}

-- a word of text
abbrev pub Word : Type 0
Word = List ℕ

-- the name of a net
abbrev pub net_word : MachineData → ℕ → Word
net_word m net = net_name m.circuit.names net

abbrev pub named_word : MachineData → Option ℕ → Word
named_word m None = []
named_word m (Some net) = net_word m net

-- a register is named by the first net that it drives; a delay register drives its added net alone
abbrev pub register_net : MachineData → ℕ → Option ℕ
register_net m r = option_and_then (λ register. first_output register.outputs) (slice_get m.circuit.registers r)

abbrev pub register_word : MachineData → ℕ → Word
register_word m r = named_word m (register_net m r)

-- an output, by its place among the outputs
abbrev pub output_word : MachineData → ℕ → Word
output_word m place = named_word m (slice_get m.circuit.outputs place)

-- an inverted literal has `!` before the name of its net
abbrev pub literal_word : MachineData → Literal → Word
literal_word m l = if l.1 then 33 ∷ net_word m l.0 else net_word m l.0

abbrev pub kind_word : StageKind → Word
kind_word Hold = codes "hold"
kind_word Stable = codes "stable"
kind_word Unseen = codes "unseen"

abbrev pub cell_word : FitKind → Word
cell_word Gater = codes "gater"
cell_word TestGater = codes "testgater"
cell_word Inv = codes "inv"
cell_word Or2 = codes "or2"
cell_word And2 = codes "and2"

-- a claim
abbrev pub claim_words : MachineData → ClaimName → List Word
claim_words m claims.Idle = codes "idle" ∷ []
claim_words m (claims.Hold r) = codes "hold" ∷ register_word m r ∷ []
claim_words m (claims.Stable r) = codes "stable" ∷ register_word m r ∷ []
claim_words m (claims.Output place) = codes "output" ∷ output_word m place ∷ []
claim_words m (claims.Next r) = codes "next" ∷ register_word m r ∷ []
claim_words m claims.Enable = codes "enable" ∷ []

-- a bit of a leaf: its copy, its name and the bit, as `0:en=1`
abbrev pub source_word : MachineData → LeafSource → Word
source_word m (sources.Input net) = net_word m net
source_word m (sources.Register r) = register_word m r

abbrev pub bit_byte : Bool → ℕ
bit_byte bit = if bit then 49 else 48

abbrev pub leaf_word : MachineData → LeafBit → Word
leaf_word m b = decimal b.leaf.copy ++ (58 ∷ (source_word m b.leaf.source ++ (61 ∷ bit_byte b.bit ∷ [])))

-- what comes of a stage
abbrev pub outcome_words : MachineData → Outcome → List Word
outcome_words m Inserted = codes "inserted" ∷ []
outcome_words m (Refuted claim bits) = codes "refuted" ∷ (claim_words m claim ++ map (leaf_word m) bits)
outcome_words m (Wide claim width) = codes "wide" ∷ (claim_words m claim ++ decimal width ∷ [])
outcome_words m NeverIdle = codes "neveridle" ∷ []
outcome_words m (Small registers) = codes "small" ∷ decimal registers ∷ []
outcome_words m (NoCell kind) = codes "nocell" ∷ cell_word kind ∷ []

-- a stage with its number, counted from 1, and what comes of it
abbrev pub stage_words : MachineData → ℕ → Stage × Outcome → List Word
stage_words m number tried =
    codes "stage" ∷ decimal number ∷ kind_word tried.0.kind ∷ codes "regs" ∷ decimal (length tried.0.regs)
    ∷ (map (register_word m) tried.0.regs
    ++ codes "enable" ∷ decimal (length tried.0.enable) ∷ (map (literal_word m) tried.0.enable ++ outcome_words m tried.1))
