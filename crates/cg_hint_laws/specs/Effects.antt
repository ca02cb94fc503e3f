-- What a hint does to a machine where it is inserted, or the limit that this passes: that of the first addition that passes one.
use Rattle.std.specs.Prelude.{ℕ, zero, suc, if◌then◌else◌, List, [], ◌∷◌, Result, Ok, Err}
use Rattle.cg_cell.specs.declared.fit.FitKind.{FitKind}
use Rattle.cg_cell.specs.declared.fit.FitKind.TheVariants.{And2, Inv, Or2}
use Rattle.cg_netlist.specs.declared.fault.AddFault.{AddFault}
use Rattle.cg_machine.specs.Added.{Added, delay_answer, gate_answer}
use Rattle.cg_machine.specs.Claims.{Literal}
use Rattle.cg_machine.specs.Machine.{MachineData}
use Rattle.cg_stage_laws.specs.Joined.{enabled}
use Rattle.cg_hint_laws.specs.declared.hint.Hint.{Hint}

-- what comes after an addition, unless that passes a limit
abbrev pub and_then : {A B : Type 0} → Result A AddFault → (A → Result B AddFault) → Result B AddFault
and_then (Ok a) later = later a
and_then (Err fault) later = Err fault

-- nets, and the machine that has them
pub record AddedNets : Type 0 where
  pub machine : MachineData
  pub nets : List ℕ

abbrev pub before_nets : Added → AddedNets → Result AddedNets AddFault
before_nets a b = Ok (record { machine = b.machine; nets = a.net ∷ b.nets })

-- the nets that are added for the items of a list, one after another
abbrev pub for_each : {A : Type 0} → (MachineData → A → Result Added AddFault) → MachineData → List A → Result AddedNets AddFault
for_each add m [] = Ok (record { machine = m; nets = [] })
for_each add m (x ∷ xs) = and_then (add m x) (λ a. and_then (for_each add a.machine xs) (before_nets a))

-- nets joined by gates of a kind, from the left; of one net it is that net
abbrev pub joined_with : FitKind → Added → List ℕ → Result Added AddFault
joined_with kind a [] = Ok a
joined_with kind a (y ∷ ys) = and_then (gate_answer a.machine kind (a.net ∷ y ∷ [])) (λ b. joined_with kind b ys)

abbrev pub joined_from : FitKind → MachineData → List ℕ → Result Added AddFault
joined_from kind m [] = Ok (record { machine = m; net = 0 })
joined_from kind m (y ∷ ys) = joined_with kind (record { machine = m; net = y }) ys

abbrev pub joined : FitKind → AddedNets → Result Added AddFault
joined kind b = joined_from kind b.machine b.nets

-- the net of a literal: an inverter's where it is inverted
abbrev pub literal_answer : MachineData → Literal → Result Added AddFault
literal_answer m l = if l.1 then gate_answer m Inv (l.0 ∷ []) else Ok (record { machine = m; net = l.0 })

-- the net of a term: first the nets of its literals, and then these joined
abbrev pub term_answer : MachineData → List Literal → Result Added AddFault
term_answer m term = and_then (for_each literal_answer m term) (joined And2)

-- the net of a condition: first the nets of its terms, and then these joined
abbrev pub condition_answer : MachineData → List (List Literal) → Result Added AddFault
condition_answer m terms = and_then (for_each term_answer m terms) (joined Or2)

-- a net k cycles later
abbrev pub delayed_by : ℕ → Added → Result Added AddFault
delayed_by zero a = Ok a
delayed_by (suc k) a = and_then (delay_answer a.machine a.net) (delayed_by k)

-- the net that the registers of a hint get: that of its condition, as many cycles later as it says
abbrev pub hint_answer : MachineData → Hint → Result Added AddFault
hint_answer m h = and_then (condition_answer m h.terms) (delayed_by h.after)

-- the machine in which they have it
abbrev pub effect : MachineData → Hint → Result MachineData AddFault
effect m h = and_then (hint_answer m h) (λ a. Ok (enabled a h.regs))
