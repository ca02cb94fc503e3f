use Rattle.std.proofs.Common.{rules, subst, sym, ap, ◌∙◌, ◌≡◌, List, Bool, ℕ, Result, Ok, Err, IfOk, inl, inr}
use Rattle.cg_limit.specs.Answers.{OrNoMemory}
use Rattle.cg_stimulus.specs.Inputs.{Rows, input_names}
use Rattle.cg_vcd.specs.declared.fault.VcdFault.{VcdFault}
use Rattle.cg_vcd.specs.declared.fault.VcdFault.TheVariants.{NoMemory}
use Rattle.cg_vcd.specs.VcdText.{clock_name, vcd_rows}
use Rattle.cg_vcd.proofs.ReadBack.{read_back}
use Rattle.cg_vcd.proofs.read.read_vcd.Goals as goal

abbrev made : List (List ℕ) → List (List Bool) → Rows
made inputs rows = record { inputs = inputs; rows = rows }

-- an answer with these rows, for these inputs, is the stimulus that has them
whole : (result : Result Rows VcdFault) (stimulus : Rows) → OrNoMemory NoMemory (λ (read : Rows). read.rows) result (Ok stimulus.rows)
    → IfOk result (λ (read : Rows). read.inputs ≡ stimulus.inputs) → OrNoMemory NoMemory (λ (read : Rows). read) result (Ok stimulus)
whole (Ok read) stimulus rows inputs =
    let same : stimulus.rows ≡ read.rows = cc in
    ap (λ all. Ok (made stimulus.inputs all)) same ∙ ap (λ names. Ok (made names read.rows)) (sym inputs)
whole (Err fault) stimulus rows inputs = elim rows [ inl none ↦ inl none | inr no_answer ↦ absurd (cc) ]

-- what is read is what the text gives, and the text gives the rows that were played
pub returns-in-Some-clause-back : goal.returns-in-Some-clause-back
returns-in-Some-clause-back c stimulus of =
    let rows = read_back c.args.netlist.now stimulus c.args.bytes.now of in
    whole c.read_clocked.result stimulus (subst (λ (given : Result (List (List Bool)) VcdFault). OrNoMemory NoMemory (λ (read : Rows). read.rows) c.read_clocked.result given) rows exact) inputs
  where
    exact : OrNoMemory NoMemory (λ (read : Rows). read.rows) c.read_clocked.result (vcd_rows (input_names c.args.netlist.now) (clock_name c.args.netlist.now) c.args.bytes.now)
    exact = search rules

    inputs : IfOk c.read_clocked.result (λ (read : Rows). read.inputs ≡ stimulus.inputs)
    inputs = subst (λ names. IfOk c.read_clocked.result (λ (read : Rows). read.inputs ≡ names)) of.same_inputs c.read_clocked.ensures.inputs
