-- The rows of a Value Change Dump are rows of a stimulus: each has a bit for each input, and there are not too many.
use Rattle.std.proofs.Common.{◌≡◌, ◌≤◌, ℕ, suc, ◌+◌, Bool, true, false, nat_lt, if◌then◌else◌, List, [], ◌∷◌, ◌++◌, map, length}
use Rattle.std.proofs.Common.{Option, None, Some, Result, Ok, Err, refl, sym, ◌∙◌, ap, subst, arith}
use Rattle.std.specs.List.{AllByRecursion}
use Rattle.std.proofs.lemmas.Bool.{ltb-true}
use Rattle.std.proofs.lemmas.List.{length-map}
use Rattle.cg_limit.specs.declared.Limit.TheVariants as limits
use Rattle.cg_limit.specs.declared.TheConstants.{MOST_ROWS}
use Rattle.cg_netlist.specs.Circuit.{Circuit}
use Rattle.cg_stimulus.specs.Inputs.{IsStimulus, input_names}
use Rattle.cg_vcd.specs.Changes.{Free, StepsRead, told}
use Rattle.cg_vcd.specs.Commands.{Definitions, definitions}
use Rattle.cg_vcd.specs.Rows.{ended, fault_or, put_bit, put_row, rise_line, rises, row_of, rows_of, rows_of_changes, value_of}
use Rattle.cg_vcd.specs.Variables.{nothing_declared}
use Rattle.cg_vcd.specs.VcdFaults.{◌>>=◌}
use Rattle.cg_vcd.specs.VcdText.{clock_name, rows_behind, vcd_rows, wire}
use Rattle.cg_vcd.specs.VcdWords.{vcd_words}
use Rattle.cg_vcd.specs.declared.change.Change.{Change}
use Rattle.cg_vcd.specs.declared.fault.VcdFault.{VcdFault}
use Rattle.cg_vcd.specs.declared.fault.VcdFault.TheVariants.{Limit}
use Rattle.cg_text.specs.Lines.{end_line}

bound : {A B : Type 0} (r : Result A VcdFault) (next : A → Result B VcdFault) (y : B) → (r >>= next) ≡ Ok y → (x : A) × (r ≡ Ok x) × (next x ≡ Ok y)
bound (Ok found) next y is = (found, refl, is)
bound (Err fault) next y is = absurd (cc)

-- a row has a bit for each id
bit_put : (line : ℕ) (value : Option Bool) (later : Result (List Bool) VcdFault) (row : List Bool) → put_bit line value later ≡ Ok row → (bit : Bool) × (bits : List Bool) × (later ≡ Ok bits) × (bit ∷ bits ≡ row)
bit_put line None later row is = absurd (cc)
bit_put line (Some bit) later row is = let b = bound later (λ bits. Ok (bit ∷ bits)) row is in (bit, b.0, b.1, cc)

row_wide : (line : ℕ) (value : ℕ → Option Bool) (ids : List ℕ) (row : List Bool) → row_of line value ids ≡ Ok row → length row ≡ length ids
row_wide line value [] row is = let none : [] ≡ row = cc in sym (ap length none)
row_wide line value (id ∷ ids) row is =
    let b = bit_put line (value id) (row_of line value ids) row is in
    sym (ap length b.3) ∙ ap suc (row_wide line value ids b.1 b.2)

-- a row before others
row_put : (count : ℕ) (row : List Bool) (later : Result (List (List Bool)) VcdFault) (rows : List (List Bool)) → put_row count row later ≡ Ok rows → (rest : List (List Bool)) × (nat_lt count MOST_ROWS ≡ true) × (later ≡ Ok rest) × (row ∷ rest ≡ rows)
row_put count row later rows is = go (nat_lt count MOST_ROWS) refl is
  where
    go : (fits : Bool) → nat_lt count MOST_ROWS ≡ fits → (if fits then (later >>= λ rows. Ok (row ∷ rows)) else Err (Limit limits.Rows)) ≡ Ok rows → (rest : List (List Bool)) × (nat_lt count MOST_ROWS ≡ true) × (later ≡ Ok rest) × (row ∷ rest ≡ rows)
    go true fits is = let b = bound later (λ rows. Ok (row ∷ rows)) rows is in (b.0, fits, b.1, cc)
    go false fits is = absurd (cc)

-- rows that are as they are to be, behind this many others
pub record AreRows (width count : ℕ) (rows : List (List Bool)) : Type 0 where
  pub wide : AllByRecursion (λ row. length row ≡ width) rows
  pub few : count + length rows ≤ MOST_ROWS

module _ (inputs : List ℕ) (clock : ℕ) where
  step_rows : (count : ℕ) (before step : List Change) (later : List (List Change)) (rows : List (List Bool)) → count ≤ MOST_ROWS
      → ((next : List Change) (k : ℕ) (rows : List (List Bool)) → k ≤ MOST_ROWS → rows_of inputs clock k next later ≡ Ok rows → AreRows (length inputs) k rows) → (rose : Bool)
      → (if rose then (row_of (rise_line clock step) (value_of before) inputs >>= λ row. put_row count row (rows_of inputs clock (count + 1) (before ++ step) later)) else rows_of inputs clock count (before ++ step) later) ≡ Ok rows
      → AreRows (length inputs) count rows
  step_rows count before step later rows most rest false is = rest (before ++ step) count rows most is
  step_rows count before step later rows most rest true is =
      let b = bound (row_of (rise_line clock step) (value_of before) inputs) (λ row. put_row count row (rows_of inputs clock (count + 1) (before ++ step) later)) rows is in
      let p = row_put count b.0 (rows_of inputs clock (count + 1) (before ++ step) later) rows b.2 in
      let fits = ltb-true count MOST_ROWS p.1 in
      let more = rest (before ++ step) (count + 1) p.0 (omega (arith, fits)) p.2 in
      let A : List (List Bool) → Type 0 = λ rows. AreRows (length inputs) count rows in
      subst A p.3 (record { wide = (row_wide (rise_line clock step) (value_of before) inputs b.0 b.1, more.wide); few = omega (arith, more.few) })

  steps_rows : (count : ℕ) (before : List Change) (steps : List (List Change)) (rows : List (List Bool)) → count ≤ MOST_ROWS → rows_of inputs clock count before steps ≡ Ok rows → AreRows (length inputs) count rows
  steps_rows count before [] rows most is =
      let none : [] ≡ rows = cc in
      let A : List (List Bool) → Type 0 = λ rows. AreRows (length inputs) count rows in
      subst A none (record { wide = tt; few = omega (arith, most) })
  steps_rows count before (step ∷ later) rows most is =
      step_rows count before step later rows most (λ next k rows. steps_rows k next later rows) (rises (value_of before clock) (value_of (before ++ step) clock)) is

  fault_rows : (fault : Option VcdFault) (found rows : List (List Bool)) → fault_or fault found ≡ Ok rows → found ≡ rows
  fault_rows None found rows is = cc
  fault_rows (Some fault) found rows is = absurd (cc)

  told_rows : (all : StepsRead) (rows : List (List Bool)) → rows_of_changes inputs clock all ≡ Ok rows → AreRows (length inputs) 0 rows
  told_rows all rows is =
      let b = bound (rows_of inputs clock 0 [] (ended all.fault (all.step ∷ all.later))) (fault_or all.fault) rows is in
      let A : List (List Bool) → Type 0 = λ rows. AreRows (length inputs) 0 rows in
      subst A (fault_rows all.fault b.0 rows b.2) (steps_rows 0 [] (ended all.fault (all.step ∷ all.later)) b.0 (omega arith) b.1)

named_rows : (inputs : List (List ℕ)) (clock : Option (List ℕ)) (text : List ℕ) (rows : List (List Bool)) → vcd_rows inputs clock text ≡ Ok rows → AreRows (length inputs) 0 rows
named_rows inputs None text rows is = absurd (cc)
named_rows inputs (Some clock) text rows is =
    let b = bound (definitions (inputs ++ clock ∷ []) (end_line text) nothing_declared [] (vcd_words text)) (rows_behind inputs clock (end_line text)) rows is in
    let d : Definitions = b.0 in
    let variables = d.declared.variables in
    let wires = map (wire variables) inputs in
    let A : ℕ → Type 0 = λ width. AreRows width 0 rows in
    subst A (length-map inputs (wire variables)) (told_rows wires (wire variables clock) (told d.declared.ids (wires ++ wire variables clock ∷ []) (end_line text) Free None d.rest) rows b.2)

-- the rows that a dump stands for, for a netlist
pub dump_rows : (c : Circuit) (text : List ℕ) (rows : List (List Bool)) → vcd_rows (input_names c) (clock_name c) text ≡ Ok rows → IsStimulus (record { inputs = input_names c; rows = rows })
dump_rows c text rows is = let found = named_rows (input_names c) (clock_name c) text rows is in record { wide = found.wide; few = omega (arith, found.few) }
