-- The rows of a stimulus, played on a netlist, are a waveform.
use Rattle.std.proofs.Common.{◌≡◌, ◌==◌, ℕ, ◌+◌, ◌-◌, ◌≤◌, Bool, true, false, List, [], ◌∷◌, length, replicate, refl, ap, ◌∙◌}
use Rattle.std.proofs.Common.{arith}
use Rattle.std.specs.List.{AllByRecursion}
use Rattle.std.proofs.lemmas.List.{length-append, length-map, length-replicate}
use Rattle.cg_net.specs.Names.{net_name}
use Rattle.cg_netlist.specs.Circuit.{Circuit, data_inputs}
use Rattle.cg_netlist.specs.History.{AreTicks, BeginsLow, IsStart, IsWaveform}
use Rattle.cg_stimulus.specs.Inputs.{Rows, IsStimulus, IsFor, input_names}
use Rattle.cg_stimulus.specs.Played.{row_tick, wave_from, played_start, played_wave}

pub start_is : (c : Circuit) → IsStart c (played_start c)
start_is c = length-map c.registers (λ register. register.init == 1)

-- a row of this length or less fills a moment
filled : (width : ℕ) (clock : Bool) (row : List Bool) → length row ≤ width → length (row_tick width clock row).inputs ≡ width
filled width clock row fits = length-append row (replicate (width - length row) false) ∙ (ap (λ n. length row + n) (length-replicate (width - length row) false) ∙ omega arith)

ticks_are : (c : Circuit) (width n : ℕ) (before : List Bool) (rows : List (List Bool)) → width ≡ length (data_inputs c) → n ≤ width → length before ≤ width
    → AllByRecursion (λ row. length row ≡ n) rows → AreTicks c (wave_from width before rows)
ticks_are c width n before [] is fits last wide = (filled width false before last ∙ is, tt)
ticks_are c width n before (row ∷ rows) is fits last wide =
    let here : length row ≤ width = omega (arith, wide.0) in
    (filled width false row here ∙ is, (filled width true row here ∙ is, ticks_are c width n row rows is fits here wide.1))

begins_low : (width : ℕ) (before : List Bool) (rows : List (List Bool)) → BeginsLow (wave_from width before rows)
begins_low width before [] = refl
begins_low width before (row ∷ rows) = refl

pub wave_is : (c : Circuit) (stimulus : Rows) → IsStimulus stimulus → IsFor c stimulus → IsWaveform c (played_wave c stimulus.rows)
wave_is c stimulus good for' =
    let count : length (input_names c) ≡ length (data_inputs c) = length-map (data_inputs c) (net_name c.names) in
    let split : length (input_names c) ≡ length stimulus.inputs + length for'.0 = ap length for'.1 ∙ length-append stimulus.inputs for'.0 in (
      ticks_are c (length (data_inputs c)) (length stimulus.inputs) [] stimulus.rows refl (omega (arith, count, split)) (omega arith) good.wide,
      begins_low (length (data_inputs c)) [] stimulus.rows,
    )
