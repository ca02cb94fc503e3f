-- What a stimulus is: a bit for each data input, row by row.
use Rattle.std.specs.Prelude.{◌≡◌, ◌≤◌, ℕ, Bool, List, ◌++◌, length, map}
use Rattle.std.specs.List.{AllByRecursion}
use Rattle.cg_limit.specs.declared.TheConstants.{MOST_ROWS}
use Rattle.cg_net.specs.Names.{net_name}
use Rattle.cg_netlist.specs.Circuit.{Circuit, data_inputs}

-- the names of the data inputs, in their order
abbrev pub input_names : Circuit → List (List ℕ)
input_names c = map (net_name c.names) (data_inputs c)

-- a stimulus: the names of the data inputs for which it is, and its rows
pub record Rows : Type 0 where
  pub inputs : List (List ℕ)
  pub rows : List (List Bool)

-- each row has a bit for each input, and there are not too many rows
pub record IsStimulus (stimulus : Rows) : Type 0 where
  pub wide : AllByRecursion (λ row. length row ≡ length stimulus.inputs) stimulus.rows
  pub few : length stimulus.rows ≤ MOST_ROWS

-- the data inputs of the netlist begin with those for which the stimulus is
abbrev pub IsFor : Circuit → Rows → Type 0
IsFor c stimulus = (extra : List (List ℕ)) × (input_names c ≡ stimulus.inputs ++ extra)
