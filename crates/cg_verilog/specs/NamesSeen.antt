-- The names of inputs.
use Rattle.std.specs.Prelude.{◌≢◌, List, map}
use Rattle.std.specs.List.{AllPairs}
use Rattle.cg_net.specs.Names.{NetName}
use Rattle.cg_verilog.specs.declared.inputs.InputNames.{InputNames}
use Rattle.cg_verilog.specs.declared.inputs.InputNames.TheVariants.{Few, Many}

-- no two names are equal
abbrev pub AreDifferent : List NetName → Type 0
AreDifferent names = AllPairs (λ name other. name ≢ other) names

-- the names, in order
abbrev pub names_seen : InputNames → List NetName
names_seen (Few names) = map (λ name. name.now) names.items
names_seen (Many names) = names
