use Rattle.std.proofs.Common.{◌≡◌, length, drop}
use Rattle.cg_stimulus.specs.Reading.{columns_of}
use Rattle.cg_stimulus.proofs.ReadingOn.{columns_before}
use Rattle.cg_stimulus.proofs.header.find_columns.Given as goal

abbrev pub invariant-inputs : goal.invariant-inputs
invariant-inputs l = record {
  read : columns_before l.columns.items (columns_of l.names (drop l.place l.inputs)) ≡ columns_of l.names l.inputs;
  wide : length l.columns.items ≡ l.place;
}
