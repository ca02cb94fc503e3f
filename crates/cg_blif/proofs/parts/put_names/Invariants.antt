use Rattle.std.proofs.Common.{◌≡◌, IsTrue, map, take}
use Rattle.std.specs.List.{AllByRecursion}
use Rattle.cg_cell.specs.Name.{is_name}
use Rattle.cg_blif.proofs.parts.put_names.Given as goal

abbrev pub invariant-words : goal.invariant-words
invariant-words l = record {
  bytes : map (λ name. name.now) l.names.items ≡ take l.word-index l.words;
  named : AllByRecursion (λ name. IsTrue (is_name name)) (map (λ name. name.now) l.names.items);
}
