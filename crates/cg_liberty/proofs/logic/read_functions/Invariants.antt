use Rattle.std.proofs.Common.{◌≡◌, ◌+◌, drop, length, map, All, IfSome, IsTrue, vec_len}
use Rattle.std.specs.Option.{option_map}
use Rattle.cg_cell.specs.Expr.{term_of}
use Rattle.cg_cell.specs.Term.{is_within}
use Rattle.cg_liberty.specs.Kinds.{output_texts}
use Rattle.cg_liberty.specs.Reading.{readings}
use Rattle.cg_liberty.proofs.Readings.{behind}
use Rattle.cg_liberty.proofs.logic.read_functions.Given as goal

abbrev pub invariant-ports : goal.invariant-ports
invariant-ports l = record {
  read : behind (map (λ function. option_map term_of function) l.functions.items) (readings l.names (output_texts (drop l.port-index l.ports))) ≡ readings l.names (output_texts l.ports);
  counted : vec_len l.functions + length (output_texts (drop l.port-index l.ports)) ≡ length (output_texts l.ports);
  within : All (λ function. IfSome function (λ e. IsTrue (is_within (length l.names) (term_of e)))) l.functions.items;
}
