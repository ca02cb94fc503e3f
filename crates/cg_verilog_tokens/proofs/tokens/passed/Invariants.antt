use Rattle.std.proofs.Common.{◌≡◌, ◌+◌, ◌≤◌, ◌∷◌, take}
use Rattle.cg_verilog_tokens.specs.Passing.{passed_fresh, passed_line}
use Rattle.cg_verilog_tokens.proofs.tokens.passed.Given as goal

abbrev pub invariant-bytes : goal.invariant-bytes
invariant-bytes l = record {
  line : l.place.line ≡ passed_line l.line (l.byte ∷ take l.other-index l.after);
  fresh : l.place.fresh ≡ passed_fresh l.fresh (l.byte ∷ take l.other-index l.after);
  few : l.place.line ≤ l.line + 1 + l.other-index;
}
