-- What stands before a literal.
use Rattle.std.specs.Prelude.{List, [], ◌∷◌}
use Rattle.cg_net.specs.Names.{NetName}
use Rattle.cg_verilog_text.specs.Forms.{Literal}
use Rattle.cg_verilog_expression.specs.declared.before.Before.{Before}
use Rattle.cg_verilog_expression.specs.declared.before.Before.TheVariants.{Term, One, Two}

-- the literals before one
abbrev pub before_seen : Before → List (Literal NetName)
before_seen (Term term) = term.now
before_seen (One first) = first.now ∷ []
before_seen (Two first second) = first.now ∷ second.now ∷ []
