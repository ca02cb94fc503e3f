-- The tables of long terms.
use Rattle.std.specs.Prelude.{◌≡◌, ◌≤◌, List, length}
use Rattle.std.specs.List.{list_any}
use Rattle.std.specs.Str.{bytes_eq}
use Rattle.cg_net.specs.Names.{NetName, is_known}
use Rattle.cg_verilog_text.specs.Forms.{Literal}
use Rattle.cg_verilog_expression.specs.declared.term.TheConstants.{MOST_WITHOUT_TABLE}
use Rattle.cg_verilog_expression.specs.declared.term.Table.{Table}
use Rattle.cg_verilog_expression.specs.declared.term.Table.TheVariants.{Without, With}

-- a table knows a net exactly where it is that of a literal
abbrev pub AreKnown : List (Literal NetName) → List NetName → Type 0
AreKnown literals table = (net : NetName) → is_known table net ≡ list_any (λ literal. bytes_eq literal.net net) literals

-- a long term has a table of its nets, and a short one may be without
abbrev pub HasTable : List (Literal NetName) → Table → Type 0
HasTable literals Without = length literals ≤ MOST_WITHOUT_TABLE
HasTable literals (With table) = AreKnown literals table.value
