-- The labels of placed cells, as they are numbered.
use Rattle.std.specs.Prelude.{ℕ, ◌-◌, not, List, map}
use Rattle.std.specs.List.{filter, range_with_len}
use Rattle.cg_net.specs.Names.{NetName, is_known}
use Rattle.cg_verilog_text.specs.WrittenItems.{label}

-- the names of the nets, the number that is looked at next, the number behind the last, and the label of the last placed cell
pub record Numbers : Type 0 where
  pub names : List NetName
  pub next : ℕ
  pub end : ℕ
  pub text : List ℕ

-- the labels that are left, from a number on to another
abbrev pub labels_from : List NetName → ℕ → ℕ → List (List ℕ)
labels_from names next end = filter (λ text. not (is_known names text)) (map label (range_with_len next (end - next)))

abbrev pub left : Numbers → List (List ℕ)
left numbers = labels_from numbers.names numbers.next numbers.end
