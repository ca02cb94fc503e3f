-- The lines of a stimulus text. White space stands between words, and `#` begins a comment, which runs to the end of its line.
use Rattle.std.specs.Prelude.{ℕ, List}
use Rattle.cg_text.specs.declared.lines.Line.{Line}
use Rattle.cg_text.specs.declared.lines.TheConstants.{BARE}
use Rattle.cg_text.specs.Lines.{text_lines}

-- the lines of a stimulus text that have words, numbered from 1 among all its lines
abbrev pub stimulus_lines : List ℕ → List Line
stimulus_lines text = text_lines BARE text
