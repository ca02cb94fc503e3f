use Rattle.std.proofs.Common.{◌≡◌, ◌++◌, ◌-◌, length, map}
use Rattle.std.specs.List.{range_with_len}
use Rattle.std.specs.Option.{option_copied}
use Rattle.cg_text.specs.Written.{text_of}
use Rattle.cg_register_text.specs.Words.{line_words}
use Rattle.cg_register_text.proofs.text.push_lines.Given as goal

abbrev pub invariant-registers : goal.invariant-registers
invariant-registers l =
    l.text.items ++ text_of (map (line_words l.told (option_copied l.rises)) (range_with_len l.number (length l.told.read.registers - l.number)))
    ≡ l.fn.text.items ++ text_of (map (line_words l.told (option_copied l.rises)) (range_with_len 0 (length l.told.read.registers)))
