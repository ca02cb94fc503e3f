use Rattle.std.proofs.Common.{◌≡◌, ◌++◌, length, map}
use Rattle.cg_liberty_group.specs.PinText.{few_pins, marks_of}
use Rattle.cg_liberty_group.proofs.pin_text.add_pins.Given as goal

abbrev pub invariant-names : goal.invariant-names
invariant-names l = few_pins (l.pins ++ map (λ name. record { name = name; marks = marks_of l.group }) l.names) ≡ few_pins (l.fn.pins ++ map (λ name. record { name = name; marks = marks_of l.group }) l.group.names)

abbrev pub decreases-names : goal.decreases-names
decreases-names l = length l.names
