-- The pins that a `pin` group describes, as the text has them.
use Rattle.std.specs.Prelude.{cond, nat_le, List, [], map, length, codes, Option, None, Some}
use Rattle.cg_limit.specs.declared.TheConstants.{MOST_PINS}
use Rattle.cg_liberty_group.specs.Group.{is_there, states, text_of}
use Rattle.cg_liberty_group.specs.declared.group.PinGroup.{PinGroup}
use Rattle.cg_liberty_group.specs.declared.pin_text.Marks.{Marks}
use Rattle.cg_liberty_group.specs.declared.pin_text.PinText.{PinText}

-- what a `pin` group says of each of its pins
abbrev pub marks_of : PinGroup → Marks
marks_of group = record {
  is_input = states group.direction (codes "input");
  is_output = states group.direction (codes "output");
  is_three_state = is_there group.three_state;
  is_clock = states group.clock_pin (codes "true");
  is_enable = states group.enable_pin (codes "true");
  is_test = states group.test_pin (codes "true");
  is_out = states group.out_pin (codes "true");
  function = text_of group.function;
}

-- the pins of a group, one for each argument; those of an internal group are left out
abbrev pub group_pins : PinGroup → List PinText
group_pins group =
    cond (states group.direction (codes "internal")) [] (map (λ name. record { name = name; marks = marks_of group }) group.names)

-- pins, unless there are more than a usable cell has
abbrev pub few_pins : List PinText → Option (List PinText)
few_pins pins = cond (nat_le (length pins) MOST_PINS) (Some pins) None
