-- The words of a `.gate` line behind the cell.
use Rattle.std.specs.Prelude.{ℕ, ◌==◌, if◌then◌else◌, List, [], ◌∷◌, ◌++◌, None, Some}
use Rattle.cg_netlist_placed.specs.PinNets.{PinNet}

-- the name of a pin, and the net behind the first `=`, or none where there is no `=`
abbrev pub put_byte : ℕ → PinNet → PinNet
put_byte byte word = record { pin = byte ∷ word.pin; net = word.net }

abbrev pub pin_net : List ℕ → PinNet
pin_net [] = record { pin = []; net = None }
pin_net (byte ∷ bytes) = if byte == 61 then record { pin = []; net = Some bytes } else put_byte byte (pin_net bytes)

-- and back: a pin and its net as a word
abbrev pub pin_word : List ℕ → List ℕ → List ℕ
pin_word pin net = pin ++ 61 ∷ net
