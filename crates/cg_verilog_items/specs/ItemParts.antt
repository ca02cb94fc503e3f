-- Items, cut into what is read at once.
use Rattle.std.specs.Prelude.{ℕ, if◌then◌else◌, List, [], ◌∷◌, codes, None, Some}
use Rattle.cg_net.specs.Names.{NetName}
use Rattle.cg_verilog_text.specs.Items.{Declared, Item, Place, ended, made, pin}
use Rattle.cg_verilog_text.specs.Reading.{Got, Reader, after, behind, bit, ended_by, is_label, is_mark, is_next, name, net, pass, separated, word}
use Rattle.cg_verilog_text.specs.Tokens.{Token}

-- a declared register that is no vector, and its init behind the `=`
abbrev pub given_init : NetName → Reader Declared
given_init text tokens = made (λ value. record { net = text; init = Some value }) (bit tokens)

abbrev pub scalar : Reader Declared
scalar tokens =
    after (name tokens)
    (λ text later. if is_next (is_mark 61) later then given_init text (behind later)
    else Got (record { net = text; init = None }) later)

-- a placed cell behind its name
abbrev pub rest_of_placed : NetName → Reader Item
rest_of_placed cell tokens =
    after (ended_by 40 (pass is_label tokens)) (λ label pins. made (Place cell label) (ended (ended_by 41 (separated 44 pin pins))))

-- the net that rises
abbrev pub clocked_net : Reader NetName
clocked_net tokens = after (word (codes "posedge") tokens) (λ _. net)
