-- The items of a text.
use Rattle.std.specs.Prelude.{ℕ, zero, suc, Bool, true, false, if◌then◌else◌, List, [], ◌∷◌, ◌++◌, length, codes, Option}
use Rattle.std.specs.Prelude.{None, Some}
use Rattle.cg_net.specs.Names.{NetName}
use Rattle.cg_netlist_placed.specs.PinNets.{PinNet}
use Rattle.cg_verilog_text.specs.Forms.{Form, form}
use Rattle.cg_verilog_text.specs.Reading.{Read, Got, Stuck, Reader, Turn, More, Last, Halt, after, behind, bit, ended_by, is_arrow}
use Rattle.cg_verilog_text.specs.Reading.{is_label, is_mark, is_next, is_numeral, is_word, mark, name, net, pass, separated, turns}
use Rattle.cg_verilog_text.specs.Reading.{word}
use Rattle.cg_verilog_text.specs.Tokens.{Token}

-- the indices of a vector, as they are written
pub record Range : Type 0 where
  pub high : List ℕ
  pub low : List ℕ

-- a declared register, and its init where it has one here
pub record Declared : Type 0 where
  pub net : NetName
  pub init : Option Bool

-- a register takes the bit of a net
pub record Update : Type 0 where
  pub net : NetName
  pub takes : NetName

-- An item: inputs, outputs, wires and registers that are declared; a placed cell with its label and what is said of its pins;
-- a net that is a form; registers and the clock at which they rise; and the init of a register.
pub data Item : Type 0 where
  Input : Option Range → List NetName → Item
  Output : Option Range → List NetName → Item
  Wire : Option Range → List NetName → Item
  Reg : Option Range → List Declared → Item
  Place : NetName → List ℕ → List PinNet → Item
  Assign : NetName → Form NetName → Item
  Always : NetName → List Update → Item
  Initial : NetName → Bool → Item

-- what was read, as something else
abbrev pub made : {A B : Type 0} → (A → B) → Read A → Read B
made make read = after read (λ a later. Got (make a) later)

-- what ends with a `;`
abbrev pub ended : {A : Type 0} → Read A → Read A
ended read = ended_by 59 read

-- the module: its name, and the names of its ports, which are not kept
abbrev pub ports : Reader (List NetName)
ports tokens = if is_next (is_mark 41) tokens then Got [] tokens else separated 44 name tokens

abbrev pub port_list : Reader (List NetName)
port_list tokens = if is_next (is_mark 40) tokens then ended_by 41 (ports (behind tokens)) else Got [] tokens

abbrev pub header : Reader NetName
header tokens =
    after (after (word (codes "module") tokens) (λ _. name))
    (λ model later. made (λ ports. model) (ended (port_list later)))

-- declarations
abbrev pub whole_range : Reader Range
whole_range tokens =
    after (ended_by 58 (pass is_numeral tokens))
    (λ high later. made (λ low. record { high = high; low = low }) (ended_by 93 (pass is_numeral later)))

abbrev pub range : Reader (Option Range)
range tokens = if is_next (is_mark 91) tokens then made Some (whole_range (behind tokens)) else Got None tokens

abbrev pub declared : Option Range → Reader Declared
declared (Some indices) tokens = made (λ text. record { net = text; init = None }) (name tokens)
declared None tokens =
    after (name tokens)
    (λ text later. if is_next (is_mark 61) later then made (λ value. record { net = text; init = Some value }) (bit (behind later))
    else Got (record { net = text; init = None }) later)

abbrev pub declaration : (Option Range → List NetName → Item) → Reader Item
declaration make tokens = after (range tokens) (λ indices later. made (make indices) (ended (separated 44 name later)))

abbrev pub register_declaration : Reader Item
register_declaration tokens =
    after (range tokens) (λ indices later. made (Reg indices) (ended (separated 44 (declared indices) later)))

-- placed cells: each pin has a net, or is named without one
abbrev pub pin_net : Reader (Option NetName)
pin_net tokens = if is_next (is_mark 41) tokens then Got None tokens else made Some (net tokens)

abbrev pub pin : Reader PinNet
pin tokens =
    after (ended_by 40 (after (mark 46 tokens) (λ _. name)))
    (λ text later. made (λ net. record { pin = text; net = net }) (ended_by 41 (pin_net later)))

abbrev pub placed : Reader Item
placed tokens =
    after (name tokens)
    (λ cell later. after (ended_by 40 (pass is_label later))
    (λ label pins. made (Place cell label) (ended (ended_by 41 (separated 44 pin pins)))))

-- assignments
abbrev pub assignment : Reader Item
assignment tokens = after (ended_by 61 (net tokens)) (λ output later. made (Assign output) (ended (form later)))

-- registers
abbrev pub arrow : Reader (List ℕ)
arrow tokens = pass is_arrow tokens

abbrev pub update : Reader Update
update tokens =
    after (net tokens)
    (λ output later. made (λ input. record { net = output; takes = input }) (ended (after (arrow later) (λ _. net))))

abbrev pub update_turn : List Update → Read Update → Turn (List Update)
update_turn so_far (Got one later) = More (so_far ++ one ∷ []) later
update_turn so_far (Stuck later) = Halt later

abbrev pub block_turn : List Update → List Token → Turn (List Update)
block_turn so_far tokens =
    if is_next (is_word (codes "end")) tokens then Last so_far (behind tokens) else update_turn so_far (update tokens)

abbrev pub updates : Reader (List Update)
updates tokens =
    if is_next (is_word (codes "begin")) tokens then turns block_turn [] (behind tokens)
    else made (λ one. one ∷ []) (update tokens)

abbrev pub event : Reader NetName
event tokens =
    after (ended_by 40 (mark 64 tokens))
    (λ _ later. ended_by 41 (after (word (codes "posedge") later) (λ _. net)))

abbrev pub registers : Reader Item
registers tokens = after (event tokens) (λ clock later. made (Always clock) (updates later))

abbrev pub initial : Reader Item
initial tokens = after (ended_by 61 (net tokens)) (λ output later. made (Initial output) (ended (bit later)))

-- an item, by its first word; where it begins with none of these, it places a cell
abbrev pub rarer_item : Reader Item
rarer_item tokens =
    if is_next (is_word (codes "always")) tokens then registers (behind tokens)
    else (if is_next (is_word (codes "initial")) tokens then initial (behind tokens)
    else (if is_next (is_word (codes "wire")) tokens then declaration Wire (behind tokens)
    else (if is_next (is_word (codes "reg")) tokens then register_declaration (behind tokens)
    else placed tokens)))

abbrev pub item : Reader Item
item tokens =
    if is_next (is_word (codes "assign")) tokens then assignment (behind tokens)
    else (if is_next (is_word (codes "input")) tokens then declaration Input (behind tokens)
    else (if is_next (is_word (codes "output")) tokens then declaration Output (behind tokens)
    else rarer_item tokens))

-- Items with the lines on which they begin, as far as they can be read; and the tokens behind them: `endmodule` where all were
-- read, or the tokens from the first one on that no item allows.
pub record ItemAt : Type 0 where
  pub line : ℕ
  pub item : Item

pub record Items : Type 0 where
  pub found : List ItemAt
  pub whole : Bool
  pub left : List Token

abbrev pub line_of : ℕ → List Token → ℕ
line_of end [] = end
line_of end (token ∷ later) = token.line

abbrev pub put_item : ℕ → Read Item → (List Token → Items) → Items
put_item line (Stuck left) later = record { found = []; whole = false; left = left }
put_item line (Got one left) later = record (later left) { found = record { line = line; item = one } ∷ (later left).found }

abbrev pub items_within : ℕ → List Token → Items
items_within zero tokens = record { found = []; whole = false; left = tokens }
items_within (suc n) tokens =
    if is_next (is_word (codes "endmodule")) tokens then record { found = []; whole = true; left = tokens }
    else put_item (line_of 0 tokens) (item tokens) (items_within n)

abbrev pub items : List Token → Items
items tokens = items_within (suc (length tokens)) tokens
