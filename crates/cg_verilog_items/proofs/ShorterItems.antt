-- An item that is read takes a token.
use Rattle.std.proofs.Common.{ℕ, zero, suc, ◌<◌, ◌≤◌, Bool, true, false, List, [], ◌∷◌, ◌++◌, length, if◌then◌else◌, arith, codes, refl, ◌≡◌, Option, None, Some}
use Rattle.cg_net.specs.Names.{NetName}
use Rattle.cg_verilog_text.specs.Forms.{form}
use Rattle.cg_verilog_text.specs.Items.{Always, Assign, Initial, Input, Item, Output, Place, Range, Reg, Update, Wire, arrow, assignment, block_turn, declaration, declared, ended, event, initial, item, made, pin, pin_net, placed, range, rarer_item, register_declaration, registers, update, update_turn, updates, whole_range}
use Rattle.cg_verilog_text.specs.Reading.{Got, Last, Read, Stuck, after, behind, bit, ended_by, is_arrow, is_label, is_mark, is_next, is_numeral, is_word, mark, name, net, pass, separated, take_turn, turns_within, word}
use Rattle.cg_verilog_text.specs.Tokens.{Token}
use Rattle.cg_verilog_expression.proofs.Passing.{next_shrinks}
use Rattle.cg_verilog_expression.proofs.Shorter.{Keeps, Shorter, Takes, behind_few, bit_shorter, either_shorter, ended_shorter, form_shorter, name_shorter, net_shorter, parted_shorter, passed, then_shorter}

-- what is made of what is read
pub made_shorter : {A B : Type 0} (n : ℕ) (make : A → B) (read : Read A) → Shorter n read → Shorter n (made make read)
made_shorter n make (Got a later) short = short
made_shorter n make (Stuck left) short = tt

-- declarations
pub declared_shorter : (indices : Option Range) → Takes (declared indices)
declared_shorter (Some indices) n ts few = made_shorter n (λ text. record { net = text; init = None }) (name ts) (name_shorter n ts few)
declared_shorter None n ts few =
    then_shorter n n (name ts) (λ text later. if is_next (is_mark 61) later then made (λ value. record { net = text; init = Some value }) (bit (behind later)) else Got (record { net = text; init = None }) later) (name_shorter n ts few)
    (λ text later short. either_shorter n (is_next (is_mark 61) later) (made (λ value. record { net = text; init = Some value }) (bit (behind later))) (Got (record { net = text; init = None }) later)
    (made_shorter n (λ value. record { net = text; init = Some value }) (bit (behind later)) (bit_shorter n (behind later) (behind_few later n (omega arith)))) short)

range_kept : Keeps range
range_kept n ts less =
    either_shorter n (is_next (is_mark 91) ts) (made Some (whole_range (behind ts))) (Got None ts) (made_shorter n Some (whole_range (behind ts)) whole) less
  where
    few : length (behind ts) ≤ n
    few = behind_few ts n (omega arith)

    whole : Shorter n (whole_range (behind ts))
    whole =
        then_shorter n n (ended_by 58 (pass is_numeral (behind ts))) (λ high later. made (λ low. record { high = high; low = low }) (ended_by 93 (pass is_numeral later))) (ended_shorter 58 n (pass is_numeral (behind ts)) (passed is_numeral n (behind ts) few))
        (λ high later short. made_shorter n (λ low. record { high = high; low = low }) (ended_by 93 (pass is_numeral later)) (ended_shorter 93 n (pass is_numeral later) (passed is_numeral n later (omega arith))))

names_shorter : Takes (separated 44 name)
names_shorter = parted_shorter 44 (λ so_far. name) (λ so_far. name_shorter) []

declaration_shorter : (make : Option Range → List NetName → Item) → Takes (declaration make)
declaration_shorter make n ts few =
    then_shorter (suc n) n (range ts) (λ indices later. made (make indices) (ended (separated 44 name later))) (range_kept (suc n) ts (omega arith))
    (λ indices later less. made_shorter n (make indices) (ended (separated 44 name later)) (ended_shorter 59 n (separated 44 name later) (names_shorter n later (omega arith))))

reg_shorter : Takes register_declaration
reg_shorter n ts few =
    then_shorter (suc n) n (range ts) (λ indices later. made (Reg indices) (ended (separated 44 (declared indices) later))) (range_kept (suc n) ts (omega arith))
    (λ indices later less. made_shorter n (Reg indices) (ended (separated 44 (declared indices) later)) (ended_shorter 59 n (separated 44 (declared indices) later) (parted_shorter 44 (λ so_far. declared indices) (λ so_far. declared_shorter indices) [] n later (omega arith))))

-- placed cells
pub pin_shorter : Takes pin
pin_shorter n ts few =
    then_shorter n n (ended_by 40 (after (mark 46 ts) (λ _. name))) (λ text later. made (λ net. record { pin = text; net = net }) (ended_by 41 (pin_net later)))
    (ended_shorter 40 n (after (mark 46 ts) (λ _. name)) (then_shorter n n (mark 46 ts) (λ _. name) (passed (is_mark 46) n ts few) (λ _ later short. name_shorter n later (omega arith))))
    (λ text later short. made_shorter n (λ net. record { pin = text; net = net }) (ended_by 41 (pin_net later)) (ended_shorter 41 n (pin_net later) (inner later short)))
  where
    inner : (later : List Token) → length later < n → Shorter n (pin_net later)
    inner later short = either_shorter n (is_next (is_mark 41) later) (Got None later) (made Some (net later)) short (made_shorter n Some (net later) (net_shorter n later (omega arith)))

placed_shorter : Takes placed
placed_shorter n ts few =
    then_shorter n n (name ts) (λ cell later. after (ended_by 40 (pass is_label later)) (λ label pins. made (Place cell label) (ended (ended_by 41 (separated 44 pin pins))))) (name_shorter n ts few)
    (λ cell later short. then_shorter n n (ended_by 40 (pass is_label later)) (λ label pins. made (Place cell label) (ended (ended_by 41 (separated 44 pin pins)))) (ended_shorter 40 n (pass is_label later) (passed is_label n later (omega arith)))
    (λ label pins less. made_shorter n (Place cell label) (ended (ended_by 41 (separated 44 pin pins))) (ended_shorter 59 n (ended_by 41 (separated 44 pin pins)) (ended_shorter 41 n (separated 44 pin pins) (parted_shorter 44 (λ so_far. pin) (λ so_far. pin_shorter) [] n pins (omega arith))))))

-- assignments and inits
assignment_shorter : Takes assignment
assignment_shorter n ts few =
    then_shorter n n (ended_by 61 (net ts)) (λ output later. made (Assign output) (ended (form later))) (ended_shorter 61 n (net ts) (net_shorter n ts few))
    (λ output later short. made_shorter n (Assign output) (ended (form later)) (ended_shorter 59 n (form later) (form_shorter n later (omega arith))))

initial_shorter : Takes initial
initial_shorter n ts few =
    then_shorter n n (ended_by 61 (net ts)) (λ output later. made (Initial output) (ended (bit later))) (ended_shorter 61 n (net ts) (net_shorter n ts few))
    (λ output later short. made_shorter n (Initial output) (ended (bit later)) (ended_shorter 59 n (bit later) (bit_shorter n later (omega arith))))

-- registers
pub update_shorter : Takes update
update_shorter n ts few =
    then_shorter n n (net ts) (λ output later. made (λ input. record { net = output; takes = input }) (ended (after (arrow later) (λ _. net)))) (net_shorter n ts few)
    (λ output later short. made_shorter n (λ input. record { net = output; takes = input }) (ended (after (arrow later) (λ _. net)))
    (ended_shorter 59 n (after (arrow later) (λ _. net)) (then_shorter n n (arrow later) (λ _. net) (passed is_arrow n later (omega arith)) (λ _ last less. net_shorter n last (omega arith)))))

turn_kept : (k n : ℕ) → ((so_far : List Update) (ts : List Token) → length ts ≤ n → Shorter n (turns_within k block_turn so_far ts)) → (so_far : List Update) (ts : List Token) → length ts ≤ n → Shorter n (turns_within (suc k) block_turn so_far ts)
turn_kept k n rest so_far ts few = go (is_next (is_word (codes "end")) ts) refl
  where
    one : (read : Read Update) → Shorter n read → Shorter n (take_turn (update_turn so_far read) (turns_within k block_turn))
    one (Got update later) short = rest (so_far ++ update ∷ []) later (omega arith)
    one (Stuck left) short = tt

    go : (b : Bool) → is_next (is_word (codes "end")) ts ≡ b → Shorter n (take_turn (if b then Last so_far (behind ts) else update_turn so_far (update ts)) (turns_within k block_turn))
    go true is = let less = next_shrinks (is_word (codes "end")) ts is in omega (arith, less)
    go false is = one (update ts) (update_shorter n ts few)

block_shorter : (k n : ℕ) (so_far : List Update) (ts : List Token) → length ts ≤ n → Shorter n (turns_within k block_turn so_far ts)
block_shorter zero n so_far ts few = tt
block_shorter (suc k) n so_far ts few = turn_kept k n (block_shorter k n) so_far ts few

updates_shorter : Takes updates
updates_shorter n ts few =
    either_shorter n (is_next (is_word (codes "begin")) ts) (turns_within (suc (length (behind ts))) block_turn [] (behind ts)) (made (λ one. one ∷ []) (update ts))
    (block_shorter (suc (length (behind ts))) n [] (behind ts) (behind_few ts n few)) (made_shorter n (λ one. one ∷ []) (update ts) (update_shorter n ts few))

event_shorter : Takes event
event_shorter n ts few =
    then_shorter n n (ended_by 40 (mark 64 ts)) (λ _ later. ended_by 41 (after (word (codes "posedge") later) (λ _. net))) (ended_shorter 40 n (mark 64 ts) (passed (is_mark 64) n ts few))
    (λ _ later short. ended_shorter 41 n (after (word (codes "posedge") later) (λ _. net)) (then_shorter n n (word (codes "posedge") later) (λ _. net) (passed (is_word (codes "posedge")) n later (omega arith)) (λ _ last less. net_shorter n last (omega arith))))

registers_shorter : Takes registers
registers_shorter n ts few =
    then_shorter n n (event ts) (λ clock later. made (Always clock) (updates later)) (event_shorter n ts few)
    (λ clock later short. made_shorter n (Always clock) (updates later) (updates_shorter n later (omega arith)))

-- items
rarer_shorter : Takes rarer_item
rarer_shorter n ts few =
    let more : length (behind ts) ≤ n = behind_few ts n few in
    either_shorter n (is_next (is_word (codes "always")) ts) (registers (behind ts)) _ (registers_shorter n (behind ts) more)
    (either_shorter n (is_next (is_word (codes "initial")) ts) (initial (behind ts)) _ (initial_shorter n (behind ts) more)
    (either_shorter n (is_next (is_word (codes "wire")) ts) (declaration Wire (behind ts)) _ (declaration_shorter Wire n (behind ts) more)
    (either_shorter n (is_next (is_word (codes "reg")) ts) (register_declaration (behind ts)) (placed ts) (reg_shorter n (behind ts) more) (placed_shorter n ts few))))

pub item_shorter : Takes item
item_shorter n ts few =
    let more : length (behind ts) ≤ n = behind_few ts n few in
    either_shorter n (is_next (is_word (codes "assign")) ts) (assignment (behind ts)) _ (assignment_shorter n (behind ts) more)
    (either_shorter n (is_next (is_word (codes "input")) ts) (declaration Input (behind ts)) _ (declaration_shorter Input n (behind ts) more)
    (either_shorter n (is_next (is_word (codes "output")) ts) (declaration Output (behind ts)) (rarer_item ts) (declaration_shorter Output n (behind ts) more) (rarer_shorter n ts few)))
