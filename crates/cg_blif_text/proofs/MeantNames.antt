-- What a line says is made of names, and keeps the bounds of its form.
use Rattle.std.proofs.Common.{◌≡◌, ◌≢◌, ℕ, ◌+◌, ◌-◌, ◌<◌, ◌≤◌, Bool, true, false, ◌&&◌, ◌==◌, if◌then◌else◌, List, [], ◌∷◌, map}
use Rattle.std.proofs.Common.{length, suc, zero, Option, None, Some, Result, Ok, Err, refl, sym, ap, ◌∙◌, subst, arith, take, codes}
use Rattle.std.proofs.Common.{nat_le, nat_lt, slice_index, slice_index_or}
use Rattle.std.specs.List.{AllByRecursion, list_all}
use Rattle.std.specs.Option.{option_to_list}
use Rattle.std.specs.Str.{bytes_eq}
use Rattle.std.proofs.lemmas.Bool.{and_parts, both_ways, leb-true, lt-ltb}
use Rattle.std.proofs.lemmas.Option.{same_Some}
use Rattle.std.proofs.Math.Dec.{eqb-suc-zero}
use Rattle.cg_cell.specs.Name.{is_name}
use Rattle.cg_netlist_parts.specs.Writable.{NIL}
use Rattle.cg_netlist_parts.proofs.KnownNames.{itself}
use Rattle.cg_blif_text.specs.declared.statement.Command.{Command}
use Rattle.cg_blif_text.specs.declared.statement.Command.TheVariants as commands
use Rattle.cg_blif_text.specs.declared.fault.LineFault.{LineFault}
use Rattle.cg_blif_text.specs.declared.fault.LineFault.TheVariants.{BadLine, BadLatch, Limit}
use Rattle.cg_limit.specs.declared.Limit.TheVariants.{CoverInputs}
use Rattle.cg_limit.specs.declared.TheConstants.{MOST_COVER_INPUTS}
use Rattle.cg_blif_text.specs.declared.statement.Statement.{Statement}
use Rattle.cg_blif_text.specs.declared.statement.Statement.TheVariants.{Model, Inputs, Outputs, Clocks, Names, Latch, Gate, Skipped}
use Rattle.cg_blif_text.specs.declared.statement.Statement.TheVariants.{End}
use Rattle.cg_blif_text.specs.Commands.{command_of}
use Rattle.cg_blif_text.specs.Latches.{control_of, init_of, latch_line, latch_typed, latch_with}
use Rattle.cg_blif_text.specs.Meaning.{behind, front, last, meant, names_line}
use Rattle.cg_blif_text.specs.PinWords.{pin_net}
use Rattle.cg_blif_text.proofs.PinPairs.{Word}
use Rattle.cg_netlist_placed.proofs.WordsForPins.{IsNamed}

-- the words of a statement are names; a `.names` line has no more inputs than a cover may have, a `.latch` line an init of at
-- most 3 and no clock of the name `NIL`
abbrev pub IsMade : Statement → Type 0
IsMade (Model name) = IsNamed name
IsMade (Inputs nets) = AllByRecursion IsNamed nets
IsMade (Outputs nets) = AllByRecursion IsNamed nets
IsMade (Clocks nets) = AllByRecursion IsNamed nets
IsMade (Names inputs output) = AllByRecursion IsNamed inputs × IsNamed output × (length inputs ≤ MOST_COVER_INPUTS)
IsMade (Latch input output clock init) = IsNamed input × IsNamed output × AllByRecursion IsNamed (option_to_list clock) × (clock ≢ Some NIL) × (init ≤ 3)
IsMade statement = Unit {0}

each_named : (ws : List Word) → list_all is_name ws ≡ true → AllByRecursion IsNamed ws
each_named [] all = tt
each_named (w ∷ ws) all = let parts = and_parts (is_name w) (list_all is_name ws) all in (parts.0, each_named ws parts.1)

made_as : (s t : Statement) → IsMade s → ◌≡◌ {A = Result Statement LineFault} (Ok s) (Ok t) → IsMade t
made_as s t made is = let same : s ≡ t = cc in subst IsMade same made

-- all words but the last, and the last

each_take : (n : ℕ) (ws : List Word) → AllByRecursion IsNamed ws → AllByRecursion IsNamed (take n ws)
each_take zero ws all = tt
each_take (suc n) [] all = tt
each_take (suc n) (w ∷ ws) all = (all.0, each_take n ws all.1)

each_at : (ws : List Word) (k : ℕ) → k < length ws → AllByRecursion IsNamed ws → IsNamed (slice_index_or ws k [])
each_at [] k inside all = absurd (omega arith)
each_at (w ∷ ws) zero inside all = all.0
each_at (w ∷ ws) (suc k) inside all = each_at ws k (omega (arith, inside)) all.1

take_short : (n : ℕ) (ws : List Word) → length (take n ws) ≤ n
take_short zero ws = omega arith
take_short (suc n) [] = omega arith
take_short (suc n) (w ∷ ws) = let rest = take_short n ws in omega (arith, rest)

names_made : (ws : List Word) (s : Statement) → AllByRecursion IsNamed ws → names_line ws ≡ Ok s → IsMade s
names_made [] s all is = absurd (cc)
names_made (w ∷ ws) s all is = go (nat_lt (1 + MOST_COVER_INPUTS) (length (w ∷ ws))) refl (sym (ap (λ b. if b then Err BadLine else (if nat_lt (1 + MOST_COVER_INPUTS) (length (w ∷ ws)) then Err (Limit CoverInputs) else Ok (Names (front (w ∷ ws)) (last (w ∷ ws))))) (eqb-suc-zero (length ws))) ∙ is)
  where
    few : nat_lt (1 + MOST_COVER_INPUTS) (length (w ∷ ws)) ≡ false → length (w ∷ ws) ≤ 1 + MOST_COVER_INPUTS
    few e = omega (arith, λ (more : 1 + MOST_COVER_INPUTS < length (w ∷ ws)). let no : ⊥ = both_ways (nat_lt (1 + MOST_COVER_INPUTS) (length (w ∷ ws))) e (lt-ltb (1 + MOST_COVER_INPUTS) (length (w ∷ ws)) more) in no)

    go : (b : Bool) → nat_lt (1 + MOST_COVER_INPUTS) (length (w ∷ ws)) ≡ b → (if b then Err (Limit CoverInputs) else Ok (Names (front (w ∷ ws)) (last (w ∷ ws)))) ≡ Ok s → IsMade s
    go true e q = absurd (cc)
    go false e q =
        let short = take_short (length (w ∷ ws) - 1) (w ∷ ws) in
        let n = few e in
        made_as (Names (front (w ∷ ws)) (last (w ∷ ws))) s (each_take (length (w ∷ ws) - 1) (w ∷ ws) all, each_at (w ∷ ws) (length (w ∷ ws) - 1) (omega arith) all, omega (arith, short, n)) q

-- `.latch` lines

init_small : (word : Word) (n : ℕ) → init_of word ≡ Some n → n ≤ 3
init_small word n is = go (length word == 1) (nat_le 48 (slice_index word 0)) (nat_le (slice_index word 0) 51) refl is
  where
    go : (a b c : Bool) → nat_le (slice_index word 0) 51 ≡ c → (if a && b && c then Some (slice_index word 0 - 48) else None) ≡ Some n → n ≤ 3
    go true true true e q = let low = leb-true (slice_index word 0) 51 e in let same = same_Some (slice_index word 0 - 48) n q in omega (arith, low, same)
    go false b c e q = absurd (cc)
    go true false c e q = absurd (cc)
    go true true false e q = absurd (cc)

three : (n : ℕ) → Some 3 ≡ Some n → n ≤ 3
three n is = let same = same_Some 3 n is in omega (arith, same)

record IsClockWord (clock : Option Word) : Type 0 where
  pub named : AllByRecursion IsNamed (option_to_list clock)
  pub other : clock ≢ Some NIL

control_is : (word : Word) → IsNamed word → IsClockWord (control_of word)
control_is word named = go (bytes_eq word (codes "NIL")) refl
  where
    go : (b : Bool) → bytes_eq word (codes "NIL") ≡ b → IsClockWord (if b then None else Some word)
    go true e = record { named = tt; other = λ is. cc }
    go false e = record { named = (named, tt); other = λ is. let same : word ≡ NIL = same_Some word NIL is in both_ways (bytes_eq word (codes "NIL")) e (ap (λ w. bytes_eq w (codes "NIL")) same ∙ itself NIL) }

no_clock : IsClockWord None
no_clock = record { named = tt; other = λ is. cc }

with_made : (input output : Word) (clock : Option Word) (init : Option ℕ) (s : Statement) → IsNamed input → IsNamed output → IsClockWord clock → ((n : ℕ) → init ≡ Some n → n ≤ 3) → latch_with input output clock init ≡ Ok s → IsMade s
with_made input output clock None s i o c small is = absurd (cc)
with_made input output clock (Some n) s i o c small is = made_as (Latch input output clock n) s (i, o, c.named, c.other, small n refl) is

typed_made : (input output type control : Word) (init : Option ℕ) (s : Statement) → IsNamed input → IsNamed output → IsNamed control → ((n : ℕ) → init ≡ Some n → n ≤ 3) → latch_typed input output type control init ≡ Ok s → IsMade s
typed_made input output type control init s i o c small is = go (bytes_eq type (codes "re")) is
  where
    go : (b : Bool) → (if b then latch_with input output (control_of control) init else Err BadLatch) ≡ Ok s → IsMade s
    go true q = with_made input output (control_of control) init s i o (control_is control c) small q
    go false q = absurd (cc)

latch_made : (ws : List Word) (s : Statement) → AllByRecursion IsNamed ws → latch_line ws ≡ Ok s → IsMade s
latch_made [] s all is = absurd (cc)
latch_made (a ∷ []) s all is = absurd (cc)
latch_made (a ∷ b ∷ []) s all is = with_made a b None (Some 3) s all.0 all.1.0 no_clock three is
latch_made (a ∷ b ∷ c ∷ []) s all is = with_made a b None (init_of c) s all.0 all.1.0 no_clock (init_small c) is
latch_made (a ∷ b ∷ c ∷ d ∷ []) s all is = typed_made a b c d (Some 3) s all.0 all.1.0 all.1.1.1.0 three is
latch_made (a ∷ b ∷ c ∷ d ∷ e ∷ []) s all is = typed_made a b c d (init_of e) s all.0 all.1.0 all.1.1.1.0 (init_small e) is
latch_made (a ∷ b ∷ c ∷ d ∷ e ∷ f ∷ ws) s all is = absurd (cc)

-- all lines

behind_made : (command : Command) (ws : List Word) (s : Statement) → AllByRecursion IsNamed ws → behind command ws ≡ Ok s → IsMade s
behind_made commands.Model [] s all is = absurd (cc)
behind_made commands.Model (w ∷ []) s all is = made_as (Model w) s all.0 is
behind_made commands.Model (w ∷ v ∷ ws) s all is = absurd (cc)
behind_made commands.Inputs ws s all is = made_as (Inputs ws) s all is
behind_made commands.Outputs ws s all is = made_as (Outputs ws) s all is
behind_made commands.Clocks ws s all is = made_as (Clocks ws) s all is
behind_made commands.Names ws s all is = names_made ws s all is
behind_made commands.Latch ws s all is = latch_made ws s all is
behind_made commands.Gate [] s all is = absurd (cc)
behind_made commands.Gate (w ∷ ws) s all is = made_as (Gate w (map pin_net ws)) s tt is
behind_made commands.Skipped ws s all is = made_as Skipped s tt is
behind_made commands.End [] s all is = made_as End s tt is
behind_made commands.End (w ∷ ws) s all is = absurd (cc)
behind_made commands.Other ws s all is = absurd (cc)

pub meant_made : (ws : List Word) (s : Statement) → meant ws ≡ Ok s → IsMade s
meant_made [] s is = absurd (cc)
meant_made (w ∷ ws) s is = go (list_all is_name (w ∷ ws)) refl is
  where
    go : (b : Bool) → list_all is_name (w ∷ ws) ≡ b → (if b then behind (command_of w) ws else Err BadLine) ≡ Ok s → IsMade s
    go true e q = behind_made (command_of w) ws s (each_named (w ∷ ws) e).1 q
    go false e q = absurd (cc)
