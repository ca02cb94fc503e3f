-- What the watcher of clocks keeps goes on with the next register, the next clock net, the next moment and the next line.
use Rattle.std.proofs.Common.{◌≡◌, ℕ, zero, suc, ◌+◌, ◌<◌, ◌≤◌, Bool, true, false, cond, not, ◌&&◌, if◌then◌else◌, inl, inr, List, [], ◌∷◌, ◌++◌}
use Rattle.std.proofs.Common.{length, map, take, drop, nat_eq, Option, None, Some, slice_get, slice_set, get_or, ◌==◌, replicate, refl, sym, ap, subst, ◌∙◌, add-one, append_assoc, arith}
use Rattle.std.specs.List.{All, count_by, flat_map}
use Rattle.std.specs.Option.{option_map_or, option_to_list}
use Rattle.std.proofs.lemmas.Bool.{eqb-true, eq-eqb, false_from_ne_true}
use Rattle.std.proofs.lemmas.List.{append-nil, drop_all, length-replicate, length-set, map-append, take_all}
use Rattle.std.proofs.lemmas.List.Sums.{count_by-le-length, sum_by-take-le, sum_by_more}
use Rattle.std.proofs.lemmas.Option.{get_or_from_slice_get, same_Some, slice_get_within}
use Rattle.std.proofs.Math.Dec.{eqb-suc-zero}
use Rattle.cg_stimulus.proofs.ReadingOn.{next_at}
use Rattle.std.proofs.lemmas.List.Elements.{All-cons, All-head, All-nil, All-tail}
use Rattle.cg_net.proofs.Members.{All-from_members, is_in_left, is_in_right, member_at}
use Rattle.cg_net.proofs.TableLemmas.{same_or_not, slice_get-set_other, slice_get-set_same, take_next}
use Rattle.cg_netlist.specs.Circuit.{Circuit, GatingCell, RegisterCell, clock_nets, gater_outputs}
use Rattle.cg_netlist.specs.Moment.{bit}
use Rattle.cg_netlist.specs.WellFormed.{IsWellFormed}
use Rattle.cg_netlist.proofs.Given.{from_option}
use Rattle.cg_netlist.proofs.Values.{at_map}
use Rattle.cg_edge.proofs.Facts.{clock_net_within}
use Rattle.cg_report.specs.ClockLines.{clock_line, clock_text, clocks_text, lines_text, net_rise, net_rises, net_rises_from, registers_on}
use Rattle.cg_report.specs.Counts.{capped, last_from, last_nets}
use Rattle.cg_report.specs.Shown.{Shown}
use Rattle.cg_report.specs.declared.clock_count.ClockNet.{ClockNet}
use Rattle.cg_report.specs.inner.ClockCounting.{AreClocked, kept, line_of, with_bit}
use Rattle.cg_report.proofs.Counting.{last_on}

-- moments

rises_on : (net : ℕ) (before : Option (List Bool)) (moments : List Shown) (now : Shown)
    → net_rises_from net before (moments ++ now ∷ []) ≡ net_rises_from net before moments + net_rise net (last_from before moments) now.nets
rises_on net before [] now = omega arith
rises_on net before (m ∷ moments) now = ap (λ n. net_rise net before m.nets + n) (rises_on net (Some m.nets) moments now) ∙ omega arith

capped_more : (n : ℕ) → capped (capped n + 1) ≡ capped (n + 1)
capped_more n = omega arith

capped_none : (n : ℕ) → capped n ≡ capped (n + 0)
capped_none n = omega arith

-- a rise from a bit to a bit
rise_bits : (before now : Bool) (n : ℕ) → (if now && not before then capped (capped n + 1) else capped n) ≡ capped (n + (if not before && now then 1 else 0))
rise_bits true true n = capped_none n
rise_bits true false n = capped_none n
rise_bits false true n = capped_more n
rise_bits false false n = capped_none n

no_rise : (now : Bool) (n : ℕ) → (if now && not true then capped (capped n + 1) else capped n) ≡ capped (n + 0)
no_rise true n = capped_none n
no_rise false n = capped_none n

rise_at : (last : Option (List Bool)) (net : ℕ) (now : List Bool) (n : ℕ)
    → (if bit now net && not (option_map_or (λ nets. bit nets net) last true) then capped (capped n + 1) else capped n) ≡ capped (n + net_rise net last now)
rise_at None net now n = no_rise (bit now net) n
rise_at (Some before) net now n = rise_bits (bit before net) (bit now net) n

kept_on : (c : Circuit) (before : List Shown) (now : Shown) (net : ℕ) → with_bit (kept c before net) (bit now.nets net) ≡ kept c (before ++ now ∷ []) net
kept_on c before now net =
    let high : bit now.nets net ≡ option_map_or (λ nets. bit nets net) (last_nets (before ++ now ∷ [])) true = ap (λ last. option_map_or (λ nets. bit nets net) last true) (sym (last_on None before now)) in
    let rises : (if bit now.nets net && not (option_map_or (λ nets. bit nets net) (last_nets before) true) then capped (capped (net_rises net before) + 1) else capped (net_rises net before)) ≡ capped (net_rises net (before ++ now ∷ [])) =
    rise_at (last_nets before) net now.nets (net_rises net before) ∙ ap capped (sym (rises_on net None before now)) in
    ap (λ h. record (with_bit (kept c before net) (bit now.nets net)) { high = h }) high
    ∙ ap (λ r. record (kept c (before ++ now ∷ []) net) { rises = r }) rises

-- every clock net is shown a moment more
pub all_kept_on : (c : Circuit) (before : List Shown) (now : Shown) (nets : List ℕ)
    → map (λ (clock : ClockNet). with_bit clock (bit now.nets clock.net)) (map (kept c before) nets) ≡ map (kept c (before ++ now ∷ [])) nets
all_kept_on c before now [] = refl
all_kept_on c before now (net ∷ nets) =
    ap (λ k. k ∷ map (λ (clock : ClockNet). with_bit clock (bit now.nets clock.net)) (map (kept c before) nets)) (kept_on c before now net)
    ∙ ap (λ ks. kept c (before ++ now ∷ []) net ∷ ks) (all_kept_on c before now nets)

-- registers

abbrev no_register : ℕ
no_register = 0

at_none : (n k : ℕ) → k < n → slice_get (replicate n no_register) k ≡ Some no_register
at_none zero k below = absurd (let no' : ⊥ = omega (arith, below) in no')
at_none (suc n) zero below = refl
at_none (suc n) (suc k) below = at_none n k (omega (arith, below))

pub clocked_none : (c : Circuit) (registers : List ℕ) → registers ≡ replicate (length c.names) 0 → AreClocked c 0 registers
clocked_none c registers none = record {
  long = ap length none ∙ length-replicate (length c.names) 0;
  each = λ net below. ap (λ l. slice_get l net) none ∙ at_none (length c.names) net below;
}

-- how many of the first registers have this net as their clock net
abbrev clocked_by : Circuit → ℕ → ℕ → ℕ
clocked_by c k net = count_by (λ (r : RegisterCell ℕ ℕ). nat_eq r.clock net) (take k c.registers)

add_none : (n : ℕ) → n + cond false 1 0 ≡ n
add_none n = omega arith

-- one register more at a net, or not
count_more : (c : Circuit) (k net : ℕ) (r : RegisterCell ℕ ℕ) → slice_get c.registers k ≡ Some r
    → count_by (λ (r : RegisterCell ℕ ℕ). nat_eq r.clock net) (take (k + 1) c.registers) ≡ count_by (λ (r : RegisterCell ℕ ℕ). nat_eq r.clock net) (take k c.registers) + cond (nat_eq r.clock net) 1 0
count_more c k net r at =
    sum_by_more (λ (r : RegisterCell ℕ ℕ). cond (nat_eq r.clock net) 1 0) c.registers k r (slice_get_within c.registers k r at)
    ∙ ap (λ (s : RegisterCell ℕ ℕ). count_by (λ (r : RegisterCell ℕ ℕ). nat_eq r.clock net) (take k c.registers) + cond (nat_eq s.clock net) 1 0) (get_or_from_slice_get c.registers k r r at)

pub clocked_more : (c : Circuit) (k : ℕ) (r : RegisterCell ℕ ℕ) (registers : List ℕ) → slice_get c.registers k ≡ Some r → r.clock < length c.names → AreClocked c k registers
    → AreClocked c (k + 1) (slice_set registers r.clock (get_or registers r.clock 0 + 1))
clocked_more c k r registers at within counted =
    let v = get_or registers r.clock 0 + 1 in
    record {
      long = length-set registers r.clock v ∙ counted.long;
      each = λ net below. elim (same_or_not net r.clock) [
        | inl e ↦ ap (slice_get (slice_set registers r.clock v)) e
            ∙ (slice_get-set_same registers r.clock v (omega (arith, within, counted.long))
            ∙ ap Some (ap (λ m. m + 1) (get_or_from_slice_get registers r.clock (clocked_by c k net) 0 (ap (slice_get registers) (sym e) ∙ counted.each net below))
            ∙ sym (count_more c k net r at ∙ ap (λ b. clocked_by c k net + cond b 1 0) (eq-eqb r.clock net (sym e)))))
        | inr e ↦ slice_get-set_other registers r.clock net v e
            ∙ (counted.each net below
            ∙ ap Some (sym (count_more c k net r at ∙ (ap (λ b. clocked_by c k net + cond b 1 0) (false_from_ne_true (nat_eq r.clock net) (λ same. e (sym (eqb-true r.clock net same)))) ∙ add_none (clocked_by c k net)))))
      ];
    }

-- a count is within the registers
pub clocked_few : (c : Circuit) (k net most : ℕ) (registers : List ℕ) → net < length c.names → length c.registers ≤ most → AreClocked c k registers → get_or registers net 0 ≤ most
clocked_few c k net most registers below few counted =
    let is : get_or registers net 0 ≡ clocked_by c k net = get_or_from_slice_get registers net (clocked_by c k net) 0 (counted.each net below) in
    let all = count_by (λ (r : RegisterCell ℕ ℕ). nat_eq r.clock net) c.registers in
    let part : clocked_by c k net ≤ all = sum_by-take-le (λ (r : RegisterCell ℕ ℕ). cond (nat_eq r.clock net) 1 0) c.registers k in
    let whole : all ≤ length c.registers = count_by-le-length (λ (r : RegisterCell ℕ ℕ). nat_eq r.clock net) c.registers in
    omega (arith, is, part, whole, few)

pub clocked_all : (c : Circuit) (registers : List ℕ) (k : ℕ) → length c.registers ≤ k → AreClocked c k registers → AreClocked c (length c.registers) registers
clocked_all c registers k all counted = record {
  long = counted.long;
  each = λ net below. counted.each net below ∙ ap (λ (rs : List (RegisterCell ℕ ℕ)). Some (count_by (λ (r : RegisterCell ℕ ℕ). nat_eq r.clock net) rs)) (take_all k c.registers all ∙ sym (take_all (length c.registers) c.registers (omega arith)));
}

pub clocked_at : (c : Circuit) (net : ℕ) (registers : List ℕ) (v : ℕ) → net < length c.names → AreClocked c (length c.registers) registers → v ≡ get_or registers net 0 → v ≡ registers_on c net
clocked_at c net registers v below counted is =
    is ∙ (get_or_from_slice_get registers net (clocked_by c (length c.registers) net) 0 (counted.each net below)
    ∙ ap (λ (rs : List (RegisterCell ℕ ℕ)). count_by (λ (r : RegisterCell ℕ ℕ). nat_eq r.clock net) rs) (take_all (length c.registers) c.registers (omega arith)))

-- the clock nets

pub clocks_are_nets : (c : Circuit) → IsWellFormed c → All (λ net. net < length c.names) (clock_nets c)
clocks_are_nets c good = All-from_members (λ net. net < length c.names) (clock_nets c) (λ x among. clock_net_within c good (length c.names) refl x among)

pub clock_is_net : (c : Circuit) → IsWellFormed c → (x : ℕ) → c.clock ≡ Some x → x < length c.names
clock_is_net c good x is = clock_net_within c good (length c.names) refl x (is_in_left (option_to_list c.clock) (gater_outputs c) x (from_option c.clock x is))

pub gater_is_net : (c : Circuit) → IsWellFormed c → (k : ℕ) (gater : GatingCell ℕ) → slice_get c.gaters k ≡ Some gater → gater.output < length c.names
gater_is_net c good k gater at =
    clock_net_within c good (length c.names) refl gater.output (is_in_right (option_to_list c.clock) (gater_outputs c) gater.output (member_at (gater_outputs c) k gater.output (at_map (λ (g : GatingCell ℕ). g.output) c.gaters k gater at)))

pub gaters_go : (c : Circuit) (first old new : List ClockNet) (k : ℕ) (gater : GatingCell ℕ) → slice_get c.gaters k ≡ Some gater → old ≡ first ++ map (kept c []) (take k (gater_outputs c))
    → new ≡ old ++ kept c [] gater.output ∷ [] → new ≡ first ++ map (kept c []) (take (k + 1) (gater_outputs c))
gaters_go c first old new k gater at so_far pushed =
    let outputs = gater_outputs c in
    let one : map (kept c []) (take (k + 1) outputs) ≡ map (kept c []) (take k outputs) ++ kept c [] gater.output ∷ [] =
    ap (map (kept c [])) (take_next outputs k gater.output (at_map (λ (g : GatingCell ℕ). g.output) c.gaters k gater at)) ∙ map-append (kept c []) (take k outputs) (gater.output ∷ []) in
    pushed ∙ (ap (λ ks. ks ++ kept c [] gater.output ∷ []) so_far ∙ (append_assoc first (map (kept c []) (take k outputs)) (kept c [] gater.output ∷ []) ∙ ap (λ ks. first ++ ks) (sym one)))

-- the kept nets are nets of the netlist
kept_below : (c : Circuit) (moments : List Shown) (n : ℕ) (nets : List ℕ) → All (λ net. net < n) nets → All (λ (clock : ClockNet). clock.net < n) (map (kept c moments) nets)
kept_below c moments n [] all = All-nil (λ (clock : ClockNet). clock.net < n)
kept_below c moments n (net ∷ nets) all =
    All-cons (λ (clock : ClockNet). clock.net < n) (kept c moments net) (map (kept c moments) nets) (All-head (λ net. net < n) net nets all) (kept_below c moments n nets (All-tail (λ net. net < n) net nets all))

pub kept_within : (c : Circuit) (moments : List Shown) (n : ℕ) (clocks : List ClockNet) → clocks ≡ map (kept c moments) (clock_nets c) → All (λ net. net < length c.names) (clock_nets c) → n ≡ length c.names
    → All (λ (clock : ClockNet). clock.net < n) clocks
kept_within c moments n clocks are all is =
    let P : List ClockNet → Type 0 = λ ks. All (λ (clock : ClockNet). clock.net < n) ks in
    let Q : ℕ → Type 0 = λ m. All (λ net. net < m) (clock_nets c) in
    subst P (sym are) (kept_below c moments n (clock_nets c) (subst Q (sym is) all))

pub all_clocks : (c : Circuit) (none one all : List ClockNet) → none ≡ [] → one ≡ none ++ map (kept c []) (option_to_list c.clock) → all ≡ one ++ map (kept c []) (gater_outputs c) → all ≡ map (kept c []) (clock_nets c)
all_clocks c none one all empty first rest =
    rest ∙ (ap (λ ks. ks ++ map (kept c []) (gater_outputs c)) (first ∙ ap (λ ks. ks ++ map (kept c []) (option_to_list c.clock)) empty) ∙ sym (map-append (kept c []) (option_to_list c.clock) (gater_outputs c)))

-- lines

kept_lines : (c : Circuit) (moments : List Shown) (nets : List ℕ) → map (λ clock. clock_text (line_of clock)) (map (kept c moments) nets) ≡ map clock_text (map (clock_line c moments) nets)
kept_lines c moments [] = refl
kept_lines c moments (net ∷ nets) = ap (λ ls. clock_text (clock_line c moments net) ∷ ls) (kept_lines c moments nets)

pub said_all : (c : Circuit) (moments : List Shown) (given clocks : List ClockNet) (old new : List ℕ) → given ≡ clocks → clocks ≡ map (kept c moments) (clock_nets c)
    → new ≡ old ++ lines_text (map (λ clock. clock_text (line_of clock)) given) → new ≡ old ++ clocks_text c moments
said_all c moments given clocks old new same are said =
    said ∙ ap (λ lines. old ++ lines_text lines) (ap (map (λ clock. clock_text (line_of clock))) (same ∙ are) ∙ kept_lines c moments (clock_nets c))

-- lines, each behind an end of line
abbrev behind : List (List ℕ) → List ℕ
behind lines = flat_map (λ later. 10 ∷ later) lines

-- the lines from a place on
abbrev pub lines_from : ℕ → List (List ℕ) → List ℕ
lines_from place lines = if place == 0 then lines_text lines else behind (drop place lines)

not_first : (place : ℕ) → (suc place == 0) ≡ false
not_first place = eqb-suc-zero place

later_lines : (place : ℕ) (lines : List (List ℕ)) → lines_from (suc place) lines ≡ behind (drop (suc place) lines)
later_lines place lines = ap (λ b. if b then lines_text lines else behind (drop (suc place) lines)) (not_first place)

-- a line goes on at the next place
one_line : (text said line rest whole : List ℕ) → said ≡ text ++ line → text ++ (line ++ rest) ≡ whole → said ++ rest ≡ whole
one_line text said line rest whole pushed so_far = ap (λ t. t ++ rest) pushed ∙ (append_assoc text line rest ∙ so_far)

go_suc : (text broken said whole : List ℕ) (place : ℕ) (lines : List (List ℕ)) (line : List ℕ) → slice_get lines place ≡ Some line
    → broken ≡ text ++ (if place == 0 then [] else 10 ∷ []) → said ≡ broken ++ line → text ++ lines_from place lines ≡ whole → said ++ lines_from (suc place) lines ≡ whole
go_suc text broken said whole zero [] line at first second so_far = absurd (cc)
go_suc text broken said whole zero (l ∷ lines) line at first second so_far =
    let same : l ≡ line = same_Some l line at in
    let pushed : said ≡ text ++ line = second ∙ ap (λ t. t ++ line) (first ∙ append-nil text) in
    one_line text said line (behind lines) whole pushed (ap (λ x. text ++ (x ++ behind lines)) (sym same) ∙ so_far)
go_suc text broken said whole (suc place) lines line at first second so_far =
    let next : drop (suc place) lines ≡ line ∷ drop (suc (suc place)) lines = next_at lines (suc place) line at ∙ ap (λ k. line ∷ drop k lines) (add-one (suc place)) in
    let rest = behind (drop (suc (suc place)) lines) in
    let here : lines_from (suc place) lines ≡ 10 ∷ (line ++ rest) = later_lines place lines ∙ ap behind next in
    let pushed : broken ≡ text ++ 10 ∷ [] = first ∙ ap (λ b. text ++ (if b then [] else 10 ∷ [])) (not_first place) in
    let so : text ++ ((10 ∷ []) ++ (line ++ rest)) ≡ whole = ap (λ x. text ++ x) (sym here) ∙ so_far in
    ap (λ x. said ++ x) (later_lines (suc place) lines) ∙ one_line broken said line rest whole second (one_line text broken (10 ∷ []) (line ++ rest) whole pushed so)

pub lines_go : (text broken said whole : List ℕ) (place : ℕ) (lines : List (List ℕ)) (line : List ℕ) → slice_get lines place ≡ Some line
    → broken ≡ text ++ (if place == 0 then [] else 10 ∷ []) → said ≡ broken ++ line → text ++ lines_from place lines ≡ whole → said ++ lines_from (place + 1) lines ≡ whole
lines_go text broken said whole place lines line at first second so_far = ap (λ k. said ++ lines_from k lines) (add-one place) ∙ go_suc text broken said whole place lines line at first second so_far

pub lines_end : (place : ℕ) (lines : List (List ℕ)) → length lines ≤ place → lines_from place lines ≡ []
lines_end zero [] past = refl
lines_end zero (l ∷ lines) past = absurd (let no' : ⊥ = omega (arith, past) in no')
lines_end (suc place) lines past = later_lines place lines ∙ ap behind (drop_all (suc place) lines past)
