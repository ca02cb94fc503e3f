-- What lines say, and a text.
use Rattle.std.proofs.Common.{◌≡◌, ℕ, suc, ◌+◌, ◌-◌, ◌<◌, ◌≤◌, Bool, true, false, not, ◌&&◌, cond, if◌then◌else◌, List, [], ◌∷◌, ◌++◌, length, nat_le, nat_lt}
use Rattle.std.proofs.Common.{codes, take, drop, Option, None, Some, Result, Ok, Err, refl, sym, ◌∙◌, ap, subst, arith, length-append, inl, inr, IfOk}
use Rattle.std.specs.Fmt.{decimal}
use Rattle.std.specs.List.{AllByRecursion, AllZip, position, position_from}
use Rattle.std.specs.Option.{option_and_then, option_map}
use Rattle.std.proofs.lemmas.Bool.{and_parts, both_ways, false_from_ne_true, le-leb, leb-true, lt-ltb, ltb-true}
use Rattle.std.proofs.lemmas.Iterator.Adapters.{position_from-zero}
use Rattle.cg_text.proofs.Spelling.{number_of-decimal, spelled}
use Rattle.cg_text.specs.Numbers.{number_of}
use Rattle.cg_text.specs.declared.lines.Line.{Line}
use Rattle.cg_text.specs.declared.number.Number.{Number}
use Rattle.cg_text.specs.declared.number.Number.TheVariants.{Large, Misspelled, Small}
use Rattle.cg_net.specs.Names.{is_known}
use Rattle.cg_machine.specs.Claims.{Literal}
use Rattle.cg_netlist.specs.Circuit.{Circuit}
use Rattle.cg_netlist.specs.Netlist.{IsNetlist}
use Rattle.cg_netlist_parts.proofs.KnownNames.{itself, known_cases, known_head, known_right, known_tail, same_word}
use Rattle.cg_hint_laws.specs.declared.hint.Hint.{Hint}
use Rattle.cg_hint_text.specs.HintText.{NamesRegister, SaysHint, SaysHints, SaysTerm, StandOnce, condition_words}
use Rattle.cg_hint_text.specs.Laws.{SaidAreRead}
use Rattle.cg_hint_text.specs.Reading.{Form, Word, all_said, all_terms, are_terms, cycles_of, few, form_behind, form_of, form_with, formed_or, hint_before, hint_lines, hint_of, hints}
use Rattle.cg_hint_text.specs.Reading.{is_after, is_when, known_or, line_hint, lines_hints, literal_of, register_of, stand_apart, word_at}
use Rattle.cg_hint_text.specs.declared.fault.HintFault.{HintFault}
use Rattle.cg_hint_text.specs.declared.fault.HintFault.TheVariants.{NoMemory}
use Rattle.cg_limit.specs.Answers.{OrNoMemory}
use Rattle.cg_hint_text.proofs.Forms.{form_is}
use Rattle.cg_hint_text.proofs.NamesSaid.{all_zip, register_given, register_named, zip_all}
use Rattle.cg_hint_text.proofs.ReadFits.{apart_later, known_alone, mapped_of, some_of}
use Rattle.cg_hint_text.proofs.TermsSaid.{AreSaid, condition_read, terms_said}

-- lists that are joined
take_front : (xs ys : List Word) → take (length xs) (xs ++ ys) ≡ xs
take_front [] ys = refl
take_front (x ∷ xs) ys = ap (λ l. x ∷ l) (take_front xs ys)

drop_front : (xs : List Word) (x : Word) (ys : List Word) → drop (suc (length xs)) (xs ++ x ∷ ys) ≡ ys
drop_front [] x ys = refl
drop_front (z ∷ xs) x ys = drop_front xs x ys

word_here : (xs : List Word) (x : Word) (ys : List Word) → word_at (xs ++ x ∷ ys) (length xs) ≡ x
word_here [] x ys = refl
word_here (z ∷ xs) x ys = word_here xs x ys

word_after : (xs : List Word) (x y : Word) (ys : List Word) → word_at (xs ++ x ∷ y ∷ ys) (suc (length xs)) ≡ y
word_after [] x y ys = refl
word_after (z ∷ xs) x y ys = word_after xs x y ys

word_next : (xs : List Word) (x y : Word) (ys : List Word) → word_at (xs ++ x ∷ y ∷ ys) (length xs + 1) ≡ y
word_next xs x y ys = let e : length xs + 1 ≡ suc (length xs) = omega arith in ap (word_at (xs ++ x ∷ y ∷ ys)) e ∙ word_after xs x y ys

long_two : (xs : List Word) (x y : Word) → length (xs ++ x ∷ y ∷ []) - 2 ≡ length xs
long_two xs x y = omega (arith, length-append xs (x ∷ y ∷ []))

record EndsTwo (ws : List Word) : Type 0 where
  front : List Word
  before_last : Word
  last : Word
  whole : ws ≡ front ++ before_last ∷ last ∷ []

ends_two : (ws : List Word) → 1 < length ws → EndsTwo ws
ends_two [] two = absurd (omega (arith, two))
ends_two (x ∷ []) two = absurd (omega (arith, two))
ends_two (x ∷ y ∷ []) two = record { front = []; before_last = x; last = y; whole = refl }
ends_two (x ∷ y ∷ z ∷ ws) two =
    let e : EndsTwo (y ∷ z ∷ ws) = ends_two (y ∷ z ∷ ws) (omega arith) in
    record { front = x ∷ e.front; before_last = e.before_last; last = e.last; whole = ap (λ l. x ∷ l) e.whole }

-- the first word that passes
record FirstAt (p : Word → Bool) (start : ℕ) (ws : List Word) (place : ℕ) : Type 0 where
  front : List Word
  word : Word
  back : List Word
  whole : ws ≡ front ++ word ∷ back
  before : AllByRecursion (λ w. p w ≡ false) front
  passes : p word ≡ true
  place_is : place ≡ start + length front

first_at : (p : Word → Bool) (start : ℕ) (ws : List Word) (place : ℕ) → position_from p start ws ≡ Some place → FirstAt p start ws place
first_at p start [] place is = absurd (cc)
first_at p start (w ∷ ws) place is = go (λ s. first_at p s ws place) (p w) refl is
  where
    go : ((s : ℕ) → position_from p s ws ≡ Some place → FirstAt p s ws place) → (b : Bool) → p w ≡ b → cond b (Some start) (position_from p (start + 1) ws) ≡ Some place → FirstAt p start (w ∷ ws) place
    go rest true at h =
        let same : start ≡ place = cc in
        record { front = []; word = w; back = ws; whole = refl; before = tt; passes = at; place_is = omega (arith, same) }
    go rest false at h =
        let r : FirstAt p (start + 1) ws place = rest (start + 1) h in
        record { front = w ∷ r.front; word = r.word; back = r.back; whole = ap (λ l. w ∷ l) r.whole; before = (at, r.before); passes = r.passes; place_is = omega (arith, r.place_is) }

at_first : (p : Word → Bool) (start : ℕ) (front : List Word) (word : Word) (back : List Word) → AllByRecursion (λ w. p w ≡ false) front → p word ≡ true
    → position_from p start (front ++ word ∷ back) ≡ Some (start + length front)
at_first p start [] word back before passes =
    let same : start ≡ start + 0 = omega arith in
    ap (λ b. cond b (Some start) (position_from p (start + 1) back)) passes ∙ ap (λ k. Some k) same
at_first p start (w ∷ front) word back before passes =
    let same : (start + 1) + length front ≡ start + suc (length front) = omega arith in
    ap (λ b. cond b (Some start) (position_from p (start + 1) (front ++ word ∷ back))) before.0
    ∙ (at_first p (start + 1) front word back before.1 passes ∙ ap (λ k. Some k) same)

-- numbers of cycles
cycles_spelled : (w : Word) (k : ℕ) → cycles_of w ≡ Some k → (w ≡ decimal k) × (k ≤ 4)
cycles_spelled w k is = go (number_of w) refl is
  where
    go : (n : Number) → number_of w ≡ n → few n ≡ Some k → (w ≡ decimal k) × (k ≤ 4)
    go (Small j) at h = small (nat_le j 4) refl h
      where
        small : (b : Bool) → nat_le j 4 ≡ b → (if b then Some j else None) ≡ Some k → (w ≡ decimal k) × (k ≤ 4)
        small true low h' = let same : j ≡ k = cc in let l = leb-true j 4 low in (spelled w k (at ∙ ap Small same), omega (arith, same, l))
        small false low h' = absurd (cc)
    go Large at h = absurd (cc)
    go Misspelled at h = absurd (cc)

cycles_read : (k : ℕ) → k ≤ 4 → cycles_of (decimal k) ≡ Some k
cycles_read k low = ap few (number_of-decimal k (omega (arith, low))) ∙ ap (λ b. if b then Some k else None) (le-leb k 4 low)

-- words that stand apart
once_apart : (before ws : List Word) → stand_apart before ws ≡ true → StandOnce ws
once_apart before [] apart = tt
once_apart before (w ∷ ws) apart =
    let p = and_parts (not (is_known before w)) (stand_apart (before ++ w ∷ []) ws) apart in (
      false_from_ne_true (is_known ws w) (λ among. apart_later (before ++ w ∷ []) ws w p.1 (known_right before (w ∷ []) w (known_head w [])) among),
      once_apart (before ++ w ∷ []) ws p.1,
    )

apart_once : (before ws : List Word) → StandOnce ws → ((w : Word) → is_known ws w ≡ true → is_known before w ≡ false) → stand_apart before ws ≡ true
apart_once before [] once out = refl
apart_once before (w ∷ ws) once out =
    ap (λ b. not b && stand_apart (before ++ w ∷ []) ws) (out w (known_head w ws))
    ∙ apart_once (before ++ w ∷ []) ws once.1 (λ v among. false_from_ne_true (is_known (before ++ w ∷ []) v) (λ known. elim (known_cases before (w ∷ []) v known) [
      | inl earlier ↦ both_ways (is_known before v) (out v (known_tail w v ws among)) earlier
      | inr here ↦ both_ways (is_known ws w) once.0 (subst (λ u. is_known ws u ≡ true) (sym (known_alone w v here)) among)
    ]))

-- what stands behind `when`
record BehindWhen (regs rest : List Word) (f : Form) : Type 0 where
  regs_are : f.regs ≡ regs
  rest_is : rest ≡ f.terms ++ codes "after" ∷ decimal f.after ∷ []
  some : 0 < length regs
  apart : stand_apart [] regs ≡ true
  terms : are_terms true f.terms ≡ true
  few_cycles : f.after ≤ 4

behind_when : (regs rest : List Word) (f : Form) → form_behind regs rest ≡ Some f → BehindWhen regs rest f
behind_when regs rest f is = go (nat_lt 0 (length regs) && stand_apart [] regs && nat_lt 1 (length rest)) refl is
  where
    ends : (front : List Word) (a b : Word) → 0 < length regs → stand_apart [] regs ≡ true → form_with regs (front ++ a ∷ b ∷ []) (length front) ≡ Some f → BehindWhen regs (front ++ a ∷ b ∷ []) f
    ends front a b some apart h = marked (is_after (word_at ws end) && are_terms true (take end ws)) refl h
      where
        ws : List Word
        ws = front ++ a ∷ b ∷ []

        end : ℕ
        end = length front

        counted : (o : Option ℕ) → cycles_of (word_at ws (end + 1)) ≡ o → is_after (word_at ws end) ≡ true → are_terms true (take end ws) ≡ true
            → option_map (λ k. record { regs = regs; terms = take end ws; after = k }) o ≡ Some f → BehindWhen regs ws f
        counted None at marks form k = absurd (cc)
        counted (Some n) at marks form k =
            let same : record { regs = regs; terms = take end ws; after = n } ≡ f = cc in
            let whole : take end ws ≡ front = take_front front (a ∷ b ∷ []) in
            let number = cycles_spelled b n (ap cycles_of (sym (word_next front a b [])) ∙ at) in
            let word : a ≡ codes "after" = sym (word_here front a (b ∷ [])) ∙ same_word (word_at ws end) (codes "after") marks in
            subst (BehindWhen regs ws) same (record {
              regs_are = refl;
              rest_is = ap (λ l. l ++ a ∷ b ∷ []) (sym whole) ∙ ap (λ w. take end ws ++ w ∷ b ∷ []) word ∙ ap (λ w. take end ws ++ codes "after" ∷ w ∷ []) number.0;
              some = some;
              apart = apart;
              terms = form;
              few_cycles = number.1;
            })

        marked : (m : Bool) → (is_after (word_at ws end) && are_terms true (take end ws)) ≡ m
            → (if m then option_map (λ k. record { regs = regs; terms = take end ws; after = k }) (cycles_of (word_at ws (end + 1))) else None) ≡ Some f → BehindWhen regs ws f
        marked true at k =
            let p = and_parts (is_after (word_at ws end)) (are_terms true (take end ws)) at in
            counted (cycles_of (word_at ws (end + 1))) refl p.0 p.1 k
        marked false at k = absurd (cc)

    go : (b : Bool) → (nat_lt 0 (length regs) && stand_apart [] regs && nat_lt 1 (length rest)) ≡ b → (if b then form_with regs rest (length rest - 2) else None) ≡ Some f → BehindWhen regs rest f
    go false at h = absurd (cc)
    go true at h =
        let p = and_parts (nat_lt 0 (length regs) && stand_apart [] regs) (nat_lt 1 (length rest)) at in
        let q = and_parts (nat_lt 0 (length regs)) (stand_apart [] regs) p.0 in
        let e : EndsTwo rest = ends_two rest (ltb-true 1 (length rest) p.1) in
        let shorter : length rest - 2 ≡ length e.front = ap (λ l. length l - 2) e.whole ∙ long_two e.front e.before_last e.last in
        let form : form_with regs (e.front ++ e.before_last ∷ e.last ∷ []) (length e.front) ≡ Some f = ap (λ l. form_with regs l (length e.front)) (sym e.whole) ∙ (ap (form_with regs rest) (sym shorter) ∙ h) in
        subst (λ l. BehindWhen regs l f) (sym e.whole) (ends e.front e.before_last e.last (ltb-true 0 (length regs) q.0) q.1 form)

-- the form of a line
record IsFormed (ws : List Word) (f : Form) : Type 0 where
  words : ws ≡ f.regs ++ codes "when" ∷ (f.terms ++ codes "after" ∷ decimal f.after ∷ [])
  before : AllByRecursion (λ w. is_when w ≡ false) f.regs
  some : 0 < length f.regs
  once : StandOnce f.regs
  terms : are_terms true f.terms ≡ true
  few_cycles : f.after ≤ 4

is_formed : (ws : List Word) (f : Form) → form_of ws ≡ Some f → IsFormed ws f
is_formed ws f is =
    let s = some_of (λ place. form_behind (take place ws) (drop (suc place) ws)) (position is_when ws) f is in
    let a : FirstAt is_when 0 ws s.0 = first_at is_when 0 ws s.0 (sym (position_from-zero is_when ws) ∙ s.1) in
    let place : s.0 ≡ length a.front = omega (arith, a.place_is) in
    let front : take s.0 ws ≡ a.front = ap (λ k. take k ws) place ∙ (ap (take (length a.front)) a.whole ∙ take_front a.front (a.word ∷ a.back)) in
    let back : drop (suc s.0) ws ≡ a.back = ap (λ k. drop (suc k) ws) place ∙ (ap (drop (suc (length a.front))) a.whole ∙ drop_front a.front a.word a.back) in
    let b : BehindWhen (take s.0 ws) (drop (suc s.0) ws) f = behind_when (take s.0 ws) (drop (suc s.0) ws) f s.2 in
    let regs : a.front ≡ f.regs = sym front ∙ sym b.regs_are in
    let word : a.word ≡ codes "when" = same_word a.word (codes "when") a.passes in
    record {
      words = a.whole
          ∙ (ap (λ (l : List Word). l ++ a.word ∷ a.back) regs
          ∙ (ap (λ (w : Word). f.regs ++ w ∷ a.back) word
          ∙ ap (λ (l : List Word). f.regs ++ codes "when" ∷ l) (sym back ∙ b.rest_is)));
      before = subst (AllByRecursion (λ w. is_when w ≡ false)) regs a.before;
      some = subst (λ (l : List Word). 0 < length l) (sym b.regs_are) b.some;
      once = subst StandOnce (sym b.regs_are) (once_apart [] (take s.0 ws) b.apart);
      terms = b.terms;
      few_cycles = b.few_cycles;
    }

abbrev form_from : List Word → List Word → ℕ → Form
form_from regs terms k = record { regs = regs; terms = terms; after = k }

formed_is : (regs terms : List Word) (k : ℕ) → AllByRecursion (λ w. is_when w ≡ false) regs → 0 < length regs → StandOnce regs → are_terms true terms ≡ true → k ≤ 4
    → form_of (regs ++ codes "when" ∷ (terms ++ codes "after" ∷ decimal k ∷ [])) ≡ Some (form_from regs terms k)
formed_is regs terms k before some once are few_cycles =
    let rest : List Word = terms ++ codes "after" ∷ decimal k ∷ [] in
    let ws : List Word = regs ++ codes "when" ∷ rest in
    let when : ℕ = length regs in
    let end : ℕ = length terms in
    let zero_more : 0 + when ≡ when = omega arith in
    let regs_are : take when ws ≡ regs = take_front regs (codes "when" ∷ rest) in
    let terms_are : take end rest ≡ terms = take_front terms (codes "after" ∷ decimal k ∷ []) in
    let two : 1 < length rest = omega (arith, length-append terms (codes "after" ∷ decimal k ∷ [])) in
    form_is ws rest when end k (decimal k)
    (position_from-zero is_when ws ∙ (at_first is_when 0 regs (codes "when") rest before (itself (codes "when")) ∙ ap (λ (n : ℕ). Some n) zero_more))
    (drop_front regs (codes "when") rest)
    (sym (long_two terms (codes "after") (decimal k)))
    (ap (λ (l : List Word). nat_lt 0 (length l)) regs_are ∙ lt-ltb 0 (length regs) some)
    (ap (stand_apart []) regs_are ∙ apart_once [] regs once (λ w among. refl))
    (lt-ltb 1 (length rest) two)
    (ap is_after (word_here terms (codes "after") (decimal k ∷ [])) ∙ itself (codes "after"))
    (ap (are_terms true) terms_are ∙ are)
    (ap cycles_of (word_next terms (codes "after") (decimal k) []) ∙ cycles_read k few_cycles)
    ∙ (ap (λ (l : List Word). Some (form_from l (take end rest) k)) regs_are ∙ ap (λ (l : List Word). Some (form_from regs l k)) terms_are)

-- a line says the hint that is read of it
hint_said : (c : Circuit) (line : Line) (f : Form) (h : Hint) → IsFormed line.words f → hint_of c f ≡ Some h → SaysHint c line h
hint_said c line f h formed is =
    let s = some_of (λ regs. option_map (λ terms. record { regs = regs; terms = terms; after = f.after }) (all_terms (literal_of c) f.terms)) (all_said (register_of c) f.regs) h is in
    let regs : List ℕ = s.0 in
    let m = mapped_of (λ (terms : List (List Literal)). record { regs = regs; terms = terms; after = f.after }) (all_terms (literal_of c) f.terms) h s.2 in
    let t : AreSaid c true f.terms m.0 = terms_said c true f.terms m.0 formed.terms m.1 in
    let told : SaysHint c line (record { regs = regs; terms = m.0; after = f.after }) =
    record {
      regs = f.regs;
      terms = t.first ∷ t.later;
      words = formed.words ∙ ap (λ (l : List Word). f.regs ++ codes "when" ∷ (l ++ codes "after" ∷ decimal f.after ∷ [])) t.words;
      before = formed.before;
      some_regs = formed.some;
      once = formed.once;
      registers = all_zip (register_of c) (NamesRegister c) (register_named c) f.regs regs s.1;
      some_terms = omega arith;
      say = subst (AllZip (SaysTerm c) (t.first ∷ t.later)) (sym t.are) (record { some = t.begun refl; no_plus = t.no_plus; say = t.say }, t.say_later);
      few = formed.few_cycles;
    } in
    subst (SaysHint c line) m.2 told

line_said : (c : Circuit) (line : Line) (h : Hint) → line_hint c line ≡ Ok h → SaysHint c line h
line_said c line h is = go (form_of line.words) refl is
  where
    known : (f : Form) → IsFormed line.words f → (o : Option Hint) → hint_of c f ≡ o → known_or line.number o ≡ Ok h → SaysHint c line h
    known f formed None at k = absurd (cc)
    known f formed (Some g) at k = let same : g ≡ h = cc in hint_said c line f h formed (at ∙ ap (λ g. Some g) same)

    go : (o : Option Form) → form_of line.words ≡ o → formed_or c line.number o ≡ Ok h → SaysHint c line h
    go None at k = absurd (cc)
    go (Some f) at k = known f (is_formed line.words f at) (hint_of c f) refl k

line_read : (c : Circuit) → IsNetlist c → (line : Line) (h : Hint) → SaysHint c line h → line_hint c line ≡ Ok h
line_read c good line h s =
    let words : List Word = condition_words s.terms in
    let f : Form = record { regs = s.regs; terms = words; after = h.after } in
    let condition = condition_read c good s.terms h.terms s.some_terms s.say in
    let form : form_of line.words ≡ Some f = ap form_of s.words ∙ formed_is s.regs words h.after s.before s.some_regs s.once condition.0 s.few in
    let regs : all_said (register_of c) s.regs ≡ Some h.regs = zip_all (register_of c) (NamesRegister c) (register_given c good) s.regs h.regs s.registers in
    let hint : hint_of c f ≡ Some h =
    ap (option_and_then (λ regs. option_map (λ terms. record { regs = regs; terms = terms; after = h.after }) (all_terms (literal_of c) words))) regs
    ∙ ap (option_map (λ terms. record { regs = h.regs; terms = terms; after = h.after })) condition.1 in
    ap (formed_or c line.number) form ∙ ap (known_or line.number) hint

lines_said : (c : Circuit) (ls : List Line) (hs : List Hint) → lines_hints c ls ≡ Ok hs → AllZip (SaysHint c) ls hs
lines_said c [] hs is = let same : [] ≡ hs = cc in subst (AllZip (SaysHint c) []) same tt
lines_said c (line ∷ ls) hs is = go (lines_said c ls) (line_hint c line) refl (lines_hints c ls) refl is
  where
    go : ((gs : List Hint) → lines_hints c ls ≡ Ok gs → AllZip (SaysHint c) ls gs) → (a : Result Hint HintFault) → line_hint c line ≡ a → (b : Result (List Hint) HintFault) → lines_hints c ls ≡ b
        → hint_before a b ≡ Ok hs → AllZip (SaysHint c) (line ∷ ls) hs
    go rest (Err fault) x b y k = absurd (cc)
    go rest (Ok h) x (Err fault) y k = absurd (cc)
    go rest (Ok h) x (Ok gs) y k = let same : h ∷ gs ≡ hs = cc in subst (AllZip (SaysHint c) (line ∷ ls)) same (line_said c line h x, rest gs y)

lines_read : (c : Circuit) → IsNetlist c → (ls : List Line) (hs : List Hint) → AllZip (SaysHint c) ls hs → lines_hints c ls ≡ Ok hs
lines_read c good [] [] say = refl
lines_read c good [] (h ∷ hs) say = absurd say
lines_read c good (line ∷ ls) [] say = absurd say
lines_read c good (line ∷ ls) (h ∷ hs) say =
    ap (λ r. hint_before r (lines_hints c ls)) (line_read c good line h say.0) ∙ ap (hint_before (Ok h)) (lines_read c good ls hs say.1)

pub said_are_read : SaidAreRead
said_are_read c text hs good = (lines_said c (hint_lines text) hs, lines_read c good (hint_lines text) hs)

-- what was answered of a text is what it says, and what it says is answered
pub answered_said : (c : Circuit) (text : List ℕ) (result : Result (List Hint) HintFault) → SaidAreRead → IsNetlist c → OrNoMemory NoMemory (λ hs. hs) result (hints c text) → IfOk result (SaysHints c text)
answered_said c text (Ok hs) law good is = (law c text hs good).0 is
answered_said c text (Err fault) law good is = tt

pub said_answered : (c : Circuit) (text : List ℕ) (result : Result (List Hint) HintFault) → SaidAreRead → IsNetlist c → OrNoMemory NoMemory (λ hs. hs) result (hints c text)
    → (hs : List Hint) → SaysHints c text hs → OrNoMemory NoMemory (λ hs. hs) result (Ok hs)
said_answered c text result law good is hs says = subst (OrNoMemory NoMemory (λ hs. hs) result) ((law c text hs good).1 says) is
