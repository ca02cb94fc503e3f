-- The hints of a text are hints of the netlist.
use Rattle.std.proofs.Common.{◌≡◌, ℕ, zero, suc, ◌+◌, ◌-◌, ◌<◌, ◌≤◌, Bool, true, false, not, ◌&&◌, ◌||◌, if◌then◌else◌, List, [], ◌∷◌, ◌++◌, map}
use Rattle.std.proofs.Common.{length, nat_eq, nat_le, nat_lt, slice_get, take, drop, Option, None, Some, Result, Ok, Err, refl, sym, ◌∙◌, ap, subst, arith, inl, inr}
use Rattle.std.specs.List.{All, AllByRecursion, IsDistinct, position}
use Rattle.std.specs.Option.{option_and_then, option_map, option_map_or, option_to_list}
use Rattle.std.proofs.lemmas.Bool.{and_parts, both_ways, eqb-true, false_from_ne_true, leb-true, ltb-true, not-true, or_cases}
use Rattle.cg_text.specs.Numbers.{number_of}
use Rattle.cg_text.specs.declared.lines.Line.{Line}
use Rattle.cg_text.specs.declared.number.Number.{Number}
use Rattle.cg_text.specs.declared.number.Number.TheVariants.{Large, Misspelled, Small}
use Rattle.cg_net.specs.Names.{is_known, name_place}
use Rattle.cg_net.specs.NetSets.{is_in}
use Rattle.cg_net.proofs.Members.{distinct_cons, is_in_cases}
use Rattle.cg_netlist.specs.Circuit.{Circuit, RegisterCell, gater_outputs}
use Rattle.cg_netlist.proofs.Given.{from_option}
use Rattle.cg_machine.specs.Claims.{Literal}
use Rattle.cg_netlist_parts.proofs.KnownNames.{known_cases, known_head, known_left, known_right, known_tail}
use Rattle.cg_netlist_parts.proofs.NamePlaces.{place_below, same_place}
use Rattle.cg_net.proofs.DifferentNames.{known_at}
use Rattle.std.proofs.lemmas.Option.{same_Some}
use Rattle.cg_hint_laws.specs.declared.hint.Hint.{Hint}
use Rattle.cg_hint_laws.specs.Hints.{condition_nets}
use Rattle.cg_hint_laws.specs.OfNetlist.{IsOf, IsPlain}
use Rattle.cg_hint_text.specs.Laws.{OfNetlistFits, ReadAreOf}
use Rattle.cg_hint_text.specs.Reading.{Form, Word, all_said, all_terms, are_terms, cycles_of, few, first_showing, form_behind, form_of, form_with, formed_or}
use Rattle.cg_hint_text.specs.Reading.{hint_before, hint_lines, hint_of, is_after, is_bang, is_plus, is_when, known_or, line_hint, lines_hints, literal_of, net_of}
use Rattle.cg_hint_text.specs.Reading.{net_place, put_literal, register_of, said_then, shows_first, stand_apart, unless_clock, word_at}
use Rattle.cg_hint_text.specs.declared.fault.HintFault.{HintFault}

-- the form of a line
record IsForm (f : Form) : Type 0 where
  some : 0 < length f.regs
  apart : stand_apart [] f.regs ≡ true
  terms : are_terms true f.terms ≡ true
  after : f.after ≤ 4

pub few_cycles : (n : Number) (k : ℕ) → few n ≡ Some k → k ≤ 4
few_cycles (Small j) k is = go (nat_le j 4) refl is
  where
    go : (b : Bool) → nat_le j 4 ≡ b → (if b then Some j else None) ≡ Some k → k ≤ 4
    go true low at = let same : j ≡ k = cc in let l = leb-true j 4 low in omega (arith, same, l)
    go false low at = absurd (cc)
few_cycles Large k is = absurd (cc)
few_cycles Misspelled k is = absurd (cc)

form_ends : (regs rest : List Word) (end : ℕ) (f : Form) → 0 < length regs → stand_apart [] regs ≡ true → form_with regs rest end ≡ Some f → IsForm f
form_ends regs rest end f some apart is = go (is_after (word_at rest end) && are_terms true (take end rest)) refl is
  where
    whole : (o : Option ℕ) → cycles_of (word_at rest (end + 1)) ≡ o → are_terms true (take end rest) ≡ true → option_map (λ k. record { regs = regs; terms = take end rest; after = k }) o ≡ Some f → IsForm f
    whole None at terms h = absurd (cc)
    whole (Some k) at terms h =
        let same : record { regs = regs; terms = take end rest; after = k } ≡ f = cc in
        subst IsForm same (record { some = some; apart = apart; terms = terms; after = few_cycles (number_of (word_at rest (end + 1))) k at })

    go : (b : Bool) → (is_after (word_at rest end) && are_terms true (take end rest)) ≡ b → (if b then option_map (λ k. record { regs = regs; terms = take end rest; after = k }) (cycles_of (word_at rest (end + 1))) else None) ≡ Some f → IsForm f
    go true at h = whole (cycles_of (word_at rest (end + 1))) refl (and_parts (is_after (word_at rest end)) (are_terms true (take end rest)) at).1 h
    go false at h = absurd (cc)

formed : (ws : List Word) (f : Form) → form_of ws ≡ Some f → IsForm f
formed ws f is = at (position is_when ws) is
  where
    behind : (regs rest : List Word) → (b : Bool) → (nat_lt 0 (length regs) && stand_apart [] regs && nat_lt 1 (length rest)) ≡ b → (if b then form_with regs rest (length rest - 2) else None) ≡ Some f → IsForm f
    behind regs rest true all h =
        let p = and_parts (nat_lt 0 (length regs) && stand_apart [] regs) (nat_lt 1 (length rest)) all in
        let q = and_parts (nat_lt 0 (length regs)) (stand_apart [] regs) p.0 in
        form_ends regs rest (length rest - 2) f (ltb-true 0 (length regs) q.0) q.1 h
    behind regs rest false all h = absurd (cc)

    at : (o : Option ℕ) → option_and_then (λ place. form_behind (take place ws) (drop (suc place) ws)) o ≡ Some f → IsForm f
    at None h = absurd (cc)
    at (Some place) h = behind (take place ws) (drop (suc place) ws) (nat_lt 0 (length (take place ws)) && stand_apart [] (take place ws) && nat_lt 1 (length (drop (suc place) ws))) refl h

-- what each word says
pub some_of : {A B : Type 0} (f : A → Option B) (o : Option A) (b : B) → option_and_then f o ≡ Some b → (a : A) × (o ≡ Some a) × (f a ≡ Some b)
some_of f None b is = absurd (cc)
some_of f (Some a) b is = (a, refl, is)

pub mapped_of : {A B : Type 0} (f : A → B) (o : Option A) (b : B) → option_map f o ≡ Some b → (a : A) × (o ≡ Some a) × (f a ≡ b)
mapped_of f None b is = absurd (cc)
mapped_of f (Some a) b is = (a, refl, cc)

pub said_parts : {A : Type 0} (say : Word → Option A) (w : Word) (ws : List Word) (all : List A) → all_said say (w ∷ ws) ≡ Some all
    → (a : A) × (later : List A) × (say w ≡ Some a) × (all_said say ws ≡ Some later) × (a ∷ later ≡ all)
said_parts {A = A} say w ws all is = go (say w) refl is
  where
    go : (o : Option A) → say w ≡ o → said_then o (all_said say ws) ≡ Some all → (a : A) × (later : List A) × (say w ≡ Some a) × (all_said say ws ≡ Some later) × (a ∷ later ≡ all)
    go None at h = absurd (cc)
    go (Some a) at h = let m = mapped_of (λ rest. a ∷ rest) (all_said say ws) all h in (a, m.0, at, m.1, m.2)

said_long : {A : Type 0} (say : Word → Option A) (ws : List Word) (all : List A) → all_said say ws ≡ Some all → length all ≡ length ws
said_long say [] all is = let same : [] ≡ all = cc in ap length (sym same)
said_long say (w ∷ ws) all is = let p = said_parts say w ws all is in ap length (sym p.4) ∙ ap suc (said_long say ws p.1 p.3)

-- registers
showing_below : (net : ℕ) (rs : List (RegisterCell ℕ ℕ)) (r : ℕ) → first_showing net rs ≡ Some r → r < length rs
showing_below net [] r is = absurd (cc)
showing_below net (x ∷ rs) r is = go (showing_below net rs) (shows_first net x) is
  where
    go : ((k : ℕ) → first_showing net rs ≡ Some k → k < length rs) → (b : Bool) → (if b then Some 0 else option_map suc (first_showing net rs)) ≡ Some r → r < suc (length rs)
    go rest true h = let same : 0 ≡ r = cc in omega (arith, same)
    go rest false h = let m = mapped_of suc (first_showing net rs) r h in let low = rest m.0 m.1 in let same = m.2 in omega (arith, low, same)

regs_below : (c : Circuit) (ws : List Word) (rs : List ℕ) → all_said (register_of c) ws ≡ Some rs → (r : ℕ) → is_in rs r ≡ true → r < length c.registers
regs_below c [] rs is r among = let same : [] ≡ rs = cc in absurd (both_ways false refl (subst (λ l. is_in l r ≡ true) (sym same) among))
regs_below c (w ∷ ws) rs is r among =
    let p = said_parts (register_of c) w ws rs is in
    elim (or_cases (nat_eq r p.0) (is_in p.1 r) (subst (λ l. is_in l r ≡ true) (sym p.4) among)) [
      | inl here ↦
          let s = some_of (λ net. first_showing net c.registers) (net_place c w) p.0 p.2 in
          let low = showing_below s.0 c.registers p.0 s.2 in
          let same = eqb-true r p.0 here in omega (arith, low, same)
      | inr later ↦ regs_below c ws p.1 p.3 r later
    ]

-- nets
pub record IsFree (c : Circuit) (net : ℕ) : Type 0 where
  pub clock : is_in (option_to_list c.clock) net ≡ false
  pub ungated : is_in (gater_outputs c) net ≡ false

pub unless_parts : (c : Circuit) (y net : ℕ) → unless_clock c y ≡ Some net → (y ≡ net) × IsFree c y
unless_parts c y net is = go (is_in (option_to_list c.clock) y) refl (is_in (gater_outputs c) y) refl is
  where
    go : (a : Bool) → is_in (option_to_list c.clock) y ≡ a → (b : Bool) → is_in (gater_outputs c) y ≡ b → (if a || b then None else Some y) ≡ Some net → (y ≡ net) × IsFree c y
    go true at b it h = absurd (cc)
    go false at true it h = absurd (cc)
    go false at false it h = (cc, record { clock = at; ungated = it })

pub place_parts : (c : Circuit) (name : Word) (y : ℕ) → net_place c name ≡ Some y → (is_known c.names name ≡ true) × (name_place c.names name ≡ y)
place_parts c name y is = go (is_known c.names name) refl is
  where
    go : (b : Bool) → is_known c.names name ≡ b → (if b then Some (name_place c.names name) else None) ≡ Some y → (is_known c.names name ≡ true) × (name_place c.names name ≡ y)
    go true at h = (at, cc)
    go false at h = absurd (cc)

pub net_plain : (c : Circuit) (name : Word) (net : ℕ) → net_of c name ≡ Some net → IsPlain c net
net_plain c name net is =
    let s = some_of (unless_clock c) (net_place c name) net is in
    let u = unless_parts c s.0 net s.2 in
    let p = place_parts c name s.0 s.1 in
    let low = place_below c.names name p.0 in
    let at = p.1 in
    let same = u.0 in
    record {
      below = omega (arith, low, at, same);
      apart = λ clock. both_ways (is_in (option_to_list c.clock) s.0) u.1.clock (subst (λ n. is_in (option_to_list c.clock) n ≡ true) (sym u.0) (from_option c.clock net clock));
      ungated = subst (λ n. is_in (gater_outputs c) n ≡ false) u.0 u.1.ungated;
    }

literal_plain : (c : Circuit) (w : Word) (l : Literal) → literal_of c w ≡ Some l → IsPlain c l.0
literal_plain c [] l is = absurd (cc)
literal_plain c (b ∷ bs) l is = go (nat_eq b 33) is
  where
    go : (i : Bool) → (if i then option_map (λ net. (net, true)) (net_of c bs) else option_map (λ net. (net, false)) (net_of c (b ∷ bs))) ≡ Some l → IsPlain c l.0
    go true h = let m = mapped_of (λ (net : ℕ). (net, true)) (net_of c bs) l h in subst (λ (k : Literal). IsPlain c k.0) m.2 (net_plain c bs m.0 m.1)
    go false h = let m = mapped_of (λ (net : ℕ). (net, false)) (net_of c (b ∷ bs)) l h in subst (λ (k : Literal). IsPlain c k.0) m.2 (net_plain c (b ∷ bs) m.0 m.1)

-- terms: each has a literal, but for the first where it was begun before; and their nets are plain
record AreTerms (c : Circuit) (fresh : Bool) (terms : List (List Literal)) : Type 0 where
  first : List Literal
  later : List (List Literal)
  are : terms ≡ first ∷ later
  begun : fresh ≡ true → 0 < length first
  first_nets : (y : ℕ) → is_in (map (λ (l : Literal). l.0) first) y ≡ true → IsPlain c y
  some : AllByRecursion (λ term. 0 < length term) later
  nets : (y : ℕ) → is_in (condition_nets later) y ≡ true → IsPlain c y

terms_are : (c : Circuit) (fresh : Bool) (ws : List Word) (terms : List (List Literal)) → are_terms fresh ws ≡ true → all_terms (literal_of c) ws ≡ Some terms → AreTerms c fresh terms
terms_are c fresh [] terms form is =
    let same : [] ∷ [] ≡ terms = cc in
    record { first = []; later = []; are = sym same; begun = λ begins. absurd (both_ways fresh (off fresh form) begins); first_nets = λ y among. absurd (both_ways false refl among); some = tt; nets = λ y among. absurd (both_ways false refl among) }
  where
    off : (b : Bool) → not b ≡ true → b ≡ false
    off true h = sym h
    off false h = refl
terms_are c fresh (w ∷ ws) terms form is = go (λ next more h. terms_are c next ws more h) (is_plus w) form is
  where
    plus : (fresh' : Bool) → (not fresh' && are_terms true ws) ≡ true → (fresh' ≡ false) × (are_terms true ws ≡ true)
    plus true h = absurd (both_ways false refl h)
    plus false h = (refl, h)

    go : ((next : Bool) (more : List (List Literal)) → are_terms next ws ≡ true → all_terms (literal_of c) ws ≡ Some more → AreTerms c next more) → (b : Bool) → (if b then not fresh && are_terms true ws else not (is_bang w) && are_terms false ws) ≡ true
        → (if b then option_map (λ ts. [] ∷ ts) (all_terms (literal_of c) ws) else option_and_then (λ l. option_map (put_literal l) (all_terms (literal_of c) ws)) (literal_of c w)) ≡ Some terms → AreTerms c fresh terms
    go rest true form' h =
        let f = plus fresh form' in
        let m = mapped_of (λ (ts : List (List Literal)). [] ∷ ts) (all_terms (literal_of c) ws) terms h in
        let r = rest true m.0 f.1 m.1 in
        record {
          first = [];
          later = m.0;
          are = sym m.2;
          begun = λ begins. absurd (both_ways fresh f.0 begins);
          first_nets = λ y among. absurd (both_ways false refl among);
          some = subst (AllByRecursion (λ term. 0 < length term)) (sym r.are) (r.begun refl, r.some);
          nets = subst (λ (l : List (List Literal)). (y : ℕ) → is_in (condition_nets l) y ≡ true → IsPlain c y) (sym r.are) (λ y among. elim (is_in_cases (map (λ (l : Literal). l.0) r.first) (condition_nets r.later) y among) [ inl here ↦ r.first_nets y here | inr there ↦ r.nets y there ]);
        }
    go rest false form' h =
        let f = and_parts (not (is_bang w)) (are_terms false ws) form' in
        let s = some_of (λ l. option_map (put_literal l) (all_terms (literal_of c) ws)) (literal_of c w) terms h in
        let l : Literal = s.0 in
        let m = mapped_of (put_literal l) (all_terms (literal_of c) ws) terms s.2 in
        let r = rest false m.0 f.1 m.1 in
        let plain : IsPlain c l.0 = literal_plain c w l s.1 in
        record {
          first = l ∷ r.first;
          later = r.later;
          are = sym m.2 ∙ ap (put_literal l) r.are;
          begun = λ begins. omega arith;
          first_nets = λ y among. elim (or_cases (nat_eq y l.0) (is_in (map (λ (k : Literal). k.0) r.first) y) among) [ inl here ↦ subst (IsPlain c) (sym (eqb-true y l.0 here)) plain | inr there ↦ r.first_nets y there ];
          some = r.some;
          nets = r.nets;
        }

-- registers are distinct, since their names are
pub showing_at : (net : ℕ) (rs : List (RegisterCell ℕ ℕ)) (r : ℕ) → first_showing net rs ≡ Some r → (cell : RegisterCell ℕ ℕ) × (slice_get rs r ≡ Some cell) × (shows_first net cell ≡ true)
showing_at net [] r is = absurd (cc)
showing_at net (x ∷ rs) r is = go (showing_at net rs) (shows_first net x) refl is
  where
    go : ((k : ℕ) → first_showing net rs ≡ Some k → (cell : RegisterCell ℕ ℕ) × (slice_get rs k ≡ Some cell) × (shows_first net cell ≡ true)) → (b : Bool) → shows_first net x ≡ b → (if b then Some 0 else option_map suc (first_showing net rs)) ≡ Some r
        → (cell : RegisterCell ℕ ℕ) × (slice_get (x ∷ rs) r ≡ Some cell) × (shows_first net cell ≡ true)
    go rest true at h = let same : 0 ≡ r = cc in (x, ap (slice_get (x ∷ rs)) (sym same), at)
    go rest false at h = let m = mapped_of suc (first_showing net rs) r h in let d = rest m.0 m.1 in (d.0, ap (slice_get (x ∷ rs)) (sym m.2) ∙ d.1, d.2)

one_net : (cell : RegisterCell ℕ ℕ) (a b : ℕ) → shows_first a cell ≡ true → shows_first b cell ≡ true → a ≡ b
one_net cell a b = go (slice_get cell.outputs 0)
  where
    go : (o : Option (ℕ × Bool)) → option_map_or (λ (p : ℕ × Bool). nat_eq p.0 a) o false ≡ true → option_map_or (λ (p : ℕ × Bool). nat_eq p.0 b) o false ≡ true → a ≡ b
    go None x y = absurd (both_ways false refl x)
    go (Some p) x y = sym (eqb-true p.0 a x) ∙ eqb-true p.0 b y

same_register : (c : Circuit) (w v : Word) (r : ℕ) → register_of c w ≡ Some r → register_of c v ≡ Some r → w ≡ v
same_register c w v r is it =
    let a = some_of (λ net. first_showing net c.registers) (net_place c w) r is in
    let b = some_of (λ net. first_showing net c.registers) (net_place c v) r it in
    let x = showing_at a.0 c.registers r a.2 in
    let y = showing_at b.0 c.registers r b.2 in
    let cell : x.0 ≡ y.0 = same_Some x.0 y.0 (sym x.1 ∙ y.1) in
    let net : a.0 ≡ b.0 = one_net y.0 a.0 b.0 (subst (λ (z : RegisterCell ℕ ℕ). shows_first a.0 z ≡ true) cell x.2) y.2 in
    let p = place_parts c w a.0 a.1 in
    let q = place_parts c v b.0 b.1 in
    same_place c.names w v p.0 q.0 (p.1 ∙ (net ∙ sym q.1))

said_from : {A : Type 0} (say : Word → Option A) (f : A → ℕ) (ws : List Word) (all : List A) (n : ℕ) → all_said say ws ≡ Some all → is_in (map f all) n ≡ true → (v : Word) × (a : A) × (is_known ws v ≡ true) × (say v ≡ Some a) × (f a ≡ n)
said_from say f [] all n is among = let same : [] ≡ all = cc in absurd (both_ways false refl (subst (λ l. is_in (map f l) n ≡ true) (sym same) among))
said_from say f (w ∷ ws) all n is among =
    let p = said_parts say w ws all is in
    elim (or_cases (nat_eq n (f p.0)) (is_in (map f p.1) n) (subst (λ l. is_in (map f l) n ≡ true) (sym p.4) among)) [
      | inl here ↦ (w, p.0, known_head w ws, p.2, sym (eqb-true n (f p.0) here))
      | inr later ↦ let s = said_from say f ws p.1 n p.3 later in (s.0, s.1, known_tail w s.0 ws s.2, s.3, s.4)
    ]

pub known_alone : (y z : Word) → is_known (y ∷ []) z ≡ true → y ≡ z
known_alone y z k = let at = known_at (y ∷ []) z k in go at.0 at.1
  where
    go : (i : ℕ) → slice_get (y ∷ []) i ≡ Some z → y ≡ z
    go zero h = same_Some y z h
    go (suc i) h = absurd (cc)

pub apart_later : (before ws : List Word) (x : Word) → stand_apart before ws ≡ true → is_known before x ≡ true → is_known ws x ≡ true → ⊥
apart_later before [] x apart known among = both_ways false refl among
apart_later before (w ∷ ws) x apart known among =
    let p = and_parts (not (is_known before w)) (stand_apart (before ++ w ∷ []) ws) apart in
    elim (known_cases (w ∷ []) ws x among) [
      | inl here ↦ both_ways (is_known before w) (not-true (is_known before w) p.0) (subst (λ y. is_known before y ≡ true) (sym (known_alone w x here)) known)
      | inr later ↦ apart_later (before ++ w ∷ []) ws x p.1 (known_left before (w ∷ []) x known) later
    ]

map_itself : (ns : List ℕ) → map (λ n. n) ns ≡ ns
map_itself [] = refl
map_itself (n ∷ ns) = ap (λ l. n ∷ l) (map_itself ns)

no_regs : IsDistinct nat_eq []
unfolding IsDistinct
no_regs = tt

regs_distinct : (c : Circuit) (before ws : List Word) (rs : List ℕ) → stand_apart before ws ≡ true → all_said (register_of c) ws ≡ Some rs → IsDistinct nat_eq rs
regs_distinct c before [] rs apart is = let same : [] ≡ rs = cc in subst (IsDistinct nat_eq) same no_regs
regs_distinct c before (w ∷ ws) rs apart is =
    let p = said_parts (register_of c) w ws rs is in
    let q = and_parts (not (is_known before w)) (stand_apart (before ++ w ∷ []) ws) apart in
    let out : is_in p.1 p.0 ≡ false = false_from_ne_true (is_in p.1 p.0) (λ among.
    let s = said_from (register_of c) (λ n. n) ws p.1 p.0 p.3 (subst (λ l. is_in l p.0 ≡ true) (sym (map_itself p.1)) among) in
    let same : w ≡ s.0 = same_register c w s.0 p.0 p.2 (s.3 ∙ ap Some s.4) in
    apart_later (before ++ w ∷ []) ws w q.1 (known_right before (w ∷ []) w (known_head w [])) (subst (λ v. is_known ws v ≡ true) (sym same) s.2)) in
    subst (IsDistinct nat_eq) p.4 (distinct_cons p.0 p.1 out (regs_distinct c (before ++ w ∷ []) ws p.1 q.1 p.3))

-- a hint of a form
by_index : {T : Type 0} (P : T → Type 0) (xs : List T) → AllByRecursion P xs → All P xs
by_index P [] all k d below = absurd (omega (arith, below))
by_index P (x ∷ xs) all zero d below = all.0
by_index P (x ∷ xs) all (suc k) d below = by_index P xs all.1 k d (omega (arith, below))

hint_is_of : (c : Circuit) (f : Form) (h : Hint) → IsForm f → hint_of c f ≡ Some h → IsOf c h
hint_is_of c f h form is =
    let s = some_of (λ regs. option_map (λ terms. record { regs = regs; terms = terms; after = f.after }) (all_terms (literal_of c) f.terms)) (all_said (register_of c) f.regs) h is in
    let regs : List ℕ = s.0 in
    let m = mapped_of (λ terms. record { regs = regs; terms = terms; after = f.after }) (all_terms (literal_of c) f.terms) h s.2 in
    let t = terms_are c true f.terms m.0 form.terms m.1 in
    let long = said_long (register_of c) f.regs regs s.1 in
    let some = form.some in
    subst (IsOf c) m.2 (record {
      registers = regs_below c f.regs regs s.1;
      distinct = regs_distinct c [] f.regs regs form.apart s.1;
      some = omega (arith, long, some);
      terms = subst (λ (l : List (List Literal)). 0 < length l) (sym t.are) (omega arith);
      literals = subst (All (λ term. 0 < length term)) (sym t.are) (by_index (λ term. 0 < length term) (t.first ∷ t.later) (t.begun refl, t.some));
      nets = subst (λ (l : List (List Literal)). (y : ℕ) → is_in (condition_nets l) y ≡ true → IsPlain c y) (sym t.are)
          (λ y among. elim (is_in_cases (map (λ (l : Literal). l.0) t.first) (condition_nets t.later) y among) [ inl here ↦ t.first_nets y here | inr there ↦ t.nets y there ]);
      after = form.after;
    })

line_is_of : (c : Circuit) (line : Line) (h : Hint) → line_hint c line ≡ Ok h → IsOf c h
line_is_of c line h is = go (form_of line.words) refl is
  where
    known : (f : Form) → IsForm f → (o : Option Hint) → hint_of c f ≡ o → known_or line.number o ≡ Ok h → IsOf c h
    known f form None at k = absurd (cc)
    known f form (Some g) at k = let same : g ≡ h = cc in hint_is_of c f h form (at ∙ ap Some same)

    go : (o : Option Form) → form_of line.words ≡ o → formed_or c line.number o ≡ Ok h → IsOf c h
    go None at k = absurd (cc)
    go (Some f) at k = known f (formed line.words f at) (hint_of c f) refl k

lines_are_of : (c : Circuit) (ls : List Line) (hs : List Hint) → lines_hints c ls ≡ Ok hs → AllByRecursion (IsOf c) hs
lines_are_of c [] hs is = let same : [] ≡ hs = cc in subst (AllByRecursion (IsOf c)) same tt
lines_are_of c (line ∷ ls) hs is = go (lines_are_of c ls) (line_hint c line) refl (lines_hints c ls) refl is
  where
    go : ((gs : List Hint) → lines_hints c ls ≡ Ok gs → AllByRecursion (IsOf c) gs) → (a : Result Hint HintFault) → line_hint c line ≡ a → (b : Result (List Hint) HintFault) → lines_hints c ls ≡ b → hint_before a b ≡ Ok hs → AllByRecursion (IsOf c) hs
    go rest (Err fault) x b y k = absurd (cc)
    go rest (Ok h) x (Err fault) y k = absurd (cc)
    go rest (Ok h) x (Ok gs) y k = let same : h ∷ gs ≡ hs = cc in subst (AllByRecursion (IsOf c)) same (line_is_of c line h x, rest gs y)

pub read_are_of : ReadAreOf
read_are_of c text hs good is = lines_are_of c (hint_lines text) hs is

pub of_netlist_fits : OfNetlistFits
of_netlist_fits c prefix h is = record {
  registers = is.registers;
  distinct = is.distinct;
  some = is.some;
  terms = is.terms;
  literals = is.literals;
  nets = λ y among. let net = is.nets y among in record { below = net.below; apart = net.apart };
  after = is.after;
}
