-- Parts that a builder is told one after another.
use Rattle.std.proofs.Common.{◌≡◌, ◌⊎◌, ℕ, zero, suc, ◌+◌, ◌≤◌, Bool, true, false, if◌then◌else◌, List, [], ◌∷◌, ◌++◌, map}
use Rattle.std.proofs.Common.{length, take, drop, slice_get, nat_lt, Option, None, Some, Result, Ok, Err, MatchResult, refl, ap}
use Rattle.std.proofs.Common.{sym, ◌∙◌, subst, length-append, inl, inr, arith}
use Rattle.std.proofs.lemmas.Bool.{ltb-false, false_from_ne_true, ltb-true}
use Rattle.std.proofs.lemmas.List.{map-append}
use Rattle.cg_limit.specs.declared.TheConstants.{MOST_NETS, MOST_REGISTERS}
use Rattle.cg_limit.specs.declared.Limit.{Limit}
use Rattle.cg_limit.specs.declared.Limit.TheVariants.{Nets, Registers}
use Rattle.cg_net.proofs.TableLemmas.{take_next}
use Rattle.cg_netlist.proofs.Each.{each_back, each_front}
use Rattle.cg_net.specs.Names.{NetName, is_known, with_name, with_names}
use Rattle.cg_netlist.specs.declared.fault.AddFault.{AddFault}
use Rattle.cg_netlist.specs.declared.fault.AddFault.TheVariants.{NoMemory}
use Rattle.cg_netlist_builder.specs.Building.{Building, IsAnswer, Takes}
use Rattle.cg_netlist_parts.specs.Part.{Clock, GaterPart, Input, Logic, Output, Part, Register, mentioned}
use Rattle.cg_netlist_parts.specs.Said.{Said, limit_of, with_kind, with_part}
use Rattle.cg_netlist_parts.specs.Says.{IsPart}
use Rattle.cg_netlist_telling.specs.Telling.{MayTell, WasTold, told, with_parts}

pub with_parts_more : (s : Said) (xs ys : List Part) → with_parts s (xs ++ ys) ≡ with_parts (with_parts s xs) ys
with_parts_more s [] ys = refl
with_parts_more s (x ∷ xs) ys = with_parts_more (with_part s x) xs ys

pub told_more : (b : Building) (xs ys : List Part) → told b (xs ++ ys) ≡ told (told b xs) ys
told_more b xs ys = ap (λ s. record { model = b.model; said = s; refused = b.refused }) (with_parts_more b.said xs ys)

-- what is said grows
name_longer : (names : List NetName) (x : NetName) → length names ≤ length (with_name names x)
name_longer names x = go (is_known names x)
  where
    go : (b : Bool) → length names ≤ length (if b then names else names ++ x ∷ [])
    go true = omega arith
    go false = omega (arith, length-append names (x ∷ []))

names_longer : (names more : List NetName) → length names ≤ length (with_names names more)
names_longer names [] = omega arith
names_longer names (x ∷ more) = let one = name_longer names x in let rest = names_longer (with_name names x) more in omega (arith, one, rest)

kind_longer : (p : Part) (s : Said) → length s.registers ≤ length (with_kind p s).registers
kind_longer (Input net) s = omega arith
kind_longer (Output net) s = omega arith
kind_longer (Clock net) s = omega arith
kind_longer (Logic cell) s = omega arith
kind_longer (GaterPart gater) s = omega arith
kind_longer (Register r) s = omega (arith, length-append s.registers (r ∷ []))

nets_longer : (s : Said) (ps : List Part) → length s.nets ≤ length (with_parts s ps).nets
nets_longer s [] = omega arith
nets_longer s (p ∷ ps) = let one = names_longer s.nets (mentioned p) in let rest = nets_longer (with_part s p) ps in omega (arith, one, rest)

registers_longer : (s : Said) (ps : List Part) → length s.registers ≤ length (with_parts s ps).registers
registers_longer s [] = omega arith
registers_longer s (p ∷ ps) = let one = kind_longer p s in let rest = registers_longer (with_part s p) ps in omega (arith, one, rest)

-- the limits
not_below : (m n : ℕ) → n ≤ m → nat_lt m n ≡ false
not_below m n le = false_from_ne_true (nat_lt m n) (λ lt. let b = ltb-true m n lt in let none : ⊥ = omega (arith, b, le) in none)

pub record Within (s : Said) : Type 0 where
  pub nets : length s.nets ≤ MOST_NETS
  pub registers : length s.registers ≤ MOST_REGISTERS

pub limit_within : (s : Said) → limit_of s ≡ None → Within s
limit_within s is = go (nat_lt MOST_NETS (length s.nets)) (nat_lt MOST_REGISTERS (length s.registers)) refl refl is
  where
    go : (a b : Bool) → nat_lt MOST_NETS (length s.nets) ≡ a → nat_lt MOST_REGISTERS (length s.registers) ≡ b → ◌≡◌ {A = Option Limit} (if a then Some Nets else if b then Some Registers else None) None → Within s
    go true b a_is b_is is = absurd (cc)
    go false true a_is b_is is = absurd (cc)
    go false false a_is b_is is = record { nets = ltb-false MOST_NETS (length s.nets) a_is; registers = ltb-false MOST_REGISTERS (length s.registers) b_is }

pub within_limit : (s : Said) → Within s → limit_of s ≡ None
within_limit s within =
    ap {B = Option Limit} (λ b. if b then Some Nets else if nat_lt MOST_REGISTERS (length s.registers) then Some Registers else None) (not_below MOST_NETS (length s.nets) within.nets)
    ∙ ap {B = Option Limit} (λ b. if b then Some Registers else None) (not_below MOST_REGISTERS (length s.registers) within.registers)

limit_front : (s : Said) (xs ys : List Part) → limit_of (with_parts s (xs ++ ys)) ≡ None → limit_of (with_parts s xs) ≡ None
limit_front s xs ys is =
    let all : Within (with_parts (with_parts s xs) ys) = limit_within (with_parts (with_parts s xs) ys) (ap limit_of (sym (with_parts_more s xs ys)) ∙ is) in
    within_limit (with_parts s xs) (record {
      nets = (let more = nets_longer (with_parts s xs) ys in let a = all.nets in omega (arith, more, a));
      registers = (let more = registers_longer (with_parts s xs) ys in let a = all.registers in omega (arith, more, a));
    })

-- what may be told front and back
pub may_front : (b : Building) (xs ys : List Part) → MayTell b (xs ++ ys) → MayTell b xs
may_front b xs ys may = record { open_yet = may.open_yet; each = each_front IsPart xs ys may.each; within = limit_front b.said xs ys may.within }

pub may_next : (b : Building) (xs ys : List Part) → MayTell b (xs ++ ys) → MayTell (told b xs) ys
may_next b xs ys may = record { open_yet = may.open_yet; each = each_back IsPart xs ys may.each; within = ap limit_of (sym (with_parts_more b.said xs ys)) ∙ may.within }

-- a call that says a part
pub tells_one : (b new : Building) (p : Part) (result : Result (Unit {0}) AddFault) → MayTell b (p ∷ []) → Takes b p new result → WasTold b (p ∷ []) new result
tells_one b new p result may takes = go result takes.takes (subst (λ o. IsAnswer o None result) may.open_yet (subst (λ l. IsAnswer b.refused l result) may.within takes.answers))
  where
    go : (r : Result (Unit {0}) AddFault) → MatchResult r (λ _. new ≡ record b { said = with_part b.said p }) (λ _. Unit {0}) → (r ≡ Ok tt) ⊎ (r ≡ Err NoMemory) → WasTold b (p ∷ []) new r
    go (Ok done) is answer = is
    go (Err fault) is answer = elim answer [ inl ok ↦ absurd (cc) | inr err ↦ (cc) ]

-- parts that are told one by one
module _ {X : Type 0} (f : X → Part) where
  split_at : (xs : List X) (i : ℕ) (x : X) → slice_get xs i ≡ Some x → map f xs ≡ map f (take i xs) ++ (f x ∷ map f (drop (suc i) xs))
  split_at [] i x at = absurd (cc)
  split_at (y ∷ xs) zero x at = let same : y ≡ x = cc in ap (λ z. f z ∷ map f xs) same
  split_at (y ∷ xs) (suc i) x at = ap (λ l. f y ∷ l) (split_at xs i x at)

  pub may_at : (b now : Building) (xs : List X) (i : ℕ) (x : X) → slice_get xs i ≡ Some x → MayTell b (map f xs) → now ≡ told b (map f (take i xs)) → MayTell now (f x ∷ [])
  may_at b now xs i x at may is =
      let all : MayTell b (map f (take i xs) ++ (f x ∷ map f (drop (suc i) xs))) = subst (MayTell b) (split_at xs i x at) may in
      subst (λ c. MayTell c (f x ∷ [])) (sym is) (may_front (told b (map f (take i xs))) (f x ∷ []) (map f (drop (suc i) xs)) (may_next b (map f (take i xs)) (f x ∷ map f (drop (suc i) xs)) all))

  pub told_at : (b now new : Building) (xs : List X) (i : ℕ) (x : X) → slice_get xs i ≡ Some x → now ≡ told b (map f (take i xs)) → new ≡ told now (f x ∷ []) → new ≡ told b (map f (take (i + 1) xs))
  told_at b now new xs i x at is more =
      more ∙ (ap (λ c. told c (f x ∷ [])) is ∙ (sym (told_more b (map f (take i xs)) (f x ∷ [])) ∙ ap (told b) (sym (ap (map f) (take_next xs i x at) ∙ map-append f (take i xs) (x ∷ [])))))

  -- all of them
  pub end_at : (b now : Building) (xs : List X) (n : ℕ) → length xs ≤ n → now ≡ told b (map f (take n xs)) → now ≡ told b (map f xs)
  end_at b now xs n all is = is ∙ ap (λ ys. told b (map f ys)) (Rattle.std.proofs.lemmas.List.take_all n xs all)

-- lists of parts that are told one after the other
pub call_may : (b now : Building) (done p called : List Part) → MayTell b (done ++ p) → now ≡ told b done → called ≡ p → MayTell now called
call_may b now done p called may is same = subst (MayTell now) (sym same) (subst (λ c. MayTell c p) (sym is) (may_next b done p may))

pub call_told : (b now new : Building) (done p called : List Part) → now ≡ told b done → called ≡ p → new ≡ told now called → new ≡ told b (done ++ p)
call_told b now new done p called is same more = more ∙ (ap (told now) same ∙ (ap (λ c. told c p) is ∙ sym (told_more b done p)))

pub call_tells : (b now new : Building) (done p called : List Part) → now ≡ told b done → called ≡ p → (result : Result (Unit {0}) AddFault) → WasTold now called new result → WasTold b (done ++ p) new result
call_tells b now new done p called is same (Ok unit) tells = call_told b now new done p called is same tells
call_tells b now new done p called is same (Err fault) tells = tells
