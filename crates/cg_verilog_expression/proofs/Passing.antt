-- A token that passes a test is read, and another one stops the reading.
use Rattle.std.proofs.Common.{◌≡◌, ℕ, ◌<◌, Bool, true, false, List, [], ◌∷◌, length, refl, ap, ◌∙◌, sym, subst, if◌then◌else◌, arith}
use Rattle.std.proofs.lemmas.Bool.{both_ways}
use Rattle.cg_verilog_text.specs.Reading.{Got, Read, Reader, Stuck, after, behind, ended_by, is_next, mark, pass}
use Rattle.cg_verilog_text.specs.Tokens.{Token}
use Rattle.std.specs.Prelude.{Result}
use Rattle.cg_verilog_expression.specs.Readings.{IsRead, Stops, next_text}
use Rattle.cg_verilog_expression.specs.declared.stop.Stop.{Stop}
use Rattle.cg_verilog_expression.specs.declared.stop.Stop.TheVariants.{At, NoMemory}

pub pass_next : (test : Token → Bool) (ts : List Token) → is_next test ts ≡ true → pass test ts ≡ Got (next_text ts) (behind ts)
pass_next test [] is = absurd (both_ways false refl is)
pass_next test (t ∷ ts) is = ap (λ b. if b then Got t.text ts else Stuck (t ∷ ts)) is

pub pass_stuck : (test : Token → Bool) (ts : List Token) → is_next test ts ≡ false → pass test ts ≡ Stuck ts
pass_stuck test [] is = refl
pass_stuck test (t ∷ ts) is = ap (λ b. if b then Got t.text ts else Stuck (t ∷ ts)) is

pub next_shrinks : (test : Token → Bool) (ts : List Token) → is_next test ts ≡ true → length (behind ts) < length ts
next_shrinks test [] is = absurd (both_ways false refl is)
next_shrinks test (t ∷ ts) is = omega arith

-- one thing, and then another
pub after_got : {A B : Type 0} (read : Read A) (a : A) (later : List Token) (next : A → Reader B) → read ≡ Got a later → after read next ≡ next a later
after_got read a later next is = ap (λ (r : Read _). after r next) is

pub after_stuck : {A B : Type 0} (end : ℕ) (read : Read A) (next : A → Reader B) (stop : Stop) → Stops end read stop → Stops end (after read next) stop
after_stuck end read next (At line) stops = record { left = stops.left; stuck = ap (λ (r : Read _). after r next) stops.stuck; line_is = stops.line_is }
after_stuck end read next NoMemory stops = tt

pub after_stops : {A B : Type 0} (end : ℕ) (read : Read A) (a : A) (later : List Token) (next : A → Reader B) (stop : Stop) → read ≡ Got a later → Stops end (next a later) stop → Stops end (after read next) stop
after_stops end read a later next stop is stops = subst (λ (r : Read _). Stops end r stop) (sym (after_got read a later next is)) stops

-- what is read again at other tokens
pub read_as : {A : Type 0} (end last : ℕ) (read same : Read A) (left : List Token) (result : Result A Stop) → last ≡ end → read ≡ same → IsRead last same left result → IsRead end read left result
read_as end last read same left result ends is reads = subst (λ e. IsRead e read left result) ends (subst (λ (r : Read _). IsRead last r left result) (sym is) reads)

-- and a mark behind it
pub closed_stuck : {A : Type 0} (end byte : ℕ) (read : Read A) (stop : Stop) → Stops end read stop → Stops end (ended_by byte read) stop
closed_stuck end byte read stop stops = after_stuck end read (λ a later. after (mark byte later) (λ _ last. Got a last)) stop stops

pub closed_stops : {A : Type 0} (end last byte : ℕ) (read : Read A) (a : A) (later : List Token) (stop : Stop) → read ≡ Got a later → last ≡ end → Stops last (mark byte later) stop → Stops end (ended_by byte read) stop
closed_stops end last byte read a later stop is ends stops =
    after_stops end read a later (λ b rest. after (mark byte rest) (λ _ end. Got b end)) stop is
    (after_stuck end (mark byte later) (λ _ end. Got a end) stop (subst (λ e. Stops e (mark byte later) stop) ends stops))

pub closed_got : {A : Type 0} (byte : ℕ) (read : Read A) (a : A) (later last : List Token) → read ≡ Got a later → (text : List ℕ) × (mark byte later ≡ Got text last) → ended_by byte read ≡ Got a last
closed_got byte read a later last is marked =
    after_got read a later (λ b rest. after (mark byte rest) (λ _ end. Got b end)) is
    ∙ after_got (mark byte later) marked.0 last (λ _ end. Got a end) marked.1
