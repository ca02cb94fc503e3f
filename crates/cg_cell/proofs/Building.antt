-- Runs one after another: what holds of each part holds of the chain.
use Rattle.std.proofs.Common.{◌≡◌, ℕ, Bool, List, [], ◌∷◌, ◌++◌, inl, inr, refl, sym, ◌∙◌, ap, subst, append-nil, append_assoc}
use Rattle.std.proofs.Common.{IsTrue, not, ◌&&◌}
use Rattle.cg_cell.specs.Domain.{GrowsAtEnd, IsDomain, Keeps, Made, Makes, Ops, Seen, Stands, after}
use Rattle.cg_cell.specs.Build.{Builds, Evaluates, RefusesAt, Run, Somewhere, Stops, build_and, build_not, chain, made, plain}

pub extends_self : (xs : List (ℕ × ℕ)) → GrowsAtEnd xs xs
extends_self xs = record { added = []; whole = sym (append-nil xs) }

pub extends_then : (xs ys zs : List (ℕ × ℕ)) → GrowsAtEnd xs ys → GrowsAtEnd ys zs → GrowsAtEnd xs zs
extends_then xs ys zs p q = record {
  added = p.added ++ q.added;
  whole = q.whole ∙ (ap (λ l. l ++ q.added) p.whole ∙ append_assoc xs p.added q.added);
}

pub keeps_self : (o : Ops) (s : Seen) → Keeps o s s
keeps_self o s = record {
  number = refl;
  pairs = extends_self s.pairs;
  valid = λ a h. h;
  bits = λ a bits h. refl;
}

pub keeps_then : (o : Ops) (s t u : Seen) → Keeps o s t → Keeps o t u → Keeps o s u
keeps_then o s t u p q = record {
  number = q.number ∙ p.number;
  pairs = extends_then s.pairs t.pairs u.pairs p.pairs q.pairs;
  valid = λ a h. q.valid a (p.valid a h);
  bits = λ a bits h. q.bits a bits (p.valid a h) ∙ p.bits a bits h;
}

pub keeps_same : (o : Ops) (s t : Seen) → t ≡ s → Keeps o s t
keeps_same o s t e = subst (λ u. Keeps o s u) (sym e) (keeps_self o s)

pub builds_then : (r : Run) (next : ℕ → Seen → Run) (t u : Seen) (a b : ℕ) →
    Builds r t a → Builds (next a t) u b → Builds (chain r next) u b
builds_then r next t u a b p q = record {
  answered = ap (λ x. (next x r.domain).answer) p.answered ∙ (ap (λ d. (next a d).answer) p.left ∙ q.answered);
  left = ap (λ x. (next x r.domain).domain) p.answered ∙ (ap (λ d. (next a d).domain) p.left ∙ q.left);
}

-- One run, then another whose bit is the wanted one.
pub evaluates_then : (o : Ops) (s t u : Seen) (a b : ℕ) (r : Run) (next : ℕ → Seen → Run)
    (first second wanted : List Bool → Bool) →
    Evaluates o s t a r first → Evaluates o t u b (next a t) second →
    ((bits : List Bool) → second bits ≡ wanted bits) → Evaluates o s u b (chain r next) wanted
evaluates_then o s t u a b r next first second wanted p q same = record {
  builds = builds_then r next t u a b p.builds q.builds;
  stands = record {
    keeps = keeps_then o s t u p.stands.keeps q.stands.keeps;
    valid = q.stands.valid;
    bit = λ bits. q.stands.bit bits ∙ same bits;
  };
}

-- The same answer stands for the same bit, however the bit is written.
pub evaluates_as : (o : Ops) (s t : Seen) (a : ℕ) (r : Run) (value wanted : List Bool → Bool) →
    Evaluates o s t a r value → ((bits : List Bool) → value bits ≡ wanted bits) → Evaluates o s t a r wanted
evaluates_as o s t a r value wanted p same = record {
  builds = p.builds;
  stands = record { keeps = p.stands.keeps; valid = p.stands.valid; bit = λ bits. p.stands.bit bits ∙ same bits };
}

-- A value that is there needs no call.
pub plain_evaluates : (o : Ops) (s : Seen) (a : ℕ) → IsTrue (o.is_valid s a) →
    Evaluates o s s a (plain a s) (λ bits. o.bit s bits a)
plain_evaluates o s a h = record {
  builds = record { answered = refl; left = refl };
  stands = record { keeps = keeps_self o s; valid = h; bit = λ bits. refl };
}

-- What stands for a bit in the domain that an operation leaves stands for it in the domain that was seen.
stands_as : (o : Ops) (s : Seen) (m : Made) (t : Seen) (r : ℕ) (value : List Bool → Bool) →
    Makes s m t r → Stands o s (after s m) m.answer value → Stands o s t r value
stands_as o s m t r value p h = subst (λ u. Stands o s u r value) p.left (subst (λ x. Stands o s (after s m) x value) p.answered h)

made_evaluates : (o : Ops) (s : Seen) (m : Made) (t : Seen) (r : ℕ) (value : List Bool → Bool) →
    Makes s m t r → Stands o s (after s m) m.answer value → Evaluates o s t r (made s m) value
made_evaluates o s m t r value p h = record {
  builds = record { answered = p.answered; left = p.left };
  stands = stands_as o s m t r value p h;
}

pub constant_made : (o : Ops) (laws : IsDomain o) (s t : Seen) (b : Bool) (r : ℕ) → IsTrue (o.is_sound s) →
    Makes s (o.constant_of s b) t r → Evaluates o s t r (made s (o.constant_of s b)) (λ _. b)
constant_made o laws s t b r h p = made_evaluates o s (o.constant_of s b) t r (λ _. b) p (laws.constant_stands s b h)

pub not_made : (o : Ops) (laws : IsDomain o) (s t : Seen) (a r : ℕ) → IsTrue (o.is_valid s a) →
    Makes s (o.not_of s a) t r → Evaluates o s t r (build_not o a s) (λ bits. not (o.bit s bits a))
not_made o laws s t a r h p = made_evaluates o s (o.not_of s a) t r (λ bits. not (o.bit s bits a)) p (laws.not_stands s a h)

pub and_made : (o : Ops) (laws : IsDomain o) (s t : Seen) (a b r : ℕ) →
    IsTrue (o.is_valid s a) → IsTrue (o.is_valid s b) → Makes s (o.and_of s a b) t r →
    Evaluates o s t r (build_and o a b s) (λ bits. o.bit s bits a && o.bit s bits b)
and_made o laws s t a b r h k p = record {
  builds = record { answered = p.answered; left = p.left };
  stands = stands_as o s (o.and_of s a b) t r (λ bits. o.bit s bits a && o.bit s bits b) p (laws.and_stands s a b h k);
}

somewhere_left : {X : Type 0} (P : X → Type 0) (xs ys : List X) → Somewhere P xs → Somewhere P (xs ++ ys)
somewhere_left P [] ys h = absurd h
somewhere_left P (x ∷ xs) ys h = elim h [ inl p ↦ inl p | inr q ↦ inr (somewhere_left P xs ys q) ]

somewhere_right : {X : Type 0} (P : X → Type 0) (xs ys : List X) → Somewhere P ys → Somewhere P (xs ++ ys)
somewhere_right P [] ys h = h
somewhere_right P (x ∷ xs) ys h = inr (somewhere_right P xs ys h)

pub and_stops : {F : Type 0} (refuses : Seen → ℕ → ℕ → F → Type 0) (o : Ops) (s t : Seen) (a b : ℕ) (f : F) →
    refuses s a b f → t ≡ s → Stops refuses (build_and o a b s) f t
and_stops refuses o s t a b f h e = record { at = inl (record { allowed = h; left = sym e }) }

-- A run that stops stops the chain that begins with it.
pub stops_first : {F : Type 0} (refuses : Seen → ℕ → ℕ → F → Type 0) (r : Run) (next : ℕ → Seen → Run) (f : F) (t : Seen) →
    Stops refuses r f t → Stops refuses (chain r next) f t
stops_first refuses r next f t h = record { at = somewhere_left (RefusesAt refuses f t) r.calls (next r.answer r.domain).calls h.at }

-- After a run that was made, the run that follows may stop.
pub stops_then : {F : Type 0} (refuses : Seen → ℕ → ℕ → F → Type 0) (r : Run) (next : ℕ → Seen → Run) (f : F) (t u : Seen) (a : ℕ) →
    Builds r t a → Stops refuses (next a t) f u → Stops refuses (chain r next) f u
stops_then refuses r next f t u a p h = record {
  at = somewhere_right (RefusesAt refuses f u) r.calls (next r.answer r.domain).calls
      (subst (λ x. Somewhere (RefusesAt refuses f u) (next x r.domain).calls) (sym p.answered)
      (subst (λ d. Somewhere (RefusesAt refuses f u) (next a d).calls) (sym p.left) h.at));
}
