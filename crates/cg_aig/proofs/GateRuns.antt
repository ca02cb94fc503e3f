-- In an and-inverter list an added gate's cover gives what `not`, `and` and `or` of its inputs give.
use Rattle.std.proofs.Common.{◌≡◌, ℕ, ◌+◌, ◌-◌, Bool, true, false, ◌||◌, if◌then◌else◌, [], ◌∷◌}
use Rattle.std.proofs.Common.{Some, refl, sym, ◌∙◌, ap, subst, arith, inl, inr}
use Rattle.std.proofs.lemmas.Bool.{eqb-true}
use Rattle.std.specs.Prelude.{◌==◌}
use Rattle.cg_cell.specs.Build.{Run, build_and, build_not, build_or}
use Rattle.cg_cell.specs.Domain.{Made, Seen, after}
use Rattle.cg_cell.specs.Eval.{build_term}
use Rattle.cg_cell.specs.EvalCover.{cover_term}
use Rattle.cg_cell.specs.GateCovers.{and_cover, inverter_cover, or_cover}
use Rattle.cg_aig.specs.Aig.{aig_and, aig_ops, and_with, in_order, inverse, simple}
use Rattle.cg_aig.specs.Values.{inverse_even, inverse_odd, parity}

-- two runs end in the same answer and list
pub record SameEnd (r q : Run) : Type 0 where
  pub answer : r.answer ≡ q.answer
  pub domain : r.domain ≡ q.domain

inverse_twice : (a : ℕ) → inverse (inverse a) ≡ a
inverse_twice a = elim (parity a) [
  | inl e ↦ ap inverse (inverse_even a e) ∙ (inverse_odd (a + 1) (omega (arith, e)) ∙ omega arith)
  | inr e ↦ ap inverse (inverse_odd a e) ∙ (inverse_even (a - 1) (omega (arith, e)) ∙ omega (arith, e))
]

only_zero : (b : ℕ) → (1 == inverse b) ≡ true → b ≡ 0
only_zero b same =
    let one = eqb-true 1 (inverse b) same in
    elim (parity b) [
      | inl e ↦ omega (arith, one, inverse_even b e)
      | inr e ↦ omega (arith, one, inverse_odd b e, e)
    ]

simple_one : (b : ℕ) → simple 1 b ≡ Some b
simple_one b = go (b == 0) refl (1 == inverse b) refl
  where
    go : (x : Bool) → (b == 0) ≡ x → (y : Bool) → (1 == inverse b) ≡ y → (if x || y then Some 0 else Some b) ≡ Some b
    go true is y e = ap Some (sym (eqb-true b 0 is))
    go false is true e = ap Some (sym (only_zero b e))
    go false is false e = refl

and_one : (s : Seen) (b : ℕ) → aig_and s 1 b ≡ record { answer = b; pairs = s.pairs }
and_one s b = ap (λ o. and_with o s (in_order 1 b)) (simple_one b)

-- 0 or a value is the value
or_zero : (s : Seen) (x : ℕ) → SameEnd (build_or aig_ops 0 x s) (record { calls = []; answer = x; domain = s })
or_zero s x = record {
  answer = ap inverse (ap (λ (m : Made). m.answer) (and_one s (inverse x))) ∙ inverse_twice x;
  domain = ap (λ (m : Made). after s m) (and_one s (inverse x));
}

-- what the building of a gate's cover comes to, with the ands by 1 and the or with 0 as they are built
steps_not : (a : ℕ) (s : Seen) → SameEnd (build_term aig_ops (a ∷ []) (cover_term inverter_cover) s) (build_or aig_ops 0 (aig_and s 1 (inverse a)).answer (after s (aig_and s 1 (inverse a))))
steps_not a s = record { answer = refl; domain = refl }

end_then : (r q w : Run) → SameEnd r q → SameEnd q w → SameEnd r w
end_then r q w a b = record { answer = a.answer ∙ b.answer; domain = a.domain ∙ b.domain }

or_zero_of : (s : Seen) (m : Made) (x : ℕ) → m ≡ record { answer = x; pairs = s.pairs } → SameEnd (build_or aig_ops 0 m.answer (after s m)) (record { calls = []; answer = x; domain = s })
or_zero_of s m x is = subst (λ (n : Made). SameEnd (build_or aig_ops 0 n.answer (after s n)) (record { calls = []; answer = x; domain = s })) (sym is) (or_zero s x)

pub inverter_run : (a : ℕ) (s : Seen) → SameEnd (build_term aig_ops (a ∷ []) (cover_term inverter_cover) s) (build_not aig_ops a s)
inverter_run a s =
    let e = or_zero_of s (aig_and s 1 (inverse a)) (inverse a) (and_one s (inverse a)) in
    record { answer = (steps_not a s).answer ∙ e.answer; domain = (steps_not a s).domain ∙ e.domain }

-- an and by 1, and then more
and_one_then : (s : Seen) (a : ℕ) (next : ℕ → Seen → Run) → SameEnd (next (aig_and s 1 a).answer (after s (aig_and s 1 a))) (next a s)
and_one_then s a next =
    let is = and_one s a in
    record {
      answer = ap (λ (m : Made). (next m.answer (after s m)).answer) is;
      domain = ap (λ (m : Made). (next m.answer (after s m)).domain) is;
    }

pub and_run : (a b : ℕ) (s : Seen) → SameEnd (build_term aig_ops (a ∷ b ∷ []) (cover_term and_cover) s) (build_and aig_ops a b s)
and_run a b s =
    let first = and_one_then s a (λ x t. let u = after t (aig_and t x b) in build_or aig_ops 0 (aig_and t x b).answer u) in
    let last = or_zero (after s (aig_and s a b)) (aig_and s a b).answer in
    record { answer = first.answer ∙ last.answer; domain = first.domain ∙ last.domain }

pub or_run : (a b : ℕ) (s : Seen) → SameEnd (build_term aig_ops (a ∷ b ∷ []) (cover_term or_cover) s) (build_or aig_ops a b s)
or_run a b s =
    let rest : ℕ → Seen → Run = λ x t. let m = aig_and t 1 b in build_or aig_ops x m.answer (after t m) in
    let zero_or : ℕ → Seen → Run = λ x t. let r = build_or aig_ops 0 x t in rest r.answer r.domain in
    let first = and_one_then s a zero_or in
    let z = or_zero s a in
    let second : SameEnd (zero_or a s) (rest a s) = record {
      answer = ap (λ x. (rest x (build_or aig_ops 0 a s).domain).answer) z.answer ∙ ap (λ t. (rest a t).answer) z.domain;
      domain = ap (λ x. (rest x (build_or aig_ops 0 a s).domain).domain) z.answer ∙ ap (λ t. (rest a t).domain) z.domain;
    } in
    let third = and_one_then s b (λ x t. build_or aig_ops a x t) in
    record { answer = first.answer ∙ (second.answer ∙ third.answer); domain = first.domain ∙ (second.domain ∙ third.domain) }
