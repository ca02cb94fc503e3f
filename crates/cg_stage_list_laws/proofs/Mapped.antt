-- What is mapped of the items of a list, and nets as plain literals.
use Rattle.std.proofs.Common.{◌≡◌, ℕ, zero, suc, ◌+◌, ◌<◌, ◌≤◌, Bool, true, false, if◌then◌else◌, List, [], ◌∷◌, map, length}
use Rattle.std.proofs.Common.{nat_eq, is_some, option_and_then, Option, None, Some, refl, ◌∙◌, ap, arith}
use Rattle.std.proofs.Common.{◌⊎◌, inl, inr}
use Rattle.std.specs.List.{list_all, range_with_len}
use Rattle.std.proofs.lemmas.Bool.{and_parts, both_ways, cases_Bool, eqb-true, eq-eqb, or_cases, or_left, or_right}
use Rattle.std.proofs.lemmas.Option.{none-some, same_Some}
use Rattle.cg_net.specs.NetSets.{is_in}
use Rattle.cg_machine.specs.Claims.{Literal}
use Rattle.cg_machine.specs.Machine.{MachineData}
use Rattle.cg_machine.specs.declared.stage.Earlier.{Earlier}
use Rattle.cg_machine.specs.declared.stage.Stage.{Stage}
use Rattle.cg_machine.specs.declared.stage.StageKind.{StageKind}
use Rattle.cg_stage_laws.specs.Stages.{has_inverted}
use Rattle.cg_stage_list_laws.specs.Rounds.{is_empty, kept_key, left_out, plain_literals}
use Rattle.cg_stage_list_laws.specs.Supports.{all_nets, in_net_order}
use Rattle.cg_netlist.proofs.Filtered.{to_filter}

-- plain literals of nets
pub plain_nets : (nets : List ℕ) → map (λ (l : Literal). l.0) (plain_literals nets) ≡ nets
plain_nets [] = refl
plain_nets (y ∷ nets) = ap (λ l. y ∷ l) (plain_nets nets)

pub plain_plain : (nets : List ℕ) → has_inverted (plain_literals nets) ≡ false
plain_plain [] = refl
plain_plain (y ∷ nets) = plain_plain nets

pub some_length : (xs : List ℕ) (x : ℕ) → is_in xs x ≡ true → 0 < length xs
some_length [] x among = absurd (both_ways false refl among)
some_length (y ∷ xs) x among = omega arith

pub nonempty_member : (xs : List ℕ) → is_empty xs ≡ false → (x : ℕ) × (is_in xs x ≡ true)
nonempty_member [] h = absurd (both_ways true h refl)
nonempty_member (x ∷ xs) h = (x, or_left (nat_eq x x) (is_in xs x) (eq-eqb x x refl))

pub then_option : {X Y : Type 0} (f : X → Option Y) (o : Option X) (y : Y) → option_and_then f o ≡ Some y → (x : X) × (o ≡ Some x) × (f x ≡ Some y)
then_option f None y is = absurd (none-some y is)
then_option f (Some x) y is = (x, refl, is)

pub kept : {K : Type 0} (kind : StageKind) (had : K → Stage → Bool) (earlier : List Earlier) (key : ℕ → Option K) (r : ℕ) (k : K) → kept_key kind had earlier key r ≡ Some k → key r ≡ Some k
kept {K = K} kind had earlier key r k is =
    let found = then_option (λ (j : K). if left_out kind had earlier r j then None else Some j) (key r) k is in
    found.1 ∙ ap Some (go found.0 (left_out kind had earlier r found.0) found.2)
  where
    go : (j : K) (b : Bool) → (if b then None else Some j) ≡ Some k → j ≡ k
    go j true h = absurd (none-some k h)
    go j false h = same_Some j k h

pub when_true : {X : Type 0} (b : Bool) (x y : X) → (if b then Some x else None) ≡ Some y → (b ≡ true) × (x ≡ y)
when_true true x y h = (refl, same_Some x y h)
when_true false x y h = absurd (none-some y h)

pub all_member : (test : ℕ → Bool) (xs : List ℕ) (x : ℕ) → list_all test xs ≡ true → is_in xs x ≡ true → test x ≡ true
all_member test [] x all among = absurd (both_ways false refl among)
all_member test (y ∷ xs) x all among =
    let p = and_parts (test y) (list_all test xs) all in
    elim (or_cases (nat_eq x y) (is_in xs x) among) [ inl same ↦ ap test (eqb-true x y same) ∙ p.0 | inr more ↦ all_member test xs x p.1 more ]

pub is_some_of : (o : Option ℕ) → is_some o ≡ true → (x : ℕ) × (o ≡ Some x)
is_some_of None h = absurd (both_ways false refl h)
is_some_of (Some x) h = (x, refl)

pub length_plain : (nets : List ℕ) → length (plain_literals nets) ≡ length nets
length_plain [] = refl
length_plain (y ∷ nets) = ap suc (length_plain nets)

pub none_option : (o : Option ℕ) → is_some o ≡ false → o ≡ None
none_option None h = refl
none_option (Some x) h = absurd (both_ways true h refl)

module _ (m : MachineData) where
  -- some net is there, and each is a net
  pub ordered_some : (nets : List ℕ) (y : ℕ) → is_in nets y ≡ true → y < length m.circuit.names → is_in (in_net_order m nets) y ≡ true
  ordered_some nets y among below = to_filter (is_in nets) (all_nets m) y (range_there (length m.circuit.names) 0 y (omega arith) (omega arith)) among
    where
      range_there : (n a x : ℕ) → a ≤ x → x < a + n → is_in (range_with_len a n) x ≡ true
      range_there zero a x low high = absurd (omega arith)
      range_there (suc n) a x low high = elim (cases_Bool (nat_eq x a)) [
        | inl same ↦ or_left (nat_eq x a) (is_in (range_with_len (a + 1) n) x) same
        | inr other ↦ or_right (nat_eq x a) (is_in (range_with_len (a + 1) n) x) (range_there n (a + 1) x (above other) (omega arith))
      ]
        where
          above : nat_eq x a ≡ false → a + 1 ≤ x
          above other = elim (apart_or a x low) [ inl e ↦ absurd (both_ways (nat_eq x a) other (eq-eqb x a e)) | inr h ↦ h ]
            where
              apart_or : (b y : ℕ) → b ≤ y → (y ≡ b) ⊎ (b + 1 ≤ y)
              apart_or zero zero h = inl refl
              apart_or zero (suc y) h = inr (omega arith)
              apart_or (suc b) zero h = absurd (omega arith)
              apart_or (suc b) (suc y) h = elim (apart_or b y (omega arith)) [ inl e ↦ inl (ap suc e) | inr l ↦ inr (omega arith) ]
