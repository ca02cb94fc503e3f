-- Which roles are the same, and what was given with one file more.
use Rattle.std.proofs.Common.{length, ◌≡◌, ℕ, zero, suc, Bool, true, false, not, ◌||◌, ◌&&◌, IsTrue, List, [], ◌∷◌, Option, None}
use Rattle.std.proofs.Common.{Some, Result, Ok, Err, refl, sym, ◌∙◌, ap, subst, if◌then◌else◌}
use Rattle.std.proofs.lemmas.Bool.{eqb-true, eq-eqb}
use Rattle.cg_run.specs.declared.role.Role.{Role}
use Rattle.cg_run.specs.declared.role.Role.TheVariants as roles
use Rattle.cg_run.specs.declared.refusal.Refusal.{Refusal}
use Rattle.cg_run.specs.Roles.{is_among, is_role, role_number}
use Rattle.cg_run.specs.declared.refusal.Trouble.{Trouble}
use Rattle.cg_run.specs.Verdict.{FileLoaded, Given, Loaded, asked, asked_from, onward, reached, taken, ◌>>=◌}

role_at : ℕ → Role
role_at zero = roles.Library
role_at (suc zero) = roles.Netlist
role_at (suc (suc zero)) = roles.Stimulus
role_at (suc (suc (suc zero))) = roles.Formula
role_at (suc (suc (suc (suc zero)))) = roles.Log
role_at (suc (suc (suc (suc (suc zero))))) = roles.Out
role_at (suc (suc (suc (suc (suc (suc zero)))))) = roles.Proof
role_at (suc (suc (suc (suc (suc (suc (suc zero))))))) = roles.Report
role_at (suc (suc (suc (suc (suc (suc (suc (suc zero)))))))) = roles.Verilog
role_at (suc (suc (suc (suc (suc (suc (suc (suc (suc zero))))))))) = roles.Registers
role_at n = roles.Hints

role_back : (role : Role) → role_at (role_number role) ≡ role
unfolding role_at
role_back roles.Library = refl
role_back roles.Netlist = refl
role_back roles.Stimulus = refl
role_back roles.Formula = refl
role_back roles.Log = refl
role_back roles.Out = refl
role_back roles.Proof = refl
role_back roles.Report = refl
role_back roles.Verilog = refl
role_back roles.Registers = refl
role_back roles.Hints = refl

pub is_same_role : (a b : Role) → is_role a b ≡ true → a ≡ b
is_same_role a b same = sym (role_back a) ∙ ap role_at (eqb-true (role_number a) (role_number b) same) ∙ role_back b

pub is_its_role : (a : Role) → is_role a a ≡ true
is_its_role a = eq-eqb (role_number a) (role_number a) refl

-- what was given with one file more
abbrev pub given_with : Role → Loaded → Given → Given
given_with role gave given other = if is_role other role then gave else given other

pub given_here : (role : Role) (gave : Loaded) (given : Given) → given_with role gave given role ≡ gave
given_here role gave given = rw (is_its_role role) refl

not_or : (a b : Bool) → IsTrue (not (a || b)) → (a ≡ false) × IsTrue (not b)
not_or true b h = cc
not_or false b h = (refl, h)

pub and_parts : (a b : Bool) → IsTrue (a && b) → IsTrue a × IsTrue b
and_parts true b h = (refl, h)
and_parts false b h = (cc)

pub bind_same : {A B : Type 0} (v : Result A Refusal) (f g : A → Result B Refusal) → ((x : A) → f x ≡ g x) → (v >>= f) ≡ (v >>= g)
bind_same (Ok x) f g same = same x
bind_same (Err refusal) f g same = refl

onward_same : {M : Type 0} (v : Result M Refusal) (f g : M → List FileLoaded) → ((x : M) → f x ≡ g x) → onward v f ≡ onward v g
onward_same (Ok x) f g same = same x
onward_same (Err refusal) f g same = refl

pub asked_same : {M : Type 0} (role : Role) (gave : Loaded) (v : Result M Refusal) (f g : M → List FileLoaded) → ((x : M) → f x ≡ g x) → asked_from role gave v f ≡ asked_from role gave v g
asked_same role None v f g same = refl
asked_same role (Some gave) v f g same = let first : FileLoaded = record { role = role; gave = gave } in ap (λ l. first ∷ l) (onward_same v f g same)

-- a file that is not among the rest does not count there
pub reached_with : {M : Type 0} (takes : M → Role → List ℕ → Result M Trouble) (stops : M → Option Trouble) (state : M) (rest : List Role) (role : Role) (gave : Loaded) (given : Given)
    → IsTrue (not (is_among role rest)) → reached takes stops state rest (given_with role gave given) ≡ reached takes stops state rest given
reached_with takes stops state [] role gave given apart = refl
reached_with takes stops state (other ∷ rest) role gave given apart =
    let p = not_or (is_role other role) (is_among role rest) apart in
    let e : given_with role gave given other ≡ given other = rw p.0 refl in
    rw e (bind_same (taken takes state other (given other)) (λ next. reached takes stops next rest (given_with role gave given)) (λ next. reached takes stops next rest given)
    (λ next. reached_with takes stops next rest role gave given p.1))

pub asked_with : {M : Type 0} (takes : M → Role → List ℕ → Result M Trouble) (state : M) (rest : List Role) (role : Role) (gave : Loaded) (given : Given)
    → IsTrue (not (is_among role rest)) → asked takes state rest (given_with role gave given) ≡ asked takes state rest given
asked_with takes state [] role gave given apart = refl
asked_with takes state (other ∷ rest) role gave given apart =
    let p = not_or (is_role other role) (is_among role rest) apart in
    let e : given_with role gave given other ≡ given other = rw p.0 refl in
    rw e (asked_same other (given other) (taken takes state other (given other)) (λ next. asked takes next rest (given_with role gave given)) (λ next. asked takes next rest given)
    (λ next. asked_with takes next rest role gave given p.1))

-- where nothing was given, nothing was asked for
abbrev pub none_given : Given
none_given = λ role. None

pub asked_none : {M : Type 0} (takes : M → Role → List ℕ → Result M Trouble) (state : M) (rest : List Role) → asked takes state rest none_given ≡ []
asked_none takes state [] = refl
asked_none takes state (role ∷ rest) = refl

-- a fact of each file that was given
each_case : (P : Role → Loaded → Type 0) (role other : Role) (gave : Loaded) (given : Given) (same : Bool)
    → is_role other role ≡ same → P role gave → P other (given other) → P other (if same then gave else given other)
each_case P role other gave given true same here there = let Q : Role → Type 0 = λ r. P r gave in subst Q (sym (is_same_role other role same)) here
each_case P role other gave given false same here there = there

pub given_each : (P : Role → Loaded → Type 0) (role : Role) (gave : Loaded) (given : Given)
    → P role gave → ((other : Role) → P other (given other)) → (other : Role) → P other (given_with role gave given other)
given_each P role gave given here others other = each_case P role other gave given (is_role other role) refl here (others other)

pub empty_list : {A : Type 0} (xs : List A) → length xs ≡ 0 → xs ≡ []
empty_list [] h = refl
empty_list (x ∷ xs) h = cc
