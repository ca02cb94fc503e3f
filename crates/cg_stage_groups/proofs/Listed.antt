-- Keys, groups and numbers that are put behind others, one after another.
use Rattle.std.proofs.Common.{◌≡◌, ℕ, zero, suc, ◌+◌, ◌<◌, ◌≤◌, List, [], ◌∷◌, ◌++◌, map, length, take, drop, slice_get, Option}
use Rattle.std.proofs.Common.{Some, None, refl, sym, ◌∙◌, ap, arith}
use Rattle.std.specs.List.{cons_option, filter_map}
use Rattle.std.specs.Option.{option_map}
use Rattle.std.proofs.lemmas.List.{append-nil, length-take-le, take_all}
use Rattle.std.proofs.lemmas.List.Elements.{filter_map-append}
use Rattle.cg_stage_groups.specs.declared.key.Key.{Key}
use Rattle.cg_stage_groups.specs.Keys.{groups_seen, key_at, key_seen}
use Rattle.cg_stage_list_laws.specs.Groups.{Group}
use Rattle.cg_stage_list_laws.specs.StableList.{StableKey}
use Rattle.cg_machine.specs.Added.{own_netlist}
use Rattle.cg_machine.specs.Machine.{IsMachine, MachineData}
use Rattle.cg_net.proofs.TableLemmas.{take_end}

-- the netlist's own registers
pub own_count : (m : MachineData) → IsMachine m → length (own_netlist m).registers ≡ m.own_registers
own_count m good = length-take-le m.own_registers m.circuit.registers good.own_registers

-- one key more
pub push_key : (f : ℕ → Option StableKey) (keys : List (Option Key)) (key : Option Key) (n : ℕ) → length keys ≡ n → ((r : ℕ) → r < n → key_at keys r ≡ f r) → option_map key_seen key ≡ f n → (r : ℕ) → r < n + 1 → key_at (keys ++ key ∷ []) r ≡ f r
push_key f [] key n count each last zero below = last ∙ ap f (sym count)
push_key f [] key n count each last (suc r) below = absurd (omega (arith, count))
push_key f (k ∷ keys) key n count each last zero below = each zero (omega (arith, count))
push_key f (k ∷ keys) key n count each last (suc r) below =
    let e : suc (length keys) ≡ n = count in
    push_key (λ i. f (suc i)) keys key (length keys) refl (λ i within. each (suc i) (omega (arith, count))) (last ∙ ap f (sym e)) r (omega (arith, count))

pub length_push : (keys : List (Option Key)) (k : Option Key) → length (keys ++ k ∷ []) ≡ length keys + 1
length_push [] k = omega arith
length_push (j ∷ keys) k = let rest = length_push keys k in omega (arith, rest)

-- one group more
pub seen_push : (keys : List Key) (regs : List (List ℕ)) (k : Key) (rs : List ℕ) → length regs ≡ length keys → groups_seen (keys ++ k ∷ []) (regs ++ rs ∷ []) ≡ groups_seen keys regs ++ (let g : Group StableKey = record { key = key_seen k; regs = rs } in g) ∷ []
seen_push [] [] k rs even = refl
seen_push [] (qs ∷ regs) k rs even = absurd (omega (arith, even))
seen_push (j ∷ keys) [] k rs even = absurd (omega (arith, even))
seen_push (j ∷ keys) (qs ∷ regs) k rs even = ap (λ l. (let g : Group StableKey = record { key = key_seen j; regs = qs } in g) ∷ l) (seen_push keys regs k rs (let e : length regs ≡ length keys = omega (arith, even) in e))

pub map-push : {X Y : Type 0} (f : X → Y) (xs : List X) (x : X) → map f (xs ++ x ∷ []) ≡ map f xs ++ f x ∷ []
map-push f [] x = refl
map-push f (y ∷ xs) x = ap (λ l. f y ∷ l) (map-push f xs x)

-- one register more, with an enable or without
pub enables_some : (f : ℕ → Option ℕ) (regs : List ℕ) (i k e : ℕ) (before after : List ℕ) → slice_get regs i ≡ Some k → before ≡ filter_map f (take i regs) → f k ≡ Some e → after ≡ before ++ e ∷ [] → after ≡ filter_map f (take (i + 1) regs)
enables_some f regs i k e before after at so_far is pushed =
    let n : i + 1 ≡ suc i = omega arith in
    pushed
    ∙ (ap (λ l. l ++ e ∷ []) so_far
    ∙ (ap (λ o. filter_map f (take i regs) ++ cons_option o []) (sym is)
    ∙ (sym (filter_map-append f (take i regs) (k ∷ [])) ∙ ap (filter_map f) (sym (ap (λ m. take m regs) n ∙ take_end regs i k at)))))

pub enables_none : (f : ℕ → Option ℕ) (regs : List ℕ) (i k : ℕ) (before after : List ℕ) → slice_get regs i ≡ Some k → before ≡ filter_map f (take i regs) → f k ≡ None → after ≡ before → after ≡ filter_map f (take (i + 1) regs)
enables_none f regs i k before after at so_far is same =
    let n : i + 1 ≡ suc i = omega arith in
    same
    ∙ (so_far
    ∙ (sym (append-nil (filter_map f (take i regs)))
    ∙ (ap (λ o. filter_map f (take i regs) ++ cons_option o []) (sym is)
    ∙ (sym (filter_map-append f (take i regs) (k ∷ [])) ∙ ap (filter_map f) (sym (ap (λ m. take m regs) n ∙ take_end regs i k at))))))

-- a slice of a whole list, put back
pub put_back : {X : Type 0} (n : ℕ) (xs ys : List X) → length xs ≡ length ys → length xs ≤ n → take n (xs ++ drop (length xs) ys) ≡ xs
put_back n xs ys same within = ap (λ l. take n (xs ++ l)) (past (length xs) ys (omega (arith, same))) ∙ (ap (take n) (append-nil xs) ∙ take_all n xs within)
  where
    past : {Y : Type 0} (k : ℕ) (zs : List Y) → length zs ≤ k → drop k zs ≡ []
    past zero [] h = refl
    past zero (z ∷ zs) h = absurd (omega arith)
    past (suc k) [] h = refl
    past (suc k) (z ∷ zs) h = past k zs (omega arith)
