-- Where the first `=` of a word stands tells the pin and the net.
use Rattle.std.proofs.Common.{◌≡◌, ℕ, ◌+◌, ◌-◌, ◌<◌, true, false, cond, ◌==◌, List, [], ◌∷◌, length, get_or, take, drop, refl, sym}
use Rattle.std.proofs.Common.{ap, ◌∙◌, suc, zero, arith, Some, None}
use Rattle.std.proofs.lemmas.Grind.{common_steps}
use Rattle.cg_blif_text.specs.PinWords.{pin_net, put_byte}

pub pin_net_at : (xs : List ℕ) (n : ℕ) → ((k : ℕ) → k < n → (get_or xs k 0 == 61) ≡ false) → n < length xs
    → (get_or xs n 0 == 61) ≡ true → pin_net xs ≡ record { pin = take n xs; net = Some (drop (suc n) xs) }
pin_net_at [] n before inside end = absurd (omega arith)
pin_net_at (x ∷ xs) zero before inside end = ap (λ b. cond b (record { pin = []; net = Some xs }) (put_byte x (pin_net xs))) end
pin_net_at (x ∷ xs) (suc n) before inside end =
    ap (λ b. cond b (record { pin = []; net = Some xs }) (put_byte x (pin_net xs))) (before 0 (omega arith))
    ∙ ap (put_byte x) (pin_net_at xs n (λ k h. before (suc k) (omega arith)) (omega arith) end)

pub pin_net_none : (xs : List ℕ) → ((k : ℕ) → k < length xs → (get_or xs k 0 == 61) ≡ false) → pin_net xs ≡ record { pin = xs; net = None }
pin_net_none [] before = refl
pin_net_none (x ∷ xs) before =
    ap (λ b. cond b (record { pin = []; net = Some xs }) (put_byte x (pin_net xs))) (before 0 (omega arith))
    ∙ ap (put_byte x) (pin_net_none xs (λ k h. before (suc k) (omega arith)))

-- the same for the parts as slices give them
pub pin_net_cut : (xs : List ℕ) (n : ℕ) → ((k : ℕ) → k < n → (get_or xs k 0 == 61) ≡ false) → n < length xs
    → (get_or xs n 0 == 61) ≡ true → pin_net xs ≡ record { pin = take n xs; net = Some (take (length xs - (n + 1)) (drop (n + 1) xs)) }
pin_net_cut xs n before inside end =
    let whole : take (length xs - (n + 1)) (drop (n + 1) xs) ≡ drop (suc n) xs = grind (arith, common_steps) in
    pin_net_at xs n before inside end ∙ ap (λ net. record { pin = take n xs; net = Some net }) (sym whole)
