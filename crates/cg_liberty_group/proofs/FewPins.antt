-- Pins that are too many.
use Rattle.std.proofs.Common.{◌≡◌, ◌+◌, ◌≤◌, ℕ, nat_le, false, List, ◌∷◌, ◌++◌, length, None, refl, suc, arith, length-append}
use Rattle.std.proofs.lemmas.Bool.Decides.{nat_tests}
use Rattle.cg_limit.specs.declared.TheConstants.{MOST_PINS}
use Rattle.cg_liberty_group.specs.PinText.{few_pins}
use Rattle.cg_liberty_group.specs.declared.pin_text.PinText.{PinText}

above : (n : ℕ) → suc MOST_PINS ≤ n → nat_le n MOST_PINS ≡ false
above n h = grind (arith, nat_tests)

-- one pin more than a usable cell has is too many, whatever comes behind it
pub one_too_many : (pins : List PinText) (pin : PinText) (more : List PinText) → MOST_PINS ≤ length pins → few_pins (pins ++ pin ∷ more) ≡ None
one_too_many pins pin more many =
    let long : length (pins ++ pin ∷ more) ≡ length pins + suc (length more) = length-append pins (pin ∷ more) in
    rw (above (length (pins ++ pin ∷ more)) (omega (arith, long, many))) refl
