-- Over truth values an evaluation is the function's bit.
use Rattle.std.proofs.Common.{◌≡◌, Bool, true, false, List, [], ◌∷◌, refl, sym, ◌∙◌, ap, map}
use Rattle.std.specs.Prelude.{◌==◌}
use Rattle.cg_cell.specs.Domain.{AreValid, Seen}
use Rattle.cg_cell.specs.Bits.{bits_ops, no_pairs, one_if}
use Rattle.cg_cell.specs.Build.{Evaluates}
use Rattle.cg_cell.specs.Cover.{CoverData, cover_value}
use Rattle.cg_cell.specs.Term.{Term, term_value}
use Rattle.cg_cell.specs.Eval.{bits_at, build_term}
use Rattle.cg_cell.specs.EvalCover.{cover_term}

bit_of : (b : Bool) → (one_if b == 1) ≡ b
bit_of true = refl
bit_of false = refl

-- truth values are valid
pub bits_valid : (bits : List Bool) → AreValid bits_ops no_pairs (map one_if bits)
bits_valid [] = tt
bits_valid (true ∷ bits) = (refl, bits_valid bits)
bits_valid (false ∷ bits) = (refl, bits_valid bits)

-- bits stand for themselves
bits_are : (bits assignment : List Bool) → bits_at bits_ops no_pairs (map one_if bits) assignment ≡ bits
bits_are [] assignment = refl
bits_are (b ∷ bits) assignment =
    ap (λ c. c ∷ bits_at bits_ops no_pairs (map one_if bits) assignment) (bit_of b) ∙ ap (λ l. b ∷ l) (bits_are bits assignment)

-- an expression's term over truth values is its value
pub bits_term : (bits : List Bool) (x : Term) (t : Seen) (v : Bool) →
    Evaluates bits_ops no_pairs t (one_if v) (build_term bits_ops (map one_if bits) x no_pairs) (λ a. term_value (bits_at bits_ops no_pairs (map one_if bits) a) x) →
    v ≡ term_value bits x
bits_term bits x t v h = sym (bit_of v) ∙ (h.stands.bit [] ∙ ap (λ l. term_value l x) (bits_are bits []))

-- a cover over truth values is its value
pub bits_cover : (bits : List Bool) (cover : CoverData) (t : Seen) (v : Bool) →
    Evaluates bits_ops no_pairs t (one_if v) (build_term bits_ops (map one_if bits) (cover_term cover) no_pairs) (λ a. cover_value cover (bits_at bits_ops no_pairs (map one_if bits) a)) →
    v ≡ cover_value cover bits
bits_cover bits cover t v h = sym (bit_of v) ∙ (h.stands.bit [] ∙ ap (cover_value cover) (bits_are bits []))
