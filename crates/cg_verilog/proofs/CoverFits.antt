-- A cover of terms has a row for each, as long as its inputs are many.
use Rattle.std.proofs.Common.{◌≡◌, ◌<◌, Bool, true, false, List, [], ◌∷◌, length, map, refl, arith, Option}
use Rattle.std.specs.List.{AllByRecursion}
use Rattle.std.specs.Str.{bytes_eq}
use Rattle.std.proofs.lemmas.List.{length-map}
use Rattle.cg_net.specs.Names.{NetName}
use Rattle.cg_verilog_text.specs.Forms.{Literal}
use Rattle.cg_verilog_text.specs.Meaning.{row_of}

pub rows_fit : (inputs : List NetName) (terms : List (List (Literal NetName))) → AllByRecursion (λ (row : List (Option Bool)). length row ≡ length inputs) (map (row_of bytes_eq inputs) terms)
rows_fit inputs [] = tt
rows_fit inputs (term ∷ terms) = (length-map inputs _, rows_fit inputs terms)

pub on_without_rows : (inputs : List NetName) (terms : List (List (Literal NetName))) (on : Bool) → (on ≡ false → 0 < length terms) → map (row_of bytes_eq inputs) terms ≡ [] → on ≡ true
on_without_rows inputs terms true some none = refl
on_without_rows inputs [] false some none = absurd (let more : 0 < 0 = some refl in omega (arith, more))
on_without_rows inputs (term ∷ terms) false some none = absurd (cc)
