-- What lists of parts say together.
use Rattle.std.specs.Prelude.{◌≡◌, List, [], ◌∷◌, ◌++◌, map}
use Rattle.std.proofs.Common.{refl, ap, sym, ◌∙◌, append_assoc}
use Rattle.std.proofs.lemmas.List.{append-nil}
use Rattle.cg_netlist_parts.specs.Part.{Part}
use Rattle.cg_netlist_parts.specs.Said.{said}
use Rattle.cg_netlist_parts.proofs.SaidMore.{said_more}
use Rattle.cg_netlist_telling.specs.Telling.{with_parts}

-- parts are said one after another
pub said_all : (done ps : List Part) → with_parts (said done) ps ≡ said (done ++ ps)
said_all done [] = ap said (sym (append-nil done))
said_all done (p ∷ ps) = ap (λ s. with_parts s ps) (sym (said_more done p)) ∙ (said_all (done ++ p ∷ []) ps ∙ ap said (append_assoc done (p ∷ []) ps))

-- maps one after the other
pub map_twice : {X Y Z : Type 0} (f : Y → Z) (g : X → Y) (xs : List X) → map f (map g xs) ≡ map (λ x. f (g x)) xs
map_twice f g [] = refl
map_twice f g (x ∷ xs) = ap (λ ys. f (g x) ∷ ys) (map_twice f g xs)
