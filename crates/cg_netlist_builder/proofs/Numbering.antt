-- Numbers of nets that were mentioned, and what the parts with these numbers are by name.
use Rattle.std.proofs.Common.{◌≡◌, ℕ, ◌<◌, Bool, List, [], ◌∷◌, Option, Some, None, map, length, slice_get, unwrap_or, refl, ap}
use Rattle.std.proofs.Common.{◌∙◌}
use Rattle.std.specs.List.{AllByRecursion}
use Rattle.std.specs.Option.{option_map, option_to_list}
use Rattle.std.proofs.lemmas.Option.{slice_get_within}
use Rattle.cg_net.specs.Names.{NetName, net_name}
use Rattle.cg_netlist.specs.Wiring.{map_outputs}

-- nets with these names are within the names, and have them
pub nets_named : (names : List NetName) (nets : List ℕ) (words : List NetName) → map (slice_get names) nets ≡ map (λ word. Some word) words → map (net_name names) nets ≡ words
nets_named names [] [] is = refl
nets_named names [] (word ∷ words) is = absurd (cc)
nets_named names (net ∷ nets) [] is = absurd (cc)
nets_named names (net ∷ nets) (word ∷ words) is =
    let here : slice_get names net ≡ Some word = cc in
    let later : map (slice_get names) nets ≡ map (λ w. Some w) words = cc in
    ap (λ o. unwrap_or o [] ∷ map (net_name names) nets) here ∙ ap (λ ws. word ∷ ws) (nets_named names nets words later)

pub nets_within : (names : List NetName) (nets : List ℕ) (words : List NetName) → map (slice_get names) nets ≡ map (λ word. Some word) words → AllByRecursion (λ net. net < length names) nets
nets_within names [] words is = tt
nets_within names (net ∷ nets) [] is = absurd (cc)
nets_within names (net ∷ nets) (word ∷ words) is =
    let here : slice_get names net ≡ Some word = cc in
    let later : map (slice_get names) nets ≡ map (λ w. Some w) words = cc in
    (slice_get_within names net word here, nets_within names nets words later)

pub net_named : (names : List NetName) (net : ℕ) (word : NetName) → map (slice_get names) (net ∷ []) ≡ map (λ w. Some w) (word ∷ []) → net_name names net ≡ word
net_named names net word is = let here : slice_get names net ≡ Some word = cc in ap (λ o. unwrap_or o []) here

pub net_within : (names : List NetName) (net : ℕ) (word : NetName) → map (slice_get names) (net ∷ []) ≡ map (λ w. Some w) (word ∷ []) → net < length names
net_within names net word is = let here : slice_get names net ≡ Some word = cc in slice_get_within names net word here

pub given_named : (names : List NetName) (net : Option ℕ) (word : Option NetName) → map (slice_get names) (option_to_list net) ≡ map (λ w. Some w) (option_to_list word) → option_map (net_name names) net ≡ word
given_named names None None is = refl
given_named names None (Some word) is = absurd (cc)
given_named names (Some net) None is = absurd (cc)
given_named names (Some net) (Some word) is = ap (λ w. Some w) (net_named names net word is)

-- outputs of registers that were mentioned
pub outputs_named : (names : List NetName) (nets : List (ℕ × Bool)) (outputs : List (NetName × Bool)) → map (slice_get names) (map (λ net. net.0) nets) ≡ map (λ word. Some word) (map (λ output. output.0) outputs)
    → map (λ net. net.1) nets ≡ map (λ output. output.1) outputs → map_outputs (net_name names) nets ≡ outputs
outputs_named names [] [] is inverted = refl
outputs_named names [] (output ∷ outputs) is inverted = absurd (cc)
outputs_named names (net ∷ nets) [] is inverted = absurd (cc)
outputs_named names (net ∷ nets) (output ∷ outputs) is inverted =
    let here : slice_get names net.0 ≡ Some output.0 = cc in
    let later : map (slice_get names) (map (λ n. n.0) nets) ≡ map (λ w. Some w) (map (λ o. o.0) outputs) = cc in
    let same : net.1 ≡ output.1 = cc in
    let others : map (λ n. n.1) nets ≡ map (λ o. o.1) outputs = cc in
    ap (λ o. (unwrap_or o [], net.1) ∷ map_outputs (net_name names) nets) here ∙ (ap (λ b. (output.0, b) ∷ map_outputs (net_name names) nets) same ∙ ap (λ os. output ∷ os) (outputs_named names nets outputs later others))
