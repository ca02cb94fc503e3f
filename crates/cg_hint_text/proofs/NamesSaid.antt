-- What words name and say.
use Rattle.std.proofs.Common.{◌≡◌, ℕ, Bool, true, false, if◌then◌else◌, List, [], ◌∷◌, nat_eq, slice_get, Option, None, Some, refl, sym, ◌∙◌, ap, subst, IsTrue}
use Rattle.std.specs.List.{AllZip}
use Rattle.std.specs.Option.{option_and_then, option_map, option_to_list}
use Rattle.std.proofs.lemmas.Bool.{both_ways, eqb-true, false_from_ne_true}
use Rattle.std.proofs.lemmas.Option.{get_or_from_slice_get, slice_get_within}
use Rattle.cg_cell.specs.Name.{is_name}
use Rattle.cg_machine.specs.Claims.{Literal}
use Rattle.cg_net.specs.NetSets.{is_in}
use Rattle.cg_net.proofs.NamesInOrder.{known_there}
use Rattle.cg_netlist.specs.Circuit.{Circuit}
use Rattle.cg_netlist.specs.Netlist.{IsNetlist}
use Rattle.cg_netlist.proofs.Given.{in_option}
use Rattle.cg_netlist_parts.proofs.NamePlaces.{place_at}
use Rattle.cg_hint_text.specs.HintText.{NamesNet, NamesRegister, SaysLiteral}
use Rattle.cg_hint_text.specs.Reading.{Word, all_said, begins_inverted, first_showing, is_bang, literal_of, net_of, net_place, register_of, said_then, unless_clock}
use Rattle.cg_hint_text.proofs.Named.{apart_registers, first_is, free, place_is, shows_in}
use Rattle.cg_hint_text.proofs.ReadFits.{mapped_of, net_plain, place_parts, said_parts, showing_at, some_of, unless_parts}
use Rattle.cg_netlist_parts.proofs.KnownNames.{same_word}

-- nets
net_named : (c : Circuit) (name : Word) (net : ℕ) → net_of c name ≡ Some net → NamesNet c name net
net_named c name net is =
    let s = some_of (unless_clock c) (net_place c name) net is in
    let u = unless_parts c s.0 net s.2 in
    let p = place_parts c name s.0 s.1 in
    record { named = subst (λ n. slice_get c.names n ≡ Some name) (p.1 ∙ u.0) (place_at c.names name p.0); plain = net_plain c name net is }

net_given : (c : Circuit) → IsNetlist c → (name : Word) (net : ℕ) → NamesNet c name net → net_of c name ≡ Some net
net_given c good name net is =
    ap (option_and_then (unless_clock c)) (place_is c good name net (known_there c.names net name is.named) is.named)
    ∙ free c good net (false_from_ne_true (is_in (option_to_list c.clock) net) (λ among. is.plain.apart (in_option c.clock net among))) is.plain.ungated

never_empty : (c : Circuit) → IsNetlist c → (net : ℕ) → slice_get c.names net ≡ Some [] → ⊥
never_empty c good net at =
    let named : IsTrue (is_name []) = subst (λ (n : Word). IsTrue (is_name n)) (get_or_from_slice_get c.names net [] [] at) (good.well_formed.names net [] (slice_get_within c.names net [] at)) in
    both_ways false refl named

-- literals
pub literal_said : (c : Circuit) (w : Word) (l : Literal) → literal_of c w ≡ Some l → SaysLiteral c w l
literal_said c [] l is = absurd (cc)
literal_said c (b ∷ bs) l is = go (nat_eq b 33) refl is
  where
    go : (i : Bool) → nat_eq b 33 ≡ i → (if i then option_map (λ net. (net, true)) (net_of c bs) else option_map (λ net. (net, false)) (net_of c (b ∷ bs))) ≡ Some l → SaysLiteral c (b ∷ bs) l
    go true at h =
        let m = mapped_of (λ (net : ℕ). (net, true)) (net_of c bs) l h in
        subst (SaysLiteral c (b ∷ bs)) m.2 (record { name = bs; spelled = ap (λ x. x ∷ bs) (eqb-true b 33 at); begins = at; names = net_named c bs m.0 m.1 })
    go false at h =
        let m = mapped_of (λ (net : ℕ). (net, false)) (net_of c (b ∷ bs)) l h in
        subst (SaysLiteral c (b ∷ bs)) m.2 (record { name = b ∷ bs; spelled = refl; begins = at; names = net_named c (b ∷ bs) m.0 m.1 })

plain_given : (c : Circuit) → IsNetlist c → (name : Word) (net : ℕ) → NamesNet c name net → begins_inverted name ≡ false → literal_of c name ≡ Some (net, false)
plain_given c good [] net is begins = absurd (never_empty c good net is.named)
plain_given c good (b ∷ bs) net is begins =
    ap (λ (i : Bool). if i then option_map (λ n. (n, true)) (net_of c bs) else option_map (λ n. (n, false)) (net_of c (b ∷ bs))) begins
    ∙ ap (option_map (λ n. (n, false))) (net_given c good (b ∷ bs) net is)

pub literal_given : (c : Circuit) → IsNetlist c → (w : Word) (l : Literal) → SaysLiteral c w l → literal_of c w ≡ Some l
literal_given c good w (net, true) is =
    ap (literal_of c) is.spelled ∙ ap (option_map (λ n. (n, true))) (net_given c good is.name net is.names)
literal_given c good w (net, false) is =
    ap (literal_of c) is.spelled ∙ plain_given c good is.name net is.names (ap begins_inverted (sym is.spelled) ∙ is.begins)

pub no_bang : (c : Circuit) → IsNetlist c → (w : Word) (l : Literal) → SaysLiteral c w l → is_bang w ≡ false
no_bang c good w l is = false_from_ne_true (is_bang w) (λ bang. none (same_word w (33 ∷ []) bang))
  where
    given : literal_of c w ≡ Some l
    given = literal_given c good w l is

    none : w ≡ 33 ∷ [] → ⊥
    none same =
        let m = mapped_of (λ (n : ℕ). (n, true)) (net_of c []) l (ap (literal_of c) (sym same) ∙ given) in
        never_empty c good m.0 (net_named c [] m.0 m.1).named

-- registers
pub register_named : (c : Circuit) (w : Word) (r : ℕ) → register_of c w ≡ Some r → NamesRegister c w r
register_named c w r is =
    let s = some_of (λ net. first_showing net c.registers) (net_place c w) r is in
    let x = showing_at s.0 c.registers r s.2 in
    let p = place_parts c w s.0 s.1 in
    record { register = x.0; there = x.1; net = s.0; first = x.2; named = subst (λ n. slice_get c.names n ≡ Some w) p.1 (place_at c.names w p.0) }

pub register_given : (c : Circuit) → IsNetlist c → (w : Word) (r : ℕ) → NamesRegister c w r → register_of c w ≡ Some r
register_given c good w r is =
    ap (option_and_then (λ net. first_showing net c.registers)) (place_is c good w is.net (known_there c.names is.net w is.named) is.named)
    ∙ (first_is c good is.net c.registers r is.register (apart_registers c good) is.there (shows_in c good is.net is.register is.first)
    ∙ ap (λ (b : Bool). if b then Some r else None) is.first)

-- words one after another
pub all_zip : {A : Type 0} (say : Word → Option A) (R : Word → A → Type 0) → ((w : Word) (a : A) → say w ≡ Some a → R w a) → (ws : List Word) (all : List A) → all_said say ws ≡ Some all → AllZip R ws all
all_zip say R each [] all is = let same : [] ≡ all = cc in subst (AllZip R []) same tt
all_zip say R each (w ∷ ws) all is =
    let p = said_parts say w ws all is in
    subst (AllZip R (w ∷ ws)) p.4 (each w p.0 p.2, all_zip say R each ws p.1 p.3)

pub zip_all : {A : Type 0} (say : Word → Option A) (R : Word → A → Type 0) → ((w : Word) (a : A) → R w a → say w ≡ Some a) → (ws : List Word) (all : List A) → AllZip R ws all → all_said say ws ≡ Some all
zip_all say R each [] [] zip = refl
zip_all say R each [] (a ∷ all) zip = absurd zip
zip_all say R each (w ∷ ws) [] zip = absurd zip
zip_all say R each (w ∷ ws) (a ∷ all) zip =
    ap (λ o. said_then o (all_said say ws)) (each w a zip.0) ∙ ap (option_map (λ rest. a ∷ rest)) (zip_all say R each ws all zip.1)
