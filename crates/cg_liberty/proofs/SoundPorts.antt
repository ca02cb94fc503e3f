-- Ports that are found one by one.
use Rattle.std.proofs.Common.{◌≡◌, Bool, true, false, cond, List, [], ◌∷◌, ◌++◌, Option, None, Some, refl, sym, ap, append_assoc}
use Rattle.cg_liberty_group.specs.declared.pin_text.PinText.{PinText}
use Rattle.cg_liberty.specs.Port.{is_sound, sound_ports}
use Rattle.std.specs.Option.{option_map}
use Rattle.cg_liberty.specs.declared.port.Port.{Port}

-- ports before others, where these are sound
abbrev pub prepended : List Port → Option (List Port) → Option (List Port)
prepended ports later = option_map (λ others. ports ++ others) later

one_more : (front : List Port) (port : Port) (later : Option (List Port)) → prepended front (option_map (λ ports. port ∷ ports) later) ≡ prepended (front ++ port ∷ []) later
one_more front port None = refl
one_more front port (Some ports) = ap Some (sym (append_assoc front (port ∷ []) ports))

one_sound : (front : List Port) (found port : Port) (later : Option (List Port)) (sound : Bool) → Some port ≡ cond sound (Some found) None → prepended front (cond sound (option_map (λ ports. found ∷ ports) later) None) ≡ prepended (front ++ port ∷ []) later
one_sound front found port later true is = let same : port ≡ found = cc in rw same (one_more front found later)
one_sound front found port later false is = cc

-- a sound pin is put behind those before it
pub sound_step : (front : List Port) (pin : PinText) (pins : List PinText) (port : Port) → Some port ≡ cond (is_sound pin) (Some (record { name = pin.name; marks = pin.marks })) None → prepended front (sound_ports (pin ∷ pins)) ≡ prepended (front ++ port ∷ []) (sound_ports pins)
sound_step front pin pins port is = one_sound front (record { name = pin.name; marks = pin.marks }) port (sound_ports pins) (is_sound pin) is
