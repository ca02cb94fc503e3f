-- A player goes on by one moment.
use Rattle.std.proofs.Common.{◌≡◌, ℕ, zero, suc, ◌+◌, ◌-◌, ◌≤◌, ◌==◌, Bool, true, false, cond, List, [], ◌∷◌, ◌++◌, length, map}
use Rattle.std.proofs.Common.{take, drop, replicate, slice_get, Option, None, Some, refl, sym, ap, subst, ◌∙◌, append_assoc, arith}
use Rattle.std.specs.List.{count_by}
use Rattle.std.specs.Option.{option_map}
use Rattle.std.proofs.lemmas.List.{drop_all, length-append, length-map, length-replicate}
use Rattle.std.proofs.lemmas.List.Sums.{sum_by-cons}
use Rattle.std.proofs.lemmas.Option.{slice_get-map, same_Some}
use Rattle.cg_netlist.specs.Circuit.{Circuit, RegisterCell, data_inputs}
use Rattle.cg_netlist.specs.History.{Moment, Tick, edges_from, rises}
use Rattle.cg_net.proofs.TableLemmas.{take_next}
use Rattle.cg_edge.specs.Shows.{Shows, ShowsOn, last_moment}
use Rattle.cg_netlist.specs.Netlist.{IsNetlist}
use Rattle.cg_net.specs.Names.{net_name}
use Rattle.cg_edge.specs.Simulated.{Simulated, Ticks, fresh, rises_at}
use Rattle.cg_stimulus.specs.Inputs.{Rows, IsStimulus, IsFor, input_names}
use Rattle.cg_stimulus.specs.Played.{played_start, played_wave, wave_from}
use Rattle.cg_report.specs.Place.{Place, Plays}
use Rattle.cg_report.specs.declared.player.Next.{Next}
use Rattle.cg_report.specs.declared.player.Next.TheVariants.{Low, High, Ended}
use Rattle.cg_report.specs.inner.Playing.{padded, low_from, left_of, IsPlayer}
use Rattle.cg_stimulus.proofs.ReadingOn.{next_at}

count_map : {X : Type 0} (f : X → Bool) (xs : List X) → count_by (λ (b : Bool). b) (map f xs) ≡ count_by f xs
count_map f [] = refl
count_map f (x ∷ xs) =
    sum_by-cons (λ (b : Bool). cond b 1 0) (f x) (map f xs) ∙ (ap (λ n. cond (f x) 1 0 + n) (count_map f xs) ∙ sym (sum_by-cons (λ y. cond (f y) 1 0) x xs))

count_none : (n : ℕ) → count_by (λ (b : Bool). b) (replicate n false) ≡ 0
count_none zero = refl
count_none (suc n) = count_none n

-- the edges of a history with one moment more
edges_on : (c : Circuit) (before : Option Moment) (played : List Moment) (now : Moment)
    → edges_from c before (played ++ now ∷ []) ≡ edges_from c before played + count_by (λ (b : Bool). b) (rises_at c (last_moment before played) now)
edges_on c None [] now = sym (ap (λ n. 0 + n) (count_none (length c.registers)))
edges_on c (Some before) [] now = let same = count_map (rises before.nets now.nets) c.registers in omega (arith, same)
edges_on c None (m ∷ played) now = edges_on c (Some m) played now
edges_on c (Some before) (m ∷ played) now = ap (λ n. count_by (rises before.nets m.nets) c.registers + n) (edges_on c (Some m) played now) ∙ omega arith

pub plays_on : (old new : Place) (tick : Tick) → Ticks old.simulated new.simulated tick → ShowsOn old.simulated new.simulated tick → new.rows ≡ old.rows
    → old.left ≡ tick ∷ new.left → new.edges ≡ old.edges + count_by (λ (rose : Bool). rose) new.simulated.rose → Plays old new
plays_on old new tick ticks shows rows left counted = record {
  circuit = ticks.circuit;
  rows = rows;
  tick = tick;
  left = left;
  now = ticks.now;
  present = ticks.present;
  further = λ wave played at.
      let on = shows wave played at.shows in
      let same : on.0 ≡ ticks.now = same_Some on.0 ticks.now (sym on.1 ∙ ticks.present) in
      let rose : new.simulated.rose ≡ rises_at old.simulated.circuit (last_moment None played) ticks.now = ticks.rose ∙ ap (λ before. rises_at old.simulated.circuit before ticks.now) at.shows.present in
      record {
        shows = subst (λ now. Shows new.simulated (wave ++ tick ∷ []) (played ++ now ∷ [])) same on.2;
        whole =
            append_assoc wave (tick ∷ []) new.left
            ∙ (ap (λ l. wave ++ l) (sym left) ∙ (at.whole ∙ sym (ap (λ c. played_wave c new.rows) ticks.circuit ∙ ap (played_wave old.simulated.circuit) rows)));
        start = ticks.start ∙ (at.start ∙ sym (ap played_start ticks.circuit));
        counted =
            counted
            ∙ (ap (λ n. n + count_by (λ (rose : Bool). rose) new.simulated.rose) at.counted
            ∙ (ap (λ bits. edges_from old.simulated.circuit None played + count_by (λ (rose : Bool). rose) bits) rose
            ∙ (sym (edges_on old.simulated.circuit None played ticks.now) ∙ sym (ap (λ c. edges_from c None (played ++ ticks.now ∷ [])) ticks.circuit))));
      };
}

-- what is left, by what the next moment is

pub high_left : (width wide : ℕ) (next : Next) (inputs given : List Bool) (row : ℕ) (rows : List (List Bool)) → next ≡ High → wide ≡ width → given ≡ inputs
    → left_of width next inputs row rows ≡ record { clock = true; inputs = given } ∷ left_of wide Low inputs (row + 1) rows
high_left width wide next inputs given row rows is same given_is = rw (is, same, given_is) refl

pub low_left : (width wide : ℕ) (next : Next) (inputs new given bits : List Bool) (row : ℕ) (rows : List (List Bool)) → next ≡ Low → wide ≡ width → given ≡ new → new ≡ padded width bits
    → slice_get rows row ≡ Some bits → left_of width next inputs row rows ≡ record { clock = false; inputs = given } ∷ left_of wide High new row rows
low_left width wide next inputs new given bits row rows is same given_is fills at = rw (is, same, given_is, fills, next_at rows row bits at) refl

pub end_left : (width wide : ℕ) (next : Next) (inputs given : List Bool) (row : ℕ) (rows : List (List Bool)) → next ≡ Low → given ≡ inputs → length rows ≤ row
    → left_of width next inputs row rows ≡ record { clock = false; inputs = given } ∷ left_of wide Ended inputs row rows
end_left width wide next inputs given row rows is given_is past = rw (is, given_is, drop_all row rows past) refl

-- a row at the front of inputs that are 0 behind it
pub row_padded : (inputs bits new : List Bool) (count width : ℕ) → new ≡ bits ++ drop (length bits) inputs → length bits ≡ count → drop count inputs ≡ replicate (width - count) false
    → new ≡ padded width bits
row_padded inputs bits new count width filled long zeros =
    filled ∙ ap (λ rest. bits ++ rest) (ap (λ n. drop n inputs) long ∙ (zeros ∙ ap (λ n. replicate (width - n) false) (sym long)))

-- before the first moment

low_wave : (width : ℕ) (before : List Bool) (rows : List (List Bool)) → low_from width (padded width before) rows ≡ wave_from width before rows
low_wave width before [] = refl
low_wave width before (row ∷ rows) = ap (λ later. record { clock = false; inputs = padded width row } ∷ record { clock = true; inputs = padded width row } ∷ later) (low_wave width row rows)

pub first_left : (width : ℕ) (rows : List (List Bool)) → left_of width Low (replicate width false) 0 rows ≡ wave_from width [] rows
first_left width rows = let zeros : replicate width false ≡ padded width [] = let e : width ≡ width - 0 = omega arith in ap (λ n. replicate n false) e in
    ap (λ inputs. low_from width inputs rows) zeros ∙ low_wave width [] rows

pub start_on : (c : Circuit) (n : ℕ) (register : RegisterCell ℕ ℕ) (start more : List Bool) → slice_get c.registers n ≡ Some register → start ≡ take n (played_start c)
    → more ≡ start ++ (register.init == 1) ∷ [] → more ≡ take (n + 1) (played_start c)
start_on c n register start more at so_far pushed =
    let next : slice_get (played_start c) n ≡ Some (register.init == 1) = slice_get-map (λ r. r.init == 1) c.registers n ∙ ap (λ o. option_map (λ (r : RegisterCell ℕ ℕ). r.init == 1) o) at in
    pushed ∙ (ap (λ bits. bits ++ (register.init == 1) ∷ []) so_far ∙ sym (take_next (played_start c) n (register.init == 1) next))

-- a buffer whose front is written whole
pub take_front : {X : Type 0} (n : ℕ) (front back : List X) → length front ≡ n → take n (front ++ back) ≡ front
take_front n [] back long = let none : n ≡ 0 = sym long in ap (λ k. take k back) none
take_front zero (x ∷ front) back long = absurd (let no' : ⊥ = omega (arith, long) in no')
take_front (suc n) (x ∷ front) back long = ap (λ xs. x ∷ xs) (take_front n front back (omega (arith, long)))

drop_zeros : (n width : ℕ) → n ≤ width → drop n (replicate width false) ≡ replicate (width - n) false
drop_zeros zero width fits = let e : width ≡ width - 0 = omega arith in ap (λ k. replicate k false) e
drop_zeros (suc n) zero fits = absurd (let no' : ⊥ = omega arith in no')
drop_zeros (suc n) (suc width) fits = let e : width - n ≡ suc width - suc n = omega arith in drop_zeros n width (omega arith) ∙ ap (λ k. replicate k false) e

pub player_begins : (simulated : Simulated) (c : Circuit) (start : List Bool) (stimulus : Rows) (inputs : List Bool) → simulated ≡ fresh c start → IsNetlist c → IsStimulus stimulus → IsFor c stimulus
    → inputs ≡ replicate (length (data_inputs c)) false → IsPlayer simulated stimulus inputs 0 Low 0
player_begins simulated c start stimulus inputs is netlist lawful for' zeros =
    let count : length (input_names c) ≡ length (data_inputs c) = length-map (data_inputs c) (net_name c.names) in
    let split : length (input_names c) ≡ length stimulus.inputs + length for'.0 = ap length for'.1 ∙ length-append stimulus.inputs for'.0 in
    let fits : length stimulus.inputs ≤ length (data_inputs c) = omega (arith, count, split) in
    subst (λ s. IsPlayer s stimulus inputs 0 Low 0) (sym is) (record {
      netlist = netlist;
      lawful = lawful;
      wide = ap length zeros ∙ length-replicate (length (data_inputs c)) false;
      fits = fits;
      zeros = ap (drop (length stimulus.inputs)) zeros ∙ drop_zeros (length stimulus.inputs) (length (data_inputs c)) fits;
      place = (omega arith, omega arith);
    })
