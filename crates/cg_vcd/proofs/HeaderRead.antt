-- The definitions that the watcher writes, read: each net is declared with its number as id, and the wire of its name is its number.
use Rattle.std.proofs.Common.{◌≡◌, ◌≢◌, ℕ, zero, suc, ◌+◌, ◌<◌, ◌≤◌, Bool, true, false, List, [], ◌∷◌, ◌++◌, length, get_or}
use Rattle.std.proofs.Common.{slice_get, Option, Some, None, Ok, refl, sym, ap, ◌∙◌, arith, subst, inl, inr, codes, append_assoc, length-append, ◌⊎◌}
use Rattle.std.specs.List.{AllByRecursion, AllPairs}
use Rattle.std.specs.Str.{bytes_eq}
use Rattle.std.proofs.lemmas.Bool.{cases_Bool, or_parts}
use Rattle.std.proofs.lemmas.List.{append-nil}
use Rattle.std.proofs.lemmas.List.Folds.{list_any-append}
use Rattle.std.proofs.lemmas.Option.{same_Some, slice_get_within, get_or_from_slice_get}
use Rattle.std.proofs.lemmas.Slice.Eq.{bytes_eq-Decides}
use Rattle.cg_limit.specs.declared.TheConstants.{MOST_NETS}
use Rattle.cg_net.specs.Names.{is_known, with_name}
use Rattle.cg_net.proofs.DifferentNames.{known_at}
use Rattle.cg_net.proofs.NameLemmas.{last_name, with_name-unknown}
use Rattle.cg_net.proofs.TableLemmas.{front_get, same_or_not}
use Rattle.cg_stimulus.specs.Reading.{column_of}
use Rattle.cg_stimulus.proofs.Columns.{found_column}
use Rattle.cg_text.specs.Spots.{Spot, spots_of}
use Rattle.cg_text.specs.Written.{numbered}
use Rattle.cg_vcd.specs.Commands.{definitions}
use Rattle.cg_vcd.specs.Identifiers.{id_of}
use Rattle.cg_vcd.specs.Variables.{Declared, id_number, missing, nothing_declared, wire_of, with_variable}
use Rattle.cg_vcd.specs.VcdWords.{is_end}
use Rattle.cg_vcd.specs.inner.Kept.{or_wire}
use Rattle.cg_vcd.proofs.CommandsRead.{command_read}
use Rattle.cg_vcd.proofs.DumpLines.{nets_words, scope_words, upscope_words, ending_words}
use Rattle.cg_vcd.proofs.Wired.{wire_more}
use Rattle.cg_vcd.proofs.WrittenIds.{id_is_no_end, ids_differ}

-- what is declared where these names are: the number of each as id, and as wire
pub record Declares (names : List (List ℕ)) (d : Declared) : Type 0 where
  pub count : length d.ids ≡ length names
  pub ids : (j : ℕ) → j < length names → slice_get d.ids j ≡ Some (id_of j)
  pub wires : (j : ℕ) (name : List ℕ) → slice_get names j ≡ Some name → wire_of d.variables name ≡ Some j
  pub others : (name : List ℕ) → is_known names name ≡ false → wire_of d.variables name ≡ None

declares_nothing : Declares [] nothing_declared
declares_nothing = record {
  count = refl;
  ids = λ j small. absurd (omega arith);
  wires = λ j name at. absurd (cc);
  others = λ name unknown. refl;
}

-- ids of numbers differ
pub ids_apart : (ids : List (List ℕ)) (n : ℕ) → length ids ≡ n → ((j : ℕ) → j < n → slice_get ids j ≡ Some (id_of j)) → AllPairs (λ id other. id ≢ other) ids
ids_apart ids n count at i j d before within same =
    let i_is : get_or ids i d ≡ id_of i = get_or_from_slice_get ids i (id_of i) d (at i (omega arith)) in
    let j_is : get_or ids j d ≡ id_of j = get_or_from_slice_get ids j (id_of j) d (at j (omega arith)) in
    let equal : i ≡ j = ids_differ i j (sym i_is ∙ (same ∙ j_is)) in
    omega arith

-- an item behind others is the one, or one of the others
behind_cases : {X : Type 0} (xs : List X) (x y : X) (j : ℕ) → slice_get (xs ++ x ∷ []) j ≡ Some y → (slice_get xs j ≡ Some y) ⊎ ((j ≡ length xs) × (y ≡ x))
behind_cases [] x y zero at = inr (refl, sym (same_Some x y at))
behind_cases [] x y (suc j) at = absurd (cc)
behind_cases (z ∷ xs) x y zero at = inl at
behind_cases (z ∷ xs) x y (suc j) at = elim (behind_cases xs x y j at) [ inl e ↦ inl e | inr e ↦ inr (ap suc e.0, e.1) ]

module _ (names : List (List ℕ)) (d : Declared) (name : List ℕ) (so : Declares names d) (unknown : is_known names name ≡ false) where
  abbrev own : List ℕ
  own = id_of (length names)

  own_unknown : is_known d.ids own ≡ false
  own_unknown = elim (cases_Bool (is_known d.ids own)) [
    | inl known ↦
        let at = known_at d.ids own known in
        let within : at.0 < length d.ids = slice_get_within d.ids at.0 own at.1 in
        let count : length d.ids ≡ length names = so.count in
        let here : id_of at.0 ≡ own = same_Some (id_of at.0) own (sym (so.ids at.0 (omega arith)) ∙ at.1) in
        let equal : at.0 ≡ length names = ids_differ at.0 (length names) here in
        absurd (omega arith)
    | inr other ↦ other
  ]

  ids_more : with_name d.ids own ≡ d.ids ++ own ∷ []
  ids_more = with_name-unknown d.ids own own_unknown

  at_all : (j : ℕ) → j < length names + 1 → slice_get (d.ids ++ own ∷ []) j ≡ Some (id_of j)
  at_all j small = elim (same_or_not j (length names)) [
    | inl last ↦ let place : j ≡ length d.ids = last ∙ sym so.count in ap (slice_get (d.ids ++ own ∷ [])) place ∙ (last_name d.ids own ∙ ap (λ n. Some (id_of n)) (sym last))
    | inr before ↦ front_get d.ids (own ∷ []) j (id_of j) (so.ids j (let apart : j ≡ length names → ⊥ = before in omega arith))
  ]

  long : length (d.ids ++ own ∷ []) ≡ length names + 1
  long = length-append d.ids (own ∷ []) ∙ ap (λ n. n + 1) so.count

  number_own : id_number (with_name d.ids own) own ≡ length names
  number_own =
      let column : Some (length names) ≡ column_of (d.ids ++ own ∷ []) own = found_column (d.ids ++ own ∷ []) own (Some (length names))
      (ids_apart (d.ids ++ own ∷ []) (length names + 1) long at_all) (at_all (length names) (omega arith)) in
      rw (ids_more, ← column) refl

  named_so : (other : List ℕ) (w : Option ℕ) (same : Bool) → wire_of d.variables other ≡ w → bytes_eq other name ≡ same
      → wire_of (with_variable d true own name).variables other ≡ or_wire w same (length names)
  named_so other w same was test =
      wire_more d.variables (record { one = true; id = id_number (with_name d.ids own) own; name = name }) other
      ∙ (ap (λ x. or_wire x (bytes_eq other name) (id_number (with_name d.ids own) own)) was ∙ (ap (λ b. or_wire w b (id_number (with_name d.ids own) own)) test ∙ ap (or_wire w same) number_own))

  pub declares_more : Declares (names ++ name ∷ []) (with_variable d true own name)
  declares_more = record {
    count = ap length ids_more ∙ (long ∙ sym (length-append names (name ∷ [])));
    ids = λ j small.
        let wide : length (names ++ name ∷ []) ≡ length names + 1 = length-append names (name ∷ []) in
        ap (λ ids. slice_get ids j) ids_more ∙ at_all j (omega arith);
    wires = λ j other at. elim (behind_cases names name other j at) [
      | inl before ↦ named_so other (Some j) (bytes_eq other name) (so.wires j other before) refl
      | inr last ↦
          let test : bytes_eq other name ≡ true = (bytes_eq-Decides other name).1 last.1 in
          let none : wire_of d.variables other ≡ None = so.others other (ap (is_known names) last.1 ∙ unknown) in
          named_so other None true none test ∙ ap Some (sym last.0)
    ];
    others = λ other away.
        let parts = or_parts (is_known names other) (is_known (name ∷ []) other) (sym (list_any-append (bytes_eq other) names (name ∷ [])) ∙ away) in
        let test : bytes_eq other name ≡ false = (or_parts (bytes_eq other name) false parts.1).0 in
        named_so other None false (so.others other parts.0) test;
  }

-- the item behind the first ones
middle : {X : Type 0} (before : List X) (x : X) (more : List X) → slice_get (before ++ x ∷ more) (length before) ≡ Some x
middle [] x more = refl
middle (y ∷ before) x more = middle before x more

-- a name that differs from all before it is not known among them
unknown_before : (before more : List (List ℕ)) (name : List ℕ) → AllPairs (λ n other. n ≢ other) (before ++ name ∷ more) → is_known before name ≡ false
unknown_before before more name different = elim (cases_Bool (is_known before name)) [
  | inl known ↦
      let at = known_at before name known in
      let within : at.0 < length before = slice_get_within before at.0 name at.1 in
      let first : get_or (before ++ name ∷ more) at.0 [] ≡ name =
      get_or_from_slice_get (before ++ name ∷ more) at.0 name [] (front_get before (name ∷ more) at.0 name at.1) in
      let later : get_or (before ++ name ∷ more) (length before) [] ≡ name = get_or_from_slice_get (before ++ name ∷ more) (length before) name [] (middle before name more) in
      let long : length (before ++ name ∷ more) ≡ length before + length (name ∷ more) = length-append before (name ∷ more) in
      absurd (different at.0 (length before) [] within (omega arith) (first ∙ sym later))
  | inr other ↦ other
]

module _ (names : List (List ℕ)) (end : ℕ) where
  abbrev spot : ℕ → List ℕ → Spot
  spot k word = record { line = k; text = word }

  scope_done : (k : ℕ) (d : Declared) (model : List ℕ) (rest : List Spot) → is_end model ≡ false
      → definitions names end d [] (spot k (codes "$scope") ∷ spot k (codes "module") ∷ spot k model ∷ spot k (codes "$end") ∷ rest) ≡ definitions names end d [] rest
  scope_done k d model rest plain = command_read names end d (spot k (codes "$scope")) (spot k (codes "module") ∷ spot k model ∷ spot k (codes "$end") ∷ rest) ∙ rw plain refl

  net_done : (k : ℕ) (d : Declared) (id name : List ℕ) (rest : List Spot) → is_end id ≡ false → is_end name ≡ false
      → definitions names end d [] (spot k (codes "$var") ∷ spot k (codes "wire") ∷ spot k (codes "1") ∷ spot k id ∷ spot k name ∷ spot k (codes "$end") ∷ rest)
      ≡ definitions names end (with_variable d true id name) [] rest
  net_done k d id name rest plain_id plain_name =
      command_read names end d (spot k (codes "$var")) (spot k (codes "wire") ∷ spot k (codes "1") ∷ spot k id ∷ spot k name ∷ spot k (codes "$end") ∷ rest) ∙ rw (plain_id, plain_name) refl

  upscope_done : (k : ℕ) (d : Declared) (rest : List Spot) → definitions names end d [] (spot k (codes "$upscope") ∷ spot k (codes "$end") ∷ rest) ≡ definitions names end d [] rest
  upscope_done k d rest = command_read names end d (spot k (codes "$upscope")) (spot k (codes "$end") ∷ rest)

  ending_done : (k : ℕ) (d : Declared) (rest : List Spot) → missing d.variables names ≡ None
      → definitions names end d [] (spot k (codes "$enddefinitions") ∷ spot k (codes "$end") ∷ rest) ≡ Ok (record { declared = d; rest = rest })
  ending_done k d rest all = command_read names end d (spot k (codes "$enddefinitions")) (spot k (codes "$end") ∷ rest) ∙ rw all refl

  -- what is declared behind the declarations of more nets, and where reading goes on
  pub record NetsRead (k net : ℕ) (before more : List (List ℕ)) (d : Declared) (later : List (List (List ℕ))) : Type 0 where
    pub behind : Declared
    pub declares : Declares (before ++ more) behind
    pub read : definitions names end d [] (spots_of (numbered k (nets_words net more ++ later))) ≡ definitions names end behind [] (spots_of (numbered (k + length more) later))

  pub nets_read : (k net : ℕ) (before more : List (List ℕ)) (d : Declared) (later : List (List (List ℕ))) → net ≡ length before → Declares before d
      → AllPairs (λ n other. n ≢ other) (before ++ more) → AllByRecursion (λ name. is_end name ≡ false) more → length before + length more ≤ MOST_NETS
      → NetsRead k net before more d later
  nets_read k net before [] d later place so different plain few = record {
    behind = d;
    declares = subst (λ all. Declares all d) (sym (append-nil before)) so;
    read = let e : k ≡ k + 0 = omega arith in ap (λ n. definitions names end d [] (spots_of (numbered n later))) e;
  }
  nets_read k net before (name ∷ more) d later place so different plain few =
      let unknown : is_known before name ≡ false = unknown_before before more name different in
      let next : Declares (before ++ name ∷ []) (with_variable d true (id_of net) name) =
      subst (λ n. Declares (before ++ name ∷ []) (with_variable d true (id_of n) name)) (sym place) (declares_more before d name so unknown) in
      let long : length (before ++ name ∷ []) ≡ length before + 1 = length-append before (name ∷ []) in
      let regrouped : (before ++ name ∷ []) ++ more ≡ before ++ name ∷ more = append_assoc before (name ∷ []) more in
      let rest = nets_read (k + 1) (net + 1) (before ++ name ∷ []) more (with_variable d true (id_of net) name) later (omega arith) next
      (subst (λ all. AllPairs (λ n other. n ≢ other) all) (sym regrouped) different) plain.1 (omega arith) in
      let line : k + 1 + length more ≡ k + length (name ∷ more) = omega arith in
      record {
        behind = rest.behind;
        declares = subst (λ all. Declares all rest.behind) regrouped rest.declares;
        read = net_done k d (id_of net) name (spots_of (numbered (k + 1) (nets_words (net + 1) more ++ later))) (id_is_no_end net (omega arith)) plain.0
            ∙ (rest.read ∙ ap (λ n. definitions names end rest.behind [] (spots_of (numbered n later))) line);
      }

  -- names that are declared are not missing
  pub none_missing : (all : List (List ℕ)) (d : Declared) (wanted : List (List ℕ)) → Declares all d → AllByRecursion (λ name. (j : ℕ) × (slice_get all j ≡ Some name)) wanted
      → missing d.variables wanted ≡ None
  none_missing all d [] so there = refl
  none_missing all d (name ∷ wanted) so there =
      let here : wire_of d.variables name ≡ Some (there.0).0 = so.wires (there.0).0 name (there.0).1 in
      rw here (none_missing all d wanted so there.1)

-- the definitions of a text that begins with these lines, behind which other lines stand
pub record HeaderRead (names all : List (List ℕ)) (end : ℕ) (model : List ℕ) (later : List (List (List ℕ))) : Type 0 where
  pub behind : Declared
  pub declares : Declares all behind
  pub line : ℕ
  pub read : definitions names end nothing_declared [] (spots_of (numbered 1 (scope_words model ∷ (nets_words 0 all ++ upscope_words ∷ ending_words ∷ later))))
      ≡ Ok (record { declared = behind; rest = spots_of (numbered line later) })

pub header_read : (names all : List (List ℕ)) (end : ℕ) (model : List ℕ) (later : List (List (List ℕ))) → is_end model ≡ false → AllPairs (λ n other. n ≢ other) all
    → AllByRecursion (λ name. is_end name ≡ false) all → length all ≤ MOST_NETS → AllByRecursion (λ name. (j : ℕ) × (slice_get all j ≡ Some name)) names
    → HeaderRead names all end model later
header_read names all end model later plain different plains few there =
    let nets = nets_read names end 2 0 [] all nothing_declared (upscope_words ∷ ending_words ∷ later) refl declares_nothing different plains (omega arith) in
    let k = 2 + length all in
    record {
      behind = nets.behind;
      declares = nets.declares;
      line = k + 1 + 1;
      read = scope_done names end 1 nothing_declared model (spots_of (numbered 2 (nets_words 0 all ++ upscope_words ∷ ending_words ∷ later))) plain
          ∙ (nets.read ∙ (upscope_done names end k nets.behind (spots_of (numbered (k + 1) (ending_words ∷ later)))
          ∙ ending_done names end (k + 1) nets.behind (spots_of (numbered (k + 1 + 1) later)) (none_missing names end all nets.behind names nets.declares there)));
    }
