-- What the mode `gate` has read when all files are taken.
use Rattle.std.proofs.Common.{◌≡◌, ℕ, Bool, true, false, ◌||◌, IsTrue, if◌then◌else◌, List, Option, None, Some, is_some}
use Rattle.std.proofs.Common.{Ok, Err, refl, sym, ◌∙◌, ap, subst}
use Rattle.std.specs.Prelude.{IsOkAnd, IsSomeAnd}
use Rattle.cg_cell.specs.Cell.{CellData}
use Rattle.cg_cell.specs.Name.{is_name}
use Rattle.cg_gate_laws.specs.Gated.{refused_gater}
use Rattle.cg_gate.specs.Request.{IsFree, MayGate}
use Rattle.cg_machine.specs.Start.{begins, first_clash}
use Rattle.cg_hint_laws.specs.OfNetlist.{IsOf}
use Rattle.cg_hint_laws.specs.declared.hint.Hint.{Hint}
use Rattle.cg_netlist.specs.Netlist.{IsNetlist}
use Rattle.cg_source.proofs.HintTexts.{hints_are_of}
use Rattle.std.specs.List.{AllByRecursion}
use Rattle.std.specs.Prelude.{[], unwrap_or}
use Rattle.cg_netlist.specs.Circuit.{Circuit}
use Rattle.cg_net.specs.Names.{NetName, is_known}
use Rattle.cg_run.specs.Verdict.{Given, reached, unstopped}
use Rattle.cg_run.specs.declared.refusal.Trouble.{Trouble}
use Rattle.cg_source.specs.Design.{design_loads, design_of, permitted}
use Rattle.cg_source.specs.Netlist.{netlist_found}
use Rattle.cg_source.specs.Refused.{then_found}
use Rattle.cg_source.specs.Stimulus.{is_loaded}
use Rattle.cg_source.specs.declared.design.DesignFiles.{DesignFiles}
use Rattle.cg_source.specs.declared.netlist.NetlistOptions.{NetlistOptions}
use Rattle.cg_source.specs.declared.stimulus.StimulusForm.{StimulusForm}
use Rattle.cg_source.proofs.DesignRead.{FindsHints, FindsStimulus, design_read}
use Rattle.cg_source.proofs.NetlistTexts.{netlist_placeable}
use Rattle.cg_source.proofs.StimulusTexts.{stimulus_is_for}
use Rattle.cg_source.proofs.Taken.{then_ok}
use Rattle.cg_stimulus.specs.Inputs.{IsFor, Rows}
use Rattle.cg_command_line.specs.Options.{NamesTest}
use Rattle.cg_command_line.specs.declared.options.Options.{Options}
use Rattle.cg_tool.specs.Gate.{MayBeGated, gate_start, gate_takes}
use Rattle.cg_tool.specs.Wanted.{gateable, request_by, unlifted, unprefixed, untested, wanted_by}
use Rattle.cg_tool.specs.declared.modes.wanted.Wanted.{Wanted}
use Rattle.cg_tool.proofs.Names.{unknown_apart}
use Rattle.cg_run.proofs.Halves.{found_is}
use Rattle.std.proofs.lemmas.Bool.{or_parts}

unprefixed_ok : (c d : Circuit) (clash : Option ℕ) → unprefixed c clash ≡ Ok d → (clash ≡ None) × (c ≡ d)
unprefixed_ok c d None is = (refl, cc)
unprefixed_ok c d (Some net) is = absurd (cc)

untaken : (prefix test : List ℕ) (c d : Circuit) (trouble : Trouble) (taken : Bool) → (is_known c.names test || begins prefix test) ≡ taken → (if taken then Err trouble else Ok c) ≡ Ok d → (c ≡ d) × IsFree c prefix test
untaken prefix test c d trouble true taken is = absurd (cc)
untaken prefix test c d trouble false taken is =
    let parts = or_parts (is_known c.names test) (begins prefix test) taken in (cc, record { new = unknown_apart c.names test parts.0; apart = parts.1 })

AreFree : List ℕ → Option NetName → Circuit → Type 0
AreFree prefix test c = (name : List ℕ) → test ≡ Some name → IsFree c prefix name

untested_ok : (prefix : List ℕ) (test : Option NetName) (c d : Circuit) → untested prefix test c ≡ Ok d → (c ≡ d) × ((name : List ℕ) → test ≡ Some name → IsFree c prefix name)
untested_ok prefix None c d is = (cc, λ name some. absurd (cc))
untested_ok prefix (Some test) c d is =
    let free = untaken prefix test c d _ (is_known c.names test || begins prefix test) refl is in
    let F : List ℕ → Type 0 = λ name. IsFree c prefix name in
    (free.0, λ name some. let same : test ≡ name = cc in subst F same free.1)

unlifted_ok : (c d : Circuit) (refused : Option ℕ) → unlifted c refused ≡ Ok d → (c ≡ d) × (refused ≡ None)
unlifted_ok c d None is = (cc, refl)
unlifted_ok c d (Some gater) is = absurd (cc)

-- a netlist that may be gated so
pub record IsGateable (library : List CellData) (wanted : Wanted) (c : Circuit) : Type 0 where
  pub new : first_clash wanted.prefix c.names ≡ None
  pub free : (name : List ℕ) → wanted.test ≡ Some name → IsFree c wanted.prefix name
  pub lifts : refused_gater library wanted.test c ≡ None

gateable_ok : (library : List CellData) (wanted : Wanted) (c d : Circuit) → gateable library wanted c ≡ Ok d → (c ≡ d) × IsGateable library wanted c
gateable_ok library wanted c d is =
    let last = λ (c : Circuit). unlifted c (refused_gater library wanted.test c) in
    let one = then_ok (unprefixed c (first_clash wanted.prefix c.names)) (λ c. then_found (untested wanted.prefix wanted.test c) last) d is in
    let first = unprefixed_ok c one.0 (first_clash wanted.prefix c.names) one.1 in
    let two = then_ok (untested wanted.prefix wanted.test one.0) last d one.2 in
    let second = untested_ok wanted.prefix wanted.test one.0 two.0 two.1 in
    let third = unlifted_ok two.0 d (refused_gater library wanted.test two.0) two.2 in
    let F : Circuit → Type 0 = λ c. (name : List ℕ) → wanted.test ≡ Some name → IsFree c wanted.prefix name in
    let G : Circuit → Type 0 = λ c. refused_gater library wanted.test c ≡ None in
    let back : two.0 ≡ c = sym (first.1 ∙ second.0) in
    (first.1 ∙ second.0 ∙ third.0, record { new = first.0; free = subst F (sym first.1) second.1; lifts = subst G back third.1 })

-- a netlist that was found so
pub record FoundSo (library : List CellData) (reading : NetlistOptions) (wanted : Wanted) (text : List ℕ) (c : Circuit) : Type 0 where
  pub said : netlist_found reading.form library reading.clock text ≡ Ok c
  pub gateable : IsGateable library wanted c

pub found_so : (library : List CellData) (reading : NetlistOptions) (wanted : Wanted) (text : List ℕ) (c : Circuit) → permitted gateable reading.form library reading.clock wanted text ≡ Ok c → FoundSo library reading wanted text c
found_so library reading wanted text c is =
    let one = then_ok (netlist_found reading.form library reading.clock text) (gateable library wanted) c is in
    let ok = gateable_ok library wanted one.0 c one.2 in
    let G : Circuit → Type 0 = λ d. IsGateable library wanted d in
    record { said = one.1 ∙ ap Ok ok.0; gateable = subst G ok.0 ok.1 }

pub may_gate : (library : List CellData) (reading : NetlistOptions) (wanted : Wanted) (text : List ℕ) (c : Circuit) (stimulus : Option Rows) (hints : Option (List Hint)) → IsTrue (is_name wanted.prefix) → wanted.settings.test ≡ is_some wanted.test
    → FoundSo library reading wanted text c → ((rows : Rows) → stimulus ≡ Some rows → IsFor c rows) → AllByRecursion (IsOf c) (unwrap_or hints [])
    → ((name : List ℕ) → wanted.test ≡ Some name → unwrap_or hints [] ≡ []) → MayGate (request_by library wanted stimulus hints) c
may_gate library reading wanted text c stimulus hints named tested found played are_of unhinted =
    let placeable = netlist_placeable reading.form library reading.clock text c found.said in
    record {
      start = record { netlist = placeable.netlist; outputs_once = placeable.outputs_once; named = named; new = (found.gateable).new };
      lifts = (found.gateable).lifts;
      placeable = placeable;
      tested = tested;
      free = (found.gateable).free;
      played = played;
      hints = are_of;
      untested = unhinted;
    }

-- a stimulus that was found is one for the netlist
found_is_for : (given : Given) (asked : Option StimulusForm) (c : Circuit) (found : Option Rows) (rows : Rows) → FindsStimulus given asked c found → found ≡ Some rows → IsFor c rows
found_is_for given None c found rows none some = cc
found_is_for given (Some form) c found rows finds some =
    let same : finds.rows ≡ rows = let both : Some finds.rows ≡ Some rows = sym finds.is ∙ some in cc in
    let F : Rows → Type 0 = λ s. IsFor c s in
    subst F same (stimulus_is_for form c finds.text finds.rows finds.said)

-- hints that were found are hints of the netlist; where none are asked for there are none
found_are_of : (given : Given) (hinted : Bool) (c : Circuit) (found : Option (List Hint)) → IsNetlist c → FindsHints given hinted c found → AllByRecursion (IsOf c) (unwrap_or found [])
found_are_of given false c found whole none = subst (λ (h : Option (List Hint)). AllByRecursion (IsOf c) (unwrap_or h [])) (sym none) tt
found_are_of given true c found whole finds =
    subst (λ (h : Option (List Hint)). AllByRecursion (IsOf c) (unwrap_or h [])) (sym finds.are) (hints_are_of c finds.text finds.hints whole finds.said)

-- with a test input there are none, since they are not asked for
untested_hints : (given : Given) (hinted : Bool) (test : Option NetName) (c : Circuit) (found : Option (List Hint)) → (hinted ≡ true → test ≡ None) → FindsHints given hinted c found → (name : List ℕ) → test ≡ Some name → unwrap_or found [] ≡ []
untested_hints given false test c found alone none name some = ap (λ (h : Option (List Hint)). unwrap_or h []) none
untested_hints given true test c found alone finds name some = let both : None ≡ Some name = sym (alone refl) ∙ some in absurd (cc)

-- a design that was read may be gated
pub read_may : (options : Options) (given : Given) (end : DesignFiles Wanted) → IsTrue (is_name options.prefix) → NamesTest options
    → IsOkAnd (reached gate_takes unstopped (gate_start options) (design_loads (is_loaded options.asked.stimulus) options.asked.hints) given) (λ found. found ≡ end) → IsSomeAnd (design_of end) MayBeGated
read_may options given end named names is =
    let loads = design_loads (is_loaded options.asked.stimulus) options.asked.hints in
    let read = design_read gateable (wanted_by options) options.netlist given unstopped end options.asked.stimulus options.asked.hints
    (found_is (reached gate_takes unstopped (gate_start options) loads given) end is) in
    let c : Circuit = read.netlist in
    let files = read.files in
    let so = found_so end.library options.netlist (wanted_by options) files.text c files.found in
    let whole : IsNetlist c = (netlist_placeable (options.netlist).form end.library (options.netlist).clock files.text c so.said).netlist in
    let N : Option Circuit → Type 0 = λ netlist. IsSomeAnd (design_of (record end { netlist = netlist })) MayBeGated in
    let W : Wanted → Type 0 = λ w. MayGate (request_by end.library w end.stimulus end.hints) c in
    let may : W (wanted_by options) = may_gate end.library options.netlist (wanted_by options) files.text c end.stimulus end.hints named refl so
    (λ rows some. found_is_for given options.asked.stimulus c end.stimulus rows read.stimulus some)
    (found_are_of given options.asked.hints c end.hints whole read.hints)
    (untested_hints given options.asked.hints options.test c end.hints names.unhinted read.hints) in
    subst N (sym files.is) (subst W (sym files.demanded) may)
