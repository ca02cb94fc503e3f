-- Registers in runs, as register after register is looked at.
use Rattle.std.proofs.Common.{◌≡◌, ℕ, ◌+◌, ◌<◌, ◌≤◌, inl, inr, true, List, [], ◌∷◌, ◌++◌, length, slice_get, Some, refl, sym, ◌∙◌}
use Rattle.std.proofs.Common.{ap, drop, subst, arith}
use Rattle.std.proofs.lemmas.List.{drop_all, drop_more}
use Rattle.std.proofs.lemmas.Option.{get_or_from_slice_get, same_Some, slice_get_within}
use Rattle.cg_netlist.specs.Circuit.{Circuit, RegisterCell}
use Rattle.cg_netlist.specs.WellFormed.{IsWellFormed}
use Rattle.cg_netlist.proofs.Values.{element_at}
use Rattle.cg_net.specs.NetSets.{is_in}
use Rattle.cg_net.proofs.TableLemmas.{same_or_not}
use Rattle.cg_netlist.specs.Circuit.{clock_nets}
use Rattle.cg_edge.specs.declared.runs.Run.{Run}
use Rattle.cg_edge.specs.inner.Runs.{AreRuns, IsRun}
use Rattle.cg_edge.proofs.Facts.{register_clocked}

-- the runs of the registers below a number, and those behind them, up to k, which have one clock net with the k-th
pub record AreBegun (rs : List (RegisterCell ℕ ℕ)) (k : ℕ) (runs : List Run) : Type 0 where
  pub last : ℕ
  pub before : last ≤ k
  pub run : AreRuns rs 0 last runs
  pub alike : (j : ℕ) (r : RegisterCell ℕ ℕ) → last ≤ j → j < k → slice_get rs j ≡ Some r
      → (next : RegisterCell ℕ ℕ) × (slice_get rs k ≡ Some next) × (next.clock ≡ r.clock)

pub begun_none : (rs : List (RegisterCell ℕ ℕ)) (runs : List Run) → runs ≡ [] → AreBegun rs 0 runs
begun_none rs runs none = record {
  last = 0;
  before = omega arith;
  run = subst (AreRuns rs 0 0) (sym none) refl;
  alike = λ j r past below. absurd (omega arith);
}

-- the run goes on
pub begun_on : (rs : List (RegisterCell ℕ ℕ)) (k : ℕ) (r : RegisterCell ℕ ℕ) (runs : List Run) → slice_get rs k ≡ Some r
    → (next : RegisterCell ℕ ℕ) × (slice_get rs (k + 1) ≡ Some next) × (next.clock ≡ r.clock) → AreBegun rs k runs → AreBegun rs (k + 1) runs
begun_on rs k r runs at next begun = record {
  last = begun.last;
  before = let before = begun.before in omega (arith, before);
  run = begun.run;
  alike = λ j s past below here. elim (same_or_not j k) [
    | inl e ↦
        let same : r ≡ s = same_Some r s (sym at ∙ (ap (slice_get rs) (sym e) ∙ here)) in
        (next.0, next.1, next.2 ∙ ap (λ (x : RegisterCell ℕ ℕ). x.clock) same)
    | inr e ↦
        let own = begun.alike j s past (omega (arith, e, below)) here in
        let same : r ≡ own.0 = same_Some r own.0 (sym at ∙ own.1) in
        (next.0, next.1, next.2 ∙ (ap (λ (x : RegisterCell ℕ ℕ). x.clock) same ∙ own.2))
  ];
}

runs_pushed : (rs : List (RegisterCell ℕ ℕ)) (first last : ℕ) (runs : List Run) (run : Run) → IsRun rs last run → AreRuns rs first last runs → AreRuns rs first run.end (runs ++ run ∷ [])
runs_pushed rs first last [] run is are = (subst (λ n. IsRun rs n run) (sym are) is, refl)
runs_pushed rs first last (r ∷ runs) run is are = (are.0, runs_pushed rs r.end last runs run is are.1)

-- the run ends
pub begun_end : (rs : List (RegisterCell ℕ ℕ)) (k : ℕ) (r : RegisterCell ℕ ℕ) (run : Run) (runs : List Run) → slice_get rs k ≡ Some r → run.clock ≡ r.clock → run.end ≡ k + 1 → AreBegun rs k runs → AreBegun rs (k + 1) (runs ++ run ∷ [])
begun_end rs k r run runs at clock end begun = record {
  last = k + 1;
  before = omega arith;
  run = subst (λ n. AreRuns rs 0 n (runs ++ run ∷ [])) end (runs_pushed rs 0 begun.last runs run (record {
    some = let before = begun.before in omega (arith, before, end);
    clocked = λ j s past below here. elim (same_or_not j k) [
      | inl e ↦ ap (λ (x : RegisterCell ℕ ℕ). x.clock) (same_Some s r (sym here ∙ (ap (slice_get rs) e ∙ at))) ∙ sym clock
      | inr e ↦
          let own = begun.alike j s past (omega (arith, e, below, end)) here in
          sym own.2 ∙ (ap (λ (x : RegisterCell ℕ ℕ). x.clock) (same_Some own.0 r (sym own.1 ∙ at)) ∙ sym clock)
    ];
  }) begun.run);
  alike = λ j s past below. absurd (omega (arith, past, below));
}

-- at the end all registers stand in runs
pub begun_all : (rs : List (RegisterCell ℕ ℕ)) (k : ℕ) (runs : List Run) → k ≡ length rs → AreBegun rs k runs → AreRuns rs 0 (length rs) runs
begun_all rs k runs all begun = elim (same_or_not begun.last k) [
  | inl e ↦ subst (λ n. AreRuns rs 0 n runs) (e ∙ all) begun.run
  | inr e ↦
      let before = begun.before in
      let r = element_at rs begun.last (omega (arith, e, before, all)) in
      let next = begun.alike begun.last r.0 (omega arith) (omega (arith, e, before)) r.1 in
      absurd (let within = slice_get_within rs k next.0 next.1 in omega (arith, within, all))
]

pub runs_forward : (rs : List (RegisterCell ℕ ℕ)) (first last : ℕ) (runs : List Run) → AreRuns rs first last runs → first ≤ last
runs_forward rs first last [] are = omega (arith, are)
runs_forward rs first last (run ∷ runs) are = let some = are.0.some in let rest = runs_forward rs run.end last runs are.1 in omega (arith, some, rest)

-- the clock net of a run is a clock net
pub run_clocked : (c : Circuit) → IsWellFormed c → (first : ℕ) (run : Run) → IsRun c.registers first run → run.end ≤ length c.registers → is_in (clock_nets c) run.clock ≡ true
run_clocked c good first run is within =
    let r = element_at c.registers first (let some = is.some in omega (arith, some, within)) in
    ap (is_in (clock_nets c)) (sym (is.clocked first r.0 (omega arith) is.some r.1)) ∙ register_clocked c good first r.0 r.1

-- the run at a place, and those behind it
pub run_here : (rs : List (RegisterCell ℕ ℕ)) (first last i : ℕ) (runs : List Run) (run : Run) → slice_get runs i ≡ Some run → AreRuns rs first last (drop i runs) → IsRun rs first run × AreRuns rs run.end last (drop (i + 1) runs) × (run.end ≤ last)
run_here rs first last i runs run at are =
    let rest : drop i runs ≡ run ∷ drop (i + 1) runs = drop_more runs i run (slice_get_within runs i run at) ∙ ap (λ r. r ∷ drop (i + 1) runs) (get_or_from_slice_get runs i run run at) in
    let both : IsRun rs first run × AreRuns rs run.end last (drop (i + 1) runs) = subst (AreRuns rs first last) rest are in
    (both.0, both.1, runs_forward rs run.end last (drop (i + 1) runs) both.1)

pub runs_done : (rs : List (RegisterCell ℕ ℕ)) (first last i : ℕ) (runs : List Run) → length runs ≤ i → AreRuns rs first last (drop i runs) → first ≡ last
runs_done rs first last i runs all are = subst (AreRuns rs first last) (drop_all i runs all) are
