-- Hints, tried one after another, leave a machine that shows what it showed before.
use Rattle.std.proofs.Common.{◌≡◌, ℕ, ◌≤◌, List, [], ◌∷◌, length, refl, sym, ◌∙◌, ap, subst, arith, Ok}
use Rattle.cg_cell.specs.Cell.{CellData}
use Rattle.cg_machine.specs.Machine.{IsMachine, MachineData}
use Rattle.cg_machine.proofs.Simulation.{same_self, same_then}
use Rattle.cg_hint_laws.specs.declared.hint.Hint.{Hint}
use Rattle.cg_hint_laws.specs.declared.outcome.HintOutcome.{HintOutcome}
use Rattle.cg_hint_laws.specs.declared.outcome.HintOutcome.TheVariants.{Inserted, NeverIdle, NoCell, Refuted, Taken, Wide}
use Rattle.cg_hint_laws.specs.Effects.{and_then, effect}
use Rattle.cg_hint_laws.specs.Hints.{Fits}
use Rattle.cg_hint_laws.specs.Laws.{After, AllFit, AreSafe, HintsAreSafe, IsInsertable, IsSafe}
use Rattle.cg_hint_laws.specs.Trying.{after_outcome, hinted, machine_or, tried, with_turn}
use Rattle.cg_hint_laws.proofs.Additions.{and_then_ok}
use Rattle.cg_hint_laws.proofs.Cells.{effect_there}
use Rattle.cg_hint_laws.proofs.Exactly.{inserted_exactly}
use Rattle.cg_hint_laws.proofs.HintSafe.{hint_safe}
use Rattle.cg_hint_laws.proofs.OwnKept.{effect_keeps_own}

-- what one turn keeps
pub record TurnKeeps (library : List CellData) (m n : MachineData) : Type 0 where
  pub safe : IsSafe library m n
  pub clock : n.circuit.clock ≡ m.circuit.clock
  pub names : length m.circuit.names ≤ length n.circuit.names

pub safe_itself : (library : List CellData) (m : MachineData) → IsMachine m → IsSafe library m m
safe_itself library m good = record { is_machine = good; same = same_self m; own = refl; prefix = refl; names = λ named. named; cells = λ has. has }

keeps_itself : (library : List CellData) (m : MachineData) → IsMachine m → TurnKeeps library m m
keeps_itself library m good = record { safe = safe_itself library m good; clock = refl; names = omega arith }

pub turn_keeps : (library : List CellData) (width : ℕ) (m : MachineData) (h : Hint) (outcome : HintOutcome) → IsMachine m → Fits m h → tried library width m h ≡ Ok outcome → TurnKeeps library m (after_outcome m h outcome)
turn_keeps library width m h Inserted good fits is =
    let d : IsInsertable library width m h = (inserted_exactly library width m h good fits).0 is in
    let n : MachineData = d.room.0 in
    let a : After m h n = hint_safe m h good fits d.free d.holds n d.room.1 in
    let at : n ≡ machine_or m (effect m h) = sym (ap (machine_or m) d.room.1) in
    let own = effect_keeps_own m n h good d.room.1 in
    subst (TurnKeeps library m) at (record {
      safe = record { is_machine = a.is_machine; same = a.same; own = own.same; prefix = own.prefix; names = own.names; cells = effect_there library m n h d.cells d.room.1 };
      clock = a.clock;
      names = a.names;
    })
turn_keeps library width m h (Taken r) good fits is = keeps_itself library m good
turn_keeps library width m h (NoCell kind) good fits is = keeps_itself library m good
turn_keeps library width m h (Wide claim n) good fits is = keeps_itself library m good
turn_keeps library width m h NeverIdle good fits is = keeps_itself library m good
turn_keeps library width m h (Refuted claim bits) good fits is = keeps_itself library m good

pub fits_later : (library : List CellData) (m n : MachineData) (h : Hint) → TurnKeeps library m n → Fits m h → Fits n h
fits_later library m n h k fits = record {
  registers = λ r among. let b = fits.registers r among in omega (arith, b, k.safe.same.own);
  distinct = fits.distinct;
  some = fits.some;
  terms = fits.terms;
  literals = fits.literals;
  nets = λ y among. let net = fits.nets y among in record { below = omega (arith, net.below, k.names); apart = λ clock. net.apart (sym k.clock ∙ clock) };
  after = fits.after;
}

pub all_later : (library : List CellData) (m n : MachineData) (hs : List Hint) → TurnKeeps library m n → AllFit m hs → AllFit n hs
all_later library m n [] k all = tt
all_later library m n (h ∷ hs) k all = (fits_later library m n h k all.0, all_later library m n hs k all.1)

pub hints_are_safe : HintsAreSafe
hints_are_safe library width m [] done good all ok =
    let same : record { machine = m; turns = [] } ≡ done = cc in
    subst (AreSafe library m) same (record { safe = safe_itself library m good; turns = tt })
hints_are_safe library width m (h ∷ hs) done good all ok =
    let first = and_then_ok (tried library width m h) (λ outcome. and_then (hinted library width (after_outcome m h outcome) hs) (with_turn (record { machine = m; hint = h; outcome = outcome }))) done ok in
    let n : MachineData = after_outcome m h first.0 in
    let k : TurnKeeps library m n = turn_keeps library width m h first.0 good all.0 first.1 in
    let rest = and_then_ok (hinted library width n hs) (with_turn (record { machine = m; hint = h; outcome = first.0 })) done first.2 in
    let later : AreSafe library n rest.0 = hints_are_safe library width n hs rest.0 k.safe.is_machine (all_later library m n hs k all.1) rest.1 in
    let same : record { machine = rest.0.machine; turns = record { machine = m; hint = h; outcome = first.0 } ∷ rest.0.turns } ≡ done = cc in
    subst (AreSafe library m) same (record {
      safe = record {
        is_machine = later.safe.is_machine;
        same = same_then m n rest.0.machine k.safe.same later.safe.same;
        own = later.safe.own ∙ k.safe.own;
        prefix = later.safe.prefix ∙ k.safe.prefix;
        names = λ named. later.safe.names (k.safe.names named);
        cells = λ has. later.safe.cells (k.safe.cells has);
      };
      turns = ((good, all.0), later.turns);
    })
