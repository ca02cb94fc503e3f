-- The test run of a plan shows what the machine shows that it began with.
use Rattle.std.proofs.Common.{◌≡◌, ℕ, ◌-◌, true, List, ◌++◌, length, Option, None, Some, refl, sym}
use Rattle.std.proofs.Common.{◌∙◌, ap, inl, arith}
use Rattle.std.proofs.lemmas.List.{append-nil}
use Rattle.cg_machine.proofs.Bits.{each_get}
use Rattle.cg_machine.proofs.Extended.{extends_self}
use Rattle.cg_machine.proofs.Settled.{wide}
use Rattle.cg_machine.proofs.Started.{none_anywhere, netlist_is_run, start_is_machine}
use Rattle.cg_machine.specs.Machine.{IsState, MachineData, enable_of, next, next_of, values, IsMachine}
use Rattle.cg_machine.specs.Run.{ones, freed, shown_from}
use Rattle.cg_machine.specs.Start.{machine_of}
use Rattle.cg_netlist.specs.Circuit.{RegisterCell}
use Rattle.cg_net.specs.NetSets.{is_in}
use Rattle.cg_netlist.specs.Moment.{bit}
use Rattle.cg_plan_laws.proofs.AllSafe.{none_more, plans_safe}
use Rattle.cg_plan_laws.specs.Plan.{Plan, plan_of}
use Rattle.cg_stage_laws.proofs.Fitting.{ones_bit, starts_long}
use Rattle.cg_gate_laws.proofs.Entries.{Chain, Entry}
use Rattle.cg_gate_laws.proofs.Harm.{Reached, is_harmless}
use Rattle.cg_gate_laws.proofs.Linked.{Rises, bottom, entries, linked, ungrouped}
use Rattle.cg_gate_laws.proofs.Path.{Grows, grows_of, path_grows}
use Rattle.cg_gate_laws.proofs.Phases.{Phases, Second, old_of, phases}
use Rattle.cg_gate_laws.proofs.TestSafe.{no_enable, test_same}
use Rattle.cg_gate_laws.specs.TestLaws.{PlansAreTestSafe, TestLoadsAll, TestRunShowsNetlist}
use Rattle.cg_gate_laws.specs.TestRun.{ticks_of}
use Rattle.cg_machine.proofs.Simulation.{ticks_same}

pub plans_test_safe : PlansAreTestSafe
plans_test_safe library settings counts m good free test start wave long ticks =
    let p : Plan = plan_of library settings counts m in
    let n : MachineData = p.machine in
    let whole = plans_safe library settings counts m good in
    let good_n : IsMachine n = whole.0 in
    let ph : Phases library settings m p = phases library settings m good test counts in
    let b : MachineData = ph.middle.machine in
    let sec : Second b ph.later.kept p = ph.later.second in
    let all : List Entry = entries sec.path in
    let grows : Grows b n = path_grows b sec.path n sec.is in
    let self : Rises all n n = record { grows = grows_of n n (extends_self n); count = refl; own = λ r y some. some; same = λ r none. refl } in
    let none : (q : ℕ) → is_in (old_of p.turns) q ≡ true → enable_of n q ≡ None = λ q among. sec.free q (sec.within q among) in
    let links : Chain n all n.enables all = linked b n ph.safe.good good_n all (old_of p.turns) none grows sec.path n sec.is sec.done (λ r h. h) self in
    let low : Rises all b n = bottom b n ph.safe.good good_n all (old_of p.turns) none grows sec.path n sec.is sec.done (λ r h. h) self in
    let long_n : length start ≡ n.own_registers = long ∙ sym whole.1.own in
    let long_s : IsState n (start ++ ones n) = starts_long n good_n.own_registers start long_n in
    test_same n all (Reached n good_n all links) (wide n good_n) links
    (is_harmless n good_n all links m b free ph.first.path ph.first.is ph.first.kinds grows (λ r y some. (ungrouped b (old_of p.turns) sec.path n sec.is sec.done r y some).0) low.same)
    start wave long_s (ticks_same m n whole.1.inputs (ticks_of wave) ticks)
    (inl (λ k past below. ones_bit start (length n.circuit.registers - n.own_registers) k (omega (arith, past, long_n)) (omega (arith, below, long_n, good_n.own_registers))))
    ∙ whole.1.shows start (ticks_of wave) long ticks

pub test_shows_netlist : TestRunShowsNetlist
test_shows_netlist library settings counts c prefix can test start wave history started waves lawful =
    plans_test_safe library settings counts (machine_of c prefix) (start_is_machine c prefix can) (none_anywhere (length c.registers)) test start wave started waves.0
    ∙ (ap (λ s. shown_from (machine_of c prefix) None s (ticks_of wave)) (ap (λ l. start ++ l) (none_more c prefix) ∙ append-nil start)
    ∙ sym (netlist_is_run c prefix can start (ticks_of wave) history started waves lawful).1)

pub test_loads : TestLoadsAll
test_loads m s x r below cell at =
    each_get m (next (freed m) (values m s x) s) r below
    ∙ ap Some (ap (λ (c : Option (RegisterCell ℕ ℕ)). next_of c (enable_of (freed m) r) (values m s x) (bit s r)) at ∙ ap (λ o. next_of (Some cell) o (values m s x) (bit s r)) (no_enable m r))
