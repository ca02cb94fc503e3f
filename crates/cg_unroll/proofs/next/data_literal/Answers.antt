use Rattle.std.proofs.Common.{◌≡◌, ◌<◌, ◌++◌, [], ◌∷◌, ℕ, List, Some, length, length-append, map, slice_get, slice_index_or}
use Rattle.std.proofs.Common.{unwrap_or, IsTrue, refl, sym, ◌∙◌, ap, subst, arith}
use Rattle.std.proofs.lemmas.Bool.{leb-false}
use Rattle.std.proofs.lemmas.List.{length-map}
use Rattle.std.proofs.lemmas.Option.{same_Some, slice_get-get_or}
use Rattle.cg_cell.specs.Domain.{AreValid, Seen}
use Rattle.cg_cell.specs.Eval.{build_term}
use Rattle.cg_cell.proofs.Evals.{valid_at}
use Rattle.cg_aig.specs.Aig.{aig_ops}
use Rattle.cg_netlist.specs.Circuit.{RegisterCell}
use Rattle.cg_netlist.specs.View.{kind_seen, register_seen}
use Rattle.cg_netlist.specs.declared.parts.RegisterKind.TheVariants.{Flop}
use Rattle.cg_netlist.proofs.RegisterNext.{flop_inputs, flop_kind, one_input, register_inputs_within}
use Rattle.cg_machine.specs.Machine.{MachineData, delay_cell}
use Rattle.cg_claim.specs.Reach.{register_term}
use Rattle.cg_unroll.specs.Building.{Built, MayFail}
use Rattle.cg_unroll.proofs.Building.{if_err, if_ok, valid_read}
use Rattle.cg_claim_reach.proofs.OwnRegisters.{own_register}
use Rattle.cg_unroll.proofs.Registers.{data_run, first_within, plain_data, valid_append}
use Rattle.cg_unroll.proofs.next.data_literal.Goals as goal

pub get-requires : goal.get-requires
get-requires c =
    let m : MachineData = c.args.machine.now in
    let delay : RegisterCell ℕ ℕ = delay_cell (unwrap_or m.circuit.clock 0) c.delay-net.result.0 c.delay-net.result.1 in
    let small = first_within (length m.circuit.names) c.delay-net.result.0 [] (register_inputs_within m.circuit c.netlist-netlist.ensures.machine.well_formed c.args.reg delay c.delay-net.ensures (length m.circuit.names) (omega arith)) in
    omega (arith, small, c.number.ensures.number, c.requires.literals)

pub returns-then-is_delay-clause-built : goal.returns-then-is_delay-clause-built
returns-then-is_delay-clause-built c = λ cell stands.
    let m : MachineData = c.args.machine.now in
    let s : Seen = c.args.aig.now in
    let literals : List ℕ = c.args.literals.now in
    let net : ℕ = c.delay-net.result.0 in
    let delay : RegisterCell ℕ ℕ = delay_cell (unwrap_or m.circuit.clock 0) net c.delay-net.result.1 in
    let small = first_within (length m.circuit.names) net [] (register_inputs_within m.circuit c.netlist-netlist.ensures.machine.well_formed c.args.reg delay c.delay-net.ensures (length m.circuit.names) (omega arith)) in
    let below : net < length literals = omega (arith, small, c.requires.literals) in
    let v : ℕ = c.get.result in
    let is : v ≡ slice_index_or literals net 0 = c.get.ensures ∙ ap (λ n. slice_index_or literals n 0) c.number.ensures.number in
    subst (λ (z : RegisterCell ℕ ℕ). Built s s v (data_run (λ x. slice_index_or literals x 0) c.args.own z s)) (same_Some delay cell (sym c.delay-net.ensures ∙ stands))
    (plain_data (λ x. slice_index_or literals x 0) c.args.own delay net v s refl refl is (subst (λ a. IsTrue (aig_ops.is_valid s a)) (sym is) (valid_at aig_ops s literals net c.requires.valid below)))

pub read_literals-requires : goal.read_literals-requires
read_literals-requires c =
    let m : MachineData = c.args.machine.now in
    let view : RegisterCell ℕ ℕ = register_seen c.register-register.result in
    let at = own_register m c.netlist-netlist.result.now c.args.reg view c.netlist-netlist.ensures.netlist (leb-false m.own_registers c.args.reg (sym c.if-is_delay.ensures)) c.register-register.ensures in
    register_inputs_within m.circuit c.netlist-netlist.ensures.machine.well_formed c.args.reg view at (length c.args.literals.now) (omega (arith, c.requires.literals))

pub build_register-requires-clause-kind : goal.build_register-requires-clause-kind
build_register-requires-clause-kind c =
    let m : MachineData = c.args.machine.now in
    let view : RegisterCell ℕ ℕ = register_seen c.register-register.result in
    let at = own_register m c.netlist-netlist.result.now c.args.reg view c.netlist-netlist.ensures.netlist (leb-false m.own_registers c.args.reg (sym c.if-is_delay.ensures)) c.register-register.ensures in
    flop_kind m.circuit c.netlist-netlist.ensures.machine.well_formed c.args.reg view at c.in-Cell.cell.now (ap kind_seen c.in-Cell.is)

pub build_register-requires-clause-fits : goal.build_register-requires-clause-fits
build_register-requires-clause-fits c =
    let m : MachineData = c.args.machine.now in
    let view : RegisterCell ℕ ℕ = register_seen c.register-register.result in
    let at = own_register m c.netlist-netlist.result.now c.args.reg view c.netlist-netlist.ensures.netlist (leb-false m.own_registers c.args.reg (sym c.if-is_delay.ensures)) c.register-register.ensures in
    let pins = flop_inputs m.circuit c.netlist-netlist.ensures.machine.well_formed c.args.reg view at c.in-Cell.cell.now (ap kind_seen c.in-Cell.is) in
    let whole = ap length (c.deref.ensures.value ∙ (c.in_ok-push-in-Cell.ensures.items ∙ ap (λ l. l ++ c.args.own ∷ []) c.in_ok-read_literals-in-Cell.ensures.read)) in
    let read : List ℕ = map (λ x. slice_index_or c.args.literals.now x 0) view.inputs in
    omega (arith, pins, whole, length-append read (c.args.own ∷ []), length-map view.inputs (λ x. slice_index_or c.args.literals.now x 0))

pub build_register-requires-clause-valid : goal.build_register-requires-clause-valid
build_register-requires-clause-valid c =
    let m : MachineData = c.args.machine.now in
    let view : RegisterCell ℕ ℕ = register_seen c.register-register.result in
    let at = own_register m c.netlist-netlist.result.now c.args.reg view c.netlist-netlist.ensures.netlist (leb-false m.own_registers c.args.reg (sym c.if-is_delay.ensures)) c.register-register.ensures in
    let within = register_inputs_within m.circuit c.netlist-netlist.ensures.machine.well_formed c.args.reg view at (length c.args.literals.now) (omega (arith, c.requires.literals)) in
    subst (AreValid aig_ops c.args.aig.now) (sym (c.deref.ensures.value ∙ (c.in_ok-push-in-Cell.ensures.items ∙ ap (λ l. l ++ c.args.own ∷ []) c.in_ok-read_literals-in-Cell.ensures.read)))
    (valid_append c.args.aig.now (map (λ x. slice_index_or c.args.literals.now x 0) view.inputs) c.args.own (valid_read c.args.aig.now c.args.literals.now view.inputs c.requires.valid within) c.requires.own)

pub get-requires-in-Plain : goal.get-requires-in-Plain
get-requires-in-Plain c =
    let m : MachineData = c.args.machine.now in
    let view : RegisterCell ℕ ℕ = register_seen c.register-register.result in
    let at = own_register m c.netlist-netlist.result.now c.args.reg view c.netlist-netlist.ensures.netlist (leb-false m.own_registers c.args.reg (sym c.if-is_delay.ensures)) c.register-register.ensures in
    let one = one_input m.circuit c.netlist-netlist.ensures.machine.well_formed c.args.reg view at (ap kind_seen c.in-Plain.is) in
    let small = register_inputs_within m.circuit c.netlist-netlist.ensures.machine.well_formed c.args.reg view at (length c.args.literals.now) (omega (arith, c.requires.literals)) 0 c.index-register-0.result (omega (arith, one)) in
    omega (arith, small, c.number-in-Plain.ensures.number)

pub returns-in-Plain-clause-built : goal.returns-in-Plain-clause-built
returns-in-Plain-clause-built c = λ cell stands.
    let m : MachineData = c.args.machine.now in
    let s : Seen = c.args.aig.now in
    let literals : List ℕ = c.args.literals.now in
    let view : RegisterCell ℕ ℕ = register_seen c.register-register.result in
    let at = own_register m c.netlist-netlist.result.now c.args.reg view c.netlist-netlist.ensures.netlist (leb-false m.own_registers c.args.reg (sym c.if-is_delay.ensures)) c.register-register.ensures in
    let one = one_input m.circuit c.netlist-netlist.ensures.machine.well_formed c.args.reg view at (ap kind_seen c.in-Plain.is) in
    let net : ℕ = c.number-in-Plain.result in
    let first : slice_get view.inputs 0 ≡ Some net = slice_get-get_or view.inputs 0 c.index-register-0.result (omega (arith, one)) ∙ ap Some (sym c.number-in-Plain.ensures.number) in
    let small = register_inputs_within m.circuit c.netlist-netlist.ensures.machine.well_formed c.args.reg view at (length literals) (omega (arith, c.requires.literals)) 0 c.index-register-0.result (omega (arith, one)) in
    let below : net < length literals = omega (arith, small, c.number-in-Plain.ensures.number) in
    let v : ℕ = c.get-in-Plain.result in
    let is : v ≡ slice_index_or literals net 0 = c.get-in-Plain.ensures in
    subst (λ (z : RegisterCell ℕ ℕ). Built s s v (data_run (λ x. slice_index_or literals x 0) c.args.own z s)) (same_Some view cell (sym at ∙ stands))
    (plain_data (λ x. slice_index_or literals x 0) c.args.own view net v s (ap kind_seen c.in-Plain.is) first is (subst (λ a. IsTrue (aig_ops.is_valid s a)) (sym is) (valid_at aig_ops s literals net c.requires.valid below)))

pub returns-in_ok-push-in-Cell-clause-built : goal.returns-in_ok-push-in-Cell-clause-built
returns-in_ok-push-in-Cell-clause-built c =
    let m : MachineData = c.args.machine.now in
    let s : Seen = c.args.aig.now in
    let t : Seen = c.build_register.new.aig in
    let nets : ℕ → ℕ = λ x. slice_index_or c.args.literals.now x 0 in
    let view : RegisterCell ℕ ℕ = register_seen c.register-register.result in
    let at = own_register m c.netlist-netlist.result.now c.args.reg view c.netlist-netlist.ensures.netlist (leb-false m.own_registers c.args.reg (sym c.if-is_delay.ensures)) c.register-register.ensures in
    let ins : c.deref.result.now ≡ map nets view.inputs ++ c.args.own ∷ [] = c.deref.ensures.value ∙ (c.in_ok-push-in-Cell.ensures.items ∙ ap (λ l. l ++ c.args.own ∷ []) c.in_ok-read_literals-in-Cell.ensures.read) in
    if_ok _ _ c.build_register.result (λ v h cell stands.
    subst (λ (z : RegisterCell ℕ ℕ). Built s t v (data_run nets c.args.own z s)) (same_Some view cell (sym at ∙ stands))
    (subst (λ k. Built s t v (build_term aig_ops (map nets view.inputs ++ c.args.own ∷ []) (register_term k) s)) (sym (ap kind_seen c.in-Cell.is))
    (subst (λ l. Built s t v (build_term aig_ops l (register_term (Flop c.in-Cell.cell.now)) s)) ins h))) c.build_register.ensures.built

pub returns-in_ok-push-in-Cell-clause-failed : goal.returns-in_ok-push-in-Cell-clause-failed
returns-in_ok-push-in-Cell-clause-failed c =
    let m : MachineData = c.args.machine.now in
    let s : Seen = c.args.aig.now in
    let nets : ℕ → ℕ = λ x. slice_index_or c.args.literals.now x 0 in
    let view : RegisterCell ℕ ℕ = register_seen c.register-register.result in
    let at = own_register m c.netlist-netlist.result.now c.args.reg view c.netlist-netlist.ensures.netlist (leb-false m.own_registers c.args.reg (sym c.if-is_delay.ensures)) c.register-register.ensures in
    let ins : c.deref.result.now ≡ map nets view.inputs ++ c.args.own ∷ [] = c.deref.ensures.value ∙ (c.in_ok-push-in-Cell.ensures.items ∙ ap (λ l. l ++ c.args.own ∷ []) c.in_ok-read_literals-in-Cell.ensures.read) in
    if_err _ _ c.build_register.result (λ fault h cell stands.
    subst (λ (z : RegisterCell ℕ ℕ). MayFail (data_run nets c.args.own z s).domain fault) (same_Some view cell (sym at ∙ stands))
    (subst (λ k. MayFail (build_term aig_ops (map nets view.inputs ++ c.args.own ∷ []) (register_term k) s).domain fault) (sym (ap kind_seen c.in-Cell.is))
    (subst (λ l. MayFail (build_term aig_ops l (register_term (Flop c.in-Cell.cell.now)) s).domain fault) ins h))) c.build_register.ensures.failed
