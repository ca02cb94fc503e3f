use Rattle.std.proofs.Common.{◌≡◌, ◌∷◌, [], not, refl, subst, Err, None}
use Rattle.std.specs.List.{find}
use Rattle.std.proofs.lemmas.Option.{slice_get_read}
use Rattle.cg_netlist_placed.specs.PinNets.{PinNet}
use Rattle.cg_verilog_text.specs.HasText.{is_ascii}
use Rattle.cg_verilog_out.specs.Refusing.{AreLookedAt}
use Rattle.cg_verilog_out.proofs.LookedAt.{pins_fault, pins_next}
use Rattle.cg_verilog_out.proofs.refusals.check_pins.Goals as goal

pub returns-in-Err : goal.returns-in-Err
returns-in-Err c =
    pins_fault c.args.pins.now c.pins.pin-index c.pin-item.result c.in-Err.fault (slice_get_read c.args.pins.now _ c.pins.pin-index c.pin-item.result refl c.pins-test.true c.pin-item.is) c.pins.invariant
    (subst (λ (p : PinNet). AreLookedAt (p.pin ∷ []) (Err c.in-Err.fault)) c.pin.view_is c.in-Err.ensures)

pub pins-preserved : goal.pins-preserved
pins-preserved c =
    pins_next c.args.pins.now c.pins.pin-index c.pin-item.result (slice_get_read c.args.pins.now _ c.pins.pin-index c.pin-item.result refl c.pins-test.true c.pin-item.is) c.pins.invariant
    (subst (λ (p : PinNet). find (λ name. not (is_ascii name)) (p.pin ∷ []) ≡ None) c.pin.view_is c.in-Ok.ensures)
