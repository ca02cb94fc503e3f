use Rattle.std.proofs.Common.{bit_and, bit_or, length, slice_index_or, sym, subst}
use Rattle.cg_cell.specs.Cover.{cover_value}
use Rattle.cg_cell.specs.declared.fit.FitKind.{FitKind}
use Rattle.cg_machine.specs.Gates.{HasInputs, gate_cover, inverter_cover}
use Rattle.cg_hold.proofs.GateWords.{and_word, inverter_word, or_word}
use Rattle.cg_word.specs.Words.{IsWord, lane}
use Rattle.cg_hold.proofs.words.gate_word.Goals as goal

pub returns-in-Inv : goal.returns-in-Inv
returns-in-Inv c =
    subst (λ (kind : FitKind). IsWord c.inverse.result (λ i. cover_value (gate_cover kind) (lane i c.args.inputs.now))) (sym c.in-Inv.is)
    (subst (λ word. IsWord word (λ i. cover_value inverter_cover (lane i c.args.inputs.now))) (sym c.inverse.ensures)
    (inverter_word c.args.inputs.now (subst (λ (kind : FitKind). HasInputs kind (length c.args.inputs.now)) c.in-Inv.is c.requires)))

pub returns-in-And2 : goal.returns-in-And2
returns-in-And2 c =
    subst (λ (kind : FitKind). IsWord (bit_and (slice_index_or c.args.inputs.now 0 0) (slice_index_or c.args.inputs.now 1 0)) (λ i. cover_value (gate_cover kind) (lane i c.args.inputs.now))) (sym c.in-And2.is)
    (and_word c.args.inputs.now (subst (λ (kind : FitKind). HasInputs kind (length c.args.inputs.now)) c.in-And2.is c.requires))

pub returns-in-Or2 : goal.returns-in-Or2
returns-in-Or2 c =
    subst (λ (kind : FitKind). IsWord (bit_or (slice_index_or c.args.inputs.now 0 0) (slice_index_or c.args.inputs.now 1 0)) (λ i. cover_value (gate_cover kind) (lane i c.args.inputs.now))) (sym c.in-Or2.is)
    (or_word c.args.inputs.now (subst (λ (kind : FitKind). HasInputs kind (length c.args.inputs.now)) c.in-Or2.is c.requires))
