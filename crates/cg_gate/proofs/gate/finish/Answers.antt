use Rattle.std.proofs.Common.{ℕ, List, Option, ap, sym, subst, ◌∙◌}
use Rattle.std.specs.Option.{option_map}
use Rattle.cg_blif_text.specs.Canonical.{blif}
use Rattle.cg_gate.specs.Gating.{gated_data}
use Rattle.cg_gate.specs.Left.{TellsOthers, texts_with}
use Rattle.cg_gate.specs.Played.{Saying}
use Rattle.cg_gate.proofs.gate.finish.Goals as goal
use Rattle.cg_netlist.specs.Circuit.{Circuit}
use Rattle.cg_plan.specs.Planning.{told}
use Rattle.cg_register_text.specs.Words.{IsToldOf}
use Rattle.cg_stimulus.specs.Inputs.{IsFor}

pub tell-others-requires-clause-told : goal.tell-others-requires-clause-told
tell-others-requires-clause-told g c =
    let gated = c.args.gated in
    subst (λ (d : Circuit). IsToldOf (gated_data c.args.request.now d gated.netlist gated.outcomes (told gated.plan))) (sym c.read.ensures) c.requires.told

pub tell-others-requires-clause-read : goal.tell-others-requires-clause-read
tell-others-requires-clause-read g c = λ rows there. subst (λ (d : Circuit). IsFor d rows) (sym c.read.ensures) (c.requires.read rows there)

pub returns-in_ok-texts-in-Ok-clause-texts : goal.returns-in_ok-texts-in-Ok-clause-texts
returns-in_ok-texts-in-Ok-clause-texts g c =
    let gated = c.args.gated in
    let request = c.args.request.now in
    let says : Option Saying = option_map (λ w. (goal.Watcher-dyn g (w.vtable, w.value)).says w.value) c.args.watcher in
    let others = c.in-Ok.others in
    record {
      others = others;
      tells = subst (λ (d : Circuit). TellsOthers request says d gated others) c.read.ensures c.in-Ok.ensures.texts;
      is = c.in_ok-texts-in-Ok.ensures ∙ ap (λ (p : Option (List ℕ) × Circuit). texts_with others p.0 (blif p.1)) c.to_be_stored-proof.ensures;
    }
