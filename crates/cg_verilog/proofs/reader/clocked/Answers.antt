use Rattle.std.proofs.Common.{[], ◌≡◌, ◌∷◌, ◌∙◌, Err, Option, Result, ap, subst, sym}
use Rattle.cg_limit.specs.declared.Limit.{Limit}
use Rattle.cg_net.specs.Names.{NetName}
use Rattle.cg_netlist.specs.declared.fault.AddFault.{AddFault}
use Rattle.cg_netlist_parts.specs.Part.{Clock}
use Rattle.cg_netlist_parts.specs.Said.{Said}
use Rattle.cg_verilog_text.specs.Telling.{with_parts}
use Rattle.cg_verilog_text.specs.declared.fault.VerilogFault.TheVariants as faults
use Rattle.cg_verilog.specs.Ending.{clocked, clocked_said}
use Rattle.cg_verilog.specs.Hearing.{Hears}
use Rattle.cg_verilog.proofs.HearingLemmas.{hears_one}
use Rattle.cg_verilog.proofs.reader.clocked.Goals as goal

pub returns-in-Err-Limit-clause-built : goal.returns-in-Err-Limit-clause-built
returns-in-Err-Limit-clause-built c =
    let b = c.args.builder in
    let new = c.clock.new.self in
    let said : Result Said Limit = with_parts (Clock c.bytes.result.now ∷ []) b.said in
    let hears : Hears b new said (Err c.in-Err-Limit.field-0) =
    subst (λ (r : Result (Unit {0}) AddFault). Hears b new said r) c.in-Err-Limit.is (hears_one b new (Clock c.bytes.result.now) c.clock.result c.requires c.clock.ensures) in
    let passed : said ≡ Err c.in-Err-Limit.limit = subst (λ (f : AddFault). Hears b new said (Err f)) c.in-Err-Limit.field-0-is hears in
    ap (λ (o : Option NetName). clocked o b) c.in-Some.is
    ∙ (ap (λ (n : NetName). clocked_said b (with_parts (Clock n ∷ []) b.said)) (sym c.bytes.ensures.bytes)
    ∙ (ap (clocked_said b) passed ∙ ap (λ l. Err (faults.Limit l)) (sym c.in-Err-Limit.limit-is)))
