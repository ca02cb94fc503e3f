use Rattle.std.proofs.Common.{◌+◌, ◌&&◌, ◌∙◌, ap, drop, not, sym}
use Rattle.std.specs.List.{list_all}
use Rattle.cg_net.specs.Names.{is_known}
use Rattle.cg_verilog.proofs.InitsSummed.{all_left, none_known, some_known}
use Rattle.cg_verilog.proofs.inits.are_known.Goals as goal

pub returns-then-is_none : goal.returns-then-is_none
returns-then-is_none c =
    let names = c.args.names.now in
    let some = c.args.some.now in
    let name = c.name.result.now in
    sym (c.names.invariant
    ∙ (all_left (is_known names) some c.names.number name c.name.ensures
    ∙ ap (λ b. b && list_all (is_known names) (drop (c.names.number + 1) some)) (none_known names name c.find.result c.find.ensures (c.is_none.ensures ∙ ap not c.if-is_none.true))))

pub names-preserved : goal.names-preserved
names-preserved c =
    let names = c.args.names.now in
    let some = c.args.some.now in
    let name = c.name.result.now in
    c.names.invariant
    ∙ (all_left (is_known names) some c.names.number name c.name.ensures
    ∙ ap (λ b. b && list_all (is_known names) (drop (c.names.number + 1) some)) (some_known names name c.find.result c.find.ensures (c.is_none.ensures ∙ ap not c.if-is_none.false)))
