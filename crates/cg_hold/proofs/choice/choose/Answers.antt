use Rattle.std.proofs.Common.{◌≡◌, ◌<◌, List, [], length, slice_get, vec_len, sym, ◌∙◌, ap, subst, true, arith}
use Rattle.std.specs.Option.{option_copied}
use Rattle.cg_limit.specs.Answers.{OrNoMemory}
use Rattle.cg_machine.specs.Claims.{Literal}
use Rattle.cg_net.specs.NetSets.{is_in}
use Rattle.cg_netlist.specs.declared.fault.AddFault.TheVariants.{NoMemory}
use Rattle.cg_stage_list_laws.specs.Literals.{both_literals, by_count, literals_of}
use Rattle.cg_stage_list_laws.specs.Supports.{in_net_order, input_cone}
use Rattle.cg_hold.specs.declared.choice.Choice.{Choice}
use Rattle.cg_hold.specs.inner.Choosing.{choice_by}
use Rattle.cg_hold.proofs.Alone.{alone_width}
use Rattle.cg_hold.proofs.OfRegister.{alone, literal_at, literals_all, ordered_twice, ordered_within}
use Rattle.cg_hold.proofs.Trials.{all_wide, no_literals, none_at_all, okay, some_literals}
use Rattle.cg_hold.proofs.choice.choose.Goals as goal

pub returns-then-wide : goal.returns-then-wide
returns-then-wide c =
    let m = c.args.search.now.machine.now in
    all_wide m c.args.search.now.width c.args.reg (literals_of m (option_copied c.args.search.now.counts) c.args.reg) (c.in_ok-wide.ensures c.if-wide.true)

pub literals_of-requires-clause-order : goal.literals_of-requires-clause-order
literals_of-requires-clause-order c =
    let m = c.args.search.now.machine.now in
    let is = c.deref.ensures.value ∙ c.in_ok-nets.ensures.order in
    is ∙ (ordered_twice m (input_cone m c.args.reg) ∙ ap (in_net_order m) (sym is))

pub returns-then-is_empty : goal.returns-then-is_empty
returns-then-is_empty c =
    let m = c.args.search.now.machine.now in
    let r = c.args.reg in
    let counts = option_copied c.args.search.now.counts in
    let good = c.netlist-netlist.ensures.machine in
    let own = good.own_registers in
    let literals = c.in_ok-literals.literals in
    let are : literals.items ≡ literals_of m counts r = c.in_ok-literals.ensures ∙ ap (λ ns. by_count counts (both_literals ns)) (c.deref.ensures.value ∙ c.in_ok-nets.ensures.order) in
    let none : literals_of m counts r ≡ [] = sym are ∙ no_literals literals.items (vec_len literals) c.is_empty.result (omega (arith, literals.ok.0)) c.is_empty.ensures c.if-is_empty.true in
    ap (choice_by m c.args.search.now.width r) none
    ∙ (none_at_all m c.args.search.now.width r (alone_width m r (omega (arith, own, c.requires.register)) c.requires.free (alone m r good counts none)) ∙ ap okay (sym c.without_literals.ensures))

pub choose_by_looking-requires-clause-look : goal.choose_by_looking-requires-clause-look
choose_by_looking-requires-clause-look c =
    let m = c.args.search.now.machine.now in
    let r = c.args.reg in
    let counts = option_copied c.args.search.now.counts in
    let nets = c.in_ok-nets.nets.items in
    let order : nets ≡ in_net_order m (input_cone m r) = c.in_ok-nets.ensures.order in
    let are : c.in_ok-literals.literals.items ≡ literals_of m counts r = c.in_ok-literals.ensures ∙ ap (λ ns. by_count counts (both_literals ns)) (c.deref.ensures.value ∙ order) in
    record {
      own = c.requires.register;
      free = c.requires.free;
      nets_are = λ y. ap (λ l. is_in l y) c.deref-2.ensures.value ∙ c.in_ok-nets.ensures.same y;
      within = λ y among. ordered_within m (input_cone m r) y (subst (λ l. is_in l y ≡ true) (c.deref-2.ensures.value ∙ order) among);
      cone_is = c.in_ok-cone.ensures;
      literals_of = λ k l at. literal_at m r (literals_of m counts r) k l (literals_all m r counts) (ap (λ ls. slice_get ls k) (sym (c.deref-3.ensures.value ∙ are)) ∙ at);
    }

pub choose_by_looking-requires-clause-some : goal.choose_by_looking-requires-clause-some
choose_by_looking-requires-clause-some c =
    let literals = c.in_ok-literals.literals in
    subst (λ (ls : List Literal). 0 < length ls) (sym c.deref-3.ensures.value)
    (some_literals literals.items (vec_len literals) c.is_empty.result (omega (arith, literals.ok.0)) c.is_empty.ensures c.if-is_empty.false)

pub returns : goal.returns
returns c =
    let m = c.args.search.now.machine.now in
    let r = c.args.reg in
    let w = c.args.search.now.width in
    let counts = option_copied c.args.search.now.counts in
    let are : c.in_ok-literals.literals.items ≡ literals_of m counts r = c.in_ok-literals.ensures ∙ ap (λ ns. by_count counts (both_literals ns)) (c.deref.ensures.value ∙ c.in_ok-nets.ensures.order) in
    subst (λ (ls : List Literal). OrNoMemory NoMemory (λ (t : Choice). t) c.choose_by_looking.result (choice_by m w r ls)) (c.deref-3.ensures.value ∙ are) c.choose_by_looking.ensures
