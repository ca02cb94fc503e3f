use Rattle.std.proofs.Common.{◌≡◌, false, is_some, length, sym, ◌∙◌, ap, arith}
use Rattle.std.specs.Option.{option_copied}
use Rattle.cg_stage_list_laws.specs.Literals.{literals_of}
use Rattle.cg_machine.specs.Machine.{enable_of}
use Rattle.cg_hold.proofs.OfRegister.{choice_fits, literals_all}
use Rattle.cg_hold.proofs.Taken.{chosen_next, chosen_same, none_of_none, none_of_some, on_ok_both, wide_small}
use Rattle.cg_hold.proofs.candidates.Chosen.look.Goals as goal
use Rattle.cg_stage_list_laws.proofs.Mapped.{none_option}

pub enable-requires : goal.enable-requires
enable-requires c = let own = c.netlist-netlist.ensures.machine.own_registers in omega (arith, own, c.requires.register)

pub returns-then-is_some-clause-chosen : goal.returns-then-is_some-clause-chosen
returns-then-is_some-clause-chosen c =
    let m = c.args.search.now.machine.now in
    chosen_same m (option_copied c.args.search.now.counts) c.args.search.now.width c.args.reg c.args.self.now.lists.items c.args.self.now.wide
    (none_of_some (enable_of m c.args.reg) (ap is_some (sym c.enable.ensures) ∙ (sym c.is_some.ensures ∙ c.if-is_some.true))) c.requires.chosen

pub choose-requires-clause-free : goal.choose-requires-clause-free
choose-requires-clause-free c =
    none_option (enable_of c.args.search.now.machine.now c.args.reg) (ap is_some (sym c.enable.ensures) ∙ (sym c.is_some.ensures ∙ c.if-is_some.false))

pub note-requires-clause-wide : goal.note-requires-clause-wide
note-requires-clause-wide c =
    let m = c.args.search.now.machine.now in
    let good = c.netlist-netlist.ensures.machine in
    let small = wide_small m (option_copied c.args.search.now.counts) c.args.search.now.width c.args.reg c.args.self.now.lists.items c.args.self.now.wide c.requires.chosen in
    let own = good.own_registers in
    let few = good.few_registers in
    omega (arith, small, own, few, c.requires.register)

pub note-requires-clause-place : goal.note-requires-clause-place
note-requires-clause-place c =
    let m = c.args.search.now.machine.now in
    let counts = option_copied c.args.search.now.counts in
    choice_fits m c.args.reg c.args.search.now.width (literals_of m counts c.args.reg) c.in-Ok.choice (length c.args.self.now.lists.items) (literals_all m c.args.reg counts) c.requires.chosen.count c.in-Ok.ensures

pub returns-in-Ok-clause-chosen : goal.returns-in-Ok-clause-chosen
returns-in-Ok-clause-chosen c =
    let m = c.args.search.now.machine.now in
    let counts = option_copied c.args.search.now.counts in
    let r = c.args.reg in
    let free : is_some (enable_of m r) ≡ false = ap is_some (sym c.enable.ensures) ∙ (sym c.is_some.ensures ∙ c.if-is_some.false) in
    let fits = choice_fits m r c.args.search.now.width (literals_of m counts r) c.in-Ok.choice (length c.args.self.now.lists.items) (literals_all m r counts) c.requires.chosen.count c.in-Ok.ensures in
    on_ok_both c.note.result
    (λ lists wide. chosen_next m counts c.args.search.now.width r c.args.self.now.lists.items c.args.self.now.wide c.in-Ok.choice c.note.new.self.lists.items c.note.new.self.wide (none_of_none (enable_of m r) free) c.requires.chosen c.in-Ok.ensures fits lists wide)
    c.note.ensures.lists c.note.ensures.wide
