use Rattle.std.proofs.Common.{◌≡◌, ◌++◌, ◌∷◌, ℕ, List, [], ap, sym, ◌∙◌, arith}
use Rattle.std.specs.Option.{option_copied, option_to_list}
use Rattle.std.proofs.lemmas.List.{append-nil}
use Rattle.cg_netlist_telling.specs.Names.{bytes_of}
use Rattle.cg_insert.proofs.GatedParts.{few_enables}
use Rattle.cg_insert.proofs.NamesWhole.{names_whole}
use Rattle.cg_insert.proofs.names.gated_names.Goals as goal
use Rattle.cg_insert.proofs.names.gated_names.Goals.{in-Some+in_ok-push_copy, in_default}

pub push_numbered-requires-2 : goal.push_numbered-requires-2
push_numbered-requires-2 c = omega (arith, c.from-added.ensures, c.nets.ensures, c.netlist-netlist.ensures.machine.small, few_enables c.args.machine.now c.netlist-netlist.ensures.machine, c.requires)

pub returns : goal.returns
returns c =
    let middle : bytes_of c.match-test.more.items ≡ bytes_of c.push_numbered.new.names.items ++ option_to_list (option_copied c.args.test) = elim c.match-test.branch [
      | in-Some+in_ok-push_copy w ↦
          rw w.more-is (w.in_ok-push_copy.ensures
          ∙ (ap (λ (n : List ℕ). bytes_of c.push_numbered.new.names.items ++ n ∷ []) w.bytes.ensures.bytes ∙ ap (λ o. bytes_of c.push_numbered.new.names.items ++ option_to_list (option_copied o)) (sym w.in-Some.is)))
      | in_default w ↦
          rw w.more-is (sym (append-nil (bytes_of c.push_numbered.new.names.items)) ∙ ap (λ o. bytes_of c.push_numbered.new.names.items ++ option_to_list (option_copied o)) (sym w.in_default.is))
    ] in
    c.with_more.ensures ∙ names_whole c.args.machine.now (option_copied c.args.test) c.prefix.ensures.names c.netlist-netlist.result.now c.netlist-netlist.ensures.netlist c.prefix.result.now c.prefix-2.result.now c.prefix.ensures.prefix c.prefix-2.ensures.prefix
    c.from-added.result c.nets.result c.nets-2.result c.args.enables c.from-added.ensures c.nets.ensures c.nets-2.ensures.count c.requires
    (bytes_of c.new-more.result.items) (bytes_of c.push_numbered.new.names.items) (bytes_of c.match-test.more.items) (bytes_of c.push_numbered-2.new.names.items) (ap bytes_of c.new-more.ensures.items) c.in_ok-push_numbered.ensures middle c.in_ok-push_numbered-2.ensures
