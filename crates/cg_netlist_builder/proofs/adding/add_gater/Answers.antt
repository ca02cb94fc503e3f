use Rattle.std.proofs.Common.{◌∙◌, ap, [], ◌∷◌, ◌++◌, inl}
use Rattle.std.specs.Option.{option_copied, option_to_list}
use Rattle.std.proofs.lemmas.Result.{MatchResult-weaker, err_from_is_err_and}
use Rattle.cg_netlist_builder.proofs.AddedParts.{fault_first, fault_then, puts_gater, two_words}
use Rattle.cg_netlist_builder.proofs.Mentions.{with_names_grows}
use Rattle.cg_netlist_builder.proofs.adding.add_gater.Goals as goal

pub returns-in_err-clock : goal.returns-in_err-clock
returns-in_err-clock c =
    let p = err_from_is_err_and c.from_residual-in_err-clock.result c.from_residual-in_err-clock.ensures.1 in
    rw (p.1, p.2) (fault_first c.args.names.now (c.args.words.clock.now ∷ []) (c.args.words.enable.now ∷ (option_to_list (option_copied c.args.words.test) ++ c.args.words.output.now ∷ [])) c.in_err-clock.field-0.0 c.in_err-clock.ensures.mentions (λ names. with_names_grows names (c.args.words.enable.now ∷ (option_to_list (option_copied c.args.words.test) ++ c.args.words.output.now ∷ []))))

pub returns-in_err-enable : goal.returns-in_err-enable
returns-in_err-enable c =
    let later = option_to_list (option_copied c.args.words.test) ++ c.args.words.output.now ∷ [] in
    let p = err_from_is_err_and c.from_residual-in_err-enable.result c.from_residual-in_err-enable.ensures.1 in
    rw (p.1, p.2) (fault_then c.args.names.now c.mention.new.names (c.args.words.clock.now ∷ []) (c.args.words.enable.now ∷ later) c.in_err-enable.field-0.0 c.in_ok-clock.ensures.mentions.names
    (fault_first c.mention.new.names (c.args.words.enable.now ∷ []) later c.in_err-enable.field-0.0 c.in_err-enable.ensures.mentions (λ names. with_names_grows names later)))

pub returns-in_err-test : goal.returns-in_err-test
returns-in_err-test c =
    let test = option_to_list (option_copied c.args.words.test) in
    let p = err_from_is_err_and c.from_residual-in_err-test.result c.from_residual-in_err-test.ensures.1 in
    rw (p.1, p.2) (fault_then c.args.names.now c.mention-2.new.names (c.args.words.clock.now ∷ c.args.words.enable.now ∷ []) (test ++ c.args.words.output.now ∷ []) c.in_err-test.field-0.0 (two_words c.args.names.now c.mention.new.names c.mention-2.new.names c.args.words.clock.now c.args.words.enable.now c.in_ok-clock.ensures.mentions.names c.in_ok-enable.ensures.mentions.names)
    (fault_first c.mention-2.new.names test (c.args.words.output.now ∷ []) c.in_err-test.field-0.0 c.in_err-test.ensures.mentions (λ names. with_names_grows names (c.args.words.output.now ∷ []))))

pub returns-in_err-output : goal.returns-in_err-output
returns-in_err-output c =
    let test = option_to_list (option_copied c.args.words.test) in
    let p = err_from_is_err_and c.from_residual-in_err-output.result c.from_residual-in_err-output.ensures.1 in
    rw (p.1, p.2) (fault_then c.args.names.now c.mention-2.new.names (c.args.words.clock.now ∷ c.args.words.enable.now ∷ []) (test ++ c.args.words.output.now ∷ []) c.in_err-output.field-0.0 (two_words c.args.names.now c.mention.new.names c.mention-2.new.names c.args.words.clock.now c.args.words.enable.now c.in_ok-clock.ensures.mentions.names c.in_ok-enable.ensures.mentions.names)
    (fault_then c.mention-2.new.names c.mention_given.new.names test (c.args.words.output.now ∷ []) c.in_err-output.field-0.0 c.in_ok-test.ensures.mentions.names c.in_err-output.ensures.mentions))

pub returns : goal.returns
returns c = MatchResult-weaker c.put.result c.put.ensures
    (λ x e. puts_gater c.args.names.now c.mention.new.names c.mention-2.new.names c.mention_given.new.names c.mention-3.new.names c.args.words.cell.now c.args.words.clock.now c.args.words.enable.now (option_copied c.args.words.test) c.args.words.output.now c.in_ok-clock.clock c.in_ok-enable.enable c.in_ok-test.test c.in_ok-output.output c.args.gaters.now.items c.put.new.parts.items
    c.in_ok-clock.ensures.mentions c.in_ok-enable.ensures.mentions c.in_ok-test.ensures.mentions c.in_ok-output.ensures.mentions (e ∙ ap (λ k. c.args.gaters.now.items ++ record { clock = c.in_ok-clock.clock; enable = c.in_ok-enable.enable; test = c.in_ok-test.test; output = c.in_ok-output.output; cell = k } ∷ []) c.in_ok-cell.ensures.cases))
    (λ f e. inl e)
