use Rattle.std.proofs.Common.{◌∙◌, sym, ap, arith, length}
use Rattle.std.proofs.lemmas.List.{length-drop}
use Rattle.cg_liberty_text.proofs.TokensLeft.{blank_step, token_step}
use Rattle.cg_liberty_text.proofs.tokens.Tokens.next.Goals as goal

pub gaps-preserved : goal.gaps-preserved
gaps-preserved c =
    let split = c.in-Some.ensures in
    let inside = c.gaps.self-inside in
    let left = blank_step c.gaps.fresh inside.at c.in-Some.first.byte c.in-Blank.more inside.rest.now c.in-Some.first.rest.now split c.in-Blank.ensures.lexeme in
    let lengths = ap length split in
    let behind = ap length c.behind-self-inside.ensures ∙ length-drop c.in-Blank.more c.in-Some.first.rest.now in
    record {
      left = rw c.behind-self-inside.ensures (sym left ∙ c.gaps.invariant.left);
      end = c.gaps.invariant.end;
      within = omega (arith, c.in-Blank.ensures.within);
    }

pub returns-in-Token-clause-token : goal.returns-in-Token-clause-token
returns-in-Token-clause-token c =
    let split = c.in-Some.ensures in
    let inside = c.gaps.self-inside in
    let step = token_step c.gaps.fresh inside.at c.in-Some.first.byte c.in-Token.more c.in-Token.kind inside.rest.now c.in-Some.first.rest.now split c.in-Token.ensures.lexeme in
    let text = c.text_of-text.ensures c.in-Some.first.byte c.in-Some.first.rest.now split in
    rw (text, c.behind-self-inside-in-Token.ensures) (sym c.gaps.invariant.left ∙ step)
