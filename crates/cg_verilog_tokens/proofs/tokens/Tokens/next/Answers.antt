use Rattle.std.proofs.Common.{◌∙◌, sym, ap, arith, length, refl}
use Rattle.std.proofs.lemmas.List.{length-drop}
use Rattle.cg_text.specs.Lines.{end_line}
use Rattle.cg_verilog_text.specs.declared.kind.Kind.TheVariants.{Escaped}
use Rattle.cg_verilog_tokens.proofs.TokensLeft.{blank_step, token_step}
use Rattle.cg_verilog_tokens.proofs.TokensStay.{token_fresh, token_line}
use Rattle.cg_verilog_tokens.proofs.tokens.Tokens.next.Goals as goal

pub gaps-preserved : goal.gaps-preserved
gaps-preserved c =
    let split = c.in-Some.ensures in
    let inside = c.gaps.self-inside in
    let left = blank_step (end_line inside.text.now) inside.fresh inside.line c.in-Some.first.byte c.in-Blank.more inside.rest.now c.in-Some.first.rest.now split c.in-Blank.ensures.lexeme in
    let lengths = ap length split in
    let behind = ap length c.behind-self-inside.ensures ∙ length-drop c.in-Blank.more c.in-Some.first.rest.now in
    record {
      left = rw (c.behind-self-inside.ensures, c.passed-place.ensures.fresh, c.passed-place.ensures.line) (sym left ∙ c.gaps.invariant.left);
      end = c.gaps.invariant.end;
      within = omega (arith, c.in-Blank.ensures.within);
      few = c.gaps.invariant.few;
    }

pub returns-in-Token-clause-token : goal.returns-in-Token-clause-token
returns-in-Token-clause-token c =
    let split = c.in-Some.ensures in
    let inside = c.gaps.self-inside in
    let step = token_step (end_line inside.text.now) inside.fresh inside.line c.in-Some.first.byte c.in-Token.more c.in-Token.kind inside.rest.now c.in-Some.first.rest.now split c.in-Token.ensures.lexeme in
    let text = c.text_of-text.ensures c.in-Some.first.byte c.in-Some.first.rest.now split in
    let line = token_line inside.fresh inside.line c.in-Some.first.byte c.in-Some.first.rest.now c.in-Token.kind c.in-Token.more c.in-Token.ensures.lexeme in
    let fresh = token_fresh inside.fresh c.in-Some.first.byte c.in-Some.first.rest.now c.in-Token.kind c.in-Token.more c.in-Token.ensures.lexeme in
    rw (c.new.ensures, text, c.behind-self-inside-in-Token.ensures) (sym c.gaps.invariant.left ∙ (step ∙ rw (fresh, line) refl))

pub returns-in-Escaped-clause-token : goal.returns-in-Escaped-clause-token
returns-in-Escaped-clause-token c =
    let split = c.in-Some.ensures in
    let inside = c.gaps.self-inside in
    let step = token_step (end_line inside.text.now) inside.fresh inside.line c.in-Some.first.byte c.in-Escaped.more Escaped inside.rest.now c.in-Some.first.rest.now split c.in-Escaped.ensures.lexeme in
    let line = token_line inside.fresh inside.line c.in-Some.first.byte c.in-Some.first.rest.now Escaped c.in-Escaped.more c.in-Escaped.ensures.lexeme in
    let fresh = token_fresh inside.fresh c.in-Some.first.byte c.in-Some.first.rest.now Escaped c.in-Escaped.more c.in-Escaped.ensures.lexeme in
    rw (c.known.ensures, c.front-text.ensures, c.behind-self-inside-in-Escaped.ensures) (sym c.gaps.invariant.left ∙ (step ∙ rw (fresh, line) refl))
