use Rattle.std.proofs.Common.{List, subst, sym}
use Rattle.ub_lexer.specs.declared.token.Token.{Token}
use Rattle.ub_lexer.proofs.Rows.{IsCutUpTo, cut_more, cut_all}
use Rattle.ub_lexer.proofs.Spans.{AreSpelled-tokens, SpansAscend-tokens}
use Rattle.ub_lexer.proofs.Unique.{same_tokens}
use Rattle.ub_lexer.proofs.lexer.lex.Goals as goal

pub loop-at-preserved : goal.loop-at-preserved
loop-at-preserved c =
    let pushed = c.in_ok-push_cut.ensures in
    subst (λ (ts : List Token). IsCutUpTo c.args.source.now c.piece_at-cut.result.to ts) (sym pushed)
    (cut_more c.args.source.now c.loop-at.tokens.items c.loop-at.at c.piece_at-cut.result.to c.piece_at-cut.result.kind c.loop-at.invariant c.piece_at-cut.ensures)

pub returns : goal.returns
returns c =
    let source = c.args.source.now in
    let ts = c.loop-at.tokens.items in
    let all = cut_all source ts c.loop-at.at c.loop-at.invariant c.loop-at-test.false in
    record {
      tokens = all;
      only = λ us h. same_tokens source ts us all h;
      spelled = AreSpelled-tokens source ts all;
      spans = SpansAscend-tokens source ts all;
    }
