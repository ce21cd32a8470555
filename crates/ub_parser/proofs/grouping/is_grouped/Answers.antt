use Rattle.std.proofs.Common.{◌≢◌, ◌∙◌, arith, sym}
use Rattle.std.proofs.lemmas.List.Elements.{All-more}
use Rattle.ub_lexer.specs.Tokens.{text_of}
use Rattle.ub_lexer.specs.declared.token.Token.{Token}
use Rattle.ub_parser.proofs.FirstFacts.{fails}
use Rattle.ub_parser.proofs.GroupFacts.{no_image}
use Rattle.ub_parser.proofs.grouping.is_grouped.Goals as goal

pub text-requires : goal.text-requires
text-requires c = c.requires.group c.loop-other.other-index _ c.loop-other-test.true

pub text-requires-in-loop-other : goal.text-requires-in-loop-other
text-requires-in-loop-other c = c.requires.name

pub loop-other-preserved : goal.loop-other-preserved
loop-other-preserved c =
    let differ = fails c.is_same.result _ c.is_same.ensures c.if-is_same.false in
    All-more (λ (other : Token). text_of c.args.source.now other ≢ text_of c.args.source.now c.args.name.now) c.args.group.now c.loop-other.other-index _ c.loop-other-test.true
    c.loop-other.invariant (λ e. differ (c.text.ensures ∙ e ∙ sym c.text-in-loop-other.ensures))

pub returns : goal.returns
returns c =
    no_image (λ (t : Token). text_of c.args.source.now t) c.args.group.now c.loop-other.other-index (text_of c.args.source.now c.args.name.now) (omega arith) c.loop-other.invariant
