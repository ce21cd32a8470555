use Rattle.ub_syntax.proofs.SymbolFacts.{among_here, among_later}
use Rattle.ub_syntax.proofs.symbol.symbol_among.Goals as goal

pub returns-then-eq_ignore_ascii_case : goal.returns-then-eq_ignore_ascii_case
returns-then-eq_ignore_ascii_case c =
    among_here (λ word. (word.0.now, word.1)) c.args.words.now c.loop-word.word-index _ c.args.text.now _ _ _ c.loop-word-test.true c.loop-word.invariant
    c.as_bytes.ensures.value c.eq_ignore_ascii_case.ensures.test c.if-eq_ignore_ascii_case.true

pub loop-word-preserved : goal.loop-word-preserved
loop-word-preserved c =
    among_later (λ word. (word.0.now, word.1)) c.args.words.now c.loop-word.word-index _ c.args.text.now _ _ _ c.loop-word-test.true c.loop-word.invariant
    c.as_bytes.ensures.value c.eq_ignore_ascii_case.ensures.test c.if-eq_ignore_ascii_case.false
