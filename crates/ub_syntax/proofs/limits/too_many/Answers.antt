-- What was counted and what is still to be counted are all marks.
use Rattle.std.proofs.Common.{sym, ◌∙◌, refl, rules}
use Rattle.ub_syntax.specs.Grammar.{lexemes}
use Rattle.ub_syntax.proofs.Counting.{span_of, counted_more, counted_told, counted_all, insert_told}
use Rattle.ub_syntax.proofs.Inserts.{is_insert, no_insert, begins_insert, begins_other}
use Rattle.ub_syntax.proofs.limits.too_many.Goals as goal

pub symbol_of-requires-clause-span : goal.symbol_of-requires-clause-span
symbol_of-requires-clause-span c =
    (span_of c.args.source.now c.args.tokens.now c.in_ok-first.others.now c.in_ok-first.first.now c.loop-token.token-index _ c.in_ok-first.ensures.cases.0 c.requires c.loop-token-test.true).0

pub symbol_of-requires-clause-within : goal.symbol_of-requires-clause-within
symbol_of-requires-clause-within c =
    (span_of c.args.source.now c.args.tokens.now c.in_ok-first.others.now c.in_ok-first.first.now c.loop-token.token-index _ c.in_ok-first.ensures.cases.0 c.requires c.loop-token-test.true).1

pub returns-in-Some : goal.returns-in-Some
returns-in-Some c =
    counted_told c.args.source.now c.args.tokens.now c.in_ok-first.others.now c.loop-token.token-index c.loop-token.counter.previous c.loop-token.counter.symbol
    c.loop-token.counter.parts c.loop-token.counter.comparisons _ _ c.symbol_of.result c.read.result c.in-Some.past c.read.new.self.parts c.read.new.self.comparisons
    c.loop-token.invariant c.loop-token-test.true refl c.symbol_of.ensures.symbol c.read.ensures.tells c.in-Some.is
    (begins_other c.args.source.now c.args.tokens.now c.in_ok-first.others.now c.in_ok-first.first.now c.symbol_of-symbol.result c.in_ok-first.ensures.cases.0
    c.symbol_of-symbol.ensures.symbol (no_insert c.symbol_of-symbol.result (sym c.eq.ensures ∙ c.if-eq.false)))

pub loop-token-preserved : goal.loop-token-preserved
loop-token-preserved c =
    counted_more c.args.source.now c.args.tokens.now c.in_ok-first.others.now c.loop-token.token-index c.loop-token.counter.previous c.loop-token.counter.symbol
    c.loop-token.counter.parts c.loop-token.counter.comparisons _ _ c.symbol_of.result c.read.result c.read.new.self.previous c.read.new.self.symbol
    c.read.new.self.parts c.read.new.self.comparisons c.loop-token.invariant c.loop-token-test.true refl c.symbol_of.ensures.symbol c.read.ensures.tells
    c.read.ensures.previous c.read.ensures.symbol c.in_default.is

pub returns : goal.returns
returns c =
    counted_all c.args.source.now c.args.tokens.now c.in_ok-first.others.now c.loop-token.token-index c.loop-token.counter.previous c.loop-token.counter.symbol
    c.loop-token.counter.parts c.loop-token.counter.comparisons c.loop-token-test.false c.loop-token.invariant
    (begins_other c.args.source.now c.args.tokens.now c.in_ok-first.others.now c.in_ok-first.first.now c.symbol_of-symbol.result c.in_ok-first.ensures.cases.0
    c.symbol_of-symbol.ensures.symbol (no_insert c.symbol_of-symbol.result (sym c.eq.ensures ∙ c.if-eq.false)))

pub loop-token-init : goal.loop-token-init
loop-token-init c = search rules

pub returns-then-eq : goal.returns-then-eq
returns-then-eq c s is =
    insert_told (lexemes c.args.source.now c.args.tokens.now) s
    (begins_insert c.args.source.now c.args.tokens.now c.in_ok-first.others.now c.in_ok-first.first.now c.symbol_of-symbol.result c.in_ok-first.ensures.cases.0
    c.symbol_of-symbol.ensures.symbol (is_insert c.symbol_of-symbol.result (sym c.eq.ensures ∙ c.if-eq.true))) is
