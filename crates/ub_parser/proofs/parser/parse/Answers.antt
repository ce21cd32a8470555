use Rattle.std.proofs.Common.{inr, arith}
use Rattle.ub_parser.proofs.FaultFacts.{syntax_first, deep_first}
use Rattle.ub_parser.proofs.ParseFacts.{nothing_accepted, bad_told, no_bad_told, large_told, no_large_told, no_syntax_told, statement_told, many_told, few_told, bad_low, large_low, only_grammar, only_many}
use Rattle.ub_parser.proofs.parser.parse.Goals as goal

-- src/parser.rt:38:9
pub returns-in-Some-clause-only : goal.returns-in-Some-clause-only
returns-in-Some-clause-only c =
    nothing_accepted c.args.source.now c.args.schema.now c.args.tokens.now _
    (bad_told c.args.source.now c.args.schema.now c.args.tokens.now c.bad_byte.result c.in-Some.fault c.in-Some.is c.bad_byte.ensures)

-- src/parser.rt:42:9
pub returns-in-Syntax-clause-refused : goal.returns-in-Syntax-clause-refused
returns-in-Syntax-clause-refused c =
    let none = no_bad_told c.args.source.now c.args.schema.now c.args.tokens.now c.bad_byte.result c.in_default.is c.bad_byte.ensures in
    inr (syntax_first c.args.source.now c.args.schema.now c.args.tokens.now none c.in-Syntax.at (rw c.in-Syntax.is at c.in_ok-verdict.ensures.verdict))

-- src/parser.rt:42:9
pub returns-in-Syntax-clause-only : goal.returns-in-Syntax-clause-only
returns-in-Syntax-clause-only c =
    let none = no_bad_told c.args.source.now c.args.schema.now c.args.tokens.now c.bad_byte.result c.in_default.is c.bad_byte.ensures in
    nothing_accepted c.args.source.now c.args.schema.now c.args.tokens.now _
    (syntax_first c.args.source.now c.args.schema.now c.args.tokens.now none c.in-Syntax.at (rw c.in-Syntax.is at c.in_ok-verdict.ensures.verdict))

-- src/parser.rt:45:9
pub returns-in-Some-number_too_large : goal.returns-in-Some-number_too_large
returns-in-Some-number_too_large c =
    let none = no_bad_told c.args.source.now c.args.schema.now c.args.tokens.now c.bad_byte.result c.in_default.is c.bad_byte.ensures in
    let syntax = no_syntax_told c.args.source.now c.args.schema.now c.args.tokens.now c.in_ok-verdict.verdict c.in_ok-verdict.ensures.verdict c.in_default-verdict.not-Syntax in
    let first = large_told c.args.source.now c.args.schema.now c.args.tokens.now c.number_too_large.result c.in-Some-number_too_large.fault none syntax c.in-Some-number_too_large.is c.number_too_large.ensures in
    record { accepted = tt; only = nothing_accepted c.args.source.now c.args.schema.now c.args.tokens.now _ first; refused = inr first; only_fault = only_grammar c.args.source.now c.args.schema.now c.args.tokens.now _ (large_low c.args.source.now c.args.schema.now c.args.tokens.now c.number_too_large.result c.in-Some-number_too_large.fault c.in-Some-number_too_large.is c.number_too_large.ensures) first; given = tt }

-- src/parser.rt:48:9
pub returns-in-TooDeep : goal.returns-in-TooDeep
returns-in-TooDeep c =
    let none = no_bad_told c.args.source.now c.args.schema.now c.args.tokens.now c.bad_byte.result c.in_default.is c.bad_byte.ensures in
    let large = no_large_told c.args.source.now c.args.schema.now c.args.tokens.now c.number_too_large.result c.in_default-number_too_large.is c.number_too_large.ensures in
    let first = deep_first c.args.source.now c.args.schema.now c.args.tokens.now none large c.in-TooDeep.at (rw c.in-TooDeep.is at c.in_ok-verdict.ensures.verdict) in
    record { accepted = tt; only = nothing_accepted c.args.source.now c.args.schema.now c.args.tokens.now _ first; refused = inr first; only_fault = only_grammar c.args.source.now c.args.schema.now c.args.tokens.now _ (omega arith) first; given = tt }

pub returns-in-Some-clause-only_fault : goal.returns-in-Some-clause-only_fault
returns-in-Some-clause-only_fault c =
    let is = bad_told c.args.source.now c.args.schema.now c.args.tokens.now c.bad_byte.result c.in-Some.fault c.in-Some.is c.bad_byte.ensures in
    only_grammar c.args.source.now c.args.schema.now c.args.tokens.now c.in-Some.fault
    (bad_low c.args.source.now c.args.schema.now c.args.tokens.now c.bad_byte.result c.in-Some.fault c.in-Some.is c.bad_byte.ensures) is

pub returns-in-Syntax-clause-only_fault : goal.returns-in-Syntax-clause-only_fault
returns-in-Syntax-clause-only_fault c =
    let none = no_bad_told c.args.source.now c.args.schema.now c.args.tokens.now c.bad_byte.result c.in_default.is c.bad_byte.ensures in
    only_grammar c.args.source.now c.args.schema.now c.args.tokens.now _ (omega arith)
    (syntax_first c.args.source.now c.args.schema.now c.args.tokens.now none c.in-Syntax.at (rw c.in-Syntax.is at c.in_ok-verdict.ensures.verdict))

pub returns-in-Some-too_many : goal.returns-in-Some-too_many
returns-in-Some-too_many c =
    let none = no_bad_told c.args.source.now c.args.schema.now c.args.tokens.now c.bad_byte.result c.in_default.is c.bad_byte.ensures in
    let large = no_large_told c.args.source.now c.args.schema.now c.args.tokens.now c.number_too_large.result c.in_default-number_too_large.is c.number_too_large.ensures in
    let is = statement_told c.args.source.now c.args.schema.now c.args.tokens.now c.in_ok-verdict.verdict c.in_ok-verdict.ensures.verdict c.in_default-verdict.not-Syntax c.in_default-verdict-2.not-TooDeep in
    let first = many_told c.args.source.now c.args.schema.now c.args.tokens.now c.too_many.result c.in-Some-too_many.token none large is c.too_many.ensures c.in-Some-too_many.is in
    record {
      accepted = tt;
      only = nothing_accepted c.args.source.now c.args.schema.now c.args.tokens.now _ first;
      refused = inr first;
      only_fault = only_many c.args.source.now c.args.schema.now c.args.tokens.now c.too_many.result _ c.too_many.ensures first;
      given = tt;
    }

pub sense-requires : goal.sense-requires
sense-requires c =
    let none = no_bad_told c.args.source.now c.args.schema.now c.args.tokens.now c.bad_byte.result c.in_default.is c.bad_byte.ensures in
    let large = no_large_told c.args.source.now c.args.schema.now c.args.tokens.now c.number_too_large.result c.in_default-number_too_large.is c.number_too_large.ensures in
    let is = statement_told c.args.source.now c.args.schema.now c.args.tokens.now c.in_ok-verdict.verdict c.in_ok-verdict.ensures.verdict c.in_default-verdict.not-Syntax c.in_default-verdict-2.not-TooDeep in
    record {
      spelled = c.requires.spelled;
      bytes = none;
      numbers = large;
      statement = is;
      few = few_told c.args.source.now c.args.schema.now c.args.tokens.now c.too_many.result c.too_many.ensures c.in_default-too_many.is;
    }
