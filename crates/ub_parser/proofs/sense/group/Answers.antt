-- One column more, and all of them.
use Rattle.std.proofs.Common.{◌<◌, length, ℕ}
use Rattle.std.proofs.lemmas.Result.{IfOk-from_err}
use Rattle.ub_lexer.specs.declared.token.Token.{Token}
use Rattle.ub_parser.specs.Sense.{column_of}
use Rattle.ub_parser.proofs.ListedFacts.{one_more, all_given}
use Rattle.ub_parser.proofs.sense.group.Goals as goal

pub column-requires : goal.column-requires
column-requires c = c.requires c.loop-name.name-index _ c.loop-name-test.true

pub returns-in_err-push-clause-group : goal.returns-in_err-push-clause-group
returns-in_err-push-clause-group c = IfOk-from_err c.from_residual.result _ c.from_residual.ensures.0

pub returns-in_err-push-clause-over : goal.returns-in_err-push-clause-over
returns-in_err-push-clause-over c = IfOk-from_err c.from_residual.result _ c.from_residual.ensures.0

pub loop-name-preserved : goal.loop-name-preserved
loop-name-preserved c =
    one_more (λ (name : Token). column_of c.args.source.now c.args.schema.now name) c.args.names.now c.loop-name.name-index (λ (column : ℕ). column < length c.args.schema.now.columns)
    c.loop-name.group.items c.push.new.self.items c.column.result _ c.loop-name-test.true c.loop-name.invariant c.in_ok-push.ensures.items c.column.ensures.column c.column.ensures.over

pub returns-clause-group : goal.returns-clause-group
returns-clause-group c =
    all_given (λ (name : Token). column_of c.args.source.now c.args.schema.now name) c.args.names.now c.loop-name.name-index c.loop-name.group.items c.loop-name-test.false
    c.loop-name.invariant.0

pub returns-clause-over : goal.returns-clause-over
returns-clause-over c = c.loop-name.invariant.1
