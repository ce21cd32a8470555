use Rattle.std.proofs.Common.{arith, List, None, take, refl, subst, sym}
use Rattle.std.proofs.lemmas.Result.{IfOk-weaker}
use Rattle.ub_answer.specs.Shaped.{IsShaped}
use Rattle.ub_exec.proofs.GivenFacts.{all_taken}
use Rattle.ub_exec.proofs.RefusedFacts.{no_answer}
use Rattle.ub_query.specs.Meaning.{IsMeaning}
use Rattle.ub_query.specs.Shape.{asked}
use Rattle.ub_query.specs.declared.cell.Cell.{Cell}
use Rattle.std.proofs.lemmas.List.{take_more}
use Rattle.ub_answer.specs.Gathered.{IsGathered}
use Rattle.ub_table.specs.declared.row.Row.{Row}
use Rattle.ub_exec.proofs.grouping.groups_of.Goals as goal

pub returns-clause-meaning : goal.returns-clause-meaning
returns-clause-meaning c order numbers =
    let rows = c.args.rows.now in
    IfOk-weaker c.into_cells.result _ _
    (λ cells is. subst (λ (cells : List (List Cell)). IsMeaning (record { schema = c.args.schema.now; rows = rows }) (record (asked c.args.query.now) { filter = None }) cells) (sym is)
    (c.in_ok-finish.ensures.answer (record { schema = c.args.schema.now; rows = rows }) None (take c.loop-row.row-index rows) refl order numbers
    (all_taken rows c.loop-row.row-index c.loop-row-test.false) c.loop-row.invariant))
    c.into_cells.ensures

pub returns-in_err-finish-clause-meaning : goal.returns-in_err-finish-clause-meaning
returns-in_err-finish-clause-meaning c order numbers = no_answer c.from_residual-in_err-finish.result _ _ c.from_residual-in_err-finish.ensures.1

pub returns-in_err-finish-clause-shaped : goal.returns-in_err-finish-clause-shaped
returns-in_err-finish-clause-shaped c = no_answer c.from_residual-in_err-finish.result _ _ c.from_residual-in_err-finish.ensures.1

pub new-gathering-requires : goal.new-gathering-requires
new-gathering-requires c = c.requires

pub take-requires : goal.take-requires
take-requires c = c.requires

pub finish-requires : goal.finish-requires
finish-requires c = c.requires

pub loop-row-init : goal.loop-row-init
loop-row-init c = c.new-gathering.ensures.gathered

pub returns-in_err-take-clause-meaning : goal.returns-in_err-take-clause-meaning
returns-in_err-take-clause-meaning c order numbers = no_answer c.from_residual.result _ _ c.from_residual.ensures.1

pub returns-in_err-take-clause-shaped : goal.returns-in_err-take-clause-shaped
returns-in_err-take-clause-shaped c = no_answer c.from_residual.result _ _ c.from_residual.ensures.1

pub returns-clause-shaped : goal.returns-clause-shaped
returns-clause-shaped c =
    IfOk-weaker c.into_cells.result _ _ (λ cells is. subst (λ (cells : List (List Cell)). IsShaped (asked c.args.query.now) cells) (sym is) c.in_ok-finish.ensures.shaped)
    c.into_cells.ensures

pub loop-row-preserved : goal.loop-row-preserved
loop-row-preserved c =
    subst (λ (rows : List Row). IsGathered c.args.schema.now (asked c.args.query.now) rows c.take.new.self)
    (sym (take_more c.args.rows.now c.loop-row.row-index _ (omega (arith, c.loop-row-test.true)))) (c.in_ok-take.ensures.gathered (take c.loop-row.row-index c.args.rows.now) c.loop-row.invariant)
