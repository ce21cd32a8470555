-- What is known of a condition is known of its parts, and where memory is refused nothing is told.
use Rattle.std.proofs.lemmas.Result.{IfOk-from_err}
use Rattle.ub_parser.proofs.sense.+condition.Goals as goal

pub column-requires : goal.column-requires
column-requires t c = (rw c.in-Compare.is at c.requires).0

pub value-requires : goal.value-requires
value-requires t c = (rw c.in-Compare.is at c.requires).1

pub column-requires-in-Between : goal.column-requires-in-Between
column-requires-in-Between t c = (rw c.in-Between.is at c.requires).0

pub value-requires-in-Between : goal.value-requires-in-Between
value-requires-in-Between t c = (rw c.in-Between.is at c.requires).1

pub value-requires-in-Between-2 : goal.value-requires-in-Between-2
value-requires-in-Between-2 t c = (rw c.in-Between.is at c.requires).2

pub returns-in_err-a-in-And-clause-shape : goal.returns-in_err-a-in-And-clause-shape
returns-in_err-a-in-And-clause-shape t c = IfOk-from_err c.from_residual.result _ c.from_residual.ensures.0

pub returns-in_err-a-in-And-clause-over : goal.returns-in_err-a-in-And-clause-over
returns-in_err-a-in-And-clause-over t c = IfOk-from_err c.from_residual.result _ c.from_residual.ensures.0

pub returns-in_err-b-in-And-clause-shape : goal.returns-in_err-b-in-And-clause-shape
returns-in_err-b-in-And-clause-shape t c = IfOk-from_err c.from_residual-in_err-b-in-And.result _ c.from_residual-in_err-b-in-And.ensures.0

pub returns-in_err-b-in-And-clause-over : goal.returns-in_err-b-in-And-clause-over
returns-in_err-b-in-And-clause-over t c = IfOk-from_err c.from_residual-in_err-b-in-And.result _ c.from_residual-in_err-b-in-And.ensures.0

pub returns-in_err-new-in-And-clause-shape : goal.returns-in_err-new-in-And-clause-shape
returns-in_err-new-in-And-clause-shape t c = IfOk-from_err c.from_residual-in_err-new-in-And.result _ c.from_residual-in_err-new-in-And.ensures.0

pub returns-in_err-new-in-And-clause-over : goal.returns-in_err-new-in-And-clause-over
returns-in_err-new-in-And-clause-over t c = IfOk-from_err c.from_residual-in_err-new-in-And.result _ c.from_residual-in_err-new-in-And.ensures.0

pub returns-in_err-new-in-And-2-clause-shape : goal.returns-in_err-new-in-And-2-clause-shape
returns-in_err-new-in-And-2-clause-shape t c = IfOk-from_err c.from_residual-in_err-new-in-And-2.result _ c.from_residual-in_err-new-in-And-2.ensures.0

pub returns-in_err-new-in-And-2-clause-over : goal.returns-in_err-new-in-And-2-clause-over
returns-in_err-new-in-And-2-clause-over t c = IfOk-from_err c.from_residual-in_err-new-in-And-2.result _ c.from_residual-in_err-new-in-And-2.ensures.0

pub returns-in_err-a-in-Or-clause-shape : goal.returns-in_err-a-in-Or-clause-shape
returns-in_err-a-in-Or-clause-shape t c = IfOk-from_err c.from_residual-in_err-a-in-Or.result _ c.from_residual-in_err-a-in-Or.ensures.0

pub returns-in_err-a-in-Or-clause-over : goal.returns-in_err-a-in-Or-clause-over
returns-in_err-a-in-Or-clause-over t c = IfOk-from_err c.from_residual-in_err-a-in-Or.result _ c.from_residual-in_err-a-in-Or.ensures.0

pub returns-in_err-b-in-Or-clause-shape : goal.returns-in_err-b-in-Or-clause-shape
returns-in_err-b-in-Or-clause-shape t c = IfOk-from_err c.from_residual-in_err-b-in-Or.result _ c.from_residual-in_err-b-in-Or.ensures.0

pub returns-in_err-b-in-Or-clause-over : goal.returns-in_err-b-in-Or-clause-over
returns-in_err-b-in-Or-clause-over t c = IfOk-from_err c.from_residual-in_err-b-in-Or.result _ c.from_residual-in_err-b-in-Or.ensures.0

pub returns-in_err-new-in-Or-clause-shape : goal.returns-in_err-new-in-Or-clause-shape
returns-in_err-new-in-Or-clause-shape t c = IfOk-from_err c.from_residual-in_err-new-in-Or.result _ c.from_residual-in_err-new-in-Or.ensures.0

pub returns-in_err-new-in-Or-clause-over : goal.returns-in_err-new-in-Or-clause-over
returns-in_err-new-in-Or-clause-over t c = IfOk-from_err c.from_residual-in_err-new-in-Or.result _ c.from_residual-in_err-new-in-Or.ensures.0

pub returns-in_err-new-in-Or-2-clause-shape : goal.returns-in_err-new-in-Or-2-clause-shape
returns-in_err-new-in-Or-2-clause-shape t c = IfOk-from_err c.from_residual-in_err-new-in-Or-2.result _ c.from_residual-in_err-new-in-Or-2.ensures.0

pub returns-in_err-new-in-Or-2-clause-over : goal.returns-in_err-new-in-Or-2-clause-over
returns-in_err-new-in-Or-2-clause-over t c = IfOk-from_err c.from_residual-in_err-new-in-Or-2.result _ c.from_residual-in_err-new-in-Or-2.ensures.0

pub returns-in_err-a-in-Not-clause-shape : goal.returns-in_err-a-in-Not-clause-shape
returns-in_err-a-in-Not-clause-shape t c = IfOk-from_err c.from_residual-in_err-a-in-Not.result _ c.from_residual-in_err-a-in-Not.ensures.0

pub returns-in_err-a-in-Not-clause-over : goal.returns-in_err-a-in-Not-clause-over
returns-in_err-a-in-Not-clause-over t c = IfOk-from_err c.from_residual-in_err-a-in-Not.result _ c.from_residual-in_err-a-in-Not.ensures.0

pub returns-in_err-new-in-Not-clause-shape : goal.returns-in_err-new-in-Not-clause-shape
returns-in_err-new-in-Not-clause-shape t c = IfOk-from_err c.from_residual-in_err-new-in-Not.result _ c.from_residual-in_err-new-in-Not.ensures.0

pub returns-in_err-new-in-Not-clause-over : goal.returns-in_err-new-in-Not-clause-over
returns-in_err-new-in-Not-clause-over t c = IfOk-from_err c.from_residual-in_err-new-in-Not.result _ c.from_residual-in_err-new-in-Not.ensures.0
