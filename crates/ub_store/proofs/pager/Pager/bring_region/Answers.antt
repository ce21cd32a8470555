use Rattle.std.proofs.Common.{Result, Ok, Err, OnErr}
use Rattle.ub_store.proofs.pager.Pager.bring_region.Goals as goal

on_err : {T E : Type 0} (P : Type 0) (r : Result T E) → P → OnErr r P
on_err P (Ok x) h = tt
on_err P (Err e) h = h

pub returns-in_err-bring-clause-missed : goal.returns-in_err-bring-clause-missed
returns-in_err-bring-clause-missed g c = on_err _ c.from_residual.result (rw (← c.self.view_is) c.in_err-bring.ensures.missed)
