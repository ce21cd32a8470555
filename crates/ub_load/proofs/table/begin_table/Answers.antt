use Rattle.ub_load.proofs.table.begin_table.Goals as goal

pub returns-in-Ok-clause-begun : goal.returns-in-Ok-clause-begun
returns-in-Ok-clause-begun g c = c.in-Ok.ensures.begun
