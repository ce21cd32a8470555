use Rattle.std.proofs.Common.{Err, Ok, inl}
use Rattle.ub_table_file.proofs.LastFacts.{never_done, open_says}
use Rattle.ub_table_file.proofs.making.make_table.Goals as goal

pub make-requires : goal.make-requires
make-requires g c = record { some = c.requires.some }

pub returns-in-Ok-clause-makes : goal.returns-in-Ok-clause-makes
returns-in-Ok-clause-makes g c = record {
  result = Ok tt;
  makes = c.in-Ok.ensures.effect;
  faults = tt;
  tells = rw c.counts_line.ensures at c.tell_line.ensures;
}

pub returns-in-Err-clause-makes : goal.returns-in-Err-clause-makes
returns-in-Err-clause-makes g c = record {
  result = Err c.in-Err.fault;
  makes = c.in-Err.ensures.effect;
  faults = c.in-Err.ensures.faults;
  tells = c.tell_open_fault.ensures;
}

pub returns-in-Ok-clause-crash : goal.returns-in-Ok-clause-crash
returns-in-Ok-clause-crash g c = c.in-Ok.ensures.crash

pub returns-in-Err-clause-crash : goal.returns-in-Err-clause-crash
returns-in-Err-clause-crash g c = c.in-Err.ensures.crash

pub returns-in-Ok-clause-lasts : goal.returns-in-Ok-clause-lasts
returns-in-Ok-clause-lasts g c = λ done. c.in-Ok.ensures.lasts

pub returns-in-Err-clause-lasts : goal.returns-in-Err-clause-lasts
returns-in-Err-clause-lasts g c = λ done. absurd (never_done _ _ _ _ c.tell_open_fault.result c.tell_open_fault.ensures (open_says c.in-Err.fault) (inl done))
