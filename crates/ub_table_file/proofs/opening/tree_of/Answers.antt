use Rattle.ub_table_file.proofs.GoesFacts.{runs_none}
use Rattle.ub_table_file.proofs.opening.tree_of.Goals as goal

pub returns-in-Ok-clause-tree : goal.returns-in-Ok-clause-tree
returns-in-Ok-clause-tree g c = record { opened = c.in-Ok.ensures.opened; sound = c.in-Ok.ensures.sound }

pub returns-in-Ok-clause-crash : goal.returns-in-Ok-clause-crash
returns-in-Ok-clause-crash g c = runs_none (g.F.Files.facts c.args.files.now) _

pub returns-in-Err-clause-files : goal.returns-in-Err-clause-files
returns-in-Err-clause-files g c = c.put_back.ensures.kept

pub returns-in-Err-clause-untold : goal.returns-in-Err-clause-untold
returns-in-Err-clause-untold g c = record {
  fault = c.in-Err.refused.fault;
  is = c.in-Err.ensures.refused;
  passing = c.in-Err.ensures.sound;
  tells = c.tell_tree_fault.ensures;
}

pub returns-in-Err-clause-crash : goal.returns-in-Err-clause-crash
returns-in-Err-clause-crash g c = c.put_back.ensures.crash
