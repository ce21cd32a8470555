use Rattle.std.proofs.Common.{Result, subst, sym}
use Rattle.std.specs.Prelude.{IsOk}
use Rattle.ub_tree.specs.declared.fault.TreeFault.{TreeFault}
use Rattle.ub_table_file.proofs.running.run_tree.Goals as goal

pub returns : goal.returns
returns g c =
    let closed = c.close_table-closed.ensures in (
      closed.left,
      record {
        now = c.run-ran.new.tree;
        result = c.run-ran.result;
        closing = closed.closing;
        keeping = closed.keeping;
        mid = g.W.Out.facts c.run-ran.new.out;
        ran = c.run-ran.ensures;
        closes = closed.closes;
        faults = closed.faults;
        tells = rw closed.ended at c.tell_ran.ensures;
      },
      closed.kept,
      closed.crash,
      λ changes done. closed.lasts changes (subst (λ (r : Result (Unit {0}) TreeFault). IsOk r) (sym closed.ended) done),
    )
