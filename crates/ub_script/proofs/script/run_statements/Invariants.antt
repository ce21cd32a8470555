use Rattle.std.proofs.Common.{◌≡◌, ◌≤◌, Ok}
use Rattle.ub_script.specs.Faults.{Runs}
use Rattle.ub_script.specs.Loop.{OnEach}
use Rattle.ub_script.specs.Script.{AreAsking}
use Rattle.ub_tree.proofs.Laws.{Keeps}
use Rattle.ub_script.proofs.RunFacts.{HasCome}
use Rattle.ub_script.proofs.script.run_statements.Given as goal

abbrev pub invariant-loop-range : goal.invariant-loop-range
invariant-loop-range g l = record {
  run : OnEach l.initial.tree (λ basis. HasCome basis l.source l.tokens l.ranges l.range-index l.refused l.tree
      (g.W.Out.facts l.initial.out) (g.W.Out.facts l.out) l.initial.tree.trace.fetches l.tree.trace.fetches);
  few : l.refused ≤ l.range-index;
  runs : Runs {A = Unit {0}} l.initial.tree l.tree (Ok (tt {0}));
  asked : AreAsking l.initial.tree.schema l.source l.tokens l.ranges → Keeps l.initial.tree l.tree;
  failures : (g.W.Out.facts l.out).failures ≡ (g.W.Out.facts l.initial.out).failures;
}
