use Rattle.ub_table_file.proofs.PartingFacts.{ended_by_end, ended_by_feed, unended-next, unended-none}
use Rattle.ub_table_file.proofs.parting.line_length.Goals as goal

pub loop-at-init : goal.loop-at-init
loop-at-init c = unended-none c.args.text.now

pub loop-at-preserved : goal.loop-at-preserved
loop-at-preserved c = unended-next c.args.text.now c.loop-at.at c.loop-at.invariant c.loop-at-test.true c.if-text-at-eq10.false

pub returns-clause-first : goal.returns-clause-first
returns-clause-first c = ended_by_end c.args.text.now c.loop-at.at c.requires c.loop-at.invariant c.loop-at-test.false

pub returns-then-text-at-eq10-clause-first : goal.returns-then-text-at-eq10-clause-first
returns-then-text-at-eq10-clause-first c = ended_by_feed c.args.text.now c.loop-at.at c.loop-at.invariant c.loop-at-test.true c.if-text-at-eq10.true
