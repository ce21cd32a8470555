use Rattle.std.proofs.Common.{◌∙◌, sym}
use Rattle.ub_table_file.proofs.PartingFacts.{all-cut, all-whole, next-over, next-with, on_err, parted-broken, parted-none, where_err, where_ok}
use Rattle.ub_table_file.proofs.parting.put_lines.Goals as goal

pub loop-at-init : goal.loop-at-init
loop-at-init g c = parted-none c.args.are_notes c.args.text.now (g.W.Out.facts c.args.out.now)

pub loop-at-preserved-then-is_wanted : goal.loop-at-preserved-then-is_wanted
loop-at-preserved-then-is_wanted g c =
    next-with c.args.are_notes c.args.text.now c.loop-at.from c.loop-at.at (g.W.Out.facts c.args.out.now) (g.W.Out.facts c.loop-at.out) c.loop-at.invariant
    c.line_length.result c.line_length.ensures.within c.line_length.ensures.first (sym c.is_wanted.ensures ∙ c.if-is_wanted.true)

pub loop-at-preserved : goal.loop-at-preserved
loop-at-preserved g c =
    next-over c.args.are_notes c.args.text.now c.loop-at.from c.loop-at.at (g.W.Out.facts c.args.out.now) (g.W.Out.facts c.loop-at.out) c.loop-at.invariant
    (g.W.Out.facts c.put_all.new.out) c.line_length.result c.line_length.ensures.within c.line_length.ensures.first (sym c.is_wanted.ensures ∙ c.if-is_wanted.false)
    c.in_ok-put_all.ensures.whole

pub returns-clause-whole : goal.returns-clause-whole
returns-clause-whole g c =
    where_ok c.put_all-2.result
    (all-whole c.args.are_notes c.args.text.now c.loop-at.from c.loop-at.at (g.W.Out.facts c.args.out.now) (g.W.Out.facts c.loop-at.out) c.loop-at.invariant
    (g.W.Out.facts c.put_all-2.new.out) c.loop-at-test.false) c.put_all-2.ensures.whole

pub returns-clause-front : goal.returns-clause-front
returns-clause-front g c =
    where_err c.put_all-2.result
    (all-cut c.args.are_notes c.args.text.now c.loop-at.from c.loop-at.at (g.W.Out.facts c.args.out.now) (g.W.Out.facts c.loop-at.out) c.loop-at.invariant
    (g.W.Out.facts c.put_all-2.new.out) c.loop-at-test.false) c.put_all-2.ensures.front

pub returns-in_err-put_all-clause-front : goal.returns-in_err-put_all-clause-front
returns-in_err-put_all-clause-front g c =
    on_err c.from_residual.result _
    (parted-broken c.args.are_notes c.args.text.now c.loop-at.from c.loop-at.at (g.W.Out.facts c.args.out.now) (g.W.Out.facts c.loop-at.out) c.loop-at.invariant
    (g.W.Out.facts c.put_all.new.out) c.in_err-put_all.ensures.front)
