use Rattle.std.proofs.Common.{Bool, subst, sym}
use Rattle.ub_table_file.specs.Opening.{LendsTable}
use Rattle.ub_table_file.proofs.opening.lend_table.Goals as goal

pub returns-then-changes : goal.returns-then-changes
returns-then-changes g c =
    subst (λ (b : Bool). LendsTable g.F.Store.PageStore.facts b c.args.path.now (g.F.Files.facts c.args.files.now) (g.F.Files.facts c.lend_to_change.new.files)
    (g.F.Files.clock c.args.files.now) (g.F.Files.clock c.lend_to_change.new.files) (g.W.Out.facts c.args.out.now) (g.W.Out.facts c.lend_to_change.new.out) c.lend_to_change.result)
    (sym c.if-changes.true) c.lend_to_change.ensures

pub returns-else-changes : goal.returns-else-changes
returns-else-changes g c =
    subst (λ (b : Bool). LendsTable g.F.Store.PageStore.facts b c.args.path.now (g.F.Files.facts c.args.files.now) (g.F.Files.facts c.lend_to_ask.new.files)
    (g.F.Files.clock c.args.files.now) (g.F.Files.clock c.lend_to_ask.new.files) (g.W.Out.facts c.args.out.now) (g.W.Out.facts c.lend_to_ask.new.out) c.lend_to_ask.result)
    (sym c.if-changes.false) c.lend_to_ask.ensures
