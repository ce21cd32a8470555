use Rattle.std.proofs.Common.{inl}
use Rattle.ub_table_file.proofs.OpenFacts.{opens_tree}
use Rattle.ub_table_file.proofs.opening.open_table.Goals as goal

pub returns-in-Ok : goal.returns-in-Ok
returns-in-Ok g c =
    opens_tree c.args.changes c.args.path.now (g.F.Store.PageStore.facts c.in-Ok.store)
    (g.F.Files.facts c.args.files.now) (g.F.Files.facts c.lend_table.new.files) (g.F.Files.facts c.tree_of.new.files)
    (g.F.Files.clock c.args.files.now) (g.F.Files.clock c.lend_table.new.files) (g.F.Files.clock c.tree_of.new.files)
    (g.W.Out.facts c.args.out.now) (g.W.Out.facts c.lend_table.new.out) (g.W.Out.facts c.tree_of.new.out) c.tree_of.result
    c.in-Ok.ensures.lent c.in-Ok.ensures.opens c.in-Ok.ensures.quiet c.in-Ok.ensures.crash
    c.tree_of.ensures.files c.tree_of.ensures.tree c.tree_of.ensures.quiet c.tree_of.ensures.untold c.tree_of.ensures.crash

pub returns-in-Err : goal.returns-in-Err
returns-in-Err g c = record { opened = tt; quiet = tt; refused = inl c.in-Err.ensures.unlent; crash = c.in-Err.ensures.crash }
