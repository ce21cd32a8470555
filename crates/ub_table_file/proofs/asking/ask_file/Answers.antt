use Rattle.std.proofs.Common.{◌∙◌, false, inl, inr}
use Rattle.ub_table_file.proofs.GoesFacts.{runs_both}
use Rattle.ub_table_file.proofs.OpenFacts.{opens_honest}
use Rattle.ub_table_file.proofs.asking.ask_file.Goals as goal

pub returns-in-Ok-clause-asks : goal.returns-in-Ok-clause-asks
returns-in-Ok-clause-asks g c = inl (record {
  store = g.F.Store.PageStore.facts c.in-Ok.store;
  lent = c.in-Ok.ensures.lent;
  files = c.ask_store.ensures.files ∙ c.in-Ok.ensures.opens;
  ended = rw c.in-Ok.ensures.quiet at c.ask_store.ensures.ended;
})

pub returns-in-Ok-clause-crash : goal.returns-in-Ok-clause-crash
returns-in-Ok-clause-crash g c =
    runs_both (g.F.Files.facts c.args.files.now) (g.F.Files.facts c.lend_table.new.files) _ _ _
    (opens_honest false c.args.asked.table.now (g.F.Files.facts c.args.files.now) (g.F.Files.facts c.lend_table.new.files) c.in-Ok.ensures.opens) c.in-Ok.ensures.crash c.ask_store.ensures.crash

pub returns-in-Err-clause-asks : goal.returns-in-Err-clause-asks
returns-in-Err-clause-asks g c = inr c.in-Err.ensures.unlent

pub returns-in-Err-clause-crash : goal.returns-in-Err-clause-crash
returns-in-Err-clause-crash g c = c.in-Err.ensures.crash
