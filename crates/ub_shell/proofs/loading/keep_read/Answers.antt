use Rattle.std.proofs.Common.{inl, inr, refl, subst, sym}
use Rattle.ub_load.specs.declared.fault.LoadFault.{LoadFault}
use Rattle.ub_shell.specs.Loaded.{IsUnloaded, axes_asked}
use Rattle.ub_table_file.proofs.Laws.{load_says, never_done}
use Rattle.ub_shell.proofs.LastFacts.{table_lasts}
use Rattle.ub_shell.proofs.CrashFacts.{table_stands, table_still}
use Rattle.ub_shell.proofs.TextFacts.{was_read, was_refused}
use Rattle.ub_shell.proofs.UpgradeFacts.{some_page}
use Rattle.ub_shell.proofs.loading.keep_read.Goals as goal

pub close_table-requires : goal.close_table-requires
close_table-requires g c = (was_read c.requires.0 (axes_asked c.args.asked.source) c.args.asked.source.page_rows c.args.asked.source.name.now _ _ c.in-Ok.is c.requires.1).can_lay

pub make_table-requires : goal.make_table-requires
make_table-requires g c =
    let table = c.in-Ok-close_table.ensures.closed _ _ _ _ (was_read c.requires.0 (axes_asked c.args.asked.source) c.args.asked.source.page_rows c.args.asked.source.name.now _ _ c.in-Ok.is c.requires.1) in
    record { some = some_page c.in-Ok-close_table.closed.pages.pages _ table.closed.spelled }

pub returns-in-Ok-close_table-clause-keeps : goal.returns-in-Ok-close_table-clause-keeps
returns-in-Ok-close_table-clause-keeps g c = λ text is. inl (record {
  rows = c.in-Ok-close_table.closed.counts.rows;
  regions = c.in-Ok-close_table.closed.counts.regions;
  pages = c.in-Ok-close_table.closed.pages.pages;
  table_is = c.in-Ok-close_table.ensures.closed _ _ _ _ (was_read text (axes_asked c.args.asked.source) c.args.asked.source.page_rows c.args.asked.source.name.now _ _ c.in-Ok.is is);
  makes = c.make_table.ensures.makes;
})

pub returns-in-Err-clause-keeps : goal.returns-in-Err-clause-keeps
returns-in-Err-clause-keeps g c = λ text is. inr (record { fault = c.in-Err.fault; is = was_refused text (axes_asked c.args.asked.source) c.args.asked.source.page_rows c.args.asked.source.name.now _ _ c.in-Err.is is; files = refl; tells = c.tell_load_fault.ensures })

pub returns-clause-keeps : goal.returns-clause-keeps
returns-clause-keeps g c = λ text is. inr (record {
  fault = c.in-Err-close_table.fault;
  is = subst (λ (fault : LoadFault). IsUnloaded text c.args.asked.source.name.now (axes_asked c.args.asked.source) fault) (sym c.in-Err-close_table.ensures.refused) (inr tt);
  files = refl;
  tells = c.tell_load_fault-in-Err-close_table.ensures;
})

pub returns-in-Ok-close_table-clause-crash : goal.returns-in-Ok-close_table-clause-crash
returns-in-Ok-close_table-clause-crash g c = λ text is.
    table_stands c.args.asked.table.now text c.args.asked.source.name.now (axes_asked c.args.asked.source) c.args.asked.source.page_rows (g.F.Files.facts c.args.files.now) _ _
    c.in-Ok-close_table.closed.counts.rows c.in-Ok-close_table.closed.counts.regions c.in-Ok-close_table.closed.pages.pages (c.in-Ok-close_table.ensures.closed _ _ _ _ (was_read text (axes_asked c.args.asked.source) c.args.asked.source.page_rows c.args.asked.source.name.now _ _ c.in-Ok.is is)) c.make_table.ensures.crash

pub returns-in-Err-clause-crash : goal.returns-in-Err-clause-crash
returns-in-Err-clause-crash g c = λ text is. table_still c.args.asked.table.now text c.args.asked.source.name.now (axes_asked c.args.asked.source) c.args.asked.source.page_rows (g.F.Files.facts c.args.files.now) _

pub returns-clause-crash : goal.returns-clause-crash
returns-clause-crash g c = λ text is. table_still c.args.asked.table.now text c.args.asked.source.name.now (axes_asked c.args.asked.source) c.args.asked.source.page_rows (g.F.Files.facts c.args.files.now) _

pub returns-in-Ok-close_table-clause-lasts : goal.returns-in-Ok-close_table-clause-lasts
returns-in-Ok-close_table-clause-lasts g c = λ text is done.
    table_lasts c.args.asked.table.now text c.args.asked.source.name.now (axes_asked c.args.asked.source) c.args.asked.source.page_rows (g.F.Files.facts c.args.files.now) (g.F.Files.clock c.make_table.new.files)
    c.in-Ok-close_table.closed.counts.rows c.in-Ok-close_table.closed.counts.regions c.in-Ok-close_table.closed.pages.pages (c.in-Ok-close_table.ensures.closed _ _ _ _ (was_read text (axes_asked c.args.asked.source) c.args.asked.source.page_rows c.args.asked.source.name.now _ _ c.in-Ok.is is)) (c.make_table.ensures.lasts done)

pub returns-in-Err-clause-lasts : goal.returns-in-Err-clause-lasts
returns-in-Err-clause-lasts g c = λ text is done. absurd (never_done _ _ _ _ c.tell_load_fault.result c.tell_load_fault.ensures (load_says c.in-Err.fault) (inl done))

pub returns-clause-lasts : goal.returns-clause-lasts
returns-clause-lasts g c = λ text is done. absurd (never_done _ _ _ _ c.tell_load_fault-in-Err-close_table.result c.tell_load_fault-in-Err-close_table.ensures (load_says c.in-Err-close_table.fault) (inl done))
