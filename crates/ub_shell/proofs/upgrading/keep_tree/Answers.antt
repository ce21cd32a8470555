use Rattle.std.proofs.Common.{inl}
use Rattle.ub_shell.proofs.LastFacts.{anew_lasts}
use Rattle.ub_table_file.proofs.Laws.{never_done, tree_says}
use Rattle.ub_shell.proofs.CrashFacts.{anew_stands}
use Rattle.ub_shell.proofs.UpgradeFacts.{always_closed, closed_anew, some_page}
use Rattle.ub_shell.proofs.upgrading.keep_tree.Goals as goal

pub make_table-requires : goal.make_table-requires
make_table-requires g c =
    record { some = some_page c.in-Ok.pages _ ((c.in-Ok.ensures.table c.requires.afoot.changed).1 c.requires.afoot.honest).spelled }

pub returns-in-Ok-clause-makes : goal.returns-in-Ok-clause-makes
returns-in-Ok-clause-makes g c = λ from is. record {
  rows = c.rows.result;
  regions = c.regions.result;
  pages = c.in-Ok.pages;
  table_is = closed_anew from c.args.tree c.in-Ok.pages c.rows.result c.regions.result is c.requires.afoot c.in-Ok.ensures.table c.in-Ok.ensures.closed c.rows.ensures c.regions.ensures.count;
  makes = c.make_table.ensures.makes;
}

pub returns-in-Err-clause-makes : goal.returns-in-Err-clause-makes
returns-in-Err-clause-makes g c = λ from is. absurd (always_closed from c.args.tree c.in-Err.refused.fault is c.requires.afoot c.in-Err.ensures.refused)

pub returns-in-Ok-clause-crash : goal.returns-in-Ok-clause-crash
returns-in-Ok-clause-crash g c = λ from is.
    let table = closed_anew from c.args.tree c.in-Ok.pages c.rows.result c.regions.result is c.requires.afoot c.in-Ok.ensures.table c.in-Ok.ensures.closed c.rows.ensures c.regions.ensures.count in
    anew_stands c.args.path.now from (g.F.Files.facts c.args.files.now) _ _ c.rows.result c.regions.result c.in-Ok.pages table c.make_table.ensures.crash

pub returns-in-Err-clause-crash : goal.returns-in-Err-clause-crash
returns-in-Err-clause-crash g c = λ from is. absurd (always_closed from c.args.tree c.in-Err.refused.fault is c.requires.afoot c.in-Err.ensures.refused)

pub returns-in-Ok-clause-lasts : goal.returns-in-Ok-clause-lasts
returns-in-Ok-clause-lasts g c = λ from is done.
    let table = closed_anew from c.args.tree c.in-Ok.pages c.rows.result c.regions.result is c.requires.afoot c.in-Ok.ensures.table c.in-Ok.ensures.closed c.rows.ensures c.regions.ensures.count in
    anew_lasts c.args.path.now from (g.F.Files.facts c.args.files.now) (g.F.Files.clock c.make_table.new.files) c.rows.result c.regions.result c.in-Ok.pages table (c.make_table.ensures.lasts done)

pub returns-in-Err-clause-lasts : goal.returns-in-Err-clause-lasts
returns-in-Err-clause-lasts g c = λ from is done. absurd (never_done _ _ _ _ c.tell_tree_fault.result c.tell_tree_fault.ensures (tree_says c.in-Err.refused.fault) (inl done))
