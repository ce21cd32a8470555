use Rattle.std.proofs.Common.{◌∙◌, Err, Ok, ap, refl, sym}
use Rattle.std.proofs.lemmas.Bool.{false≢true}
use Rattle.ub_tree.specs.declared.fault.TreeFault.{TreeFault}
use Rattle.ub_table_file.proofs.FileFacts.{kept_where, store_closed, unkept_closing, unkept_where, where_ok}
use Rattle.ub_table_file.proofs.CrashFacts.{closed_kept, closed_same}
use Rattle.ub_table_file.proofs.closing.close_table.Goals as goal

pub returns-in-Err : goal.returns-in-Err
returns-in-Err g c = record {
  left = g.F.Store.PageStore.facts c.in-Err.refused.store;
  closing = Err c.in-Err.refused.fault;
  keeping = Ok tt;
  closes = record {
    store_is = c.in-Err.ensures.left;
    closed = λ sound. tt;
    saved = λ changed. tt;
    unchanged = λ changed failed. absurd (c.in-Err.ensures.unchanged changed failed);
    failed = λ failed. (ap (λ (fault : TreeFault). Err fault) (c.in-Err.ensures.failed failed).0, (c.in-Err.ensures.failed failed).1);
    unclosed = c.in-Err.ensures.first;
    refused = c.in-Err.ensures.refused;
  };
  kept = unkept_closing c.args.changes _ _ _ _ _ c.put_back-in-Err.ensures.kept;
  ended = refl;
  faults = tt;
  crash = closed_same c.args.path.now (Err c.in-Err.refused.fault) (g.F.Store.PageStore.facts c.in-Err.refused.store) (g.F.Files.facts c.args.files.now) _ _ c.put_back-in-Err.ensures.crash;
  lasts = λ changes done. absurd (false≢true done);
}

pub returns-then-changes : goal.returns-then-changes
returns-then-changes g c = record {
  left = g.F.Store.PageStore.facts c.in-Ok.store;
  closing = Ok tt;
  keeping = c.keep_store.ensures.keeps.0;
  closes = record {
    store_is = store_closed {A = Unit {0}} tt c.args.tree (g.F.Store.PageStore.facts c.in-Ok.store) (λ changed. (c.in-Ok.ensures.table changed).0.same) c.in-Ok.ensures.unchanged c.in-Ok.ensures.failed;
    closed = c.in-Ok.ensures.closed;
    saved = c.in-Ok.ensures.table;
    unchanged = λ changed failed. (refl, c.in-Ok.ensures.unchanged changed failed);
    failed = λ failed. absurd (c.in-Ok.ensures.failed failed);
    unclosed = λ honest. tt;
    refused = tt;
  };
  kept = kept_where c.args.changes _ _ _ _ _ c.if-changes.true c.keep_store.ensures.keeps.1;
  ended = c.keep_store.ensures.keeps.2;
  faults = c.keep_store.ensures.keeps.3;
  crash = closed_kept c.args.path.now (g.F.Store.PageStore.facts c.in-Ok.store) (g.F.Files.facts c.args.files.now) _ _ c.keep_store.ensures.crash;
  lasts = λ changes done. where_ok c.keep_store.result done c.keep_store.ensures.lasts;
}

pub returns-else-changes : goal.returns-else-changes
returns-else-changes g c = record {
  left = g.F.Store.PageStore.facts c.in-Ok.store;
  closing = Ok tt;
  keeping = Ok tt;
  closes = record {
    store_is = store_closed {A = Unit {0}} tt c.args.tree (g.F.Store.PageStore.facts c.in-Ok.store) (λ changed. (c.in-Ok.ensures.table changed).0.same) c.in-Ok.ensures.unchanged c.in-Ok.ensures.failed;
    closed = c.in-Ok.ensures.closed;
    saved = c.in-Ok.ensures.table;
    unchanged = λ changed failed. (refl, c.in-Ok.ensures.unchanged changed failed);
    failed = λ failed. absurd (c.in-Ok.ensures.failed failed);
    unclosed = λ honest. tt;
    refused = tt;
  };
  kept = unkept_where c.args.changes _ _ _ _ _ c.if-changes.false c.put_back.ensures.kept;
  ended = refl;
  faults = tt;
  crash = closed_same c.args.path.now (Ok tt) (g.F.Store.PageStore.facts c.in-Ok.store) (g.F.Files.facts c.args.files.now) _ _ c.put_back.ensures.crash;
  lasts = λ changes done. absurd (false≢true (sym c.if-changes.false ∙ changes));
}
