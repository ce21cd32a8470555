use Rattle.std.proofs.Common.{◌∙◌, ℕ, ap, false, subst, sym, rules}
use Rattle.ub_tree.proofs.Common.{is_written, IsClosed, StoreFacts, tree_view}
use Rattle.ub_tree.proofs.ClosingFacts.{sound_pages, unchanged_pages}
use Rattle.ub_tree.proofs.tree.Tree.close.Goals as goal

pub returns-then-not-is_written : goal.returns-then-not-is_written
returns-then-not-is_written g c = record {
  closed = let t = c.self.inside in
      rw (← c.self.view_is)
      (unchanged_pages (tree_view t.schema t.index t.count t.next t.rows (is_written t.mark) t.is_failed t.pager) (g.S.PageStore.facts c.into_store-then-not-is_written.result)
      c.into_store-then-not-is_written.ensures (sym c.is_written.ensures ∙ c.if-not-is_written.true));
  table = search rules;
  unchanged = search rules;
  failed = search rules;
  first = search rules;
  left = search rules;
  refused = search rules;
}

pub returns-in-Ok : goal.returns-in-Ok
returns-in-Ok g c = record {
  closed = let t = c.self.inside in
      let new = c.write_table.new.pager.store in
      let saved = c.in-Ok.ensures.saved in
      rw (c.into_store-in-Ok.ensures, ← c.self.view_is)
      (λ sound. sound_pages (tree_view t.schema t.index t.count t.next t.rows (is_written t.mark) t.is_failed t.pager) new
      (ap (λ (s : StoreFacts). s.honest) saved.same) saved.count
      (subst (λ (r : ℕ × ℕ). IsClosed (record { schema = t.schema; next = t.next; rows = t.rows; regions = t.count; root = r.0; levels = r.1; unclean = false }) t.pager.store new)
      c.root-root.ensures.root (c.in-Ok.ensures.closed sound.honest))
      sound);
  table = search rules;
  unchanged = search rules;
  failed = search rules;
  first = search rules;
  left = search rules;
  refused = search rules;
}
