use Rattle.std.proofs.Common.{◌∙◌, ap, rules}
use Rattle.ub_tree.proofs.Common.{PagerView}
use Rattle.ub_tree.proofs.CreationFacts.{created}
use Rattle.ub_tree.proofs.tree.Tree.create.Goals as goal

pub returns-in-Ok-lay_out : goal.returns-in-Ok-lay_out
returns-in-Ok-lay_out g c = record {
  made = let facts = g.S.PageStore.facts c.args.store in
      let made = c.in-Ok.ensures.made in
      let t = c.in-Ok-lay_out in
      let first = c.first_header-header.ensures in
      rw (c.over.ensures, first.schema, first.counts.0, first.counts.1, first.counts.2)
      (created facts c.args.schema.now t.index c.lay_out.new.pager
      (t.ensures.left ∙ ap (λ (p : PagerView). record p.store { pages = c.lay_out.new.pager.store.pages; synced = c.lay_out.new.pager.store.synced }) made)
      t.ensures.index.0 t.ensures.count
      (λ honest. t.ensures.index.1 (ap (λ (p : PagerView). p.store.honest) made ∙ honest))
      (λ honest. t.ensures.pages (ap (λ (p : PagerView). p.store.honest) made ∙ honest))
      (t.ensures.trace ∙ ap (λ (p : PagerView). p.trace) made));
  first = search rules;
  refused = search rules;
  left = search rules;
}
