use Rattle.std.proofs.Common.{Err, ap, refl, rules}
use Rattle.ub_tree.proofs.Common.{if_err, index_fault, is_written, IsReadFault, IsSpanFault, PagerView, tree_view, TreeView}
use Rattle.ub_tree.proofs.EffectFacts.{refused_none}
use Rattle.ub_tree.proofs.HeldFacts.{tree_kept}
use Rattle.ub_tree.proofs.ReadingFacts.{never_failed, noted_by, read_by, read_tree, region_fault, span_fault}
use Rattle.ub_tree.proofs.SearchFacts.{known_is}
use Rattle.ub_tree.proofs.ThereFacts.{tree_known}
use Rattle.ub_tree.proofs.tree.Tree.read_region.Goals as goal

pub returns-in_err-fetch_region : goal.returns-in_err-fetch_region
returns-in_err-fetch_region g c = record {
  dims = search rules;
  first = search rules;
  taken = search rules;
  stands = search rules;
  failed = search rules;
  effect = let t = c.self.inside in
      let old : TreeView = tree_view t.schema t.index t.count t.next t.rows (is_written t.mark) t.is_failed t.pager in
      let r = c.from_residual.result in
      let e = c.in_err-fetch_region.field-0.0 in
      let read = c.in_err-fetch_region.ensures.read in
      rw (← c.self.view_is) (record {
        same = read_tree r t.schema t.index t.count t.next t.rows (is_written t.mark) t.is_failed t.pager c.fetch_region.new.pager
            (read_by (Unit {0}) r e t.pager.store c.fetch_region.new.pager.store c.from_residual.ensures.1 (ap (λ (p : PagerView). p.store) read.same));
        noted = noted_by {U = Unit {0}} r (Err e) e c.args.region.now.page t.pager c.fetch_region.new.pager refl c.from_residual.ensures.1 c.in_err-fetch_region.ensures.noted;
        listed = refused_none _ r (index_fault e) c.from_residual.ensures.1;
        failed = never_failed r e old _ c.from_residual.ensures.1;
        faults = λ told. if_err (IsReadFault old) r (index_fault e) c.from_residual.ensures.1 (region_fault old c.args.region.now e told read.exact read.faults);
        refused = if_err (IsSpanFault c.args.region.now old) r (index_fault e) c.from_residual.ensures.1 (span_fault old c.args.region.now e read.faults);
      });
}

pub returns : goal.returns
returns g c = record {
  dims = search rules;
  first = search rules;
  taken = search rules;
  stands = let t = c.self.inside in
      rw (← c.self.view_is) (λ sound there.
      let k = tree_known t.schema t.index t.count t.next t.rows (is_written t.mark) t.is_failed t.pager c.args.region.now sound there in
      let known = known_is t.pager.store sound.honest in
      let taken = c.in_ok-fetch_region.ensures.read.exact k.0.region sound.honest (k.1.region, k.1.held, λ _. rw known at k.1.spelled) in
      rw taken (k.0, k.1.there, k.1.page, refl));
  failed = search rules;
  effect = search rules;
}

pub invariant_of-self : goal.invariant_of-self
invariant_of-self g c =
    let t = c.self.inside in
    tree_kept t.schema t.index t.count t.next t.rows t.mark t.pager c.fetch_region.new.pager c.self.invariant (c.in_err-fetch_region.ensures.read.checked t.index.last)

pub invariant_of-self-2 : goal.invariant_of-self-2
invariant_of-self-2 g c =
    let t = c.self.inside in
    tree_kept t.schema t.index t.count t.next t.rows t.mark t.pager c.fetch_region.new.pager c.self.invariant (c.in_ok-fetch_region.ensures.read.checked t.index.last)
