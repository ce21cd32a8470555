use Rattle.std.proofs.Common.{ap, refl, subst, sym, rules}
use Rattle.ub_tree.proofs.Common.{if_err, index_fault, is_written, IsReadFault, IsRegionOf, PagerView, region_page, region_parts, tree_view, TreeView}
use Rattle.ub_tree.proofs.HeldFacts.{tree_kept}
use Rattle.ub_tree.proofs.HoldingFacts.{passing_by}
use Rattle.ub_tree.proofs.ReadingFacts.{passing_there, read_by, region_fault, searched_tree}
use Rattle.ub_tree.proofs.ThereFacts.{rows_there}
use Rattle.ub_tree.proofs.tree.Tree.read_at.Goals as goal

pub returns-in_err-read_region : goal.returns-in_err-read_region
returns-in_err-read_region g c = record {
  read = search rules;
  there = search rules;
  rows = search rules;
  taken = let e = c.in_err-read_region.field-0.0 in
      rw (← c.self.view_is) (λ honest r stands.
      passing_by c.from_residual.result (index_fault e) _ c.from_residual.ensures.1 (passing_there e (c.in_err-read_region.ensures.read.exact r honest stands)));
  effect = let t = c.self.inside in
      let old : TreeView = tree_view t.schema t.index t.count t.next t.rows (is_written t.mark) t.is_failed t.pager in
      let told : IsRegionOf old c.args.region.now = subst (λ (v : TreeView). IsRegionOf v c.args.region.now) (sym c.self.view_is) c.requires in
      let e = c.in_err-read_region.field-0.0 in
      let read = c.in_err-read_region.ensures.read in
      rw (← c.self.view_is) (record {
        same = searched_tree c.from_residual.result t.schema t.index t.count t.next t.rows (is_written t.mark) t.is_failed t.pager c.read_region.new.pager
            (read_by (Unit {0}) c.from_residual.result e t.pager.store c.read_region.new.pager.store c.from_residual.ensures.1 (ap (λ (p : PagerView). p.store) read.same)) c.in_err-read_region.ensures.trace;
        faults = if_err (IsReadFault old) c.from_residual.result (index_fault e) c.from_residual.ensures.1 (region_fault old c.args.region.now e told read.exact read.faults);
      });
}

pub returns : goal.returns
returns g c = record {
  read = search rules;
  there = search rules;
  rows = let t = c.self.inside in
      let region = c.read_region.new.page.region in
      let taken = c.in_ok-read_region.ensures.read.taken in
      rw (← c.self.view_is) (λ i p honest at there.
      rows_there t.schema t.index t.count t.next t.rows (is_written t.mark) t.is_failed t.pager i c.args.region.now (region_page t.schema region) region p honest at there (taken.2 honest)
      (sym (region_parts t.schema region (region_page t.schema region) taken.0 refl).on));
  taken = rw (← c.self.view_is) (λ honest r stands. c.in_ok-read_region.ensures.read.exact r honest stands);
  effect = search rules;
}

pub invariant_of-self : goal.invariant_of-self
invariant_of-self g c =
    let t = c.self.inside in
    tree_kept t.schema t.index t.count t.next t.rows t.mark t.pager c.read_region.new.pager c.self.invariant (c.in_err-read_region.ensures.read.checked t.index.last)

pub invariant_of-self-2 : goal.invariant_of-self-2
invariant_of-self-2 g c =
    let t = c.self.inside in
    tree_kept t.schema t.index t.count t.next t.rows t.mark t.pager c.read_region.new.pager c.self.invariant (c.in_ok-read_region.ensures.read.checked t.index.last)
