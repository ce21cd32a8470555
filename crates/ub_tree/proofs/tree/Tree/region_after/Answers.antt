use Rattle.std.proofs.Common.{◌<◌, ◌^◌, inl, inr, Option, subst, sym, Some, None, ◌≡◌, rules}
use Rattle.ub_tree.proofs.Common.{GivesAny, is_written, IsHonest, IsRegionOf, IsWayFault, Region, tree_view, TreeView}
use Rattle.ub_tree.proofs.CallFacts.{last_small}
use Rattle.ub_tree.proofs.NeighbourFacts.{given_next, next_begins, search_apart}
use Rattle.ub_tree.proofs.SearchFacts.{search_refused}
use Rattle.ub_tree.proofs.AloneFacts.{any_given, any_refused}
use Rattle.ub_tree.proofs.tree.Tree.region_after.Goals as goal

pub returns-in_err-next : goal.returns-in_err-next
returns-in_err-next g c = record {
  begins = search rules;
  falls = search rules;
  last = search rules;
  led = λ told honest given.
      let t = c.args.self.now in
      let i = c.self.inside in
      let next = c.args.region.now.next in
      let small = subst (λ n. n < 2 ^ 128) (sym c.self.invariant.last_is) (last_small i.schema.dims i.schema.counts.few_dims) in
      let near = subst (λ (v : TreeView). v.inner.index.last < 2 ^ 128) c.self.view_is small in
      let fault = subst (λ (v : TreeView). IsWayFault v.inner.index v.store (λ k. next ≡ Some k) c.in_err-next.field-0.0) c.self.view_is (c.in_err-next.ensures.effect.faults c.self.invariant.checked) in
      any_refused t.inner.index t.store next told c.from_residual.result c.in_err-next.field-0.0 near honest given c.from_residual.ensures.1 fault;
  after = search rules;
  effect = let t = c.self.inside in
      let small = subst (λ n. n < 2 ^ 128) (sym c.self.invariant.last_is) (last_small t.schema.dims t.schema.counts.few_dims) in
      rw (← c.self.view_is) (search_refused t.schema t.index t.count t.next t.rows (is_written t.mark) t.is_failed t.pager c.after.new.pager _ (Option Region) c.from_residual.result c.in_err-next.field-0.0 small c.self.invariant.checked
      c.from_residual.ensures.1 c.in_err-next.ensures.effect);
}

pub returns-else-begins_at : goal.returns-else-begins_at
returns-else-begins_at g c =
    let t = c.self.inside in
    let v : TreeView = tree_view t.schema t.index t.count t.next t.rows (is_written t.mark) t.is_failed t.pager in
    record {
      begins = search rules;
      falls = search rules;
      last = search rules;
      led = λ told honest given.
          let of = subst (λ (x : TreeView). IsRegionOf x c.args.region.now) (sym c.self.view_is) c.requires in
          let found = given_next v c.args.region.now.next c.in-Some.next (rw c.in-Some.is at (c.in_ok-next.ensures.given c.self.invariant.checked)) in
          elim (next_begins v of.key found.0 c.args.region.now c.in-Some.next of.falls found.1 found.2) [
            | inl same ↦ let no = c.if-begins_at.ensures.1 same in cc
            | inr over ↦ absurd (over (subst (λ (x : TreeView). IsHonest x.store) (sym c.self.view_is) honest))
          ];
      after = search rules;
      effect = let told = subst (λ (x : TreeView). IsRegionOf x c.args.region.now) (sym c.self.view_is) c.requires in
          let given = given_next v c.args.region.now.next c.in-Some.next (rw c.in-Some.is at (c.in_ok-next.ensures.given c.self.invariant.checked)) in
          let over : ¬ (IsHonest t.pager.store) =
          elim (next_begins v told.key given.0 c.args.region.now c.in-Some.next told.falls given.1 given.2) [
            | inl same ↦ let no = c.if-begins_at.ensures.1 same in cc
            | inr over ↦ over
          ] in
          rw (← c.self.view_is) (search_apart t.schema t.index t.count t.next t.rows (is_written t.mark) t.is_failed t.pager c.after.new.pager _ (Option Region) c.in_ok-next.field-0 c.apart.result
          c.in_ok-next.ensures.effect c.apart.ensures over);
    }

pub returns-in_default : goal.returns-in_default
returns-in_default g c = record {
  begins = search rules;
  falls = search rules;
  last = search rules;
  led = λ told honest given.
      let t = c.args.self.now in
      let next = c.args.region.now.next in
      let found = subst (λ (v : TreeView). GivesAny v.inner.index v.store next c.in_ok-next.field-0) c.self.view_is (c.in_ok-next.ensures.given c.self.invariant.checked) in
      any_given t.inner.index t.store next None told honest (rw c.in_default.is at found) given;
  after = search rules;
  effect = search rules;
}

pub returns-then-begins_at : goal.returns-then-begins_at
returns-then-begins_at g c = record {
  begins = search rules;
  falls = search rules;
  last = search rules;
  led = λ told honest given.
      let t = c.args.self.now in
      let next = c.args.region.now.next in
      let found = subst (λ (v : TreeView). GivesAny v.inner.index v.store next c.in_ok-next.field-0) c.self.view_is (c.in_ok-next.ensures.given c.self.invariant.checked) in
      any_given t.inner.index t.store next (Some c.in-Some.next) told honest (rw c.in-Some.is at found) given;
  after = search rules;
  effect = search rules;
}
