use Rattle.std.proofs.Common.{◌≡◌, ◌<◌, ◌^◌, inl, inr, Option, Some, subst, sym, None, rules}
use Rattle.ub_tree.proofs.Common.{GivesAny, is_written, IsHonest, IsRegionOf, IsWayFault, Key, key_before, Region, tree_view, TreeView}
use Rattle.ub_tree.proofs.CallFacts.{last_small}
use Rattle.ub_tree.proofs.NeighbourFacts.{before_ends, few_of, given_next, search_apart}
use Rattle.ub_tree.proofs.SearchFacts.{search_refused}
use Rattle.ub_tree.proofs.AloneFacts.{any_given, any_refused}
use Rattle.ub_tree.proofs.tree.Tree.region_before.Goals as goal

pub returns-in_err-before : goal.returns-in_err-before
returns-in_err-before g c = record {
  ends = search rules;
  falls = search rules;
  led = λ told honest given.
      let t = c.args.self.now in
      let i = c.self.inside in
      let sought = key_before c.args.region.now.first.z c.args.region.now.first.number in
      let small = subst (λ n. n < 2 ^ 128) (sym c.self.invariant.last_is) (last_small i.schema.dims i.schema.counts.few_dims) in
      let near = subst (λ (v : TreeView). v.inner.index.last < 2 ^ 128) c.self.view_is small in
      let fault = subst (λ (v : TreeView). IsWayFault v.inner.index v.store (λ k. sought ≡ Some k) c.in_err-before.field-0.0) c.self.view_is (c.in_err-before.ensures.effect.faults c.self.invariant.checked) in
      any_refused t.inner.index t.store sought told c.from_residual.result c.in_err-before.field-0.0 near honest given c.from_residual.ensures.1 fault;
  before = search rules;
  effect = let t = c.self.inside in
      let small = subst (λ n. n < 2 ^ 128) (sym c.self.invariant.last_is) (last_small t.schema.dims t.schema.counts.few_dims) in
      rw (← c.self.view_is) (search_refused t.schema t.index t.count t.next t.rows (is_written t.mark) t.is_failed t.pager c.before-2.new.pager _ (Option Region) c.from_residual.result c.in_err-before.field-0.0 small c.self.invariant.checked
      c.from_residual.ensures.1 c.in_err-before.ensures.effect);
}

pub returns-else-begins_at : goal.returns-else-begins_at
returns-else-begins_at g c =
    let t = c.self.inside in
    let span = c.args.region.now in
    let before = c.in-Some.before in
    let v : TreeView = tree_view t.schema t.index t.count t.next t.rows (is_written t.mark) t.is_failed t.pager in
    let few = few_of (λ (k : Key). k.number) before.next c.number_in-number.result c.number_in-number.type_inv c.number_in-number.ensures in
    record {
      ends = search rules;
      falls = search rules;
      led = λ told honest given.
          let of = subst (λ (x : TreeView). IsRegionOf x span) (sym c.self.view_is) c.requires in
          let found = given_next v (key_before span.first.z span.first.number) before (rw c.in-Some.is at (c.in_ok-before.ensures.given c.self.invariant.checked)) in
          elim (before_ends v of.key found.0 span before of.falls found.1 found.2 few) [
            | inl same ↦ let no = c.if-begins_at.ensures.1 same in cc
            | inr over ↦ absurd (over (subst (λ (x : TreeView). IsHonest x.store) (sym c.self.view_is) honest))
          ];
      before = search rules;
      effect = let told = subst (λ (x : TreeView). IsRegionOf x span) (sym c.self.view_is) c.requires in
          let given = given_next v (key_before span.first.z span.first.number) before (rw c.in-Some.is at (c.in_ok-before.ensures.given c.self.invariant.checked)) in
          let over : ¬ (IsHonest t.pager.store) =
          elim (before_ends v told.key given.0 span before told.falls given.1 given.2 few) [
            | inl same ↦ let no = c.if-begins_at.ensures.1 same in cc
            | inr over ↦ over
          ] in
          rw (← c.self.view_is) (search_apart t.schema t.index t.count t.next t.rows (is_written t.mark) t.is_failed t.pager c.before-2.new.pager _ (Option Region) c.in_ok-before.field-0 c.apart.result
          c.in_ok-before.ensures.effect c.apart.ensures over);
    }

pub returns-in_default : goal.returns-in_default
returns-in_default g c = record {
  ends = search rules;
  falls = search rules;
  led = λ told honest given.
      let t = c.args.self.now in
      let sought = key_before c.args.region.now.first.z c.args.region.now.first.number in
      let found = subst (λ (v : TreeView). GivesAny v.inner.index v.store sought c.in_ok-before.field-0) c.self.view_is (c.in_ok-before.ensures.given c.self.invariant.checked) in
      any_given t.inner.index t.store sought None told honest (rw c.in_default.is at found) given;
  before = search rules;
  effect = search rules;
}

pub returns-then-begins_at : goal.returns-then-begins_at
returns-then-begins_at g c = record {
  ends = search rules;
  falls = search rules;
  led = λ told honest given.
      let t = c.args.self.now in
      let sought = key_before c.args.region.now.first.z c.args.region.now.first.number in
      let found = subst (λ (v : TreeView). GivesAny v.inner.index v.store sought c.in_ok-before.field-0) c.self.view_is (c.in_ok-before.ensures.given c.self.invariant.checked) in
      any_given t.inner.index t.store sought (Some c.in-Some.before) told honest (rw c.in-Some.is at found) given;
  before = search rules;
  effect = search rules;
}
