use Rattle.std.proofs.Common.{◌≡◌, Option, inl, ap, arith, refl, subst, sym}
use Rattle.ub_index.proofs.Common.{Head, index_view, IsAim, Key, Leaf, Meeting, Memory, PagerView, Store}
use Rattle.ub_index.proofs.AlongFacts.{is_none, leaf_handed, leaf_none, leaf_refused, memory_after}
use Rattle.ub_index.proofs.SearchFacts.{down_keeps, search_refused, step_refused}
use Rattle.ub_index.proofs.walking.hand_leaf.Goals as goal

pub returns-in_default : goal.returns-in_default
returns-in_default g c =
    leaf_none (g.T.RegionSink.Takes c.args.boxes.now) (index_view c.args.root c.args.levels c.args.last) c.args.boxes.now c.args.from.now c.args.sink.now c.args.pager.now
    (c.aim.ensures.none (is_none c.aim.result c.in_default.not-Some))

pub hand_along-requires-clause-count : goal.hand_along-requires-clause-count
hand_along-requires-clause-count g c = ap (λ (h : Head). h.count) (c.in_ok-head.ensures.ends c.cached-page.result.now c.cached-page.ensures.held).0

pub hand_along-requires-clause-ends : goal.hand_along-requires-clause-ends
hand_along-requires-clause-ends g c = (c.in_ok-head.ensures.ends c.cached-page.result.now c.cached-page.ensures.held).1

pub hand_along-requires-clause-comes : goal.hand_along-requires-clause-comes
hand_along-requires-clause-comes g c = (c.in-Some.key, c.in-Some.ensures.found, c.in_ok-leaf.ensures.holds)

pub returns-in_err-leaf : goal.returns-in_err-leaf
returns-in_err-leaf g c =
    leaf_refused (g.T.RegionSink.Takes c.args.boxes.now) (index_view c.args.root c.args.levels c.args.last) c.args.boxes.now c.args.from.now c.args.sink.now c.args.sink.now c.args.pager.now c.leaf_of.new.pager
    c.from_residual.result c.in_err-leaf.field-0.0 c.from_residual.ensures.1 c.in_err-leaf.ensures.forgotten
    (search_refused (Option Key) Leaf (λ (k : Key). k ≡ c.in-Some.key) (IsAim c.args.last (Meeting c.args.boxes.now) c.args.from.now) (index_view c.args.root c.args.levels c.args.last)
    c.args.pager.now c.args.pager.now c.leaf_of.new.pager
    (λ sure k same. subst (λ (x : Key). IsAim c.args.last (Meeting c.args.boxes.now) c.args.from.now x) (sym same) c.in-Some.ensures.found) refl refl (λ sure. sure, λ n page held. inl held)
    c.from_residual.result c.in_err-leaf.field-0.0 c.from_residual.ensures.1 c.in_err-leaf.ensures.effect)

pub returns-in_err-head : goal.returns-in_err-head
returns-in_err-head g c =
    leaf_refused (g.T.RegionSink.Takes c.args.boxes.now) (index_view c.args.root c.args.levels c.args.last) c.args.boxes.now c.args.from.now c.args.sink.now c.args.sink.now c.args.pager.now c.bring_next.new.pager
    c.from_residual-in_err-head.result c.in_err-head.field-0.0 c.from_residual-in_err-head.ensures.1 c.in_err-head.ensures.forgotten
    (step_refused (Option Key) Head (IsAim c.args.last (Meeting c.args.boxes.now) c.args.from.now) (index_view c.args.root c.args.levels c.args.last) c.in-Some.key c.in-Some.ensures.found 1 (omega arith)
    c.in_ok-leaf.leaf.place.entry c.in_ok-leaf.leaf.place.next c.args.pager.now c.leaf_of.new.pager c.bring_next.new.pager (ap (λ (p : PagerView). p.store) c.in_ok-leaf.ensures.effect.same)
    (ap (λ (p : PagerView). p.trace) c.in_ok-leaf.ensures.effect.same) (down_keeps c.in_ok-leaf.ensures.effect) (λ honest sure. (c.in_ok-leaf.ensures.leads honest sure).stops)
    c.from_residual-in_err-head.result c.in_err-head.field-0.0 c.from_residual-in_err-head.ensures.1 c.in_err-head.ensures.steps)

pub returns-in_err-on : goal.returns-in_err-on
returns-in_err-on g c =
    leaf_refused (g.T.RegionSink.Takes c.args.boxes.now) (index_view c.args.root c.args.levels c.args.last) c.args.boxes.now c.args.from.now c.args.sink.now c.hand_along.new.sink c.args.pager.now c.bring_next.new.pager
    c.from_residual-in_err-on.result (Store Memory) c.from_residual-in_err-on.ensures.1 tt
    (step_refused (Option Key) (Option Key) (IsAim c.args.last (Meeting c.args.boxes.now) c.args.from.now) (index_view c.args.root c.args.levels c.args.last) c.in-Some.key c.in-Some.ensures.found 1 (omega arith)
    c.in_ok-leaf.leaf.place.entry c.in_ok-leaf.leaf.place.next c.args.pager.now c.leaf_of.new.pager c.bring_next.new.pager (ap (λ (p : PagerView). p.store) c.in_ok-leaf.ensures.effect.same)
    (ap (λ (p : PagerView). p.trace) c.in_ok-leaf.ensures.effect.same) (down_keeps c.in_ok-leaf.ensures.effect) (λ honest sure. (c.in_ok-leaf.ensures.leads honest sure).stops)
    c.from_residual-in_err-on.result (Store Memory) c.from_residual-in_err-on.ensures.1
    (memory_after c.args.last 1 c.in_ok-leaf.leaf.place.entry c.in_ok-leaf.leaf.place.next c.leaf_of.new.pager c.bring_next.new.pager c.in_ok-head.head c.in_ok-head.ensures.steps))

pub returns : goal.returns
returns g c =
    leaf_handed (g.T.RegionSink.Takes c.args.boxes.now) (index_view c.args.root c.args.levels c.args.last) c.args.boxes.now c.args.from.now c.in-Some.key c.in_ok-leaf.leaf c.cached-page.result.now c.in_ok-head.head
    c.args.sink.now c.hand_along.new.sink c.args.pager.now c.leaf_of.new.pager c.bring_next.new.pager c.in_ok-on.on c.in-Some.ensures.found c.in_ok-leaf.ensures.holds c.in_ok-leaf.ensures.leads
    (ap (λ (p : PagerView). p.store) c.in_ok-leaf.ensures.effect.same) (ap (λ (p : PagerView). p.trace) c.in_ok-leaf.ensures.effect.same) (down_keeps c.in_ok-leaf.ensures.effect)
    c.in_ok-head.ensures c.cached-page.ensures.held c.cached-page.ensures.page c.in_ok-on.ensures
