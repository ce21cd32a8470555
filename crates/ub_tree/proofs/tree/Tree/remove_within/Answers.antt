use Rattle.std.proofs.Common.{◌≡◌, ◌<◌, ◌-◌, ◌^◌, ◌∙◌, ap, sym, subst, refl, ℕ}
use Rattle.ub_tree.proofs.Common.{is_written, last_address, region_count, RegionView, remove_row, tree_view, TreeView}
use Rattle.ub_tree.proofs.HoldingFacts.{has_told}
use Rattle.ub_tree.proofs.LessenFacts.{none_removes, shrunk_removes, uncounted_removes, unread_removes, unsettled_removes}
use Rattle.ub_tree.proofs.RoomFacts.{rows_on, rows_without}
use Rattle.ub_tree.specs.inner.Change.{IsMadeOf}
use Rattle.ub_tree.proofs.tree.Tree.remove_within.Goals as goal

pub returns-in_err-region : goal.returns-in_err-region
returns-in_err-region g c =
    unread_removes c.args.self.now c.args.key.now c.requires c.read_holding.new.self c.from_residual.result c.in_err-region.field-0.0 c.from_residual.ensures.1 c.in_err-region.ensures.effect
    (λ number region honest into. c.in_err-region.ensures.led number region honest into)

pub returns-then-not-remove : goal.returns-then-not-remove
returns-then-not-remove g c =
    let page = c.read_holding.new.page in
    let read = c.in_ok-region.ensures.read in
    let has = has_told page.region.rows read.read.dims refl c.remove.ensures.found c.if-not-remove.true in
    none_removes c.args.self.now c.args.key.now c.requires c.read_holding.new.self c.in_ok-region.region page read c.in_ok-region.ensures.effect.same has

pub returns-then-self-eq0 : goal.returns-then-self-eq0
returns-then-self-eq0 g c =
    let page = c.read_holding.new.page in
    let read = c.in_ok-region.ensures.read in
    let same = c.in_ok-region.ensures.effect.same in
    let has = has_told page.region.rows read.read.dims refl c.remove.ensures.found c.if-not-remove.false in
    let none = sym (ap (λ (v : TreeView). v.rows) (c.self.view_is ∙ same)) ∙ c.if-self-eq0.true in
    rw c.uncounted.ensures.fault (uncounted_removes c.args.self.now c.args.key.now c.requires c.read_holding.new.self c.in_ok-region.region page read same has none)

pub settle-requires-clause-rows : goal.settle-requires-clause-rows
settle-requires-clause-rows g c =
    let a = c.args.self.now in
    let key = c.args.key.now in
    let span = c.in_ok-region.region in
    let page = c.read_holding.new.page in
    let read = c.in_ok-region.ensures.read in
    let same = c.in_ok-region.ensures.effect.same in
    let are = rows_without a.schema span.first span.next key page.region.rows (rows_on a span page.region read.read.on) in
    rw c.remove.ensures.rows
    (subst (λ (v : TreeView). IsMadeOf v.schema span (record { dims = page.dims; region = record { first = page.region.first; rows = remove_row page.dims key page.region.rows } })) (sym same)
    (record { dims = read.read.dims; first = read.read.on.1.0; rows = rw read.read.dims are }))

pub returns-in_err-settle : goal.returns-in_err-settle
returns-in_err-settle g c =
    let a = c.args.self.now in
    let key = c.args.key.now in
    let page = c.read_holding.new.page in
    let read = c.in_ok-region.ensures.read in
    let same = c.in_ok-region.ensures.effect.same in
    let has = has_told page.region.rows read.read.dims refl c.remove.ensures.found c.if-not-remove.false in
    let some = λ (none : a.rows ≡ 0). c.if-self-eq0.false (ap (λ (v : TreeView). v.rows) (c.self.view_is ∙ same) ∙ none) in
    let left : c.remove.new.self.region.rows ≡ remove_row a.schema.dims key page.region.rows =
    ap (λ (v : RegionView). v.region.rows) c.remove.ensures.rows ∙ ap (λ (d : ℕ). remove_row d key page.region.rows) read.read.dims in
    unsettled_removes a key c.requires c.read_holding.new.self c.in_ok-region.region page read same has some c.remove.new.self.region.rows left c.settle.new.self
    c.from_residual-in_err-settle.result c.in_err-settle.field-0.0 c.from_residual-in_err-settle.ensures.1 c.in_err-settle.ensures.refused c.in_err-settle.ensures.leaves

pub returns : goal.returns
returns g c =
    let a = c.args.self.now in
    let key = c.args.key.now in
    let page = c.read_holding.new.page in
    let read = c.in_ok-region.ensures.read in
    let same = c.in_ok-region.ensures.effect.same in
    let has = has_told page.region.rows read.read.dims refl c.remove.ensures.found c.if-not-remove.false in
    let some = λ (none : a.rows ≡ 0). c.if-self-eq0.false (ap (λ (v : TreeView). v.rows) (c.self.view_is ∙ same) ∙ none) in
    let left : c.remove.new.self.region.rows ≡ remove_row a.schema.dims key page.region.rows =
    ap (λ (v : RegionView). v.region.rows) c.remove.ensures.rows ∙ ap (λ (d : ℕ). remove_row d key page.region.rows) read.read.dims in
    let u = c.self-2.inside in
    let d : TreeView = tree_view u.schema u.index u.count u.next (u.rows - 1) (is_written u.mark) u.is_failed u.pager in
    let d_is : d ≡ record c.settle.new.self { rows = c.settle.new.self.rows - 1 } = ap (λ (v : TreeView). record v { rows = v.rows - 1 }) c.self-2.view_is in
    let last = subst (λ (v : TreeView). v.inner.index.last ≡ last_address v.schema.dims) c.self-2.view_is c.self-2.invariant.last_is in
    let few = subst (λ (v : TreeView). region_count v < 2 ^ 32) c.self-2.view_is c.self-2.invariant.few in
    shrunk_removes a key c.requires c.read_holding.new.self c.in_ok-region.region page read same has some c.remove.new.self.region.rows left c.settle.new.self d last few d_is
    c.in_ok-settle.ensures.written c.in_ok-settle.ensures.taken c.in_ok-settle.ensures.refused c.in_ok-settle.ensures.leaves
