use Rattle.std.proofs.Common.{◌≡◌, ◌<◌, ◌+◌, ◌^◌, ◌∙◌, ℕ, Ok, Err, sym, ap, subst, length, inr, refl, true, false}
use Rattle.ub_tree.proofs.Common.{BadOrder, CanStand, FallsInto, has_key, HasReadAt, insert_row, InsertsAs, is_written, IsHonest, IsRow, Key, key_of}
use Rattle.ub_tree.proofs.Common.{last_address, measures_of, next_after, Page, StandAt, StoresAt, tree_view, TreeView}
use Rattle.ub_tree.proofs.EffectFacts.{changes_of, counted_anew, left_by, marked_sound, searched_by, then_changed, unchanged_of}
use Rattle.ub_tree.proofs.GrowFacts.{added_answers, grown, grows_by, key_there, passing_answers_key, answers_err_at, answers_ok_at, next_is, refused_inserts}
use Rattle.ub_tree.proofs.HoldingFacts.{key_is_there, next_key}
use Rattle.ub_tree.proofs.RemovalFacts.{holder}
use Rattle.ub_tree.proofs.RoomFacts.{can_stand, rows_on}
use Rattle.ub_tree.proofs.StandFacts.{puts_row}
use Rattle.ub_tree.proofs.tree.Tree.insert_within.Goals as goal

pub returns-in_err-region : goal.returns-in_err-region
returns-in_err-region g c =
    let a = c.args.self.now in
    let is = next_key _ a c.shape.result c.args.row.now c.key-key.result c.self.view_is c.shape.ensures c.key-key.ensures in
    refused_inserts a c.read_holding.new.self c.args.row.now c.requires.able c.from_residual.result c.in_err-region.field-0.0 c.from_residual.ensures.1
    (λ honest number region into. passing_answers_key a _ c.from_residual.result c.in_err-region.field-0.0 c.from_residual.ensures.1
    (c.in_err-region.ensures.led number region honest (subst (λ (k : Key). FallsInto a k number region) (sym is) into)) number region into)
    (changes_of c.args.row.now.number a c.read_holding.new.self c.from_residual.result
    (searched_by c.from_residual.result c.in_err-region.field-0.0 a c.read_holding.new.self c.from_residual.ensures.1 c.in_err-region.ensures.effect))

pub returns-in_default : goal.returns-in_default
returns-in_default g c =
    let a = c.args.self.now in
    let row = c.args.row.now in
    let span = c.in_ok-region.region in
    let page = c.read_holding.new.page in
    let is = next_key _ a c.shape.result row c.key-key.result c.self.view_is c.shape.ensures c.key-key.ensures in
    let read = subst (λ (k : Key). HasReadAt a k span page) is c.in_ok-region.ensures.read in
    let has : has_key a.schema.dims (key_of a.schema.dims row) page.region.rows ≡ true =
    subst (λ (d : ℕ). has_key d (key_of d row) page.region.rows ≡ true) read.read.dims c.in_default.ensures.none in
    let taken = key_there a (key_of a.schema.dims row) span page.region read.falls read.read.on has (holder a (key_of a.schema.dims row) span page read) in
    subst (λ (v : TreeView). InsertsAs row a v (Err (Page span.page BadOrder))) (sym c.in_ok-region.ensures.effect.same)
    (refused_inserts a a row c.requires.able (Err (Page span.page BadOrder)) (Page span.page BadOrder) refl (key_is_there a (key_of a.schema.dims row) span page read ℕ has)
    (unchanged_of row.number (Page span.page BadOrder) a (taken.0, inr (refl, taken.1), refl)))

pub store_with-requires-clause-rows : goal.store_with-requires-clause-rows
store_with-requires-clause-rows g c =
    let a = c.args.self.now in
    let row = c.args.row.now in
    let span = c.in_ok-region.region in
    let page = c.read_holding.new.page in
    let is = next_key _ a c.shape.result row c.key-key.result c.self.view_is c.shape.ensures c.key-key.ensures in
    let read = subst (λ (k : Key). HasReadAt a k span page) is c.in_ok-region.ensures.read in
    let has : has_key a.schema.dims (key_of a.schema.dims row) page.region.rows ≡ false =
    subst (λ (d : ℕ). has_key d (key_of d row) page.region.rows ≡ false) read.read.dims c.in-Some.ensures.place.0 in
    let good : IsRow a.schema.dims (measures_of a.schema) row = c.requires.row in
    let last : a.inner.index.last ≡ last_address a.schema.dims = subst (λ (v : TreeView). v.inner.index.last ≡ last_address v.schema.dims) c.self.view_is c.self.invariant.last_is in
    subst (λ (v : TreeView). CanStand v span (insert_row v.schema.dims row page.region.rows)) (sym c.in_ok-region.ensures.effect.same)
    (can_stand a span row page.region.rows last (rows_on a span page.region read.read.on) read.falls.holds good has)

pub returns-in_err-store_with : goal.returns-in_err-store_with
returns-in_err-store_with g c =
    let a = c.args.self.now in
    let row = c.args.row.now in
    let span = c.in_ok-region.region in
    let page = c.read_holding.new.page in
    let is = next_key _ a c.shape.result row c.key-key.result c.self.view_is c.shape.ensures c.key-key.ensures in
    let read = subst (λ (k : Key). HasReadAt a k span page) is c.in_ok-region.ensures.read in
    let has : has_key a.schema.dims (key_of a.schema.dims row) page.region.rows ≡ false =
    subst (λ (d : ℕ). has_key d (key_of d row) page.region.rows ≡ false) read.read.dims c.in-Some.ensures.place.0 in
    let b = c.read_holding.new.self in
    let r = c.from_residual-in_err-store_with.result in
    let e = c.in_err-store_with.field-0.0 in
    let same = c.in_ok-region.ensures.effect.same in
    refused_inserts a c.store_with.new.self row c.requires.able r e c.from_residual-in_err-store_with.ensures.1
    (added_answers a b (key_of a.schema.dims row) span page r same read has
    (answers_err_at {U = Unit {0}} (length page.region.rows ≡ b.schema.page_rows) b span r e c.from_residual-in_err-store_with.ensures.1 c.in_err-store_with.ensures.counted))
    (changes_of row.number a c.store_with.new.self r
    (left_by r e a c.store_with.new.self c.from_residual-in_err-store_with.ensures.1 (then_changed {T = Unit {0}} _ a b c.store_with.new.self same c.in_err-store_with.ensures.effect)))

pub returns : goal.returns
returns g c =
    let a = c.args.self.now in
    let row = c.args.row.now in
    let span = c.in_ok-region.region in
    let page = c.read_holding.new.page in
    let b = c.read_holding.new.self in
    let after = c.store_with.new.self in
    let is = next_key _ a c.shape.result row c.key-key.result c.self.view_is c.shape.ensures c.key-key.ensures in
    let read = subst (λ (k : Key). HasReadAt a k span page) is c.in_ok-region.ensures.read in
    let has : has_key a.schema.dims (key_of a.schema.dims row) page.region.rows ≡ false =
    subst (λ (d : ℕ). has_key d (key_of d row) page.region.rows ≡ false) read.read.dims c.in-Some.ensures.place.0 in
    let good : IsRow a.schema.dims (measures_of a.schema) row = c.requires.row in
    let last_a : a.inner.index.last ≡ last_address a.schema.dims = subst (λ (v : TreeView). v.inner.index.last ≡ last_address v.schema.dims) c.self.view_is c.self.invariant.last_is in
    let can = can_stand a span row page.region.rows last_a (rows_on a span page.region read.read.on) read.falls.holds good has in
    let u = c.self-2.inside in
    let d : TreeView = tree_view u.schema u.index u.count c.max-self-inside.result (u.rows + 1) (is_written u.mark) u.is_failed u.pager in
    let d_is : d ≡ record after { next = next_after after.next row.number; rows = after.rows + 1 } =
    ap (λ (n : ℕ). tree_view u.schema u.index u.count n (u.rows + 1) (is_written u.mark) u.is_failed u.pager) (c.max-self-inside.ensures ∙ next_is _ row.number)
    ∙ ap (λ (v : TreeView). record v { next = next_after v.next row.number; rows = v.rows + 1 }) c.self-2.view_is in
    let few : after.inner.count < 2 ^ 32 = subst (λ (v : TreeView). v.inner.count < 2 ^ 32) c.self-2.view_is c.self-2.invariant.few in
    let last : after.inner.index.last ≡ last_address after.schema.dims = subst (λ (v : TreeView). v.inner.index.last ≡ last_address v.schema.dims) c.self-2.view_is c.self-2.invariant.last_is in
    let same = c.in_ok-region.ensures.effect.same in
    let whole = d_is ∙ ap (λ (v : TreeView). record v { next = next_after v.next row.number; rows = v.rows + 1 }) c.in_ok-store_with.ensures.same.same
    ∙ ap (λ (v : TreeView). record v { placed = after.placed; store = after.store; is_changed = true; inner = after.inner; next = next_after v.next row.number; rows = v.rows + 1 }) same in
    let stores = subst (λ (v : TreeView). StoresAt span (length page.region.rows) v after) same c.in_ok-store_with.ensures.same in
    let stand = subst (λ (v : TreeView). IsHonest v.store → StandAt span (length page.region.rows) (insert_row v.schema.dims row page.region.rows) v after) same c.in_ok-store_with.ensures.put in
    record {
      inserted = grown a b after d row span page.region.rows (holder a (key_of a.schema.dims row) span page read) same good
          c.in_ok-store_with.ensures.same.same (marked_sound c.in_ok-store_with.ensures.effect.marked) last few d_is (λ i stored at all. c.in_ok-store_with.ensures.written i stored at all);
      number = refl;
      counted = (
        ap (λ (v : TreeView). v.next) whole,
        ap (λ (v : TreeView). v.rows) whole,
        ap (λ (v : TreeView). v.is_failed) whole ∙ c.requires.able,
        grows_by a b after d (next_after after.next row.number) (after.rows + 1) (key_of a.schema.dims row) span page same d_is read c.in_ok-store_with.ensures.same,
      );
      put = puts_row a after d (next_after after.next row.number) (after.rows + 1) row span page d_is read stores can stand;
      failed = λ failed. absurd (let works = c.requires.able in let bad = failed in cc);
      refused = λ _. added_answers a b (key_of a.schema.dims row) span page (Ok row.number) same read has
          (answers_ok_at (length page.region.rows ≡ b.schema.page_rows) b span tt row.number c.in_ok-store_with.ensures.counted);
      effect = changes_of row.number a d (Ok row.number)
          (counted_anew {T = Unit {0}} {U = ℕ} tt row.number a after d (after.rows + 1) (next_after after.next row.number) d_is
          (then_changed {T = Unit {0}} _ a b after same c.in_ok-store_with.ensures.effect));
    }
