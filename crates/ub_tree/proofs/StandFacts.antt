-- What stands on the pages of a tree's regions once a row was put in, or taken out, over an honest store.
use Rattle.std.proofs.Common.{◌≡◌, ◌≢◌, ◌<◌, ◌+◌, ◌^◌, ◌∙◌, inl, inr, ℕ, List, Result, Ok, Err, OnOk, IfSome, Some, length, sym, ap, subst, refl, arith, slice_get}
use Rattle.ub_tree.proofs.Common.{all_more, AllByRecursion, CanStand, ChangeView, FallsInto, FallsTo, GrowsAt, HasReadAt, insert_row, IsAddReady, IsBefore}
use Rattle.ub_tree.proofs.Common.{IsHonest, IsRegion, IsRegionOf, IsRegionThere, IsSpelledAt, IsTakenIn, IsUnspelled, KeepsTold, Key, key_of, keys_of}
use Rattle.ub_tree.proofs.Common.{LeavesRows, length-insert_row, page_count, PutsRow, PutsSheets, PutsTwo, Region, region_page, RegionRows, RegionView}
use Rattle.ub_tree.proofs.Common.{remove_row, Row, Schema, Sheet, Spells, SpellsHalves, split, StandAt, StoreFacts, StoresAt, TakesRow, TreeFault, TreeView}
use Rattle.ub_tree.proofs.Common.{ways_hold}
use Rattle.ub_tree.proofs.GrowFacts.{grows_by}
use Rattle.ub_tree.proofs.HoldingFacts.{on_region, read_region}
use Rattle.ub_tree.proofs.RoomFacts.{before_next, one_stands}
use Rattle.ub_tree.proofs.WayFacts.{region_no_index}
use Rattle.ub_tree.proofs.CallFacts.{one_falls}

-- no page that a change of the index spells is that of a region: what stands there is none of an index
pub own_unspelled : (t : TreeView) (from : ℕ) (change : ChangeView) (span : Region) → t.inner.index.last < 2 ^ 128 → IsHonest t.store → IsRegionThere t span
    → AllByRecursion (IsSpelledAt t from change) change.sheets → IsUnspelled span.page change.sheets
own_unspelled t from change span small honest there spelled =
    all_more (IsSpelledAt t from change) (λ (s : Sheet). span.page ≢ s.number)
    (λ s h same. region_no_index t.inner.index.last small t.schema there.region there.on.0 (h.kind (region_page t.schema there.region) (ap (slice_get t.store.pages) (sym same) ∙ there.on.2 honest)))
    change.sheets spelled

-- the halves of a region were put, and then the pages of the index
module _ (a g h n : TreeView) (span : Region) (there : IsRegionThere a span) (first : Key) (change : ChangeView) (number : ℕ) (small : a.inner.index.last < 2 ^ 128)
    (ready : IsAddReady a span first change) (number_is : number ≡ change.start) (left right : RegionRows)
    (put : PutsTwo number (region_page g.schema right) span.page (region_page g.schema left) g.store h.store) (puts : PutsSheets change.sheets h.store n.store) where
  number_at : number ≡ page_count a.store
  number_at = number_is ∙ ready.start

  new_unspelled : IsHonest a.store → IsUnspelled number change.sheets
  new_unspelled honest =
      let at = number_at in
      all_more (IsSpelledAt a (page_count a.store + 1) change) (λ (s : Sheet). number ≢ s.number) (λ s h same. elim h.there [
        | inl near ↦ absurd (omega arith)
        | inr new ↦ let least = new.0 in absurd (omega arith)
      ]) change.sheets (ready.spelled honest)

  pub halves_stand : IsHonest a.store → IsHonest g.store → IsHonest h.store → (d : TreeView) → d.store ≡ n.store → d.schema ≡ g.schema → left.first ≡ span.first
      → SpellsHalves d span.page (page_count a.store) span.first (record { left = left.rows; first = right.first; right = right.rows })
  halves_stand honest honest_g honest_h d stores schemas first_is =
      let at = number_at in
      let own = there.there in
      let some : number ≢ 0 = λ e. absurd (omega arith) in
      let apart : number ≢ span.page = λ e. absurd (omega arith) in (
        ap (λ (s : StoreFacts). slice_get s.pages span.page) stores
            ∙ puts.others honest_h span.page (own_unspelled a (page_count a.store + 1) change span small honest there (ready.spelled honest))
            ∙ put.written_other honest_g ∙ ap (λ (s : Schema). Some (region_page s left)) (sym schemas)
            ∙ ap (λ (k : Key). Some (region_page d.schema (record { first = k; rows = left.rows }))) first_is,
        subst (λ (m : ℕ). Spells d m right.first right.rows) at
            (ap (λ (s : StoreFacts). slice_get s.pages number) stores ∙ puts.others honest_h number (new_unspelled honest) ∙ put.written honest_g some apart
            ∙ ap (λ (s : Schema). Some (region_page s right)) (sym schemas)),
      )

-- rows stand where a region stood that wasn't full, or was
pub stand_alone : {T : Type 0} (r : Result T TreeFault) (span : Region) (count : ℕ) (rows : List Row) (old new : TreeView) → count ≢ old.schema.page_rows
    → OnOk r (IsHonest old.store → Spells new span.page span.first rows) → OnOk r (IsHonest old.store → StandAt span count rows old new)
stand_alone (Err e) span count rows old new few h = tt
stand_alone (Ok x) span count rows old new few h = λ honest. record { alone = λ less. h honest; halved = λ full. absurd (few full) }

pub stand_halved : {T : Type 0} (r : Result T TreeFault) (span : Region) (count : ℕ) (rows : List Row) (old new : TreeView) → count ≡ old.schema.page_rows
    → OnOk r (IsHonest old.store → SpellsHalves new span.page (page_count old.store) span.first (split old.schema.dims old.schema.page_rows rows))
    → OnOk r (IsHonest old.store → StandAt span count rows old new)
stand_halved (Err e) span count rows old new full h = tt
stand_halved (Ok x) span count rows old new full h = λ honest. record { alone = λ less. absurd (omega arith); halved = λ again. h honest }

-- where a tree tells of the same regions, a key falls to the span to which it fell
pub falls_still : (old new : TreeView) (key : Key) (span : Region) → FallsTo old key span → KeepsTold old new → FallsTo new key span
falls_still old new key span falls kept =
    let told : IsRegionOf new span = (kept.told span).0 (record { key = key; falls = falls }) in
    record {
      holds = falls.holds;
      from = told.falls.from;
      to = told.falls.to;
      way = λ honest. (ways_hold new.inner.index new.store told.key span (told.falls.way honest)).2 key falls.holds;
    }

-- a row was put into the region that was read, and then counted
module _ (a mid d : TreeView) (next rows : ℕ) (row : Row) (span : Region) (page : RegionView) (counted : d ≡ record mid { next = next; rows = rows })
    (read : HasReadAt a (key_of a.schema.dims row) span page) (stores : StoresAt span (length page.region.rows) a mid)
    (can : CanStand a span (insert_row a.schema.dims row page.region.rows))
    (stand : IsHonest a.store → StandAt span (length page.region.rows) (insert_row a.schema.dims row page.region.rows) a mid) where
  abbrev key : Key
  key = key_of a.schema.dims row

  abbrev new_rows : List Row
  new_rows = insert_row a.schema.dims row page.region.rows

  schema_is : d.schema ≡ a.schema
  schema_is = ap (λ (v : TreeView). v.schema) counted ∙ ap (λ (v : TreeView). v.schema) stores.same

  first_is : page.region.first ≡ span.first
  first_is = read.read.on.1.0

  -- the region with the row, where it stands then
  taken_then : length page.region.rows < a.schema.page_rows → Spells d span.page span.first new_rows → IsTakenIn d span (record { first = page.region.first; rows = new_rows })
  taken_then less spells =
      let more = length-insert_row a.schema.dims row page.region.rows in
      let is = one_stands a span new_rows can (omega arith) in
      let below = before_next a.schema.dims span.next row page.region.rows read.read.on.1.1 read.falls.holds.to in
      subst (λ (k : Key). IsTakenIn d span (record { first = k; rows = new_rows })) (sym first_is) (
        subst (λ (s : Schema). IsRegion s (record { first = span.first; rows = new_rows })) (sym schema_is) is,
        (refl, subst (λ (s : Schema). IfSome span.next (λ end. AllByRecursion (λ k. IsBefore k end) (keys_of s.dims new_rows))) (sym schema_is) below),
        λ _. spells,
      )

  pub puts_row : PutsRow row a d
  puts_row = record {
    alone = λ number region honest into less.
        let grown : GrowsAt key a d = grows_by a a mid d next rows key span page refl counted read stores in
        let on = on_region a key number region span honest into read.falls in
        let same : page.region ≡ region = read.taken honest region on.0 in
        let less_page : length page.region.rows < a.schema.page_rows = subst (λ (r : RegionRows). length r.rows < a.schema.page_rows) (sym same) less in
        let spells = subst (λ (v : TreeView). Spells v span.page span.first new_rows) (sym counted) ((stand honest).alone less_page) in
        subst (λ (r : RegionRows). FallsInto d key number (record { first = r.first; rows = insert_row a.schema.dims row r.rows })) same (record {
          span = span;
          falls = falls_still a d key span read.falls (grown.spare number region honest into less).0;
          page_is = on.1;
          taken = taken_then less_page spells;
        });
    halved = λ number region honest into full.
        let on = on_region a key number region span honest into read.falls in
        let same : page.region ≡ region = read.taken honest region on.0 in
        let full_page : length page.region.rows ≡ a.schema.page_rows = subst (λ (r : RegionRows). length r.rows ≡ a.schema.page_rows) (sym same) full in
        let halves = (stand honest).halved full_page in
        let then : SpellsHalves d span.page (page_count a.store) span.first (split a.schema.dims a.schema.page_rows new_rows) =
        subst (λ (v : TreeView). SpellsHalves v span.page (page_count a.store) span.first (split a.schema.dims a.schema.page_rows new_rows)) (sym counted) halves in
        subst (λ (r : RegionRows). SpellsHalves d number (page_count a.store) r.first (split a.schema.dims a.schema.page_rows (insert_row a.schema.dims row r.rows))) same
        (subst (λ (k : Key). SpellsHalves d number (page_count a.store) k (split a.schema.dims a.schema.page_rows new_rows)) (sym first_is)
        (subst (λ (m : ℕ). SpellsHalves d m (page_count a.store) span.first (split a.schema.dims a.schema.page_rows new_rows)) on.1 then));
  }

-- rows that were put stand so once the index is put
pub joined_stand : (b mid n d : TreeView) (span : Region) (change : ChangeView) (rows : List Row) → IsRegionThere b span → b.inner.index.last < 2 ^ 128
    → (IsHonest b.store → AllByRecursion (IsSpelledAt b (page_count b.store) change) change.sheets) → (IsHonest b.store → IsHonest mid.store) → PutsSheets change.sheets mid.store n.store
    → (IsHonest b.store → Spells mid span.page span.first rows) → d.store ≡ n.store → d.schema ≡ mid.schema → IsHonest b.store → Spells d span.page span.first rows
joined_stand b mid n d span change rows there small spelled honest_mid puts put stores schemas honest =
    ap (λ (s : StoreFacts). slice_get s.pages span.page) stores
    ∙ puts.others (honest_mid honest) span.page (own_unspelled b (page_count b.store) change span small honest there (spelled honest)) ∙ put honest
    ∙ ap (λ (s : Schema). Some (region_page s (record { first = span.first; rows = rows }))) (sym schemas)

-- what is left of the region that was read
pub takes_row : (a mid d : TreeView) (key : Key) (span : Region) (page : RegionView) (left : List Row) (rows : ℕ) → d ≡ record mid { rows = rows } → HasReadAt a key span page
    → left ≡ remove_row a.schema.dims key page.region.rows → (IsHonest a.store → LeavesRows span left a mid) → TakesRow key a d
takes_row a mid d key span page left rows counted read left_is leaves = λ number region honest into.
    let one : into.span ≡ span = one_falls a key into.span span honest into.falls read.falls in
    let same = (read_region a key span page read honest number region into).0 in
    let then : LeavesRows span left a d = subst (λ (v : TreeView). LeavesRows span left a v) (sym counted) (leaves honest) in
    subst (λ (s : Region). LeavesRows s (remove_row a.schema.dims key region.rows) a d) (sym one)
    (subst (λ (rs : List Row). LeavesRows span rs a d) (left_is ∙ ap (λ (rs : List Row). remove_row a.schema.dims key rs) same) then)
