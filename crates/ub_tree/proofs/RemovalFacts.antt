-- A row taken out of a tree: what becomes of the regions where the one that had it is left with few rows.
use Rattle.std.proofs.Common.{rules, ◌≡◌, ◌≢◌, ◌<◌, ◌+◌, ◌-◌, ◌/◌, ◌^◌, inl, inr, ℕ, suc, Bool, true, false, List, [], ◌∷◌, ◌++◌, Some, Ok, Err, Result, IfErr, OnOk, length, map, nat_le, nat_lt, ◌∙◌, sym, ap, subst, refl, arith, slice_get, if◌then◌else◌}
use Rattle.ub_tree.proofs.Common.{AllByRecursion, AreRegions, entry_of, FallsTo, first_keys, firsts_of, has_key, HasMark, HasReadAt, index_holding}
use Rattle.ub_tree.proofs.Common.{IsElsewhereSame, IsErrAnd, IsHonest, IsReadFault, IsRegion, IsRegionIn, IsRegionThere, IsRemovalFault, IsRemoved, IsSound}
use Rattle.ub_tree.proofs.Common.{IsStored, IsTakenIn, JoinsBefore, JoinsNext, KeepsEntries, Key, last_address, length_permutation, page_count, Placed}
use Rattle.ub_tree.proofs.Common.{placed_with, put_rows, Region, region_count, RegionRows, regions, regions_in, regions_with, RegionView, remove, remove_keeps}
use Rattle.ub_tree.proofs.Common.{remove_none, remove_row, remove_rows, remove_table, Row, rows_of, settle, ShrinksAt, TakesAt, tree_rows, TreeFault, TreeView}
use Rattle.ub_tree.proofs.EffectFacts.{sound_stored}
use Rattle.ub_tree.proofs.ShrinkFacts.{has_at, join_one, join_with, length-regions, put_alone, regions_put, removed_at, settle_before, settle_large}
use Rattle.ub_tree.proofs.ShrinkFacts.{settle_next}
use Rattle.ub_tree.proofs.TreeFacts.{firsts_placed, region_get, placed_there, within_placed}

-- the rows that were read of the next region are put to these, where a page holds both
pub joins_next : (a s m : TreeView) (i : ℕ) (next : Region) (rows new more : List Row) (fit : Bool) (c : ℕ) → s ≡ a → m ≡ s → IsRegionIn a (i + 1) next
    → ((j : ℕ) (p : Placed) → IsHonest s.store → IsRegionIn s j next → slice_get s.placed j ≡ Some p → more ≡ p.region.rows) → c ≡ m.schema.page_rows → fit ≡ nat_le (length rows + length more) c
    → new ≡ (if fit then rows ++ more else rows) → IsHonest a.store → JoinsNext a.schema.page_rows i rows new fit (regions a)
joins_next a s m i next rows new more fit c one two at read count fits made honest =
    let up : i + 1 ≡ suc i = omega arith in
    let some = placed_there a.placed (i + 1) next at in
    let b = some.0 in
    let there : slice_get a.placed (suc i) ≡ Some b = ap (slice_get a.placed) (sym up) ∙ some.1 in
    let same : more ≡ b.region.rows =
    subst (λ (v : TreeView). (j : ℕ) (p : Placed) → IsHonest v.store → IsRegionIn v j next → slice_get v.placed j ≡ Some p → more ≡ p.region.rows) one read (i + 1) b honest at some.1 in
    let count_a : c ≡ a.schema.page_rows = count ∙ ap (λ (v : TreeView). v.schema.page_rows) (two ∙ one) in
    join_with a.schema.page_rows i rows new fit b.region (regions a) (region_get a.placed (suc i) b there) (rw (← same, ← count_a) fits) (rw (← same) made)

-- and so those of the region before
pub joins_one : (a s m : TreeView) (i j : ℕ) (span before : Region) (rows new more : List Row) (fit : Bool) (c : ℕ) → s ≡ a → m ≡ s → i ≡ j + 1 → IsRegionIn a j before → IsRegionIn a i span
    → ((k : ℕ) (p : Placed) → IsHonest s.store → IsRegionIn s k before → slice_get s.placed k ≡ Some p → more ≡ p.region.rows) → c ≡ m.schema.page_rows → fit ≡ nat_le (length more + length rows) c
    → new ≡ (if fit then more ++ rows else rows) → IsHonest a.store → JoinsBefore a.schema.page_rows i rows new fit (regions a)
joins_one a s m i j span before rows new more fit c one two is at_before at read count fits made honest =
    let down : j ≡ i - 1 = omega arith in
    let some = placed_there a.placed j before at_before in
    let b = some.0 in
    let there : slice_get a.placed (i - 1) ≡ Some b = ap (slice_get a.placed) (sym down) ∙ some.1 in
    let same : more ≡ b.region.rows =
    subst (λ (v : TreeView). (k : ℕ) (p : Placed) → IsHonest v.store → IsRegionIn v k before → slice_get v.placed k ≡ Some p → more ≡ p.region.rows) one read j b honest at_before some.1 in
    let count_a : c ≡ a.schema.page_rows = count ∙ ap (λ (v : TreeView). v.schema.page_rows) (two ∙ one) in
    let long = length-regions a.placed in
    let lt = within_placed a.placed i span at in
    let later : i ≢ 0 = (λ none. absurd (omega arith)) in
    join_one a.schema.page_rows i rows new fit b.region (regions a) later (region_get a.placed (i - 1) b there) (omega arith) (rw (← same, ← count_a) fits) (rw (← same) made)

-- what the rows of the region of a span, put on its page, make of the regions
abbrev pub Rewrites : Result (Unit {0}) TreeFault → Region → List Row → TreeView → TreeView → Type 0
Rewrites r span rows old new = (i : ℕ) → IsStored old → IsRegionIn old i span
    → OnOk r (IsStored new × (new.placed ≡ placed_with i (record { page = span.page; region = record { first = span.first; rows = rows } } ∷ []) old.placed))

pub rewritten_alone : (a b : TreeView) (r : Result (Unit {0}) TreeFault) (i : ℕ) (span : Region) (rows : List Row) → IsStored a → IsRegionIn a i span → Rewrites r span rows a b
    → OnOk r (IsStored b × (regions b ≡ put_rows i false rows (regions a)))
rewritten_alone a b (Err e) i span rows stored at written = tt
rewritten_alone a b (Ok x) i span rows stored at written =
    let both = written i stored at in
    let p = placed_there a.placed i span at in
    let region = region_get a.placed i p.0 p.1 in (
      both.0,
      ap regions_in both.1 ∙ regions_put i (record { page = span.page; region = record { first = span.first; rows = rows } } ∷ []) a.placed
          ∙ subst (λ (k : Key). regions_with i (record { first = k; rows = rows } ∷ []) (regions a) ≡ put_rows i false rows (regions a)) p.3 (put_alone i rows p.0.region (regions a) region),
    )

-- of regions the same by another name
as_same : (d : TreeView) (r : Result (Unit {0}) TreeFault) (xs ys : List RegionRows) → xs ≡ ys → OnOk r (IsStored d × (regions d ≡ xs)) → OnOk r (IsStored d × (regions d ≡ ys))
as_same d r xs ys same h = subst (λ (zs : List RegionRows). OnOk r (IsStored d × (regions d ≡ zs))) same h

module _ (a : TreeView) (i : ℕ) (span : Region) (rows : List Row) (stored : IsStored a) (at : IsRegionIn a i span) where
  within : i < length (regions a)
  within = (let lt = within_placed a.placed i span at in let long = length-regions a.placed in omega arith)

  abbrev settled : List RegionRows
  settled = settle a.schema.page_rows i (put_rows i false rows (regions a))

  -- rows that are not few stay alone
  pub settled_large : (d : TreeView) (r : Result (Unit {0}) TreeFault) → nat_lt (length rows) (a.schema.page_rows / 2) ≡ false → Rewrites r span rows a d → OnOk r (IsStored d × (regions d ≡ settled))
  settled_large d r large written =
      as_same d r (put_rows i false rows (regions a)) settled (settle_large a.schema.page_rows i rows (regions a) within large) (rewritten_alone a d r i span rows stored at written)

  -- few rows that fit on no page with others stay alone
  pub settled_alone : (m b d : TreeView) (r : Result (Unit {0}) TreeFault) (left new : List Row) → nat_lt (length rows) (a.schema.page_rows / 2) ≡ true → m ≡ a → b ≡ m
      → JoinsNext a.schema.page_rows i rows left false (regions a)
      → ((j : ℕ) → IsStored m → IsRegionIn m j span → JoinsBefore m.schema.page_rows j left new false (regions m))
      → Rewrites r span new b d → OnOk r (IsStored d × (regions d ≡ settled))
  settled_alone m b d r left new few one two next before written =
      as_same d r (put_rows i false new (regions a)) settled
      (settle_before a.schema.page_rows i rows left new false (regions a) within few next
      (subst (λ (v : TreeView). (j : ℕ) → IsStored v → IsRegionIn v j span → JoinsBefore v.schema.page_rows j left new false (regions v)) one before i stored at))
      (rewritten_alone a d r i span new stored at (subst (λ (v : TreeView). Rewrites r span new v d) (two ∙ one) written))

  -- what two regions that are joined make of the regions
  abbrev Joins : Result (Unit {0}) TreeFault → Region → Region → List Row → TreeView → TreeView → Type 0
  Joins r first second new old d = (j : ℕ) → IsStored old → IsRegionIn old j first → IsRegionIn old (j + 1) second → AllByRecursion (IsRegion old.schema) (put_rows j true new (regions old))
      → OnOk r (IsStored d × (regions d ≡ put_rows j true new (regions old)))

  -- few rows that fit on a page with those of the next region
  pub settled_next : (m d : TreeView) (r : Result (Unit {0}) TreeFault) (next : Region) (new : List Row) → nat_lt (length rows) (a.schema.page_rows / 2) ≡ true → m ≡ a
      → JoinsNext a.schema.page_rows i rows new true (regions a) → IsRegionIn a (i + 1) next → Joins r span next new m d
      → AllByRecursion (IsRegion a.schema) settled → OnOk r (IsStored d × (regions d ≡ settled))
  settled_next m d r next new k j l o p q = search (rules, as_same, settle_next, within)

  -- few rows that fit on the page of the region before
  pub settled_before : (m b d : TreeView) (r : Result (Unit {0}) TreeFault) (before : Region) (left new : List Row) → nat_lt (length rows) (a.schema.page_rows / 2) ≡ true → m ≡ a → b ≡ m
      → JoinsNext a.schema.page_rows i rows left false (regions a)
      → ((j : ℕ) → IsStored m → IsRegionIn m j span → JoinsBefore m.schema.page_rows j left new true (regions m))
      → ((j : ℕ) → IsStored m → IsRegionIn m j span → (k : ℕ) × (j ≡ k + 1) × IsRegionIn m k before)
      → Joins r before span new b d → AllByRecursion (IsRegion a.schema) settled → OnOk r (IsStored d × (regions d ≡ settled))
  settled_before m b d r before left new few one two next joins found written all =
      let place = subst (λ (v : TreeView). (j : ℕ) → IsStored v → IsRegionIn v j span → (k : ℕ) × (j ≡ k + 1) × IsRegionIn v k before) one found i stored at in
      let k = place.0 in
      let up = place.1 in
      let down : i - 1 ≡ k = omega arith in
      let same : put_rows (i - 1) true new (regions a) ≡ settled = settle_before a.schema.page_rows i rows left new true (regions a) within few next
      (subst (λ (v : TreeView). (j : ℕ) → IsStored v → IsRegionIn v j span → JoinsBefore v.schema.page_rows j left new true (regions v)) one joins i stored at) in
      let same_k : put_rows k true new (regions a) ≡ settled = ap (λ (n : ℕ). put_rows n true new (regions a)) (sym down) ∙ same in
      as_same d r (put_rows k true new (regions a)) settled same_k
      (subst (λ (v : TreeView). Joins r before span new v d) (two ∙ one) written k stored place.2 (subst (λ (n : ℕ). IsRegionIn a n span) up at) (subst (AllByRecursion (IsRegion a.schema)) (sym same_k) all))

pub shrinks_by : (a b mid d : TreeView) (key : Key) (span : Region) (rows : List Row) (n : ℕ) → b ≡ a → d ≡ record mid { rows = n } → FallsTo a key span → TakesAt span rows b mid → ShrinksAt key a d
shrinks_by a b mid d key span rows n same counted falls h =
    subst (λ (v : TreeView). ShrinksAt key a v) (sym counted) (subst (λ (v : TreeView). FallsTo v key span → ShrinksAt key v (record mid { rows = n })) same by_b falls)
  where
    kept : KeepsEntries b mid → KeepsEntries b (record mid { rows = n })
    kept k = search rules

    by_b : FallsTo b key span → ShrinksAt key b (record mid { rows = n })
    by_b into = record {
      span = span;
      falls = into;
      others = elim h.shrunk [
        | inl k ↦ inl (k.0, kept k.1)
        | inr k ↦ inr k
      ];
      changed = ap (λ (v : TreeView). v.is_changed) h.same;
    }

-- the rows of the region that holds a key, which are those of a span
pub record IsHolder (a : TreeView) (key : Key) (span : Region) (rows : List Row) : Type 0 where
  pub at : IsStored a → IsRegionIn a (index_holding key (first_keys (map entry_of a.placed))) span
  pub rows_are : (i : ℕ) (p : Placed) → IsHonest a.store → IsRegionIn a i span → slice_get a.placed i ≡ Some p → rows ≡ p.region.rows

pub holder : (a : TreeView) (key : Key) (span : Region) (page : RegionView) → HasReadAt a key span page → IsHolder a key span page.region.rows
holder a key span page read = record { at = read.region; rows_are = read.rows }

module _ (a : TreeView) (key : Key) (span : Region) (rows : List Row) (h : IsHolder a key span rows) (sound : IsSound a) where
  abbrev index : ℕ
  index = index_holding key (first_keys (map entry_of a.placed))

  pub region_stands : IsRegionIn a index span
  region_stands = h.at (sound_stored a sound)

  index_is : index ≡ index_holding key (firsts_of (regions a))
  index_is = ap (index_holding key) (firsts_placed a.placed)

  there : (p : Placed) × (slice_get a.placed index ≡ Some p) × (p.page ≡ span.page) × (p.region.first ≡ span.first)
  there = placed_there a.placed index span region_stands

  rows_there : rows ≡ there.0.region.rows
  rows_there = h.rows_are index there.0 sound.honest region_stands there.1

  pub found_is : has_key a.schema.dims key (tree_rows a) ≡ has_key a.schema.dims key rows
  found_is = has_at a.schema a.next key (regions a) index there.0.region sound.regions_are index_is (region_get a.placed index there.0 there.1) ∙ ap (has_key a.schema.dims key) (sym rows_there)

  pub removed_is : has_key a.schema.dims key rows ≡ true
      → remove a.schema.dims a.schema.page_rows key (regions a) ≡ settle a.schema.page_rows index (put_rows index false (remove_row a.schema.dims key rows) (regions a))
  removed_is has =
      removed_at a.schema.dims a.schema.page_rows key (regions a) index there.0.region (found_is ∙ has) index_is (region_get a.placed index there.0 there.1)
      ∙ ap (λ (rs : List Row). settle a.schema.page_rows index (put_rows index false (remove_row a.schema.dims key rs) (regions a))) (sym rows_there)

  pub one_less : has_key a.schema.dims key rows ≡ true → length (tree_rows a) ≡ suc (length (rows_of (remove a.schema.dims a.schema.page_rows key (regions a))))
  one_less has =
      let taken = (remove_rows a.schema a.next key (regions a) sound.regions_are (found_is ∙ has)).1 in
      sym (length_permutation (rows_of (regions a)) (taken.row ∷ rows_of (remove a.schema.dims a.schema.page_rows key (regions a))) taken.rows)

-- no row has the key
pub none_removed : (a b : TreeView) (key : Key) (span : Region) (rows : List Row) → IsHolder a key span rows → b ≡ a → has_key a.schema.dims key rows ≡ false → IsSound a → IsRemoved key false a b
none_removed a b key span rows k j l m = search (rules, found_is, remove_none)

-- a sound tree with a row counts one
pub some_counted : (a : TreeView) (key : Key) (span : Region) (rows : List Row) → IsHolder a key span rows → has_key a.schema.dims key rows ≡ true → a.rows ≡ 0 → ¬ (IsSound a)
some_counted a key span rows k j l = search (rules, one_less)

-- a row was taken out of a sound tree
pub shrunk : (a b after d : TreeView) (key : Key) (span : Region) (rows : List Row) → IsHolder a key span rows → b ≡ a → has_key a.schema.dims key rows ≡ true
    → IsElsewhereSame b after → (IsSound b → after.is_changed ≡ true → HasMark b.schema after.store.pages) → after.inner.index.last ≡ last_address after.schema.dims → region_count after < 2 ^ 32
    → d ≡ record after { rows = after.rows - 1 }
    → ((i : ℕ) → IsStored b → IsRegionIn b i span → AllByRecursion (IsRegion b.schema) (settle b.schema.page_rows i (put_rows i false (remove_row b.schema.dims key rows) (regions b)))
    → IsStored after × (regions after ≡ settle b.schema.page_rows i (put_rows i false (remove_row b.schema.dims key rows) (regions b))))
    → IsSound a → IsRemoved key true a d
shrunk a b after d key span rows h same has changed marks last few lowered written sound =
    let whole : after ≡ record a { placed = after.placed; store = after.store; is_changed = true; inner = after.inner } =
    changed ∙ ap (λ (v : TreeView). record v { placed = after.placed; store = after.store; is_changed = true; inner = after.inner }) same in
    let is = removed_is a key span rows h sound has in
    let new = remove a.schema.dims a.schema.page_rows key (regions a) in
    let new_are : AreRegions a.schema a.next new = remove_keeps a.schema a.next key (regions a) sound.regions_are in
    let each = subst (AllByRecursion (IsRegion a.schema)) is new_are.each in
    let i = index_holding key (first_keys (map entry_of a.placed)) in
    let at_a = subst (λ (v : TreeView). (j : ℕ) → IsStored v → IsRegionIn v j span → AllByRecursion (IsRegion v.schema) (settle v.schema.page_rows j (put_rows j false (remove_row v.schema.dims key rows) (regions v)))
    → IsStored after × (regions after ≡ settle v.schema.page_rows j (put_rows j false (remove_row v.schema.dims key rows) (regions v)))) same written in
    let both = at_a i (sound_stored a sound) (region_stands a key span rows h sound) each in
    let stored : IsStored (record a { placed = after.placed; store = after.store; is_changed = true; inner = after.inner }) = subst IsStored whole both.0 in
    let are : regions_in after.placed ≡ new = both.1 ∙ sym is in
    let mark : HasMark a.schema after.store.pages =
    subst (λ (v : TreeView). HasMark v.schema after.store.pages) same (marks (subst IsSound (sym same) sound) (ap (λ (v : TreeView). v.is_changed) whole)) in
    let less = one_less a key span rows h sound has in
    let counted = sound.rows_are in
    let long : length (rows_of (regions_in after.placed)) ≡ length (rows_of new) = ap (λ (rs : List RegionRows). length (rows_of rs)) are in
    let count = stored.count_is in
    subst (IsRemoved key true a) (sym (lowered ∙ ap (λ (v : TreeView). record v { rows = v.rows - 1 }) whole)) (record {
      found_is = sym (found_is a key span rows h sound ∙ has);
      schema = refl;
      regions_are = are;
      table = λ old is. rw are (remove_table a.schema a.next key (regions a) old sound.regions_are is (found_is a key span rows h sound ∙ has));
      next = refl;
      rows = omega arith;
      sound = record {
        working = sound.working;
        honest = stored.honest;
        last_is = last ∙ ap (λ (v : TreeView). last_address v.schema.dims) whole;
        indexed = stored.indexed;
        regions_are = rw are new_are;
        placed_are = stored.placed_are;
        count_is = count;
        rows_are = omega arith;
        some_next = sound.some_next;
        last_next = sound.last_next;
        few = omega arith;
        closed = λ e. cc;
        marked = λ _. mark;
      };
    })

-- a region that was read stands there
pub read_there : (a s : TreeView) (key : Key) (span : Region) (region : RegionRows) → s ≡ a → FallsTo a key span → span.page < page_count s.store → IsTakenIn s span region → IsRegionThere s span
read_there a s key span region k j l m = search rules

-- a search that was refused, as a removal answers it
read_removal : (t : TreeView) (e : TreeFault) → IsReadFault t e → IsRemovalFault t e
read_removal t e k = search rules

pub searched_removal : {T : Type 0} (r : Result T TreeFault) (e : TreeFault) (a m : TreeView) → IsErrAnd r (λ x. x ≡ e) → m ≡ a → IsReadFault m e → IfErr r (IsRemovalFault a)
searched_removal (Ok x) e a m is same h = tt
searched_removal (Err f) e a m is same h = rw is (subst (λ (v : TreeView). IsRemovalFault v e) same (read_removal m e h))
