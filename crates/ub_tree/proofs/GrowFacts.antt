-- A row put into a tree: where its region's rows come to stand, what becomes of the table, and what a call tells of it.
use Rattle.std.proofs.Common.{◌≡◌, ◌≢◌, ◌<◌, ◌≤◌, ◌+◌, ◌^◌, ◌∙◌, ◌++◌, ◌⊎◌, inl, inr, ℕ, zero, suc, true, false, List, [], ◌∷◌, Ok, Err, Result, IfErr, IfOk, OnOk, Option, None, Some, length, map, take, drop, max, nat_le, nat_lt, sym, ap, subst, refl, arith, slice_get, append_assoc}
use Rattle.ub_tree.proofs.Common.{AddsEntry, all_left, all_right, AllByRecursion, Answers, AnswersAt, AnswersKey, BadCount, cases_Bool, ChangesOf, EndsFull}
use Rattle.ub_tree.proofs.Common.{entries_of, Entry, entry_at, entry_of, falls_once, falls_other, FallsTo, first_keys, firsts_of, Full, GrowsAt, Halves}
use Rattle.ub_tree.proofs.Common.{has_key, HasMark, HasNumber, HasReadAt, HoldsKey, index_holding, insert, insert_keeps_new, insert_row, insert_table, Inserts}
use Rattle.ub_tree.proofs.Common.{InsertsAs, IsElsewhereSame, IsErrAnd, IsFree, IsFullWay, IsHonest, IsInserted, IsPassing, IsPutIn, IsRegion, IsRegionIn}
use Rattle.ub_tree.proofs.Common.{IsRegionOf, IsRoomFault, IsRow, IsSound, IsSplitAt, IsStored, IsTakenIn, KeepsEntries, KeepsGrown, Key, key_of, last_address}
use Rattle.ub_tree.proofs.Common.{LeadsTo, length_permutation, ltb-false, ltb-true, MAX_ROW_NUMBER, measures_of, next_after, Page, PageFault, placed_with}
use Rattle.ub_tree.proofs.Common.{Region, region_count, RegionRows, regions, regions_in, regions_with, RegionView, Row, rows_of, split, split_of, split_region}
use Rattle.ub_tree.proofs.Common.{Store, StoresAt, top, TreeFault, TreeView, ways_hold, WritesIndex, WritesPage}
use Rattle.ub_tree.proofs.EffectFacts.{changes_next, sound_stored}
use Rattle.ub_tree.proofs.HoldingFacts.{on_region, read_region}
use Rattle.ub_tree.proofs.RemovalFacts.{IsHolder, region_stands}
use Rattle.ub_tree.proofs.RoomFacts.{found_row, number_free, rows_each}
use Rattle.ub_tree.proofs.ShrinkFacts.{regions_put}
use Rattle.ub_tree.proofs.MeetFacts.{contains_at}
use Rattle.ub_tree.proofs.TreeFacts.{firsts_placed, region_get, placed_there}
pub use Rattle.ub_check.proofs.CheckingFacts.{drop_at}
use Rattle.ub_store.specs.declared.fault.StoreFault.TheVariants as store

-- rows that stand in place of a region's are one region, or two
module _ (old new : TreeView) (i : ℕ) (span : Region) (rows : List Row) where
  pub one_stored : (r : Result (Unit {0}) TreeFault) → nat_le (length rows) old.schema.page_rows ≡ true
      → OnOk r (IsStored new × (new.placed ≡ placed_with i (record { page = span.page; region = record { first = span.first; rows = rows } } ∷ []) old.placed)) → KeepsGrown old new
      → OnOk r (IsStored new × (regions new ≡ regions_with i (split_of old.schema span.first rows) (regions old)) × KeepsGrown old new)
  one_stored (Err e) fits h keeps = tt
  one_stored (Ok x) fits h keeps = (
    h.0,
    ap regions_in h.1 ∙ regions_put i (record { page = span.page; region = record { first = span.first; rows = rows } } ∷ []) old.placed ∙ rw fits refl,
    keeps,
  )

  abbrev halves : Halves
  halves = split old.schema.dims old.schema.page_rows rows

  pub two_stored : (r : Result (Unit {0}) TreeFault) → nat_le (length rows) old.schema.page_rows ≡ false → OnOk r (IsStored new × IsSplitAt i span halves old new × KeepsGrown old new)
      → OnOk r (IsStored new × (regions new ≡ regions_with i (split_of old.schema span.first rows) (regions old)) × KeepsGrown old new)
  two_stored (Err e) over h = tt
  two_stored (Ok x) over h = (
    h.0,
    ap regions_in h.1.1
        ∙ regions_put i (record { page = span.page; region = record { first = span.first; rows = halves.left } } ∷ record { page = h.1.0; region = record { first = halves.first; rows = halves.right } } ∷ []) old.placed
        ∙ rw over refl,
    h.2,
  )

-- insertion changes the region at the index of the row's key
insert_at_index : (dims c : ℕ) (row : Row) (rs : List RegionRows) (index : ℕ) (r : RegionRows) → slice_get rs index ≡ Some r → index ≡ index_holding (key_of dims row) (firsts_of rs)
    → insert dims c row rs ≡ regions_with index (split_region dims c (record { first = r.first; rows = insert_row dims row r.rows })) rs
insert_at_index dims c row rs index r at is =
    rw (← is) (rw (drop_at rs index r at) (sym (append_assoc (take index rs) (split_region dims c (record { first = r.first; rows = insert_row dims row r.rows })) (drop (suc index) rs))))

-- the next number isn't less than it was, and later than that of the row
pub next_later : (next number : ℕ) → (next ≤ next_after next number) × (number < next_after next number)
next_later next number = elim (cases_Bool (nat_lt number next)) [
  | inl t ↦ let less = ltb-true number next t in rw t (omega arith, less)
  | inr f ↦ let more = ltb-false number next f in rw f (omega arith, omega arith)
]

-- and in its range
pub next_most : (next number most : ℕ) → next ≤ most → number < most → next_after next number ≤ most
next_most next number most few less = elim (cases_Bool (nat_lt number next)) [
  | inl t ↦ rw t few
  | inr f ↦ rw f (omega arith)
]

-- one later than the number that was next
pub next_one : (next number : ℕ) → number ≡ next → next_after next number ≡ next + 1
next_one next number is = elim (cases_Bool (nat_lt number next)) [
  | inl t ↦ let less = ltb-true number next t in absurd (omega arith)
  | inr f ↦ rw f (omega arith)
]

-- it is the later of the one that was next and the one after that of the row
pub next_is : (next number : ℕ) → max next (number + 1) ≡ next_after next number
next_is next number = elim (cases_Bool (nat_lt number next)) [
  | inl t ↦ let less = ltb-true number next t in rw t (omega arith)
  | inr f ↦ let more = ltb-false number next f in rw f (omega arith)
]

-- a row was put into a sound tree that had none of its number
pub grown : (a b after d : TreeView) (row : Row) (span : Region) (read : List Row) → IsHolder a (key_of a.schema.dims row) span read → b ≡ a → IsRow a.schema.dims (measures_of a.schema) row
    → IsElsewhereSame b after → (IsSound b → after.is_changed ≡ true → HasMark b.schema after.store.pages) → after.inner.index.last ≡ last_address after.schema.dims
    → region_count after < 2 ^ 32 → d ≡ record after { next = next_after after.next row.number; rows = after.rows + 1 }
    → ((i : ℕ) → IsStored b → IsRegionIn b i span → AllByRecursion (IsRegion b.schema) (split_of b.schema span.first (insert_row b.schema.dims row read))
    → IsStored after × (regions after ≡ regions_with i (split_of b.schema span.first (insert_row b.schema.dims row read)) (regions b)) × KeepsGrown b after)
    → IsSound a → IsFree row.number (regions a) → IsPutIn row a d
grown a b after d row span read h same good changed marks last few counted written sound free =
    let dims = a.schema.dims in
    let key = key_of dims row in
    let later = next_after a.next row.number in
    let whole : after ≡ record a { placed = after.placed; store = after.store; is_changed = true; inner = after.inner } =
    changed ∙ ap (λ (v : TreeView). record v { placed = after.placed; store = after.store; is_changed = true; inner = after.inner }) same in
    let i = index_holding key (first_keys (map entry_of a.placed)) in
    let at = region_stands a key span read h sound in
    let there = placed_there a.placed i span at in
    let read_is : read ≡ there.0.region.rows = h.rows_are i there.0 sound.honest at there.1 in
    let news = split_of a.schema span.first (insert_row dims row read) in
    let is : insert dims a.schema.page_rows row (regions a) ≡ regions_with i news (regions a) =
    insert_at_index dims a.schema.page_rows row (regions a) i there.0.region (region_get a.placed i there.0 there.1) (ap (index_holding key) (firsts_placed a.placed))
    ∙ ap (λ (k : Key). regions_with i (split_of a.schema k (insert_row dims row there.0.region.rows)) (regions a)) there.3
    ∙ ap (λ (rs : List Row). regions_with i (split_of a.schema span.first (insert_row dims row rs)) (regions a)) (sym read_is) in
    let bounds = next_later a.next row.number in
    let kept = insert_keeps_new a.schema a.next later row (regions a) sound.regions_are good free bounds.0 bounds.1 in
    let each : AllByRecursion (IsRegion a.schema) (take i (regions a) ++ news ++ drop (suc i) (regions a)) = subst (AllByRecursion (IsRegion a.schema)) is kept.0.each in
    let news_are = all_right (IsRegion a.schema) (take i (regions a)) news (all_left (IsRegion a.schema) (take i (regions a) ++ news) (drop (suc i) (regions a)) each) in
    let at_a = subst (λ (v : TreeView). (j : ℕ) → IsStored v → IsRegionIn v j span → AllByRecursion (IsRegion v.schema) (split_of v.schema span.first (insert_row v.schema.dims row read))
    → IsStored after × (regions after ≡ regions_with j (split_of v.schema span.first (insert_row v.schema.dims row read)) (regions v)) × KeepsGrown v after) same written in
    let both = at_a i (sound_stored a sound) at news_are in
    let stored : IsStored (record a { placed = after.placed; store = after.store; is_changed = true; inner = after.inner }) = subst IsStored whole both.0 in
    let are : regions_in after.placed ≡ insert dims a.schema.page_rows row (regions a) = both.1 ∙ sym is in
    let mark : HasMark a.schema after.store.pages =
    subst (λ (v : TreeView). HasMark v.schema after.store.pages) same (marks (subst IsSound (sym same) sound) (ap (λ (v : TreeView). v.is_changed) whole)) in
    let long : length (rows_of (regions_in after.placed)) ≡ length (rows_of (insert dims a.schema.page_rows row (regions a))) = ap (λ (rs : List RegionRows). length (rows_of rs)) are in
    let more : length (rows_of (insert dims a.schema.page_rows row (regions a))) ≡ length (row ∷ rows_of (regions a)) =
    length_permutation (row ∷ rows_of (regions a)) (rows_of (insert dims a.schema.page_rows row (regions a))) kept.1 in
    let before : a.rows ≡ length (rows_of (regions a)) = sound.rows_are in
    let most = good.number.1 in
    let some = sound.some_next in
    let upper = bounds.0 in
    let count = stored.count_is in
    subst (IsPutIn row a) (sym (counted ∙ ap (λ (v : TreeView). record v { next = next_after v.next row.number; rows = v.rows + 1 }) whole)) (record {
      schema = refl;
      regions_are = are;
      next = refl;
      rows = refl;
      sound = record {
        working = sound.working;
        honest = stored.honest;
        last_is = last ∙ ap (λ (v : TreeView). last_address v.schema.dims) whole;
        indexed = stored.indexed;
        regions_are = rw are kept.0;
        placed_are = stored.placed_are;
        count_is = count;
        rows_are = omega arith;
        some_next = (let le : 1 ≤ later = omega arith in le);
        last_next = next_most a.next row.number 16777216 sound.last_next (omega arith);
        few = omega arith;
        closed = λ e. cc;
        marked = λ _. mark;
      };
      grown = both.2;
    })

-- so it has the row with its next number as its last
pub inserted_next : (a d : TreeView) (row : Row) → IsRow a.schema.dims (measures_of a.schema) row → row.number ≡ a.next → IsSound a → IsPutIn row a d → IsInserted row a d
inserted_next a d row good number sound put = record {
  number = number;
  schema = put.schema;
  regions_are = put.regions_are;
  table = λ old is_table. rw put.regions_are (insert_table a.schema a.next row (regions a) old sound.regions_are is_table good number);
  next = put.next ∙ next_one a.next row.number number;
  rows = put.rows;
  sound = put.sound;
  grown = put.grown;
}

all_inserted : (r : Result ℕ TreeFault) (a d : TreeView) (row : Row) → IsRow a.schema.dims (measures_of a.schema) row → row.number ≡ a.next → IsSound a → OnOk r (IsPutIn row a d) → OnOk r (IsInserted row a d)
all_inserted (Err e) a d row good number sound put = tt
all_inserted (Ok n) a d row good number sound put = inserted_next a d row good number sound put

-- the counts of a tree say nothing of its regions and pages
told_more : (t : TreeView) (next rows : ℕ) (region : Region) → IsRegionOf t region → IsRegionOf (record t { next = next; rows = rows }) region
told_more t next rows region h = record { key = h.key; falls = h.falls }

told_less : (t : TreeView) (next rows : ℕ) (region : Region) → IsRegionOf (record t { next = next; rows = rows }) region → IsRegionOf t region
told_less t next rows region h = record { key = h.key; falls = h.falls }

-- the tree with these counts
abbrev with_counts : TreeView → ℕ → ℕ → TreeView
with_counts t next rows = record t { next = next; rows = rows }

-- where a row was put, which then is counted
pub grows_by : (a b mid d : TreeView) (next rows : ℕ) (key : Key) (span : Region) (page : RegionView) → b ≡ a → d ≡ record mid { next = next; rows = rows } → HasReadAt a key span page
    → StoresAt span (length page.region.rows) b mid → GrowsAt key a d
grows_by a b mid d next rows key span page same counted read h =
    subst (λ (v : TreeView). GrowsAt key a v) (sym counted)
    (subst (λ (v : TreeView). HasReadAt v key span page → GrowsAt key v (with_counts mid next rows)) same by_b read)
  where
    kept : KeepsEntries b mid → KeepsEntries b (with_counts mid next rows)
    kept k = (
      record {
        count = k.0.count;
        told = λ region. (λ t. told_more mid next rows region ((k.0.told region).0 t), λ t. (k.0.told region).1 (told_less mid next rows region t));
      },
      k.1,
    )

    added : AddsEntry span.first b mid → AddsEntry span.first b (with_counts mid next rows)
    added k = k

    others : (WritesPage span.page b mid × KeepsEntries b mid) ⊎ (WritesIndex span.page b mid × AddsEntry span.first b mid)
        → (WritesPage span.page b (with_counts mid next rows) × KeepsEntries b (with_counts mid next rows)) ⊎ (WritesIndex span.page b (with_counts mid next rows) × AddsEntry span.first b (with_counts mid next rows))
    others (inl k) = inl (k.0, kept k.1)
    others (inr k) = inr (k.0, added k.1)

    by_b : HasReadAt b key span page → GrowsAt key b (with_counts mid next rows)
    by_b read = record {
      span = span;
      falls = read.falls;
      others = others h.others;
      full = λ number region honest into full. added (h.full (ap length (read_region b key span page read honest number region into).0 ∙ full));
      spare = λ number region honest into spare. kept (h.spare (subst (λ (rs : List Row). length rs < b.schema.page_rows) (sym (read_region b key span page read honest number region into).0) spare));
      changed = ap (λ (v : TreeView). v.is_changed) h.same;
    }

-- the key of a new row stands in the region on a span already
pub key_there : (t : TreeView) (key : Key) (span : Region) (region : RegionRows) → FallsTo t key span → IsTakenIn t span region
    → has_key t.schema.dims key region.rows ≡ true → IsHolder t key span region.rows → (IsSound t → ¬ (IsFree key.number (regions t))) × HasNumber t span.page key.number
key_there t key span region falls on has h = (
  λ sound free.
      let i = index_holding key (first_keys (map entry_of t.placed)) in
      let at = region_stands t key span region.rows h sound in
      let there = placed_there t.placed i span at in
      let read_is : region.rows ≡ there.0.region.rows = h.rows_are i there.0 sound.honest at there.1 in
      number_free t.schema.dims key there.0.region.rows (rows_each (λ row. row.number ≢ key.number) (regions t) i there.0.region (region_get t.placed i there.0 there.1) free)
      (subst (λ (rs : List Row). has_key t.schema.dims key rs ≡ true) read_is has),
  (let found = found_row t.schema.dims key region.rows has in (
    span,
    record { key = key; falls = falls },
    refl,
    region,
    on,
    found.0,
    contains_at region.rows found.1 found.0 found.2,
    found.3,
  )),
)

never_page : {A : Type 0} (e : TreeFault) (page : ℕ) (fault : PageFault) (r : Result A TreeFault) → IsPassing e → r ≡ Err e → r ≡ Err (Page page fault) → ⊥
never_page e page fault r (inl memory) is same = cc
never_page e page fault r (inr device) is same = cc

passing_room : (IsNeeded : Type 0) (t : TreeView) (key : Key) (e : TreeFault) → IsPassing e → IsRoomFault IsNeeded t key e
passing_room IsNeeded t key e (inl memory) = subst (IsRoomFault IsNeeded t key) (sym memory) tt
passing_room IsNeeded t key e (inr device) = subst (IsRoomFault IsNeeded t key) (sym device) tt

passing_key : {A : Type 0} (a : TreeView) (key : Key) (e : TreeFault) → IsPassing e → AnswersKey {A = A} a key (Err e)
passing_key a key e passing page region falls = (
  λ has. inr passing,
  λ none full many. inr passing,
  λ none number fault same. absurd (never_page e number fault _ passing refl same),
  λ none full few levels way. inr (inr passing),
  passing_room (length region.rows ≡ a.schema.page_rows) a key e passing,
)

-- where memory was refused or the device failed nothing more is asked
pub passing_answers_key : {A : Type 0} (a : TreeView) (key : Key) (r : Result A TreeFault) (e : TreeFault) → IsErrAnd r (λ x. x ≡ e) → IsPassing e → AnswersKey a key r
passing_answers_key {A} a key (Ok x) e is passing = absurd is
passing_answers_key {A} a key (Err f) e is passing = subst (λ (x : TreeFault). AnswersKey {A = A} a key (Err x)) (sym is) (passing_key a key e passing)

-- the way to each key that a region holds is full, where one of them is
full_way_to : (last : ℕ) (pages : List (List ℕ)) (key other : Key) (level : ℕ) (entry : Entry) (end : Option Key) (found : Entry) (next : Option Key) → LeadsTo last pages key level entry end found next
    → HoldsKey other found.first next → IsFullWay last pages key level entry end → IsFullWay last pages other level entry end
full_way_to last pages key other zero entry end found next leads h full = tt
full_way_to last pages key other (suc level) entry end found next (named, below, beyond, falls, leads) h (fitting, many, below2, beyond2, falls2, way) =
    let same = falls_once key (entries_of pages entry.page) end fitting.fits.ascends below2 beyond2 falls2 below beyond falls in
    let there : IsFullWay last pages key level below beyond =
    subst (λ (o : Option Key). IsFullWay last pages key level below o) same.1 (subst (λ (e : Entry). IsFullWay last pages key level e beyond2) same.0 way) in (
      fitting,
      many,
      below,
      beyond,
      falls_other last pages key other level entry end found next below beyond falls leads h,
      full_way_to last pages key other level below beyond found next leads h there,
    )

-- and so many of its lowest pages are
ends_full_to : (last : ℕ) (pages : List (List ℕ)) (key other : Key) (level : ℕ) (entry : Entry) (end : Option Key) (found : Entry) (next : Option Key) → LeadsTo last pages key level entry end found next
    → HoldsKey other found.first next → (full : ℕ) → EndsFull last pages key level entry end full → EndsFull last pages other level entry end full
ends_full_to last pages key other zero entry end found next leads h full ends = ends
ends_full_to last pages key other (suc level) entry end found next leads h full (inl (all, way)) =
    inl (all, full_way_to last pages key other (suc level) entry end found next leads h way)
ends_full_to last pages key other (suc level) entry end found next (named, below, beyond, falls, leads) h full (inr (fitting, room, below2, beyond2, falls2, ends)) =
    let same = falls_once key (entries_of pages entry.page) end fitting.fits.ascends below2 beyond2 falls2 below beyond falls in
    let there : EndsFull last pages key level below beyond full =
    subst (λ (o : Option Key). EndsFull last pages key level below o full) same.1 (subst (λ (e : Entry). EndsFull last pages key level e beyond2 full) same.0 ends) in
    inr (fitting, room, below, beyond, falls_other last pages key other level entry end found next below beyond falls leads h, ends_full_to last pages key other level below beyond found next leads h full there)

-- where there is no room behind the region of a key, there is none behind that of each key that it holds
room_to : (F G : Type 0) → (F → G) → (t : TreeView) (key other : Key) (found : Entry) (next : Option Key)
    → LeadsTo t.inner.index.last t.store.pages key t.inner.index.levels (top t.inner.index.root) None found next → HoldsKey other found.first next
    → (e : TreeFault) → IsRoomFault F t key e → IsRoomFault G t other e
room_to F G f t key other found next leads h Full x =
    (f x.0, x.1, full_way_to t.inner.index.last t.store.pages key other t.inner.index.levels (top t.inner.index.root) None found next leads h x.2)
room_to F G f t key other found next leads h (Store store.BadSize) x = (
  f x.0,
  (elim x.1 [
    | inl past ↦ inl past
    | inr needs ↦
        let ends = ends_full_to t.inner.index.last t.store.pages key other t.inner.index.levels (top t.inner.index.root) None found next leads h needs.1.0 needs.1.1 in
        inr (needs.0, (needs.1.0, ends, needs.1.2), needs.2)
  ]),
)
room_to F G f t key other found next leads h e x = tt

err_so : {A : Type 0} (P Q : TreeFault → Type 0) → ((e : TreeFault) → P e → Q e) → (r : Result A TreeFault) → IfErr r P → IfErr r Q
err_so P Q f (Ok x) h = tt
err_so P Q f (Err e) h = f e h

-- the same answer of another call
pub answers_err_at : {U A : Type 0} (IsFull : Type 0) (t : TreeView) (span : Region) (r : Result A TreeFault) (e : TreeFault) → IsErrAnd r (λ x. x ≡ e) → AnswersAt {A = U} IsFull t span (Err e) → AnswersAt IsFull t span r
answers_err_at {U} {A} IsFull t span (Ok x) e is h = absurd is
answers_err_at {U} {A} IsFull t span (Err f) e is h = subst (λ (x : TreeFault). AnswersAt {A = A} IsFull t span (Err x)) (sym is) (
  λ full many. (let told = h.0 full many in let same : e ≡ Page 0 BadCount = cc in ap (λ (x : TreeFault). Err x) same),
  λ honest falls page fault told. (let same : e ≡ Page page fault = cc in h.1 honest falls page fault (ap (λ (x : TreeFault). Err x) same)),
  h.2,
  h.3,
)

pub answers_ok_at : {U A : Type 0} (IsFull : Type 0) (t : TreeView) (span : Region) (x : U) (y : A) → AnswersAt {A = U} IsFull t span (Ok x) → AnswersAt {A = A} IsFull t span (Ok y)
answers_ok_at IsFull t span x y h = (
  λ full many. (let told = h.0 full many in cc),
  λ honest falls page fault told. cc,
  λ honest falls full few levels way. h.2 honest falls full few levels way,
  λ honest falls. tt,
)

-- the region that the key falls into was read, and hasn't the key
pub added_answers : {A : Type 0} (a b : TreeView) (key : Key) (span : Region) (page : RegionView) (r : Result A TreeFault) → b ≡ a → HasReadAt a key span page
    → has_key a.schema.dims key page.region.rows ≡ false → AnswersAt (length page.region.rows ≡ b.schema.page_rows) b span r → IsHonest a.store → AnswersKey a key r
added_answers {A} a b key span page r same read none answers honest number region into =
    let on = on_region a key number region span honest into read.falls in
    let read_is : page.region ≡ region = read.taken honest region on.0 in
    let h = subst (λ (v : TreeView). AnswersAt (length page.region.rows ≡ v.schema.page_rows) v span r) same answers in
    let leads = read.falls.way honest in
    let holds = ways_hold a.inner.index a.store key span leads in
    let sure : FallsTo a span.first span = record { holds = holds.1; from = read.falls.from; to = read.falls.to; way = λ _. holds.2 span.first holds.1 } in
    let here : has_key a.schema.dims key region.rows ≡ false = subst (λ (q : RegionRows). has_key a.schema.dims key q.rows ≡ false) read_is none in
    let long : length page.region.rows ≡ length region.rows = ap (λ (q : RegionRows). length q.rows) read_is in (
      λ has. absurd (let bad : true ≡ false = sym has ∙ here in cc),
      λ free full many. subst (λ (q : Result A TreeFault). Answers q (Page 0 BadCount)) (sym (h.0 (long ∙ full) many)) (inl refl),
      λ free page fault told. (let only = h.1 honest sure page fault told in (sym long ∙ only.0, only.1)),
      λ free full few levels way. h.2 honest sure (long ∙ full) few levels
          (full_way_to a.inner.index.last a.store.pages key span.first a.inner.index.levels (top a.inner.index.root) None (entry_at span) span.next leads holds.1 way),
      err_so (IsRoomFault (length page.region.rows ≡ a.schema.page_rows) a span.first) (IsRoomFault (length region.rows ≡ a.schema.page_rows) a key)
          (room_to (length page.region.rows ≡ a.schema.page_rows) (length region.rows ≡ a.schema.page_rows) (λ full. sym long ∙ full) a span.first key (entry_at span) span.next
          (holds.2 span.first holds.1) read.falls.holds) r (h.3 honest sure),
    )

-- halves of the same rows
pub same_split : {d e p q : ℕ} {rs ss : List Row} → d ≡ e → p ≡ q → rs ≡ ss → split d p rs ≡ split e q ss
same_split {d} {e} {p} {q} {rs} {ss} dims count rows = ap (λ (n : ℕ). split n p rs) dims ∙ ap (λ (n : ℕ). split e n rs) count ∙ ap (λ (xs : List Row). split e q xs) rows

-- a row wasn't put in
pub refused_inserts : (a m : TreeView) (row : Row) → a.is_failed ≡ false → (r : Result ℕ TreeFault) (e : TreeFault) → IsErrAnd r (λ x. x ≡ e) → (IsHonest a.store → AnswersKey a (key_of a.schema.dims row) r)
    → ChangesOf row.number a m r → InsertsAs row a m r
refused_inserts a m row working (Ok x) e is answers effect = absurd is
refused_inserts a m row working (Err f) e is answers effect = record {
  inserted = λ _ _. tt;
  number = tt;
  counted = tt;
  put = tt;
  failed = λ failed. absurd (let works = working in let bad = failed in cc);
  refused = λ _. answers;
  effect = effect;
}

-- a row was put in with the number that was next
pub inserts_next : (a b : TreeView) (row : Row) (r : Result ℕ TreeFault) → IsRow a.schema.dims (measures_of a.schema) row → row.number ≡ a.next → a.next ≢ MAX_ROW_NUMBER + 1
    → (IsSound a → IsFree row.number (regions a)) → InsertsAs row a b r → Inserts row a b r
inserts_next a b row r good is some free said = record {
  inserted = λ sound. all_inserted r a b row good is sound (said.inserted sound (free sound));
  number = number_next r said.number;
  counted = counted_next r said.counted;
  put = said.put;
  failed = said.failed;
  refused = λ working. (λ last. absurd (some last), λ _. said.refused working);
  effect = changes_next row.number a b r (sym is) said.effect;
}
  where
    number_next : (r : Result ℕ TreeFault) → IfOk r (λ n. n ≡ row.number) → IfOk r (λ n. n ≡ a.next)
    number_next (Ok n) same = same ∙ is
    number_next (Err e) same = tt

    counted_next : (r : Result ℕ TreeFault)
        → OnOk r ((b.next ≡ next_after a.next row.number) × (b.rows ≡ a.rows + 1) × (b.is_failed ≡ false) × GrowsAt (key_of a.schema.dims row) a b)
        → OnOk r ((b.next ≡ a.next + 1) × (b.rows ≡ a.rows + 1) × (b.is_failed ≡ false) × GrowsAt (key_of a.schema.dims row) a b)
    counted_next (Ok n) h = (h.0 ∙ next_one a.next row.number is, h.1, h.2, h.3)
    counted_next (Err e) h = tt
