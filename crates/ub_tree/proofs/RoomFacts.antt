-- Which rows can stand in the place of a region's, and where a region of theirs begins.
use Rattle.std.proofs.Common.{rules, ◌≡◌, ◌≢◌, ◌<◌, ◌≤◌, ◌+◌, ◌-◌, inl, inr, ℕ, zero, suc, true, false, List, [], ◌∷◌, ◌++◌, Option, Some, None, IfSome, length, nat_le, drop, ◌∙◌, sym, ap, subst, refl, arith, slice_get, length-append}
use Rattle.ub_tree.proofs.Common.{all_append, all_drop, all_insert, all_keys, all_left, all_more, all_of_keys, all_remove, all_right, AllByRecursion, and_from}
use Rattle.ub_tree.proofs.Common.{AreFrom, AreKeysAscending, AreRowsFrom, before_of, before_or_same, before_trans, CanStand, cases_Bool, ChangeView, eq-eqb}
use Rattle.ub_tree.proofs.Common.{FallsTo, has_key, HoldsKey, insert_row, is_same, IsAddReady, IsBefore, IsBeforeNext, IsRegion, IsRow, IsTakenIn}
use Rattle.ub_tree.proofs.Common.{IsWithinRegion, Key, key_of, keys_append, keys_of, last_address, le-leb, le_before, leb-false, leb-true, length-drop}
use Rattle.ub_tree.proofs.Common.{length-insert_row, length-remove_row, lt-leb, MAX_ROW_NUMBER, measures_of, precedes, precedes_of, Region, RegionRows}
use Rattle.ub_tree.proofs.Common.{remove_row, Row, rows_of, same_key, Schema, split, split_of, TreeView, two_chain, two_regions, up_append, up_cons, up_head}
use Rattle.ub_tree.proofs.Common.{up_remove, up_tail, upto_before}
use Rattle.ub_region.proofs.Laws.{IsFilled}
use Rattle.ub_region.specs.Rows.{left_half, cut}

not_before : (key first : Key) → precedes key first ≡ false → ¬ (IsBefore key first)
not_before key first f h = let t = precedes_of key first h in cc

-- rows with one more, whose key none of them has
next_new : (dims : ℕ) (row : Row) (key : Key) (rows : List Row) → IsBefore key (key_of dims row) → IsBeforeNext key (keys_of dims rows) → IsBeforeNext key (keys_of dims (insert_row dims row rows))
next_new dims row key [] before next = before
next_new dims row key (other ∷ rows) before next = search (rules, cases_Bool)

same_self : (a b : Key) → a ≡ b → is_same a b ≡ true
same_self a b e = rw e (and_from _ _ (eq-eqb b.z b.z refl) (eq-eqb b.number b.number refl))

up_new : (dims : ℕ) (row : Row) (rows : List Row) → AreKeysAscending (keys_of dims rows) → has_key dims (key_of dims row) rows ≡ false → AreKeysAscending (keys_of dims (insert_row dims row rows))
up_new dims row [] up none = tt
up_new dims row (other ∷ rows) up none = elim (cases_Bool (precedes (key_of dims row) (key_of dims other))) [
  | inl t ↦ rw t (before_of (key_of dims row) (key_of dims other) t, up)
  | inr f ↦ elim (cases_Bool (is_same (key_of dims row) (key_of dims other))) [
    | inl same ↦ let bad : true ≡ false = rw same at none in cc
    | inr differs ↦
        let rest : has_key dims (key_of dims row) rows ≡ false = rw differs at none in
        let before : IsBefore (key_of dims other) (key_of dims row) = elim (before_or_same (key_of dims other) (key_of dims row) (not_before (key_of dims row) (key_of dims other) f)) [
          | inl b ↦ b
          | inr e ↦ let t = same_self (key_of dims row) (key_of dims other) (sym e) in absurd (let bad : true ≡ false = sym t ∙ differs in cc)
        ] in
        rw f (up_cons (key_of dims other) (keys_of dims (insert_row dims row rows)) (next_new dims row (key_of dims other) rows before (up_head (key_of dims other) (keys_of dims rows) up))
        (up_new dims row rows (up_tail (key_of dims other) (keys_of dims rows) up) rest))
  ]
]

-- where a cut of rows in order begins the second half
record IsBetween (dims : ℕ) (first sep : Key) (rows : List Row) : Type 0 where
  range : sep.z ≤ last_address dims
  number : sep.number ≤ MAX_ROW_NUMBER
  after : IsBefore first sep
  before : (next : Key) → AllByRecursion (λ key. IsBefore key next) (keys_of dims rows) → IsBefore sep next

some_before : (dims : ℕ) (sep next : Key) (rows : List Row) → 1 ≤ length rows → AreFrom sep (keys_of dims rows) → AllByRecursion (λ key. IsBefore key next) (keys_of dims rows) → IsBefore sep next
some_before dims sep next [] some from before = absurd (omega arith)
some_before dims sep next (row ∷ rows) some from before = upto_before sep (key_of dims row) next from.0 before.0

between : (schema : Schema) (region : RegionRows) (n : ℕ) → IsFilled schema region → 1 ≤ n → n < length region.rows → n ≤ schema.page_rows → length region.rows ≤ schema.page_rows + n
    → IsBetween schema.dims region.first (cut schema.dims n region.rows).first region.rows
between schema region zero filled some lt left right = absurd (omega arith)
between schema region (suc n) filled some lt left right =
    let same : suc n - 1 ≡ n = omega arith in
    let two = two_chain schema region filled n lt left right [] tt tt in
    rw same (record {
      range = two.2.0.first.0;
      number = two.2.0.first.1;
      after = two.1.0;
      before = λ next all. some_before schema.dims _ next (drop (suc n) region.rows) (let long = length-drop (suc n) region.rows in omega arith) two.2.0.within
          (all_keys schema.dims (λ k. IsBefore k next) (drop (suc n) region.rows)
          (all_drop (λ row. IsBefore (key_of schema.dims row) next) (suc n) region.rows (all_of_keys schema.dims (λ k. IsBefore k next) region.rows all)));
    })

if_some_more : {X : Type 0} (P Q : X → Type 0) (o : Option X) → ((x : X) → P x → Q x) → IfSome o P → IfSome o Q
if_some_more P Q None f h = tt
if_some_more P Q (Some x) f h = f x h

if_some_both : {X : Type 0} (P Q R : X → Type 0) (o : Option X) → ((x : X) → P x → Q x → R x) → IfSome o P → IfSome o Q → IfSome o R
if_some_both P Q R None f h k = tt
if_some_both P Q R (Some x) f h k = f x h k

-- rows in order that are a region's, perhaps with a row too many, are a region, or make two
pub filled_each : (schema : Schema) (first : Key) (rows : List Row) → IsFilled schema (record { first = first; rows = rows }) → AllByRecursion (IsRegion schema) (split_of schema first rows)
filled_each schema first rows filled = elim (cases_Bool (nat_le (length rows) schema.page_rows)) [
  | inl t ↦
      let few = leb-true (length rows) schema.page_rows t in
      rw t (record { few = few; first = filled.first; rows = filled.rows; ascending = filled.ascending; within = filled.within }, tt)
  | inr f ↦
      let many = leb-false (length rows) schema.page_rows f in
      let most = filled.most in
      let some = schema.counts.some_rows in
      rw f (halves (left_half schema.page_rows) (omega arith) (omega arith) (omega arith) (omega arith))
]
  where
    halves : (n : ℕ) → 1 ≤ n → n < length rows → n ≤ schema.page_rows → length rows ≤ schema.page_rows + n → AllByRecursion (IsRegion schema) (two_regions first (cut schema.dims n rows))
    halves zero one lt left right = absurd (omega arith)
    halves (suc n) one lt left right =
        let same : suc n - 1 ≡ n = omega arith in
        let two = two_chain schema (record { first = first; rows = rows }) filled n lt left right [] tt tt in
        rw same (two.0, (two.2.0, tt))

-- a row whose key none has, put in among the rows of the region that holds its key
pub filled_with : (schema : Schema) (first : Key) (next : Option Key) (row : Row) (rows : List Row) → AreRowsFrom schema first next rows → HoldsKey (key_of schema.dims row) first next
    → IsRow schema.dims (measures_of schema) row → has_key schema.dims (key_of schema.dims row) rows ≡ false
    → IsFilled schema (record { first = first; rows = insert_row schema.dims row rows })
filled_with schema first next row rows h k j l = search (rules, all_insert, all_keys, all_of_keys, length-insert_row, up_new)

-- rows that stand before the next region do so with a row that the region holds
pub before_next : (dims : ℕ) (next : Option Key) (row : Row) (rows : List Row) → IfSome next (λ end. AllByRecursion (λ k. IsBefore k end) (keys_of dims rows)) → IfSome next (IsBefore (key_of dims row))
    → IfSome next (λ end. AllByRecursion (λ k. IsBefore k end) (keys_of dims (insert_row dims row rows)))
before_next dims next row rows h k = search (rules, all_insert, all_keys, all_of_keys, if_some_both)

-- where they are more than a page holds, the other half begins between the region's first key and the next region
pub within_for : (schema : Schema) (first : Key) (next : Option Key) (row : Row) (rows : List Row) → AreRowsFrom schema first next rows → HoldsKey (key_of schema.dims row) first next
    → IsRow schema.dims (measures_of schema) row → has_key schema.dims (key_of schema.dims row) rows ≡ false
    → schema.page_rows < length (insert_row schema.dims row rows)
    → IsWithinRegion (last_address schema.dims) first next (split schema.dims schema.page_rows (insert_row schema.dims row rows)).first
within_for schema first next row rows are holds good none over =
    let dims = schema.dims in
    let few = are.0.few in
    let long = length-insert_row dims row rows in
    let some = schema.counts.some_rows in
    let whole : RegionRows = record { first = first; rows = insert_row dims row rows } in
    let filled = filled_with schema first next row rows are holds good none in
    let sep = between schema whole (left_half schema.page_rows) filled (omega arith) (omega arith) (omega arith) (omega arith) in
    let below = before_next dims next row rows are.1 holds.to in
    record {
      from = sep.after;
      to = if_some_more (λ end. AllByRecursion (λ k. IsBefore k end) (keys_of dims (insert_row dims row rows))) (λ end. IsBefore _ end) next sep.before below;
      z = sep.range;
      number = sep.number;
    }

-- so they can stand in the place of a region's own
pub can_stand : (t : TreeView) (span : Region) (row : Row) (rows : List Row) → t.inner.index.last ≡ last_address t.schema.dims → AreRowsFrom t.schema span.first span.next rows
    → HoldsKey (key_of t.schema.dims row) span.first span.next → IsRow t.schema.dims (measures_of t.schema) row → has_key t.schema.dims (key_of t.schema.dims row) rows ≡ false
    → CanStand t span (insert_row t.schema.dims row rows)
can_stand t span row rows last are holds good none = record {
  each = filled_each t.schema span.first (insert_row t.schema.dims row rows) (filled_with t.schema span.first span.next row rows are holds good none);
  within = λ over. subst (λ (n : ℕ). IsWithinRegion n span.first span.next (split t.schema.dims t.schema.page_rows (insert_row t.schema.dims row rows)).first) (sym last)
      (within_for t.schema span.first span.next row rows are holds good none over);
}

-- rows that can stand in place of a region's are one, where a page holds them, and else two
pub one_stands : (t : TreeView) (span : Region) (rows : List Row) → CanStand t span rows → length rows ≤ t.schema.page_rows → IsRegion t.schema (record { first = span.first; rows = rows })
one_stands t span rows can few = let fits = le-leb (length rows) t.schema.page_rows few in let one = rw fits at can.each in one.0

pub two_stand : (t : TreeView) (span : Region) (rows : List Row) → CanStand t span rows → t.schema.page_rows < length rows
    → IsRegion t.schema (record { first = span.first; rows = (split t.schema.dims t.schema.page_rows rows).left })
    × IsRegion t.schema (record { first = (split t.schema.dims t.schema.page_rows rows).first; rows = (split t.schema.dims t.schema.page_rows rows).right })
two_stand t span rows can over = let many = lt-leb (length rows) t.schema.page_rows over in let two = rw many at can.each in (two.0, two.1.0)

-- the rows of a region that was read
pub rows_on : (t : TreeView) (span : Region) (region : RegionRows) → IsTakenIn t span region → AreRowsFrom t.schema span.first span.next region.rows
rows_on t span region on = (subst (λ (k : Key). IsRegion t.schema (record { first = k; rows = region.rows })) on.1.0 on.0, on.1.1)

-- and so they are with one of them taken out
pub rows_without : (schema : Schema) (first : Key) (next : Option Key) (key : Key) (rows : List Row) → AreRowsFrom schema first next rows → AreRowsFrom schema first next (remove_row schema.dims key rows)
rows_without schema first next key rows h = search (rules, all_keys, all_of_keys, all_remove, if_some_more, length-remove_row, up_remove)

-- two neighbouring regions make one, where a page holds the rows of both
joined_region : (schema : Schema) (first second : Key) (rows more : List Row) → IsRegion schema (record { first = first; rows = rows }) → IsRegion schema (record { first = second; rows = more })
    → IsBefore first second → AllByRecursion (λ key. IsBefore key second) (keys_of schema.dims rows) → length rows + length more ≤ schema.page_rows → IsRegion schema (record { first = first; rows = rows ++ more })
joined_region schema first second rows more left right before below fit =
    let dims = schema.dims in
    let later = all_more (λ key. ¬ (IsBefore key second)) (λ key. ¬ (IsBefore key first)) (λ key from back. from (before_trans key first second back before)) (keys_of dims more) right.within in
    record {
      few = omega (arith, length-append rows more);
      first = left.first;
      rows = all_append (IsRow dims (measures_of schema)) rows more left.rows right.rows;
      ascending = rw (keys_append dims rows more) (up_append second (keys_of dims rows) (keys_of dims more) left.ascending right.ascending below right.within);
      within = rw (keys_append dims rows more) (all_append (λ key. ¬ (IsBefore key first)) (keys_of dims rows) (keys_of dims more) left.within later);
    }

-- a span to which some key falls ends after it begins
pub begins_before : (t : TreeView) (key : Key) (span : Region) (next : Key) → FallsTo t key span → span.next ≡ Some next → IsBefore span.first next
begins_before t key span next falls is = le_before span.first key next falls.holds.from (subst (λ (o : Option Key). IfSome o (IsBefore key)) is falls.holds.to)

pub next_region : (t : TreeView) (key : Key) (span next : Region) (rows more : List Row) → FallsTo t key span → span.next ≡ Some next.first → AreRowsFrom t.schema span.first span.next rows
    → AreRowsFrom t.schema next.first next.next more → length rows + length more ≤ t.schema.page_rows
    → IsRegion t.schema (record { first = span.first; rows = rows ++ more })
next_region t key span next rows more falls is are are_more fit =
    joined_region t.schema span.first next.first rows more are.0 are_more.0 (begins_before t key span next.first falls is)
    (subst (λ (o : Option Key). IfSome o (λ end. AllByRecursion (λ k. IsBefore k end) (keys_of t.schema.dims rows))) is are.1) fit

-- rows of which none has its number haven't the key
pub number_free : (dims : ℕ) (key : Key) (rows : List Row) → AllByRecursion (λ row. row.number ≢ key.number) rows → has_key dims key rows ≡ true → ⊥
number_free dims key [] free has = cc
number_free dims key (row ∷ rows) free has = elim (cases_Bool (is_same key (key_of dims row))) [
  | inl t ↦ absurd (free.0 (sym (ap (λ (k : Key). k.number) (same_key key (key_of dims row) t))))
  | inr f ↦ number_free dims key rows free.1 (rw f at has)
]

-- the row of a key
pub found_row : (dims : ℕ) (key : Key) (rows : List Row) → has_key dims key rows ≡ true → (row : Row) × (i : ℕ) × (slice_get rows i ≡ Some row) × (row.number ≡ key.number)
found_row dims key [] has = cc
found_row dims key (row ∷ rows) has = elim (cases_Bool (is_same key (key_of dims row))) [
  | inl t ↦ (row, 0, refl, sym (ap (λ (k : Key). k.number) (same_key key (key_of dims row) t)))
  | inr f ↦ let found = found_row dims key rows (rw f at has) in (found.0, suc found.1, found.2, found.3)
]

pub rows_each : (P : Row → Type 0) (regions : List RegionRows) (index : ℕ) (r : RegionRows) → slice_get regions index ≡ Some r → AllByRecursion P (rows_of regions) → AllByRecursion P r.rows
rows_each P [] index r at all = cc
rows_each P (x ∷ regions) zero r at all = let same : x ≡ r = cc in subst (λ (y : RegionRows). AllByRecursion P y.rows) same (all_left P x.rows (rows_of regions) all)
rows_each P (x ∷ regions) (suc index) r at all = rows_each P regions index r at (all_right P x.rows (rows_of regions) all)

-- what is prepared for a region that begins with a key, whatever that is called
pub ready_for : {t : TreeView} {span : Region} {first named : Key} {change : ChangeView} → named ≡ first → IsAddReady t span named change → IsAddReady t span first change
ready_for {t} {span} {first} {named} {change} same ready = subst (λ (k : Key). IsAddReady t span k change) same ready
