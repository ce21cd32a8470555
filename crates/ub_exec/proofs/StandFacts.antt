-- Where a tree stands once rows of its table were taken out.
use Rattle.std.proofs.Common.{◌≡◌, ◌<◌, ◌++◌, ◌∷◌, ◌∙◌, ◌||◌, inl, inr, ℕ, zero, suc, Bool, true, false, not, if◌then◌else◌, List, [], Result, Err, Contains, length, map, take, nat_eq, refl, sym, ap, subst, arith}
use Rattle.std.proofs.lemmas.Bool.{cases_Bool, eq-eqb, eqb-true, true≢false}
use Rattle.std.specs.List.{AllByRecursion}
use Rattle.ub_exec.specs.Deleting.{StopsAt, TakesOut}
use Rattle.ub_exec.specs.Stand.{Stand, IsStandOf, selected_of, without_row, without_rows}
use Rattle.ub_query.proofs.Laws.{Rising, all_from_contains, contains_cases, contains_filter, contains_from_filter, contains_none, rows-rising, selected_are_in_order}
use Rattle.ub_query.specs.Groups.{is_selected}
use Rattle.ub_query.specs.Shape.{Asked}
use Rattle.ub_region.specs.Regions.{AreTableRows, remove, without_number}
use Rattle.ub_region.specs.Rows.{has_key}
use Rattle.ub_store.specs.declared.fault.StoreFault.TheVariants as store
use Rattle.ub_table.specs.Keys.{is_same}
use Rattle.ub_table.specs.Region.{RegionRows, key_of, keys_of}
use Rattle.ub_table.specs.Table.{IsInOrder}
use Rattle.ub_table.specs.declared.row.Key.{Key}
use Rattle.ub_table.specs.declared.row.Row.{Row}
use Rattle.ub_table.specs.declared.schema.Schema.{Schema}
use Rattle.ub_tree.proofs.Laws.{Keeps, Keeps-by, searched_regions, searched_sound}
use Rattle.ub_tree.specs.Effects.{IsLeft, Leaves}
use Rattle.ub_tree.specs.Placed.{Placed, regions_in}
use Rattle.ub_tree.specs.Reading.{ReadsTree, read_store}
use Rattle.ub_tree.specs.Removal.{IsRemoved}
use Rattle.ub_tree.specs.View.{TreeView, IsSound, KeepsRegions, regions, tree_rows}
use Rattle.ub_tree.specs.declared.fault.TreeFault.{TreeFault}
use Rattle.ub_tree.specs.declared.fault.TreeFault.TheVariants.{Full, Page, Store, Failed, Memory}
use Rattle.ub_tree.specs.declared.read_fault.ReadFault.{ReadFault}
use Rattle.ub_tree.specs.declared.read_fault.ReadFault.TheVariants as read

-- ---- a tree that stands as another one does

pub stand_kept : (old new : TreeView) (s : Stand) → IsSound new → KeepsRegions old new → IsStandOf old s → IsStandOf new s
stand_kept old new s sound kept stand = record {
  sound = sound;
  schema_is = stand.schema_is ∙ sym kept.schema;
  rows_are = subst (λ (placed : List Placed). AreTableRows (regions_in placed) s.table.rows) (sym kept.placed) stand.rows_are;
  regions_are = stand.regions_are ∙ ap regions_in (sym kept.placed);
  next_is = stand.next_is ∙ sym kept.next;
}

pub stand_same : (old new : TreeView) (s : Stand) → new ≡ old → IsStandOf old s → IsStandOf new s
stand_same old new s same stand = subst (λ (t : TreeView). IsStandOf t s) (sym same) stand

pub stand_by : (old new : TreeView) (s : Stand) → Keeps old new → IsStandOf old s → IsStandOf new s
stand_by old new s kept stand = stand_kept old new s (kept.sound stand.sound) kept.regions stand

-- ---- a row of the table has its key

either_true : (a b : Bool) → b ≡ true → (a || b) ≡ true
either_true true b t = refl
either_true false b t = t

first_true : (a b : Bool) → a ≡ true → (a || b) ≡ true
first_true true b t = refl
first_true false b t = absurd (true≢false (sym t))

same_itself : (key : Key) → is_same key key ≡ true
same_itself key = rw (eq-eqb key.z key.z refl, eq-eqb key.number key.number refl) refl

pub has_its_key : (dims : ℕ) (rows : List Row) (row : Row) → Contains rows row → has_key dims (key_of dims row) rows ≡ true
has_its_key dims [] row there = absurd (contains_none row there)
has_its_key dims (first ∷ rows) row there = elim (contains_cases first rows row there) [
  | inl same ↦
      first_true (is_same (key_of dims row) (key_of dims first)) (has_key dims (key_of dims row) rows)
      (subst (λ (r : Row). is_same (key_of dims row) (key_of dims r) ≡ true) (sym same) (same_itself (key_of dims row)))
  | inr later ↦ either_true (is_same (key_of dims row) (key_of dims first)) (has_key dims (key_of dims row) rows) (has_its_key dims rows row later)
]

-- ---- one row taken out

one_taken : (old new : TreeView) (s : Stand) (row : Row) (found : Bool) → IsStandOf old s → Contains s.table.rows row → IsRemoved (key_of old.schema.dims row) found old new
    → found ≡ true
one_taken old new s row found stand there removed =
    removed.found_is ∙ has_its_key old.schema.dims (tree_rows old) row ((stand.rows_are.same row).0 there)

row_out : (old new : TreeView) (s : Stand) (row : Row) → IsStandOf old s → IsRemoved (key_of old.schema.dims row) true old new → IsStandOf new (without_row row s)
row_out old new s row stand removed = record {
  sound = removed.sound;
  schema_is = stand.schema_is ∙ sym removed.schema;
  rows_are = removed.table s.table.rows stand.rows_are;
  regions_are = sym (removed.regions_are ∙ ap (λ (schema : Schema). remove schema.dims schema.page_rows (key_of schema.dims row) (regions old)) (sym stand.schema_is)
      ∙ ap (λ (rs : List RegionRows). remove s.table.schema.dims s.table.schema.page_rows (key_of s.table.schema.dims row) rs) (sym stand.regions_are));
  next_is = stand.next_is ∙ sym removed.next;
}

-- another row is still there
pub differs : (a b : ℕ) → b < a → not (nat_eq a b) ≡ true
differs a b lt = elim (cases_Bool (nat_eq a b)) [
  | inl t ↦ let same = eqb-true a b t in absurd (omega arith)
  | inr f ↦ ap not f
]

still_there : (row : Row) (rows left : List Row) → AllByRecursion (λ other. row.number < other.number) left → AllByRecursion (Contains rows) left
    → AllByRecursion (Contains (without_number row.number rows)) left
still_there row rows [] up there = tt
still_there row rows (other ∷ left) up there = (
  contains_filter (λ (r : Row). not (nat_eq r.number row.number)) rows other there.0 (differs other.number row.number up.0),
  still_there row rows left up.1 there.1,
)

-- rows of the table, in ascending order of number, were taken out
pub rows_out : (rows : List Row) (old new : TreeView) (s : Stand) (count : ℕ) → IsStandOf old s → Rising (λ a b. a.number < b.number) rows → AllByRecursion (Contains s.table.rows) rows
    → TakesOut (keys_of s.table.schema.dims rows) old new count → (count ≡ length rows) × IsStandOf new (without_rows rows s)
rows_out [] old new s count stand up there taken = (taken.0, stand_same old new s taken.1 stand)
rows_out (row ∷ rows) old new s count stand up there (found, mid, more, one, rest, is) =
    let removed = subst (λ (schema : Schema). IsRemoved (key_of schema.dims row) found old mid) stand.schema_is (one.removed stand.sound) in
    let yes_found = one_taken old mid s row found stand there.0 removed in
    let out = row_out old mid s row stand (subst (λ (b : Bool). IsRemoved (key_of old.schema.dims row) b old mid) yes_found removed) in
    let (counted, left) = rows_out rows mid new (without_row row s) more out up.1 (still_there row s.table.rows rows up.0 there.1) rest in
    (is ∙ ap (λ (b : Bool). if b then suc more else more) yes_found ∙ ap suc counted, left)

-- ---- a change that was ended by a fault

left_stand : (a b : TreeView) (s : Stand) → Leaves a b → IsStandOf a s → IsStandOf b s
left_stand a b s left stand =
    let sound = left.sound stand.sound in
    stand_kept a b s sound.1
    (record {
      schema = ap (λ (t : TreeView). t.schema) left.same;
      placed = sound.0;
      rows = ap (λ (t : TreeView). t.rows) left.same;
      next = ap (λ (t : TreeView). t.next) left.same;
    })
    stand

-- unless the tree has failed in it, it stands as it did
pub change_stand : (a b : TreeView) (s : Stand) (fault : TreeFault) → IsStandOf a s → IsLeft a b fault → b.is_failed ≡ false → IsStandOf b s
change_stand a b s Full stand left working = stand_same a b s left.1 stand
change_stand a b s Failed stand left working = stand_same a b s left.1 stand
change_stand a b s Memory stand left working = left_stand a b s left stand
change_stand a b s (Page page fault) stand left working = stand_same a b s left.2 stand
change_stand a b s (Store store.Device) stand (can, inl missed) working =
    let e : Result (Unit {0}) ReadFault = Err (read.Tree (Store store.Device)) in
    stand_kept a b s (searched_sound a b e missed stand.sound) (searched_regions a b e missed) stand
change_stand a b s (Store store.Device) stand (can, inr ended) working =
    let failed : b.is_failed ≡ true = ap (λ (t : TreeView). t.is_failed) ended.same in absurd (true≢false (sym failed ∙ working))
change_stand a b s (Store store.NoPage) stand left working = absurd (left.0 stand.sound)
change_stand a b s (Store store.BadSize) stand left working = left_stand a b s left.1 stand
change_stand a b s (Store store.Memory) stand left working = absurd left

-- ---- the first of some elements

pub none_taken : {A : Type 0} (xs : List A) → take 0 xs ≡ []
none_taken [] = refl
none_taken (x ∷ xs) = refl

front_of : {A B : Type 0} (f : A → B) (xs : List A) (front rest : List B) → map f xs ≡ front ++ rest → front ≡ map f (take (length front) xs)
front_of f xs [] rest same = ap (map f) (sym (none_taken xs))
front_of f [] (y ∷ front) rest same = cc
front_of f (x ∷ xs) (y ∷ front) rest same =
    let head : f x ≡ y = cc in
    let tail : map f xs ≡ front ++ rest = cc in
    let more = front_of f xs front rest tail in
    ap (λ (ys : List _). y ∷ ys) more ∙ ap (λ (z : _). z ∷ map f (take (length front) xs)) (sym head)

all_first : {A : Type 0} (P : A → Type 0) (n : ℕ) (xs : List A) → AllByRecursion P xs → AllByRecursion P (take n xs)
all_first P zero [] all = tt
all_first P zero (x ∷ xs) all = tt
all_first P (suc n) [] all = tt
all_first P (suc n) (x ∷ xs) all = (all.0, all_first P n xs all.1)

rising_first : {A : Type 0} (R : A → A → Type 0) (n : ℕ) (xs : List A) → Rising R xs → Rising R (take n xs)
rising_first R zero [] up = tt
rising_first R zero (x ∷ xs) up = tt
rising_first R (suc n) [] up = tt
rising_first R (suc n) (x ∷ xs) up = (all_first (λ y. R x y) n xs up.0, rising_first R n xs up.1)

-- so the first rows by number are gone, and no other
pub first_out : (rows : List Row) (a c : TreeView) (s : Stand) (fault : TreeFault) → IsStandOf a s → Rising (λ x y. x.number < y.number) rows → AllByRecursion (Contains s.table.rows) rows
    → StopsAt (keys_of s.table.schema.dims rows) a c fault → c.is_failed ≡ false → (j : ℕ) × IsStandOf c (without_rows (take j rows) s)
first_out rows a c s fault stand up there stops working =
    let j = length stops.front in
    let dims = s.table.schema.dims in
    let front : stops.front ≡ keys_of dims (take j rows) = front_of (key_of dims) rows stops.front (stops.key ∷ stops.left) stops.parts in
    let (counted, out) = rows_out (take j rows) a stops.mid s stops.count stand (rising_first (λ x y. x.number < y.number) j rows up) (all_first (Contains s.table.rows) j rows there)
    (subst (λ (keys : List Key). TakesOut keys a stops.mid stops.count) front stops.taken) in
    (j, change_stand stops.mid c (without_rows (take j rows) s) fault out stops.ended.leaves.changes.left working)

-- ---- reading that was ended by a fault

pub read_stand : {A : Type 0} (old new : TreeView) (s : Stand) (e : ReadFault) → ReadsTree {A = A} old new (Err e) → IsStandOf old s → IsStandOf new s
read_stand {A = A} old new s e reads stand =
    let mid : TreeView = record old { store = read_store {A = A} (Err e) old.store } in
    let r : Result A ReadFault = Err e in
    stand_by mid new s (Keeps-by mid new reads.same)
    (stand_kept old mid s (searched_sound old mid r refl stand.sound) (searched_regions old mid r refl) stand)

-- ---- the rows that a deletion selects

pub selected_rise : (q : Asked) (s : Stand) → IsInOrder s.table.rows → Rising (λ a b. a.number < b.number) (selected_of q s)
selected_rise q s order = rows-rising (selected_of q s) (selected_are_in_order s.table q.filter order)

pub selected_there : (q : Asked) (s : Stand) → AllByRecursion (Contains s.table.rows) (selected_of q s)
selected_there q s =
    all_from_contains (Contains s.table.rows) (selected_of q s)
    (λ row there. (contains_from_filter (is_selected s.table.schema q.filter) s.table.rows row there).0)
