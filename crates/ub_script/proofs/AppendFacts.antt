-- Rows that are put into a tree one after the other.
use Rattle.std.proofs.Common.{◌≡◌, ◌∙◌, ◌+◌, ◌-◌, ◌<◌, ◌≤◌, ◌⊎◌, ◌++◌, ◌∷◌, inl, inr, [], ℕ, true, false, All, List, suc, zero, drop, Some, Result, Ok, Err, IfErr, OnOk, length, map, nat_eq, take, slice_get, slice_index_or, arith, sym, ap, refl, subst}
use Rattle.std.proofs.lemmas.Bool.{cases_Bool, eqb-false, eqb-true, ne_eqb}
use Rattle.std.proofs.lemmas.List.{append-nil, length-map, length-take-le, take-append-drop, take_all, take_more}
use Rattle.std.proofs.lemmas.List.Elements.{All-contains, All-from_recursion, recursion_from_All}
use Rattle.std.proofs.lemmas.List.Sorted.{All-permutation, IsPermutation-map, IsPermutation-sym, length_permutation}
use Rattle.std.proofs.lemmas.Map.Keys.{IsDistinct-IsPermutation}
use Rattle.std.proofs.lemmas.Map.Steps.{length-le_from_distinct_below}
use Rattle.std.proofs.lemmas.Option.{slice_get-get_or}
use Rattle.std.specs.List.{AllByRecursion, IsDistinct, list_any}
use Rattle.std.specs.List.Sorted.{IsPermutation}
use Rattle.std.specs.Result.{IsErrAnd}
use Rattle.ub_region.proofs.Laws.{AreNew, all_append, all_more, all_take, append_table, below_number, differ_from, from_number, later_regions, nat_eq_flips, new_moved, new_step, numbered_new}
use Rattle.ub_region.specs.Regions.{AreRegions, IsFree, insert, insert_all, numbered, numbered_from}
use Rattle.ub_script.proofs.KeptFacts.{honest_before, works_more}
use Rattle.ub_script.specs.Appending.{AreAppended, AreByKey, ArePut, ArePutUpTo, IsNoDamage, IsOrderOf, PutsRows}
use Rattle.ub_script.specs.Faults.{Runs}
use Rattle.ub_script.specs.inner.Appending.{AreLater}
use Rattle.ub_store.specs.declared.fault.StoreFault.TheVariants as store
use Rattle.ub_table.specs.Region.{IsRow, RegionRows, measures_of}
use Rattle.ub_table.specs.declared.row.Row.{Row}
use Rattle.ub_table.specs.declared.row.TheConstants.{MAX_ROW_NUMBER}
use Rattle.ub_table.specs.declared.schema.Schema.{Schema}
use Rattle.ub_tree.proofs.GrowFacts.{drop_at, next_later, next_most}
use Rattle.ub_tree.proofs.Laws.{mark_then}
use Rattle.ub_tree.proofs.NewFacts.{numbered_row}
use Rattle.ub_tree.specs.Change.{Suits, next_after}
use Rattle.ub_tree.specs.Effects.{IsLeftOf, KeepsMark, Works}
use Rattle.ub_tree.specs.Inserted.{InsertsAs}
use Rattle.ub_tree.specs.View.{TreeView, IsSound, KeepsTrace, regions}
use Rattle.ub_tree.specs.declared.fault.TreeFault.{TreeFault}
use Rattle.ub_tree.specs.declared.fault.TreeFault.TheVariants as tree

-- ---- the loop

-- one row more
put_more : (a b c : TreeView) (rows : List Row) (row : Row) → ArePut a rows b → InsertsAs row b c (Ok row.number) → ArePut a (rows ++ row ∷ []) c
put_more a b c [] row same one = (c, subst (λ (t : TreeView). InsertsAs row t c (Ok row.number)) same one, refl)
put_more a b c (x ∷ xs) row (mid, first, rest) one = (mid, first, put_more mid b c xs row rest one)

-- the number that is given is the row's
with_number : (row : Row) (b c : TreeView) (n : ℕ) → InsertsAs row b c (Ok n) → InsertsAs row b c (Ok row.number)
with_number row b c n h = subst (λ (m : ℕ). InsertsAs row b c (Ok m)) h.number h

pub put_next : (a b c : TreeView) (rows : List Row) (i : ℕ) (d : Row) (n : ℕ) → i < length rows → ArePut a (take i rows) b → InsertsAs (slice_index_or rows i d) b c (Ok n) → ArePut a (take (i + 1) rows) c
put_next a b c rows i d n within put one =
    subst (λ (rs : List Row). ArePut a rs c) (sym (take_more rows i d within))
    (put_more a b c (take i rows) (slice_index_or rows i d) put (with_number (slice_index_or rows i d) b c n one))

pub put_stopped : (a b c : TreeView) (rows : List Row) (i : ℕ) (d : Row) (e : TreeFault) → i < length rows → ArePut a (take i rows) b → InsertsAs (slice_index_or rows i d) b c (Err e)
    → ArePutUpTo a rows e c
put_stopped a b c rows i d e within put ended = record {
  count = i;
  row = slice_index_or rows i d;
  next = slice_get-get_or rows i d within;
  mid = b;
  put = put;
  ended = ended;
}

pub put_whole : (a b : TreeView) (rows : List Row) (i : ℕ) → length rows ≤ i → ArePut a (take i rows) b → ArePut a rows b
put_whole a b rows i far put = subst (λ (rs : List Row). ArePut a rs b) (take_all i rows far) put

-- what each of them leaves as it was
pub put_schema : (a b : TreeView) (rows : List Row) → ArePut a rows b → b.schema ≡ a.schema
put_schema a b [] same = ap (λ (t : TreeView). t.schema) same
put_schema a b (row ∷ rows) (mid, one, rest) = put_schema mid b rows rest ∙ ap (λ (t : TreeView). t.schema) one.effect.frame

pub put_trace : (a b : TreeView) (rows : List Row) → ArePut a rows b → b.trace ≡ a.trace
put_trace a b [] same = ap (λ (t : TreeView). t.trace) same
put_trace a b (row ∷ rows) (mid, one, rest) = put_trace mid b rows rest ∙ ap (λ (t : TreeView). t.trace) one.effect.frame

-- the row at a place is one of the table
pub row_at : (a b : TreeView) (rows : List Row) (i : ℕ) (d : Row) → All (IsRow a.schema.dims (measures_of a.schema)) rows → ArePut a (take i rows) b → i < length rows
    → IsRow b.schema.dims (measures_of b.schema) (slice_index_or rows i d)
row_at a b rows i d all put within =
    subst (λ (s : Schema). IsRow s.dims (measures_of s) (slice_index_or rows i d)) (sym (put_schema a b (take i rows) put)) (all i d within)

-- ---- all of them

-- the number that is next is later than each of theirs, and no later than all of them allow
put_bounds : (a b : TreeView) (later : ℕ) (rows : List Row) → ArePut a rows b → a.next ≤ later → AllByRecursion (λ row. row.number < later) rows
    → (a.next ≤ b.next) × (b.next ≤ later) × AllByRecursion (λ row. row.number < b.next) rows
put_bounds a b later [] same few all = (let next = ap (λ (t : TreeView). t.next) same in (omega arith, omega arith, tt))
put_bounds a b later (row ∷ rows) (mid, one, rest) few all =
    let is : mid.next ≡ next_after a.next row.number = one.counted.0 in
    let (more, past) = next_later a.next row.number in
    let most : next_after a.next row.number ≤ later = next_most a.next row.number later few all.0 in
    let (up, upto, below) = put_bounds mid b later rows rest (omega arith) all.1 in
    (omega arith, upto, (omega arith, below))

-- it doesn't come sooner, and is later than each of theirs
put_below : (a b : TreeView) (rows : List Row) → ArePut a rows b → (a.next ≤ b.next) × AllByRecursion (λ row. row.number < b.next) rows
put_below a b [] same = (let next = ap (λ (t : TreeView). t.next) same in (omega arith, tt))
put_below a b (row ∷ rows) (mid, one, rest) =
    let is : mid.next ≡ next_after a.next row.number = one.counted.0 in
    let (more, past) = next_later a.next row.number in
    let (up, below) = put_below mid b rows rest in
    (omega arith, (omega arith, below))

-- each is counted
put_counted : (a b : TreeView) (rows : List Row) → ArePut a rows b → b.rows ≡ a.rows + length rows
put_counted a b [] same = (let rows = ap (λ (t : TreeView). t.rows) same in omega arith)
put_counted a b (row ∷ rows) (mid, one, rest) = (let more = put_counted mid b rows rest in let once = one.counted.1 in omega arith)

-- numbers from one on, that differ, do so counted from there
shifted : (n x : ℕ) (xs : List ℕ) → n ≤ x → AllByRecursion (λ y. n ≤ y) xs → AllByRecursion (λ y. nat_eq x y ≡ false) xs → AllByRecursion (λ y. nat_eq (x - n) y ≡ false) (map (λ y. y - n) xs)
shifted n x [] upper all differ = tt
shifted n x (y ∷ xs) upper all differ =
    let apart = eqb-false x y differ.0 in
    let le = all.0 in
    (ne_eqb (x - n) (y - n) (λ e. apart (omega arith)), shifted n x xs upper all.1 differ.1)

differ_shifted : (n : ℕ) (xs : List ℕ) → AllByRecursion (λ y. n ≤ y) xs → IsDistinct nat_eq xs → IsDistinct nat_eq (map (λ y. y - n) xs)
unfolding IsDistinct
differ_shifted n [] all differ = tt
differ_shifted n (x ∷ xs) all differ = (shifted n x xs all.0 all.1 differ.0, differ_shifted n xs all.1 differ.1)

below_shifted : (n m q : ℕ) (xs : List ℕ) → n ≤ m → AllByRecursion (λ y. n ≤ y) xs → AllByRecursion (λ y. y < m) xs → list_any (nat_eq q) (map (λ y. y - n) xs) ≡ true → q < m - n
below_shifted n m q [] few from to any = cc
below_shifted n m q (x ∷ xs) few from to any = elim (cases_Bool (nat_eq q (x - n))) [
  | inl t ↦ let same = eqb-true q (x - n) t in let low = from.0 in let high = to.0 in omega arith
  | inr f ↦ below_shifted n m q xs few from.1 to.1 (rw f at any)
]

-- so there are no more of them than numbers in between
few_between : (n m : ℕ) (xs : List ℕ) → n ≤ m → AllByRecursion (λ y. n ≤ y) xs → AllByRecursion (λ y. y < m) xs → IsDistinct nat_eq xs → length xs ≤ m - n
few_between n m xs few from to differ =
    let most = length-le_from_distinct_below (map (λ y. y - n) xs) (m - n) (differ_shifted n xs from differ) (λ q any. below_shifted n m q xs few from to any) in
    let long = length-map xs (λ (y : ℕ). y - n) in
    omega arith

take_differ : (i : ℕ) (xs : List ℕ) → IsDistinct nat_eq xs → IsDistinct nat_eq (take i xs)
unfolding IsDistinct
take_differ zero xs differ = tt
take_differ (suc i) [] differ = tt
take_differ (suc i) (x ∷ xs) differ = (all_take (λ y. nat_eq x y ≡ false) i xs differ.0, take_differ i xs differ.1)

numbers_all : (P : ℕ → Type 0) (rows : List Row) → AllByRecursion (λ row. P row.number) rows → AllByRecursion P (map (λ row. row.number) rows)
numbers_all P [] all = tt
numbers_all P (row ∷ rows) all = (all.0, numbers_all P rows all.1)

numbers_take : (i : ℕ) (rows : List Row) → map (λ (row : Row). row.number) (take i rows) ≡ take i (map (λ (row : Row). row.number) rows)
numbers_take zero rows = refl
numbers_take (suc i) [] = refl
numbers_take (suc i) (row ∷ rows) = ap (λ (ns : List ℕ). row.number ∷ ns) (numbers_take i rows)

-- with the next of them the tree still has fewer rows than the number that is next then
pub fewer_at : (a b : TreeView) (rows : List Row) (i : ℕ) (d : Row) → AreLater a.next rows → a.rows < a.next → i < length rows → ArePut a (take i rows) b
    → b.rows + 1 < next_after b.next (slice_index_or rows i d).number
fewer_at a b rows i d later fewer within put =
    let row = slice_index_or rows i d in
    let last = next_after b.next row.number in
    let first = take (i + 1) rows in
    let parts : first ≡ take i rows ++ row ∷ [] = take_more rows i d within in
    let (up, below) = put_below a b (take i rows) put in
    let (more, past) = next_later b.next row.number in
    let all : AllByRecursion (λ (r : Row). r.number < last) first = subst (AllByRecursion (λ (r : Row). r.number < last)) (sym parts)
    (all_append (λ (r : Row). r.number < last) (take i rows) (row ∷ [])
    (all_more (λ (r : Row). r.number < b.next) (λ (r : Row). r.number < last) (λ r less. omega arith) (take i rows) below) (past, tt)) in
    let from = all_take (λ (r : Row). a.next ≤ r.number) (i + 1) rows later.0 in
    let differ : IsDistinct nat_eq (map (λ (r : Row). r.number) first) = rw (numbers_take (i + 1) rows) (take_differ (i + 1) (map (λ (r : Row). r.number) rows) later.1) in
    let most = few_between a.next last (map (λ (r : Row). r.number) first) (omega arith) (numbers_all (λ n. a.next ≤ n) first from) (numbers_all (λ n. n < last) first all) differ in
    let long = length-map first (λ (r : Row). r.number) in
    let taken = length-take-le (i + 1) rows (omega arith) in
    let taken_before = length-take-le i rows (omega arith) in
    let counted = put_counted a b (take i rows) put in
    omega arith

-- the tree works on, and its mark is kept
put_works : (a b : TreeView) (rows : List Row) → ArePut a rows b → Works a b × KeepsMark a b
put_works a b [] same = subst (λ (t : TreeView). Works a t × KeepsMark a t) (sym same) ((refl, refl), λ honest had changed. had changed)
put_works a b (row ∷ rows) (mid, one, rest) =
    let more = put_works mid b rows rest in
    let done : Works a mid = one.effect.done in
    let schema : mid.schema ≡ a.schema = ap (λ (t : TreeView). t.schema) one.effect.frame in
    (works_more a mid b done more.0, mark_then a mid b (honest_before a mid done) schema one.effect.marked.marked more.1)

-- a sound tree that had none of their numbers has them, and still none of those of others that it had none of
pub record HasNew (later : ℕ) (rows others : List Row) (old new : TreeView) : Type 0 where
  pub schema : new.schema ≡ old.schema
  pub regions_are : regions new ≡ insert_all old.schema.dims old.schema.page_rows rows (regions old)
  pub counted : new.rows ≡ old.rows + length rows
  pub sound : IsSound new
  pub others_new : AreNew new.schema later others (regions new)

put_new : (later : ℕ) (rows others : List Row) (a b : TreeView) → IsSound a → a.next ≤ later → AreNew a.schema later (rows ++ others) (regions a) → ArePut a rows b → HasNew later rows others a b
put_new later [] others a b sound few new same =
    subst (HasNew later [] others a) (sym same) (record { schema = refl; regions_are = refl; counted = omega arith; sound = sound; others_new = new })
put_new later (row ∷ rows) others a b sound few new (mid, one, rest) =
    let put = one.inserted sound new.free.0 in
    let step = new_step a.schema later row (rows ++ others) (regions a) (later_regions a.schema a.next later (regions a) sound.regions_are few) new in
    let most : next_after a.next row.number ≤ later = next_most a.next row.number later few new.each.0.1 in
    let next = put.next in
    let there : AreNew mid.schema later (rows ++ others) (regions mid) =
    subst (λ (s : Schema). AreNew s later (rows ++ others) (regions mid)) (sym put.schema) (subst (AreNew a.schema later (rows ++ others)) (sym put.regions_are) step.1) in
    let more = put_new later rows others mid b put.sound (omega arith) there rest in
    let counted = more.counted in
    let once = put.rows in
    record {
      schema = more.schema ∙ put.schema;
      regions_are = more.regions_are ∙ ap (λ (s : Schema). insert_all s.dims s.page_rows rows (regions mid)) put.schema
          ∙ ap (insert_all a.schema.dims a.schema.page_rows rows) put.regions_are;
      counted = omega arith;
      sound = more.sound;
      others_new = more.others_new;
    }

-- no damage is told of a sound tree that has no row of the number
no_damage : (n : ℕ) (b c : TreeView) (e : TreeFault) → IsSound b → IsFree n (regions b) → IsLeftOf n b c e → IsNoDamage e
no_damage n b c tree.Full sound free left = tt
no_damage n b c tree.Failed sound free left = tt
no_damage n b c tree.Memory sound free left = tt
no_damage n b c (tree.Page page fault) sound free left = left.0 sound free
no_damage n b c (tree.Store store.Device) sound free left = tt
no_damage n b c (tree.Store store.NoPage) sound free left = left.0 sound
no_damage n b c (tree.Store store.BadSize) sound free left = tt
no_damage n b c (tree.Store store.Memory) sound free left = tt

-- ---- in their order

-- rows with numbers from one on that a row can have are rows of the table
rows_from : (dims measures n : ℕ) (rows : List Row) → AllByRecursion (Suits dims measures) rows → 1 ≤ n → n + length rows ≤ MAX_ROW_NUMBER + 1
    → AllByRecursion (IsRow dims measures) (numbered_from n rows)
rows_from dims measures n [] suit some few = tt
rows_from dims measures n (row ∷ rows) suit some few = (
  numbered_row dims measures (numbered n row) (renumbered dims measures n row suit.0) (some, omega arith),
  rows_from dims measures (n + 1) rows suit.1 (omega arith) (omega arith),
)
  where
    renumbered : (dims measures n : ℕ) (row : Row) → Suits dims measures row → Suits dims measures (numbered n row)
    renumbered dims measures n row h = record { dims_rest = h.dims_rest; dims_words = h.dims_words; measures_rest = h.measures_rest; measures_words = h.measures_words }

pub order_is : (t : TreeView) (dims first : ℕ) (rows items order : List Row) → dims ≡ t.schema.dims → first ≡ t.next → order ≡ items → AreByKey dims first rows items → IsOrderOf t rows order
order_is t dims first rows items order same next is by =
    subst (λ (d : ℕ). AreByKey d t.next rows order) same (subst (λ (n : ℕ). AreByKey dims n rows order) next (subst (λ (rs : List Row). AreByKey dims first rows rs) (sym is) by))

pub order_rows : (t : TreeView) (rows order : List Row) → All (Suits t.schema.dims (measures_of t.schema)) rows → 1 ≤ t.next → t.next + length rows ≤ MAX_ROW_NUMBER + 1 → IsOrderOf t rows order
    → All (IsRow t.schema.dims (measures_of t.schema)) order
order_rows t rows order suit some few is =
    let all = recursion_from_All (Suits t.schema.dims (measures_of t.schema)) rows suit in
    All-permutation (IsRow t.schema.dims (measures_of t.schema)) (numbered_from t.next rows) order is.same
    (All-from_recursion (IsRow t.schema.dims (measures_of t.schema)) (numbered_from t.next rows) (rows_from t.schema.dims (measures_of t.schema) t.next rows all some few))

length-numbered : (n : ℕ) (rows : List Row) → length (numbered_from n rows) ≡ length rows
length-numbered n [] = refl
length-numbered n (row ∷ rows) = ap suc (length-numbered (n + 1) rows)

-- one row more, with the number that follows
numbered_append : (n : ℕ) (rows : List Row) (row : Row) → numbered_from n (rows ++ row ∷ []) ≡ numbered_from n rows ++ numbered (n + length rows) row ∷ []
numbered_append n [] row = ap (λ (m : ℕ). numbered m row ∷ []) (omega arith)
numbered_append n (x ∷ rows) row =
    ap (λ (rs : List Row). numbered n x ∷ rs) (numbered_append (n + 1) rows row ∙ ap (λ (m : ℕ). numbered_from (n + 1) rows ++ numbered m row ∷ []) (omega arith))

pub numbered_more : (n m : ℕ) (rows items : List Row) (i : ℕ) (d : Row) → i < length rows → m ≡ n + i → items ≡ numbered_from n (take i rows)
    → items ++ numbered m (slice_index_or rows i d) ∷ [] ≡ numbered_from n (take (i + 1) rows)
numbered_more n m rows items i d within is same =
    let long : length (take i rows) ≡ i = length-take-le i rows (omega arith) in
    let at : m ≡ n + length (take i rows) = is ∙ ap (λ (k : ℕ). n + k) (sym long) in
    ap (λ (rs : List Row). rs ++ numbered m (slice_index_or rows i d) ∷ []) same
    ∙ ap (λ (k : ℕ). numbered_from n (take i rows) ++ numbered k (slice_index_or rows i d) ∷ []) at
    ∙ sym (numbered_append n (take i rows) (slice_index_or rows i d))
    ∙ ap (numbered_from n) (sym (take_more rows i d within))

pub numbered_whole : (n : ℕ) (rows items : List Row) (i : ℕ) → length rows ≤ i → items ≡ numbered_from n (take i rows) → items ≡ numbered_from n rows
numbered_whole n rows items i far same = same ∙ ap (numbered_from n) (take_all i rows far)

-- what is later than all their numbers is later than the last one
last_number : (n m : ℕ) (rows : List Row) → n ≤ m → AllByRecursion (λ row. row.number < m) (numbered_from n rows) → n + length rows ≤ m
last_number n m [] le all = omega arith
last_number n m (row ∷ rows) le all = let less = all.0 in let more = last_number (n + 1) m rows (omega arith) all.1 in omega arith

moved_along : (P : Row → Type 0) (xs ys : List Row) → IsPermutation xs ys → AllByRecursion P xs → AllByRecursion P ys
moved_along P xs ys moved all = recursion_from_All P ys (All-permutation P xs ys moved (All-from_recursion P xs all))

moved_back : (n : ℕ) (xs ys : List Row) → IsPermutation xs ys → AllByRecursion (λ row. row.number < n) ys → AllByRecursion (λ row. row.number < n) xs
moved_back n xs ys moved all = moved_along (λ row. row.number < n) ys xs (IsPermutation-sym xs ys moved) all

module _ (a b : TreeView) (rows order : List Row) (suit : All (Suits a.schema.dims (measures_of a.schema)) rows) (some : 1 ≤ a.next) (few : a.next + length rows ≤ MAX_ROW_NUMBER + 1)
    (is : IsOrderOf a rows order) where
  abbrev later : ℕ
  later = a.next + length rows

  good : AllByRecursion (IsRow a.schema.dims (measures_of a.schema)) (numbered_from a.next rows)
  good = rows_from a.schema.dims (measures_of a.schema) a.next rows (recursion_from_All (Suits a.schema.dims (measures_of a.schema)) rows suit) some few

  order_new : IsSound a → AreNew a.schema later order (regions a)
  order_new sound = new_moved a.schema later (numbered_from a.next rows) order (regions a) is.same (numbered_new a.schema a.next rows (regions a) sound.regions_are good)

  appended : ArePut a order b → IsSound a → AreAppended rows a b
  appended put sound =
      let new = put_new later order [] a b sound (omega arith) (rw (append-nil order) (order_new sound)) put in
      let long : length order ≡ length (numbered_from a.next rows) = length_permutation (numbered_from a.next rows) order is.same in
      let same = length-numbered a.next rows in
      let counted = new.counted in
      record {
        schema = new.schema;
        order = order;
        is = is;
        regions_are = new.regions_are;
        table = λ before table. rw new.regions_are (append_table a.schema a.next rows order (regions a) before sound.regions_are table good is.same);
        counted = omega arith;
        sound = new.sound;
      }

  appended_next : ArePut a order b → b.next ≡ a.next + length rows
  appended_next put =
      let below = moved_along (λ row. row.number < later) (numbered_from a.next rows) order is.same (below_number a.next later rows (omega arith)) in
      let (up, upto, past) = put_bounds a b later order put (omega arith) below in
      let last = last_number a.next b.next rows up (moved_back b.next (numbered_from a.next rows) order is.same past) in
      omega arith

  appended_runs : ArePut a order b → Runs {A = Unit {0}} a b (Ok tt)
  appended_runs put =
      let works = put_works a b order put in
      record { schema = put_schema a b order put; sound = λ sound. (appended put sound).sound; marked = works.1; done = works.0; left = tt }

  -- a fault came of one of them
  undamaged : (e : TreeFault) → ArePutUpTo a order e b → IsSound a → IsNoDamage e
  undamaged e upto sound =
      let new = order_new sound in
      let parts : AreNew a.schema later (take upto.count order ++ drop upto.count order) (regions a) = rw (take-append-drop upto.count order) new in
      let has = put_new later (take upto.count order) (drop upto.count order) a upto.mid sound (omega arith) parts upto.put in
      let others = subst (λ (rs : List Row). AreNew upto.mid.schema later rs (regions upto.mid)) (drop_at order upto.count upto.row upto.next) has.others_new in
      no_damage upto.row.number upto.mid b e has.sound others.free.0 upto.ended.effect.left

  pub order_later : AreLater a.next order
  order_later = (
    moved_along (λ (row : Row). a.next ≤ row.number) (numbered_from a.next rows) order is.same (from_number a.next a.next rows (omega arith)),
    IsDistinct-IsPermutation nat_eq nat_eq_flips (map (λ (row : Row). row.number) (numbered_from a.next rows)) (map (λ (row : Row). row.number) order)
        (IsPermutation-map (λ (row : Row). row.number) (numbered_from a.next rows) order is.same) (differ_from a.next rows),
  )

  pub puts_all : (r : Result (Unit {0}) TreeFault) → OnOk r (ArePut a order b) → IfErr r (λ fault. ArePutUpTo a order fault b) → PutsRows a b rows r
  puts_all (Ok done) put stopped = record {
    appended = appended put;
    put = (order, is, put);
    next = appended_next put;
    full = λ many. absurd (omega arith);
    stopped = tt;
    runs = appended_runs put;
    trace = put_trace a b order put;
  }
  puts_all (Err e) put stopped = record {
    appended = λ sound. tt;
    put = tt;
    next = tt;
    full = λ many. absurd (omega arith);
    stopped = (inr (inr (order, is, stopped)), undamaged e stopped);
    runs = tt;
    trace = ap (λ (t : TreeView). t.trace) stopped.ended.effect.frame ∙ put_trace a stopped.mid (take stopped.count order) stopped.put;
  }

-- none was put in
pub puts_none : (a : TreeView) (rows : List Row) → MAX_ROW_NUMBER + 1 < a.next + length rows → PutsRows a a rows (Err tree.Full)
puts_none a rows many = record {
  appended = λ sound. tt;
  put = tt;
  next = tt;
  full = λ again. (refl, refl);
  stopped = (inl (refl, many, refl), λ sound. tt);
  runs = tt;
  trace = refl;
}

pub puts_unbegun : (a : TreeView) (rows : List Row) (r : Result (Unit {0}) TreeFault) → a.next + length rows ≤ MAX_ROW_NUMBER + 1 → IsErrAnd r (λ x. x ≡ tree.Memory) → PutsRows a a rows r
puts_unbegun a rows (Ok done) few is = absurd is
puts_unbegun a rows (Err e) few is = rw is (record {
  appended = λ sound. tt;
  put = tt;
  next = tt;
  full = λ many. absurd (omega arith);
  stopped = (inr (inl (refl, refl)), λ sound. tt);
  runs = tt;
  trace = refl;
})
