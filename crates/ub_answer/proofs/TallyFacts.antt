-- The cells of a group, from one row to the next.
use Rattle.std.proofs.Common.{◌≡◌, ◌<◌, ◌≤◌, ◌+◌, ◌*◌, ◌⊎◌, inl, inr, eqb, slice_set, ◌+ℤ◌, ℕ, suc, ℤ, pos, negsuc, List, [], ◌∷◌, ◌++◌, length, map, take, fold, slice_index_or, refl, sym, ap, subst, arith, ◌∙◌}
use Rattle.std.proofs.lemmas.Bool.{cases_Bool, cases_lt, eqb-true, eqb-false}
use Rattle.std.proofs.lemmas.Int.{ints, clamps}
use Rattle.std.proofs.lemmas.List.{append-nil, length-append, map-append, get_or-set_same, get_or-set_other, get_or_default, take_more}
use Rattle.std.proofs.lemmas.List.Sums.{fold_push, fold-append}
use Rattle.std.specs.Int.{int_max, int_min, saturate_to_bits}
use Rattle.std.specs.List.{All}
use Rattle.ub_answer.specs.Held.{many}
use Rattle.ub_answer.specs.inner.Tally.{plus, taken_in, of_none, with_row, all_of, with_part, IsWithin, IsNarrow, IsSmall, IsSmallOf, IsShown, AreShown}
use Rattle.ub_query.specs.Cells.{Group, value_among, total, sum_of, least_of, greatest_of, taken_of, group_cell}
use Rattle.ub_query.specs.Posed.{IsAggregate}
use Rattle.ub_query.specs.declared.cell.Cell.{Cell}
use Rattle.ub_query.specs.declared.cell.Cell.TheVariants.{Number, Null}
use Rattle.ub_query.specs.declared.query.Aggregate.{Aggregate as Taken}
use Rattle.ub_query.specs.declared.query.Aggregate.TheVariants.{Sum, Min, Max}
use Rattle.ub_query.specs.declared.query.Item.{Item}
use Rattle.ub_query.specs.declared.query.Item.TheVariants.{Column, Count, Aggregate}
use Rattle.ub_table.specs.Table.{column_value}
use Rattle.ub_table.specs.declared.row.Row.{Row}
use Rattle.ub_table.specs.declared.schema.Schema.{Schema}

-- ---- numbers

saturate-small : (x : ℤ) (n : ℕ) → n ≤ 4294967296 → IsWithin n x → saturate_to_bits 127 x ≡ x
saturate-small (pos m) n few within = let a = within.1 in let small : m ≤ n * 9223372036854775808 = omega (arith, ints) in ap pos (omega arith)
saturate-small (negsuc m) n few within = let a = within.0 in let small : m ≤ n * 9223372036854775808 = omega (arith, ints) in ap negsuc (omega arith)

pub within-more : (n : ℕ) (x v : ℤ) → IsWithin n x → IsWithin 1 v → IsWithin (n + 1) (x +ℤ v)
within-more n x v p q = let a = p.0 in let b = p.1 in let c = q.0 in let d = q.1 in (omega (arith, ints), omega (arith, ints))

within-one : (n : ℕ) (v : ℤ) → IsWithin 1 v → IsWithin (n + 1) v
within-one n v q = let c = q.0 in let d = q.1 in (omega (arith, ints), omega (arith, ints))

within-min : (n : ℕ) (x v : ℤ) → IsWithin n x → IsWithin 1 v → IsWithin (n + 1) (int_min x v)
within-min n x v p q = let a = p.0 in let b = p.1 in let c = q.0 in let d = q.1 in (omega (arith, ints, clamps), omega (arith, ints, clamps))

within-max : (n : ℕ) (x v : ℤ) → IsWithin n x → IsWithin 1 v → IsWithin (n + 1) (int_max x v)
within-max n x v p q = let a = p.0 in let b = p.1 in let c = q.0 in let d = q.1 in (omega (arith, ints, clamps), omega (arith, ints, clamps))

total-push : (xs : List ℤ) (v : ℤ) → total (xs ++ v ∷ []) ≡ total xs +ℤ v
total-push [] v = let z : ℤ = pos 0 in omega (arith, ints)
total-push (x ∷ xs) v = let rest = total-push xs v in omega (arith, ints)

-- ---- what is taken of some values and one more

-- a cell that shows n values at most
abbrev Shows : Cell → Cell → ℕ → Type 0
Shows cell wanted n = (cell ≡ wanted) × IsSmall n cell

plus-null : (v : ℤ) (n : ℕ) → IsWithin 1 v → Shows (plus v Null) (Number v) (n + 1)
plus-null v n q = (refl, within-one n v q)

plus-number : (x v : ℤ) (n : ℕ) → n < many → IsWithin n x → IsWithin 1 v → Shows (plus v (Number x)) (Number (x +ℤ v)) (n + 1)
plus-number x v n few p q =
    let more = within-more n x v p q in
    let is : saturate_to_bits 127 (x +ℤ v) ≡ x +ℤ v = saturate-small (x +ℤ v) (n + 1) (omega arith) more in
    (ap Number is, subst (λ (y : ℤ). IsWithin (n + 1) y) (sym is) more)

taken-next : (taken : Taken) (xs : List ℤ) (v : ℤ) (n : ℕ) → n < many → IsSmall n (taken_of taken xs) → IsWithin 1 v
    → Shows (taken_in taken v (taken_of taken xs)) (taken_of taken (xs ++ v ∷ [])) (n + 1)
taken-next Sum [] v n few p q =
    let e : v +ℤ pos 0 ≡ v = omega (arith, ints) in (ap Number (sym e), within-one n v q)
taken-next Sum (x ∷ xs) v n few p q =
    let next = plus-number (total (x ∷ xs)) v n few p q in
    (next.0 ∙ ap Number (sym (total-push (x ∷ xs) v)), next.1)
taken-next Min [] v n few p q = (refl, within-one n v q)
taken-next Min (x ∷ xs) v n few p q =
    (ap Number (sym (fold_push int_min x xs v)), within-min n (fold int_min x xs) v p q)
taken-next Max [] v n few p q = (refl, within-one n v q)
taken-next Max (x ∷ xs) v n few p q =
    (ap Number (sym (fold_push int_max x xs v)), within-max n (fold int_max x xs) v p q)

-- ---- what is taken of some values and of more

within-both : (n m : ℕ) (x v : ℤ) → IsWithin n x → IsWithin m v → IsWithin (n + m) (x +ℤ v)
within-both n m x v p q = let a = p.0 in let b = p.1 in let c = q.0 in let d = q.1 in (omega (arith, ints), omega (arith, ints))

within-left : (n m : ℕ) (x : ℤ) → IsWithin n x → IsWithin (n + m) x
within-left n m x p = let a = p.0 in let b = p.1 in (omega (arith, ints), omega (arith, ints))

within-right : (n m : ℕ) (x : ℤ) → IsWithin m x → IsWithin (n + m) x
within-right n m x p = let a = p.0 in let b = p.1 in (omega (arith, ints), omega (arith, ints))

within-least : (n m : ℕ) (x v : ℤ) → IsWithin n x → IsWithin m v → IsWithin (n + m) (int_min x v)
within-least n m x v p q = let a = p.0 in let b = p.1 in let c = q.0 in let d = q.1 in (omega (arith, ints, clamps), omega (arith, ints, clamps))

within-greatest : (n m : ℕ) (x v : ℤ) → IsWithin n x → IsWithin m v → IsWithin (n + m) (int_max x v)
within-greatest n m x v p q = let a = p.0 in let b = p.1 in let c = q.0 in let d = q.1 in (omega (arith, ints, clamps), omega (arith, ints, clamps))

small-left : (n m : ℕ) (cell : Cell) → IsSmall n cell → IsSmall (n + m) cell
small-left n m (Number x) p = within-left n m x p
small-left n m Null p = tt

total-append : (xs ys : List ℤ) → total (xs ++ ys) ≡ total xs +ℤ total ys
total-append [] ys = let z : ℤ = pos 0 in omega (arith, ints)
total-append (x ∷ xs) ys = let rest = total-append xs ys in omega (arith, ints)

-- the sum so far, and one number more
pub total-next : (xs : List ℤ) (k : ℕ) (sum v new : ℤ) → k < length xs → v ≡ slice_index_or xs k v → sum ≡ total (take k xs) → new ≡ sum +ℤ v
    → new ≡ total (take (k + 1) xs)
total-next xs k sum v new below read is added =
    added ∙ ap (λ (s : ℤ). s +ℤ v) is ∙ sym (total-push (take k xs) v)
    ∙ ap (λ (x : ℤ). total (take k xs ++ x ∷ [])) read ∙ ap total (sym (take_more xs k v below))

-- the least of one number and of some is the lesser of that and of their least
least-more : (a y : ℤ) (ys : List ℤ) → fold int_min (int_min a y) ys ≡ int_min a (fold int_min y ys)
least-more a y [] = refl
least-more a y (z ∷ zs) =
    let same : int_min (int_min a y) z ≡ int_min a (int_min y z) = omega (arith, ints, clamps) in
    ap (λ (x : ℤ). fold int_min x zs) same ∙ least-more a (int_min y z) zs

greatest-more : (a y : ℤ) (ys : List ℤ) → fold int_max (int_max a y) ys ≡ int_max a (fold int_max y ys)
greatest-more a y [] = refl
greatest-more a y (z ∷ zs) =
    let same : int_max (int_max a y) z ≡ int_max a (int_max y z) = omega (arith, ints, clamps) in
    ap (λ (x : ℤ). fold int_max x zs) same ∙ greatest-more a (int_max y z) zs

sum-more : (x v : ℤ) (n m : ℕ) → n + m ≤ many → IsWithin n x → IsWithin m v → Shows (plus v (Number x)) (Number (x +ℤ v)) (n + m)
sum-more x v n m few p q =
    let both = within-both n m x v p q in
    let is : saturate_to_bits 127 (x +ℤ v) ≡ x +ℤ v = saturate-small (x +ℤ v) (n + m) few both in
    (ap Number is, subst (λ (y : ℤ). IsWithin (n + m) y) (sym is) both)

taken-more : (taken : Taken) (column : ℕ) (xs ys : List ℤ) (n m : ℕ) → n + m ≤ many → IsSmall n (taken_of taken xs) → IsSmall m (taken_of taken ys)
    → Shows (with_part (taken_of taken ys) (Aggregate taken column) (taken_of taken xs)) (taken_of taken (xs ++ ys)) (n + m)
taken-more Sum column xs [] n m few p q = (ap sum_of (sym (append-nil xs)), small-left n m (sum_of xs) p)
taken-more Sum column [] (y ∷ ys) n m few p q = (refl, within-right n m (total (y ∷ ys)) q)
taken-more Sum column (x ∷ xs) (y ∷ ys) n m few p q =
    let next = sum-more (total (x ∷ xs)) (total (y ∷ ys)) n m few p q in
    (next.0 ∙ ap Number (sym (total-append (x ∷ xs) (y ∷ ys))), next.1)
taken-more Min column xs [] n m few p q = (ap least_of (sym (append-nil xs)), small-left n m (least_of xs) p)
taken-more Min column [] (y ∷ ys) n m few p q = (refl, within-right n m (fold int_min y ys) q)
taken-more Min column (x ∷ xs) (y ∷ ys) n m few p q = (
  ap Number (sym (fold-append int_min x xs (y ∷ ys) ∙ least-more (fold int_min x xs) y ys)),
  within-least n m (fold int_min x xs) (fold int_min y ys) p q,
)
taken-more Max column xs [] n m few p q = (ap greatest_of (sym (append-nil xs)), small-left n m (greatest_of xs) p)
taken-more Max column [] (y ∷ ys) n m few p q = (refl, within-right n m (fold int_max y ys) q)
taken-more Max column (x ∷ xs) (y ∷ ys) n m few p q = (
  ap Number (sym (fold-append int_max x xs (y ∷ ys) ∙ greatest-more (fold int_max x xs) y ys)),
  within-greatest n m (fold int_max x xs) (fold int_max y ys) p q,
)

-- ---- cells

-- the row has the group's value in the item's column
abbrev pub IsOfGroup : Schema → List ℕ → List ℤ → Row → Item → Type 0
IsOfGroup schema columns values row (Column column) = value_among columns values column ≡ Number (column_value schema row column)
IsOfGroup schema columns values row Count = Unit {0}
IsOfGroup schema columns values row (Aggregate taken column) = Unit {0}

group_of : List ℤ → List Row → Group
group_of values rows = record { values = values; rows = rows }

long : (rows : List Row) (row : Row) → length (rows ++ row ∷ []) ≡ length rows + 1
long rows row = length-append rows (row ∷ [])

pub shown-next : (schema : Schema) (columns : List ℕ) (values : List ℤ) (rows : List Row) (row : Row) (item : Item) (cell : Cell) → length rows < many
    → IsNarrow schema row item → IsOfGroup schema columns values row item
    → (IsAggregate item → IsShown schema columns (record { values = values; rows = rows }) item cell)
    → IsShown schema columns (record { values = values; rows = rows ++ row ∷ [] }) item (with_row schema row item cell)
shown-next schema columns values rows row (Column column) cell few narrow of shown = record {
  is = sym of;
  small = subst (λ (n : ℕ). IsWithin n (column_value schema row column)) (sym (long rows row)) (within-one (length rows) (column_value schema row column) narrow);
}
shown-next schema columns values rows row Count cell few narrow of shown =
    let before = shown tt in
    let small : IsWithin (length rows) (pos (length rows)) = subst (λ (c : Cell). IsSmall (length rows) c) before.is before.small in
    let next = plus-number (pos (length rows)) (pos 1) (length rows) few small (omega (arith, ints), omega (arith, ints)) in
    record {
      is = ap (λ (c : Cell). plus (pos 1) c) before.is ∙ next.0 ∙ ap (λ (n : ℕ). Number (pos n)) (sym (long rows row));
      small = subst (λ (c : Cell). IsSmall (length (rows ++ row ∷ [])) (plus (pos 1) c)) (sym before.is)
          (subst (λ (n : ℕ). IsSmall n (plus (pos 1) (Number (pos (length rows))))) (sym (long rows row)) next.1);
    }
shown-next schema columns values rows row (Aggregate taken column) cell few narrow of shown =
    let before = shown tt in
    let f : Row → ℤ = λ row. column_value schema row column in
    let small : IsSmall (length rows) (taken_of taken (map f rows)) = subst (λ (c : Cell). IsSmall (length rows) c) before.is before.small in
    let next = taken-next taken (map f rows) (f row) (length rows) few small narrow in
    record {
      is = ap (λ (c : Cell). taken_in taken (f row) c) before.is ∙ next.0 ∙ ap (taken_of taken) (sym (map-append f rows (row ∷ [])));
      small = subst (λ (c : Cell). IsSmall (length (rows ++ row ∷ [])) (taken_in taken (f row) c)) (sym before.is)
          (subst (λ (n : ℕ). IsSmall n (taken_in taken (f row) (taken_of taken (map f rows)))) (sym (long rows row)) next.1);
    }

none-taken : (taken : Taken) → Null ≡ taken_of taken []
none-taken Sum = refl
none-taken Min = refl
none-taken Max = refl

pub shown-none : (schema : Schema) (columns : List ℕ) (values : List ℤ) (item : Item) → IsAggregate item
    → IsShown schema columns (record { values = values; rows = [] }) item (of_none item)
shown-none schema columns values (Column column) is = absurd is
shown-none schema columns values Count is = record { is = refl; small = (omega (arith, ints), omega (arith, ints)) }
shown-none schema columns values (Aggregate taken column) is = record { is = none-taken taken; small = tt }

-- an item shows of some rows and of more what it shows of them all
pub shown-more : (schema : Schema) (rows more : List Row) (item : Item) (cell : Cell) → length (rows ++ more) < many → IsAggregate item
    → IsSmallOf schema more item → IsShown schema [] (all_of rows) item cell
    → IsShown schema [] (all_of (rows ++ more)) item (with_part (group_cell schema [] (all_of more) item) item cell)
shown-more schema rows more (Column column) cell few is small shown = absurd is
shown-more schema rows more Count cell few is small shown =
    let n = length rows in
    let m = length more in
    let both : length (rows ++ more) ≡ n + m = length-append rows more in
    let before : IsWithin n (pos n) = subst (λ (c : Cell). IsSmall n c) shown.is shown.small in
    let next = sum-more (pos n) (pos m) n m (omega arith) before small in
    record {
      is = ap (λ (c : Cell). plus (pos m) c) shown.is ∙ next.0 ∙ ap (λ (k : ℕ). Number (pos k)) (sym both);
      small = subst (λ (c : Cell). IsSmall (length (rows ++ more)) (plus (pos m) c)) (sym shown.is)
          (subst (λ (k : ℕ). IsSmall k (plus (pos m) (Number (pos n)))) (sym both) next.1);
    }
shown-more schema rows more (Aggregate taken column) cell few is small shown =
    let f : Row → ℤ = λ row. column_value schema row column in
    let n = length rows in
    let m = length more in
    let part = taken_of taken (map f more) in
    let both : length (rows ++ more) ≡ n + m = length-append rows more in
    let before : IsSmall n (taken_of taken (map f rows)) = subst (λ (c : Cell). IsSmall n c) shown.is shown.small in
    let next = taken-more taken column (map f rows) (map f more) n m (omega arith) before small in
    record {
      is = ap (λ (c : Cell). with_part part (Aggregate taken column) c) shown.is ∙ next.0 ∙ ap (taken_of taken) (sym (map-append f rows more));
      small = subst (λ (c : Cell). IsSmall (length (rows ++ more)) (with_part part (Aggregate taken column) c)) (sym shown.is)
          (subst (λ (k : ℕ). IsSmall k (with_part part (Aggregate taken column) (taken_of taken (map f rows)))) (sym both) next.1);
    }

-- ---- all cells of a group

pub are-shown-next : (schema : Schema) (columns : List ℕ) (items : List Item) (values : List ℤ) (rows : List Row) (row : Row) (cells next : List Cell)
    → length rows < many → All (λ item. IsNarrow schema row item) items → All (λ item. IsOfGroup schema columns values row item) items
    → ((k : ℕ) (d : Item) (e : Cell) → k < length items → IsAggregate (slice_index_or items k d)
    → IsShown schema columns (record { values = values; rows = rows }) (slice_index_or items k d) (slice_index_or cells k e))
    → ((k : ℕ) (d : Item) (e : Cell) → k < length items → slice_index_or next k e ≡ with_row schema row (slice_index_or items k d) (slice_index_or cells k e))
    → AreShown schema columns items (record { values = values; rows = rows ++ row ∷ [] }) next
are-shown-next schema columns items values rows row cells next few narrow of shown is k d e below =
    subst (λ (c : Cell). IsShown schema columns (record { values = values; rows = rows ++ row ∷ [] }) (slice_index_or items k d) c) (sym (is k d e below))
    (shown-next schema columns values rows row (slice_index_or items k d) (slice_index_or cells k e) few (narrow k d below) (of k d below) (shown k d e below))

-- the cells as a list
pub shown-list : (items : List Item) (cells : List Cell) (f : Item → Cell) → length items ≤ length cells
    → ((k : ℕ) (d : Item) (e : Cell) → k < length items → slice_index_or cells k e ≡ f (slice_index_or items k d)) → take (length items) cells ≡ map f items
shown-list [] [] f fits is = refl
shown-list [] (c ∷ cells) f fits is = refl
shown-list (i ∷ items) [] f fits is = absurd (omega arith)
shown-list (i ∷ items) (c ∷ cells) f fits is =
    let first : c ≡ f i = is 0 i c (omega arith) in
    let rest : take (length items) cells ≡ map f items = shown-list items cells f (omega arith) (λ k d e below. is (suc k) d e (omega arith)) in
    ap (λ (x : Cell). x ∷ take (length items) cells) first ∙ ap (λ (xs : List Cell). f i ∷ xs) rest

-- ---- one place of a list written

pub read-set : {A : Type 0} (xs : List A) (i : ℕ) (x : A) (k : ℕ) (e : A) → i < length xs → (P : A → Type 0) → (k ≡ i → P x)
    → ((k ≡ i → ⊥) → P (slice_index_or xs k e)) → P (slice_index_or (slice_set xs i x) k e)
read-set xs i x k e within P f g = elim (which k i) [
  | inl same ↦ subst (λ (n : ℕ). P (slice_index_or (slice_set xs i x) n e)) (sym same) (subst P (sym (get_or-set_same xs i x e within)) (f same))
  | inr apart ↦ subst P (sym (get_or-set_other xs i k x e apart)) (g apart)
]
  where
    which : (a b : ℕ) → (a ≡ b) ⊎ (a ≡ b → ⊥)
    which a b = elim (cases_Bool (eqb a b)) [ inl t ↦ inl (eqb-true a b t) | inr f ↦ inr (eqb-false a b f) ]

pub none-next : (items : List Item) (cells : List Cell) (i : ℕ) (x : Cell) (d : Item) → i < length items → i < length cells
    → ((k : ℕ) (d : Item) (e : Cell) → k < i → slice_index_or cells k e ≡ of_none (slice_index_or items k d)) → x ≡ of_none (slice_index_or items i d)
    → (k : ℕ) (d : Item) (e : Cell) → k < i + 1 → slice_index_or (slice_set cells i x) k e ≡ of_none (slice_index_or items k d)
none-next items cells i x d0 below within done is k d e under =
    read-set cells i x k e within (λ (c : Cell). c ≡ of_none (slice_index_or items k d))
    (λ same. is ∙ ap of_none (get_or_default items i d0 d below ∙ ap (λ (n : ℕ). slice_index_or items n d) (sym same)))
    (λ apart. done k d e (lt_of apart))
  where
    lt_of : (k ≡ i → ⊥) → k < i
    lt_of apart = elim (cases_lt k i) [ inl l ↦ l | inr g ↦ absurd (apart (omega arith)) ]

-- the cells changed up to a place, each by its item
pub cells-next : (change : Item → Cell → Cell) (items : List Item) (first cells : List Cell) (i : ℕ) (x : Cell) (d : Item) (e : Cell)
    → i < length items → i < length cells
    → ((k : ℕ) (d : Item) (e : Cell) → k < i → slice_index_or cells k e ≡ change (slice_index_or items k d) (slice_index_or first k e))
    → ((k : ℕ) (e : Cell) → i ≤ k → slice_index_or cells k e ≡ slice_index_or first k e)
    → x ≡ change (slice_index_or items i d) (slice_index_or cells i e)
    → (k : ℕ) (d : Item) (e : Cell) → k < i + 1 → slice_index_or (slice_set cells i x) k e ≡ change (slice_index_or items k d)
    (slice_index_or first k e)
cells-next change items first cells i x d0 e0 below within done rest is k d e under =
    read-set cells i x k e within (λ (c : Cell). c ≡ change (slice_index_or items k d) (slice_index_or first k e))
    (λ same.
    is
    ∙ ap (λ (item : Item). change item (slice_index_or cells i e0)) (get_or_default items i d0 d below)
    ∙ ap (λ (c : Cell). change (slice_index_or items i d) c) (get_or_default cells i e0 e within ∙ rest i e (omega arith))
    ∙ ap (λ (n : ℕ). change (slice_index_or items n d) (slice_index_or first n e)) (sym same))
    (λ apart. done k d e (lt_of apart))
  where
    lt_of : (k ≡ i → ⊥) → k < i
    lt_of apart = elim (cases_lt k i) [ inl l ↦ l | inr g ↦ absurd (apart (omega arith)) ]

pub rest-next : (first cells : List Cell) (i : ℕ) (x : Cell) → i < length cells
    → ((k : ℕ) (e : Cell) → i ≤ k → slice_index_or cells k e ≡ slice_index_or first k e)
    → (k : ℕ) (e : Cell) → i + 1 ≤ k → slice_index_or (slice_set cells i x) k e ≡ slice_index_or first k e
rest-next first cells i x within rest k e above =
    read-set cells i x k e within (λ (c : Cell). c ≡ slice_index_or first k e) (λ same. absurd (omega arith)) (λ apart. rest k e (omega arith))

-- a property of the items up to a place
pub items-next : (Has : Item → Type 0) (items : List Item) (i : ℕ) (d : Item) → i < length items
    → ((k : ℕ) (d : Item) → k < i → Has (slice_index_or items k d)) → Has (slice_index_or items i d)
    → (k : ℕ) (d : Item) → k < i + 1 → Has (slice_index_or items k d)
items-next Has items i d0 below done is k d under = elim (cases_lt k i) [
  | inl l ↦ done k d l
  | inr g ↦
      let same : k ≡ i = omega arith in
      subst (λ (n : ℕ). Has (slice_index_or items n d)) (sym same) (subst Has (get_or_default items i d0 d below) is)
]
