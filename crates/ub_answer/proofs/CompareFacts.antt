-- The comparison by keys is a total order; where it answers Less, the one stands before the other in the order asked, and where
-- it answers Equal, the last comparison does.
use Rattle.std.proofs.Common.{◌≡◌, ◌<◌, Bool, true, false, List, [], ◌∷◌, inl, inr, refl, sym, ap, arith}
use Rattle.std.proofs.lemmas.Cmp.{ranked, int_ranked, nat_cmp_total, int_cmp_total, on_total, then_total, back_total}
use Rattle.std.specs.Cmp.{IsTotalOrder}
use Rattle.std.specs.Ordering.{nat_cmp, ordering_then, ordering_reverse, is_eq}
use Rattle.std.specs.declared.cmp.Ordering.{Ordering}
use Rattle.std.specs.declared.cmp.Ordering.TheVariants.{Less, Equal, Greater}
use Rattle.ub_answer.specs.inner.Compare.{cell_cmp, key_cmp, keys_cmp, row_cmp}
use Rattle.ub_query.proofs.Laws.{AreAlike}
use Rattle.ub_query.specs.Cells.{row_cell}
use Rattle.ub_query.specs.Order.{IsBelow, IsAhead, IsBeforeBy, IsRowBefore}
use Rattle.ub_query.specs.declared.cell.Cell.{Cell}
use Rattle.ub_query.specs.declared.cell.Cell.TheVariants.{Number, Null}
use Rattle.ub_query.specs.declared.query.Item.{Item}
use Rattle.ub_query.specs.declared.query.Item.TheVariants.{Column, Count, Aggregate}
use Rattle.ub_query.specs.declared.query.SortKey.{SortKey}
use Rattle.ub_table.specs.declared.row.Row.{Row}
use Rattle.ub_table.specs.declared.schema.Schema.{Schema}

-- ---- cells

cell-trans : (x y z : Cell) → cell_cmp x y ≡ Less → cell_cmp y z ≡ Less → cell_cmp x z ≡ Less
cell-trans (Number a) (Number b) (Number c) p q = int_cmp_total.trans a b c p q
cell-trans (Number a) (Number b) Null p q = cc
cell-trans (Number a) Null z p q = cc
cell-trans Null (Number b) (Number c) p q = refl
cell-trans Null (Number b) Null p q = cc
cell-trans Null Null z p q = cc

cell-congr : (x y z : Cell) → cell_cmp x y ≡ Equal → cell_cmp x z ≡ cell_cmp y z
cell-congr (Number a) (Number b) (Number c) p = int_cmp_total.congr a b c p
cell-congr (Number a) (Number b) Null p = refl
cell-congr (Number a) Null z p = cc
cell-congr Null (Number b) z p = cc
cell-congr Null Null z p = refl

cell-antisymm : (x y : Cell) → cell_cmp x y ≡ ordering_reverse (cell_cmp y x)
cell-antisymm (Number a) (Number b) = int_cmp_total.antisymm a b
cell-antisymm (Number a) Null = refl
cell-antisymm Null (Number b) = refl
cell-antisymm Null Null = refl

cells_total : IsTotalOrder cell_cmp
cells_total = record { antisymm = cell-antisymm; trans = cell-trans; congr = cell-congr }

key_total : (t : Bool) → IsTotalOrder (key_cmp t)
key_total false = cells_total
key_total true = back_total cells_total

less-below : (x y : Cell) → AreAlike x y → cell_cmp x y ≡ Less → IsBelow x y
less-below (Number a) (Number b) alike e = int_ranked a b Less (sym e)
less-below (Number a) Null alike e = absurd alike
less-below Null (Number b) alike e = absurd alike
less-below Null Null alike e = cc

equal-same : (x y : Cell) → cell_cmp x y ≡ Equal → x ≡ y
equal-same (Number a) (Number b) e = ap Number (int_ranked a b Equal (sym e))
equal-same (Number a) Null e = cc
equal-same Null (Number b) e = cc
equal-same Null Null e = refl

alike-back : (x y : Cell) → AreAlike x y → AreAlike y x
alike-back (Number a) (Number b) alike = tt
alike-back (Number a) Null alike = absurd alike
alike-back Null (Number b) alike = absurd alike
alike-back Null Null alike = tt

less-ahead : (t : Bool) (x y : Cell) → AreAlike x y → key_cmp t x y ≡ Less → IsAhead t x y
less-ahead false x y alike e = less-below x y alike e
less-ahead true x y alike e = less-below y x (alike-back x y alike) e

key-same : (t : Bool) (x y : Cell) → key_cmp t x y ≡ Equal → x ≡ y
key-same false x y e = equal-same x y e
key-same true x y e = sym (equal-same y x e)

-- ---- entries

module _ {E : Type 0} (cell : E → Item → Cell) (last : E → E → Ordering) where
  pub keys_total : IsTotalOrder last → (keys : List SortKey) → IsTotalOrder (keys_cmp cell last keys)
  keys_total o [] = o
  keys_total o (key ∷ keys) = then_total (on_total (λ (e : E). cell e key.item) (key_total key.is_descending)) (keys_total o keys)

  pub keys-less : (Ties : E → E → Type 0) (keys : List SortKey) (a b : E) → (last a b ≡ Less → Ties a b)
      → ((item : Item) → AreAlike (cell a item) (cell b item)) → keys_cmp cell last keys a b ≡ Less → IsBeforeBy cell Ties keys a b
  keys-less Ties [] a b f alike e = f e
  keys-less Ties (key ∷ keys) a b f alike e =
      by_first (key_cmp key.is_descending (cell a key.item) (cell b key.item)) refl e (λ h. keys-less Ties keys a b f alike h)
    where
      by_first : (r : Ordering) → key_cmp key.is_descending (cell a key.item) (cell b key.item) ≡ r → ordering_then r (keys_cmp cell last keys a b) ≡ Less
          → (keys_cmp cell last keys a b ≡ Less → IsBeforeBy cell Ties keys a b) → IsBeforeBy cell Ties (key ∷ keys) a b
      by_first Less is h rest = inl (less-ahead key.is_descending (cell a key.item) (cell b key.item) (alike key.item) is)
      by_first Equal is h rest = inr (key-same key.is_descending (cell a key.item) (cell b key.item) is, rest h)
      by_first Greater is h rest = cc

  pub keys-equal : (keys : List SortKey) (a b : E) → keys_cmp cell last keys a b ≡ Equal → last a b ≡ Equal
  keys-equal [] a b e = e
  keys-equal (key ∷ keys) a b e = keys-equal keys a b (undecided (key_cmp key.is_descending (cell a key.item) (cell b key.item)) e)
    where
      undecided : (r : Ordering) → ordering_then r (keys_cmp cell last keys a b) ≡ Equal → keys_cmp cell last keys a b ≡ Equal
      undecided Less h = cc
      undecided Equal h = h
      undecided Greater h = cc

-- ---- rows

pub rows_total : (schema : Schema) (keys : List SortKey) → IsTotalOrder (row_cmp schema keys)
rows_total schema keys = keys_total (row_cell schema) (λ a b. nat_cmp a.number b.number) (on_total (λ (r : Row). r.number) nat_cmp_total) keys

row_cells-alike : (schema : Schema) (a b : Row) (item : Item) → AreAlike (row_cell schema a item) (row_cell schema b item)
row_cells-alike schema a b (Column column) = tt
row_cells-alike schema a b Count = tt
row_cells-alike schema a b (Aggregate taken column) = tt

pub row-before : (schema : Schema) (keys : List SortKey) (a b : Row) → row_cmp schema keys a b ≡ Less → IsRowBefore schema keys a b
row-before schema keys a b e =
    keys-less (row_cell schema) (λ a b. nat_cmp a.number b.number) (λ a b. a.number < b.number) keys a b
    (λ h. ranked a.number b.number Less (sym h)) (row_cells-alike schema a b) e

pub not_equal : (r : Ordering) → (r ≡ Equal → ⊥) → is_eq r ≡ false
not_equal Less h = refl
not_equal Equal h = absurd (h refl)
not_equal Greater h = refl

pub rows-apart : (schema : Schema) (keys : List SortKey) (a b : Row) → a.number < b.number → is_eq (row_cmp schema keys a b) ≡ false
rows-apart schema keys a b below =
    not_equal (row_cmp schema keys a b) (λ e.
    let same : a.number ≡ b.number = ranked a.number b.number Equal (sym (keys-equal (row_cell schema) (λ a b. nat_cmp a.number b.number) keys a b e)) in omega arith)
