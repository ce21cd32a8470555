-- The rows held: what a push and a pop of the heap make of them.
use Rattle.std.proofs.Common.{◌≡◌, ◌<◌, ℕ, zero, suc, List, [], ◌∷◌, ◌++◌, true, false, Option, Some, None, Result, Ok, Err, OnOk, Contains, length, map, slice_index_or, refl, sym, ap, subst, ◌∙◌, arith, append_assoc}
use Rattle.std.proofs.lemmas.List.{append-nil, map-append}
use Rattle.std.proofs.lemmas.List.Sorted.{IsPermutation-append_comm, IsPermutation-cons, IsPermutation-map, IsPermutation-refl, IsPermutation-trans}
use Rattle.std.proofs.lemmas.List.Elements.{All-contains, All-cons, All-nil}
use Rattle.std.specs.BinaryHeap.{IsUpperBound}
use Rattle.std.specs.List.{All}
use Rattle.std.specs.List.Sorted.{IsPermutation}
use Rattle.std.specs.Ordering.{is_lt}
use Rattle.std.specs.declared.cmp.Ordering.{Ordering}
use Rattle.std.specs.declared.cmp.Ordering.TheVariants.{Less}
use Rattle.ub_query.proofs.Laws.{contains_here}
use Rattle.ub_query.specs.Lead.{group_lead, lead_by, swept_order}
use Rattle.ub_query.specs.Posed.{IsItemOver}
use Rattle.ub_query.specs.declared.query.SortKey.{SortKey}
use Rattle.ub_table.specs.declared.row.Row.{Row}
use Rattle.ub_table.specs.declared.schema.Schema.{Schema}
use Rattle.ub_tetris.specs.Held.{HeldRow, held_row}
use Rattle.ub_tetris.specs.declared.ranked.Ranked.{Ranked}
use Rattle.ub_tetris.specs.inner.Kept.{held_of, held_cmp, HoldsAlso, IsFirstAmong, IsFirstOf, TakesFirst, seen_row}

-- one of those held
abbrev pub as_held : Ranked → HeldRow
as_held r = seen_row r.held.value

never_less : (r : Ordering) → is_lt r ≡ false → ¬ (r ≡ Less)
never_less r no_less e = let told : is_lt r ≡ true = ap is_lt e in cc

pub first_among : (x : Ranked) (items : List Ranked) → IsUpperBound held_cmp x items → IsFirstAmong (as_held x) (held_of items)
first_among x [] top = tt
first_among x (y ∷ items) top = (never_less (held_cmp x y) top.0, first_among x items top.1)

contained : (items : List Ranked) (n : ℕ) (x : Ranked) → n < length items → x ≡ slice_index_or items n x → Contains (held_of items) (as_held x)
contained [] n x within is = absurd (omega arith)
contained (y ∷ items) zero x within is = (0, omega arith, ap as_held (sym is))
contained (y ∷ items) (suc n) x within is = let (k, far, at) = contained items n x (omega arith) is in (suc k, omega arith, at)

pub first_is : (items : List Ranked) (x : Ranked) → 0 < length items → x ≡ slice_index_or items 0 x → IsUpperBound held_cmp x items → IsFirstOf (held_of items) (Some x.held.value.row)
first_is items x some is top = (as_held x, contained items 0 x some is, refl, first_among x items top)

pub none_held : (items : List Ranked) → length items ≡ 0 → held_of items ≡ []
none_held [] none = refl
none_held (x ∷ items) none = absurd (omega arith)

pub first_taken : (items left : List Ranked) (x : Ranked) → IsPermutation items (x ∷ left) → IsUpperBound held_cmp x left → TakesFirst (held_of items) (held_of left) (Some x.held.value.row)
first_taken items left x same top = (as_held x, IsPermutation-map as_held items (x ∷ left) same, refl, first_among x left top)

pub held_more : (entry : Ranked) (old new : List Ranked) (schema : Schema) (keys : List SortKey) (row : Row) → IsPermutation (entry ∷ old) new
    → as_held entry ≡ held_row schema keys row → IsPermutation (held_row schema keys row ∷ held_of old) (held_of new)
held_more entry old new schema keys row same is =
    subst (λ (h : HeldRow). IsPermutation (h ∷ held_of old) (held_of new)) is (IsPermutation-map as_held (entry ∷ old) new same)

-- ---- rows held beside others

pub HoldsAlso-none : (schema : Schema) (keys : List SortKey) (held : List HeldRow) → HoldsAlso schema keys [] held held
HoldsAlso-none schema keys held = subst (λ (rows : List HeldRow). IsPermutation rows held) (sym (append-nil held)) (IsPermutation-refl held)

-- one more was put to those held, by the same keys
pub HoldsAlso-more : {A E : Type 0} (r : Result A E) (schema : Schema) (keys by : List SortKey) (rows : List Row) (row : Row) (old mid new : List HeldRow) → by ≡ keys
    → HoldsAlso schema keys rows old mid → OnOk r (IsPermutation (held_row schema by row ∷ mid) new) → OnOk r (HoldsAlso schema keys (rows ++ row ∷ []) old new)
HoldsAlso-more (Err e) schema keys by rows row old mid new same so_far put = tt
HoldsAlso-more (Ok x) schema keys by rows row old mid new same so_far put =
    let before : List HeldRow = old ++ map (held_row schema keys) rows in
    let h : HeldRow = held_row schema keys row in
    let put_there : IsPermutation (h ∷ mid) new = subst (λ (ks : List SortKey). IsPermutation (held_row schema ks row ∷ mid) new) same put in
    let split : old ++ map (held_row schema keys) (rows ++ row ∷ []) ≡ before ++ h ∷ [] =
    ap (λ (held : List HeldRow). old ++ held) (map-append (held_row schema keys) rows (row ∷ [])) ∙ sym (append_assoc old (map (held_row schema keys) rows) (h ∷ [])) in
    subst (λ (held : List HeldRow). IsPermutation held new) (sym split)
    (IsPermutation-trans (before ++ h ∷ []) (h ∷ before) new (IsPermutation-append_comm before (h ∷ []))
    (IsPermutation-trans (h ∷ before) (h ∷ mid) new (IsPermutation-cons h before mid so_far) put_there))

-- ---- the keys by which rows are held

-- those of groups are their lead
pub lead_held : (group : List ℕ) (order : List SortKey) (found : Option SortKey) (lead : SortKey) → found ≡ group_lead group order → found ≡ Some lead → lead ∷ [] ≡ swept_order group order
lead_held [] order found lead is some = let bad : None ≡ Some lead = sym is ∙ some in absurd cc
lead_held (column ∷ group) order found lead is some = let same : Some lead ≡ group_lead (column ∷ group) order = sym some ∙ is in cc

-- where there is no lead they are the order asked
pub order_held : (group : List ℕ) (order by : List SortKey) (found : Option SortKey) → found ≡ group_lead group order → found ≡ None → by ≡ order → by ≡ swept_order group order
order_held [] order by found is none same = same
order_held (column ∷ group) order by found is none same = let bad : None ≡ Some (lead_by column order) = sym none ∙ is in absurd cc

-- the lead is a column of the table, or none, as each key of the query is
pub lead_over : (columns : ℕ) (group : List ℕ) (order : List SortKey) (found : Option SortKey) (lead : SortKey) → All (λ column. column < columns) group
    → All (λ key. IsItemOver columns key.item) order → found ≡ group_lead group order → found ≡ Some lead → All (λ key. IsItemOver columns key.item) (lead ∷ [])
lead_over columns [] order found lead groups keys is some = let bad : None ≡ Some lead = sym is ∙ some in absurd cc
lead_over columns (column ∷ group) [] found lead groups keys is some =
    let same : group_lead (column ∷ group) [] ≡ Some lead = sym is ∙ some in
    let first : lead_by column [] ≡ lead = cc in
    All-cons (λ key. IsItemOver columns key.item) lead []
    (subst (λ (key : SortKey). IsItemOver columns key.item) first (All-contains (λ column. column < columns) (column ∷ group) column groups (contains_here column group)))
    (All-nil (λ (key : SortKey). IsItemOver columns key.item))
lead_over columns (column ∷ group) (key ∷ order) found lead groups keys is some =
    let same : group_lead (column ∷ group) (key ∷ order) ≡ Some lead = sym is ∙ some in
    let first : key ≡ lead = cc in
    All-cons (λ key. IsItemOver columns key.item) lead []
    (subst (λ (key : SortKey). IsItemOver columns key.item) first (All-contains (λ key. IsItemOver columns key.item) (key ∷ order) key keys (contains_here key order)))
    (All-nil (λ (key : SortKey). IsItemOver columns key.item))

-- so is each key by which rows are held
pub swept_over : (columns : ℕ) (group : List ℕ) (order by : List SortKey) → All (λ column. column < columns) group
    → All (λ key. IsItemOver columns key.item) order → by ≡ swept_order group order → All (λ key. IsItemOver columns key.item) by
swept_over columns [] order by groups keys same = subst (λ (ks : List SortKey). All (λ key. IsItemOver columns key.item) ks) (sym same) keys
swept_over columns (column ∷ group) order by groups keys same =
    subst (λ (ks : List SortKey). All (λ key. IsItemOver columns key.item) ks) (sym same)
    (lead_over columns (column ∷ group) order (Some (lead_by column order)) (lead_by column order) groups keys refl refl)
