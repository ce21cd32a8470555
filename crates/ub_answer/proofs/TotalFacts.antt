-- The one row of a query that has aggregates and no groups.
use Rattle.std.proofs.Common.{◌≡◌, ◌≢◌, ◌<◌, ◌≤◌, ◌*◌, ℕ, zero, suc, true, List, [], ◌∷◌, ◌++◌, length, map, take, filter, Option, Some, None, IsPermutation, slice_index_or, refl, sym, ap, subst, arith, ◌∙◌}
use Rattle.std.proofs.lemmas.List.{length-append}
use Rattle.std.proofs.lemmas.List.Sorted.{IsPermutation-refl}
use Rattle.std.specs.List.{All}
use Rattle.ub_answer.proofs.PermutedFacts.{cell-permuted}
use Rattle.ub_answer.proofs.TallyFacts.{IsOfGroup, are-shown-next, shown-more, shown-none, shown-list}
use Rattle.ub_answer.specs.Held.{many}
use Rattle.ub_answer.specs.inner.Cut.{cut}
use Rattle.ub_answer.specs.inner.Tally.{of_none, with_row, all_of, IsNarrow, IsSmallOf, IsShown, AreWithRows, HoldsTotals}
use Rattle.ub_query.specs.Cells.{Group, group_cell}
use Rattle.ub_query.specs.Groups.{selected, AreGroups}
use Rattle.ub_query.specs.Meaning.{IsGroupMeaning, limited}
use Rattle.ub_query.specs.Posed.{IsAggregate}
use Rattle.ub_query.specs.Shape.{Asked}
use Rattle.ub_query.specs.declared.cell.Cell.{Cell}
use Rattle.ub_query.specs.declared.query.Item.{Item}
use Rattle.ub_query.specs.declared.query.Item.TheVariants.{Column, Count, Aggregate}
use Rattle.ub_table.specs.Table.{Table}
use Rattle.ub_table.specs.declared.row.Row.{Row}
use Rattle.ub_table.specs.declared.schema.Schema.{Schema}

none-shown : (schema : Schema) (item : Item) → IsShown schema [] (record { values = []; rows = [] }) item (of_none item)
none-shown schema (Column column) = record { is = refl; small = tt }
none-shown schema Count = shown-none schema [] [] Count tt
none-shown schema (Aggregate taken column) = shown-none schema [] [] (Aggregate taken column) tt

pub totals-none : (schema : Schema) (items seen : List Item) (cells : List Cell) → seen ≡ items
    → ((k : ℕ) (d : Item) (e : Cell) → k < length seen → slice_index_or cells k e ≡ of_none (slice_index_or seen k d)) → HoldsTotals schema items [] cells
totals-none schema items seen cells same is few k d e below =
    subst (λ (c : Cell). IsShown schema [] (record { values = []; rows = [] }) (slice_index_or items k d) c)
    (ap (λ (xs : List Item). of_none (slice_index_or xs k d)) (sym same) ∙ sym (is k d e (subst (λ (xs : List Item). k < length xs) (sym same) below)))
    (none-shown schema (slice_index_or items k d))

of_no_group : (schema : Schema) (row : Row) (item : Item) → IsAggregate item → IsOfGroup schema [] [] row item
of_no_group schema row (Column column) is = absurd is
of_no_group schema row Count is = tt
of_no_group schema row (Aggregate taken column) is = tt

pub totals-next : (schema : Schema) (items seen : List Item) (taken : List Row) (row : Row) (cells next : List Cell) → seen ≡ items → All (λ item. IsAggregate item) items
    → All (λ item. IsNarrow schema row item) seen
    → ((k : ℕ) (d : Item) (e : Cell) → k < length seen → slice_index_or next k e ≡ with_row schema row (slice_index_or seen k d) (slice_index_or cells k e))
    → HoldsTotals schema items taken cells → HoldsTotals schema items (taken ++ row ∷ []) next
totals-next schema items seen taken row cells next same totals narrow is held few =
    let less : length taken < many = let long = length-append taken (row ∷ []) in omega arith in
    are-shown-next schema [] items [] taken row cells next less (subst (λ (xs : List Item). All (λ item. IsNarrow schema row item) xs) same narrow)
    (λ k d below. of_no_group schema row (slice_index_or items k d) (totals k d below))
    (λ k d e below aggregate. held less k d e below)
    (subst (λ (xs : List Item). (k : ℕ) (d : Item) (e : Cell) → k < length xs → slice_index_or next k e ≡ with_row schema row (slice_index_or xs k d) (slice_index_or cells k e)) same is)

pub totals-more : (schema : Schema) (items seen : List Item) (taken more : List Row) (cells next : List Cell) → seen ≡ items
    → All (λ item. IsAggregate item) items
    → All (λ item. IsSmallOf schema more item) seen → AreWithRows schema more seen cells next → HoldsTotals schema items taken cells
    → HoldsTotals schema items (taken ++ more) next
totals-more schema items seen taken more cells next same totals small is held few k d e below =
    let less : length taken < many = let long = length-append taken more in omega arith in
    let here = subst (λ (xs : List Item). All (λ item. IsSmallOf schema more item) xs) same small k d below in
    let now = subst (λ (xs : List Item). AreWithRows schema more xs cells next) same is k d e below in
    subst (λ (c : Cell). IsShown schema [] (all_of (taken ++ more)) (slice_index_or items k d) c) (sym now)
    (shown-more schema taken more (slice_index_or items k d) (slice_index_or cells k e) few (totals k d below) here (held less k d e below))

filter-all : (rows : List Row) → filter (λ row. true) rows ≡ rows
filter-all [] = refl
filter-all (row ∷ rows) = ap (λ (rs : List Row). row ∷ rs) (filter-all rows)

whole : (rows : List Row) → Group
whole rows = record { values = []; rows = rows }

totals-permuted : (schema : Schema) (xs ys : List Row) → IsPermutation xs ys → (item : Item)
    → group_cell schema [] (record { values = []; rows = xs }) item ≡ group_cell schema [] (record { values = []; rows = ys }) item
totals-permuted schema xs ys same item =
    ap (λ (rs : List Row). group_cell schema [] (record { values = []; rows = rs }) item) (sym (filter-all xs))
    ∙ cell-permuted schema [] [] (λ row. true) xs ys same item
    ∙ ap (λ (rs : List Row). group_cell schema [] (record { values = []; rows = rs }) item) (filter-all ys)

take-nil : {A : Type 0} (n : ℕ) → take n (let none : List A = [] in none) ≡ []
take-nil zero = refl
take-nil (suc n) = refl

take-twice : {A : Type 0} (n : ℕ) (xs : List A) → take n (take n xs) ≡ take n xs
take-twice zero xs = refl
take-twice (suc n) [] = refl
take-twice (suc n) (x ∷ xs) = ap (λ (ys : List _). x ∷ ys) (take-twice n xs)

one-piece : (width : ℕ) (tally : List Cell) → cut 1 width (take (width * 1) tally) ≡ take width tally ∷ []
unfolding cut
one-piece width tally =
    let e : width * 1 ≡ width = omega arith in
    ap (λ (n : ℕ). take width (take n tally) ∷ []) e ∙ ap (λ (xs : List Cell). xs ∷ []) (take-twice width tally)

no-piece : (width : ℕ) (xs : List Cell) → cut 0 width xs ≡ []
unfolding cut
no-piece width xs = refl

by_limit : (limit : Option ℕ) (count width : ℕ) (tally row : List Cell) (out : List (List Cell)) (shown : Group → List Cell) (g : Group) → take width tally ≡ shown g
    → (limit ≡ Some 0 → count ≡ 0) → (limit ≢ Some 0 → count ≡ 1) → out ≡ cut count width (take (width * count) tally)
    → out ≡ map shown (limited limit (g ∷ []))
by_limit None count width tally row out shown g is none one e =
    let count_is = one (λ (bad : None ≡ Some 0). cc) in
    e ∙ ap (λ (n : ℕ). cut n width (take (width * n) tally)) count_is ∙ one-piece width tally ∙ ap (λ (c : List Cell). c ∷ []) is
by_limit (Some zero) count width tally row out shown g is none one e =
    e ∙ ap (λ (n : ℕ). cut n width (take (width * n) tally)) (none refl) ∙ no-piece width (take (width * 0) tally)
by_limit (Some (suc n)) count width tally row out shown g is none one e =
    let count_is = one (λ (bad : Some (suc n) ≡ Some 0). let worse : suc n ≡ 0 = cc in omega arith) in
    e ∙ ap (λ (n : ℕ). cut n width (take (width * n) tally)) count_is ∙ one-piece width tally ∙ ap (λ (c : List Cell). c ∷ []) is
    ∙ ap (λ (gs : List Group). shown g ∷ map shown gs) (sym (take-nil n))

pub total_meaning : (table : Table) (q : Asked) (taken : List Row) (tally : List Cell) (count width : ℕ) (out : List (List Cell)) → q.group ≡ [] → length taken < many
    → IsPermutation (selected table q.filter) taken → HoldsTotals table.schema q.items taken tally → width ≡ length q.items → length q.items ≤ length tally
    → (q.limit ≡ Some 0 → count ≡ 0) → (q.limit ≢ Some 0 → count ≡ 1) → out ≡ cut count width (take (width * count) tally) → IsGroupMeaning table q out
total_meaning table q taken tally count width out none_grouped few same held width_is fits none one e =
    let rows = selected table q.filter in
    let g : Group = record { values = []; rows = rows } in
    let shown : take (length q.items) tally ≡ map (group_cell table.schema [] g) q.items =
    shown-list q.items tally (group_cell table.schema [] g) fits
    (λ k d e below. (held few k d e below).is ∙ sym (totals-permuted table.schema rows taken same (slice_index_or q.items k d))) in
    let row : take width tally ≡ map (group_cell table.schema q.group g) q.items =
    ap (λ (n : ℕ). take n tally) width_is ∙ shown ∙ ap (λ (columns : List ℕ). map (group_cell table.schema columns g) q.items) (sym none_grouped) in
    record {
      groups = g ∷ [];
      arranged = g ∷ [];
      grouped = subst (λ (columns : List ℕ). AreGroups table.schema columns rows (g ∷ [])) (sym none_grouped) refl;
      ordered = record { same = IsPermutation-refl (g ∷ []); ordered = λ k d within. absurd (omega arith) };
      cells = by_limit q.limit count width tally [] out (λ group. map (group_cell table.schema q.group group) q.items) g row none one e;
    }
