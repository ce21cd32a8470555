-- Groups: rows fall into some, and any two lists of the groups of some rows have the same elements.
use Rattle.std.proofs.Common.{◌≡◌, ◌≢◌, ℕ, ◌==◌, ℤ, Bool, true, false, not, cond, List, [], ◌∷◌, length, map, filter, ◌<ℤ◌, ⊎_elim, Contains, refl, sym, ◌∙◌, ap, subst, arith}
use Rattle.std.specs.List.{AllByRecursion}
use Rattle.std.specs.Ordering.{int_cmp, int_eq, is_eq, MatchOrdering}
use Rattle.std.specs.declared.cmp.Ordering.{Ordering}
use Rattle.std.specs.declared.cmp.Ordering.TheVariants.{Less, Equal, Greater}
use Rattle.std.proofs.lemmas.Bool.{cond_both, cases_Bool, and_parts, and_from, true≢false, not-true}
use Rattle.std.proofs.lemmas.Cmp.{int_ranked, int_eq_equiv}
use Rattle.std.proofs.lemmas.List.{length-map}
use Rattle.std.proofs.lemmas.List.Elements.{All-map, All-contains, All-from_recursion}
use Rattle.ub_query.proofs.Arranging.{Rising, Rising-filter, Rising-mapped, pairs-from_Rising, all_at, contains_here, contains_later, contains_cases, contains_none, all_from_contains}
use Rattle.ub_query.proofs.OrderFacts.{AreAlike}
use Rattle.ub_query.specs.Cells.{Group, group_cell, value_among, taken_of}
use Rattle.ub_query.specs.Groups.{are_same, values_of, rows_with, IsGrouping, AreGroups}
use Rattle.ub_query.specs.declared.cell.Cell.{Cell}
use Rattle.ub_query.specs.declared.cell.Cell.TheVariants.{Number}
use Rattle.ub_query.specs.declared.query.Aggregate.{Aggregate as Taken}
use Rattle.ub_query.specs.declared.query.Aggregate.TheVariants.{Sum, Min, Max}
use Rattle.ub_query.specs.declared.query.Item.{Item}
use Rattle.ub_query.specs.declared.query.Item.TheVariants.{Column, Count, Aggregate}
use Rattle.ub_table.specs.Table.{column_value}
use Rattle.ub_table.specs.declared.row.Row.{Row}
use Rattle.ub_table.specs.declared.schema.Schema.{Schema}

-- ---- elements of lists that are made of others

pub contains_map : {A B : Type 0} (f : A → B) (xs : List A) (x : A) → Contains xs x → Contains (map f xs) (f x)
contains_map f [] x c = absurd (contains_none x c)
contains_map f (y ∷ ys) x c =
    ⊎_elim (λ (e : y ≡ x). subst (λ (z : _). Contains (f y ∷ map f ys) (f z)) e (contains_here (f y) (map f ys)))
    (λ (d : Contains ys x). contains_later (f y) (map f ys) (f x) (contains_map f ys x d))
    (contains_cases y ys x c)

pub contains_from_map : {A B : Type 0} (f : A → B) (xs : List A) (y : B) → Contains (map f xs) y → (x : A) × Contains xs x × (f x ≡ y)
contains_from_map f [] y c = absurd (contains_none y c)
contains_from_map f (x ∷ xs) y c =
    ⊎_elim (λ (e : f x ≡ y). (x, contains_here x xs, e))
    (λ (d : Contains (map f xs) y). let (z, here, is) = contains_from_map f xs y d in (z, contains_later x xs z here, is))
    (contains_cases (f x) (map f xs) y c)

pub contains_filter : {A : Type 0} (p : A → Bool) (xs : List A) (x : A) → Contains xs x → p x ≡ true → Contains (filter p xs) x
contains_filter p [] x c passes = absurd (contains_none x c)
contains_filter p (y ∷ ys) x c passes =
    ⊎_elim (λ (e : y ≡ x).
    cond_both (p y) (y ∷ filter p ys) (filter p ys) (λ zs. Contains zs x)
    (λ b. subst (λ (z : _). Contains (y ∷ filter p ys) z) e (contains_here y (filter p ys)))
    (λ b. absurd (true≢false (sym passes ∙ ap p (sym e) ∙ b))))
    (λ (d : Contains ys x).
    let rest : Contains (filter p ys) x = contains_filter p ys x d passes in
    cond_both (p y) (y ∷ filter p ys) (filter p ys) (λ zs. Contains zs x) (λ b. contains_later y (filter p ys) x rest) (λ b. rest))
    (contains_cases y ys x c)

pub contains_from_filter : {A : Type 0} (p : A → Bool) (xs : List A) (x : A) → Contains (filter p xs) x → Contains xs x × (p x ≡ true)
contains_from_filter p [] x = λ c. absurd (contains_none x c)
contains_from_filter p (y ∷ ys) x =
    cond_both (p y) (y ∷ filter p ys) (filter p ys) (λ zs. Contains zs x → Contains (y ∷ ys) x × (p x ≡ true))
    (λ b c. ⊎_elim (λ (e : y ≡ x). (subst (λ (z : _). Contains (y ∷ ys) z) e (contains_here y ys), ap p (sym e) ∙ b))
    (λ (d : Contains (filter p ys) x). let r = contains_from_filter p ys x d in (contains_later y ys x r.0, r.1))
    (contains_cases y (filter p ys) x c))
    (λ b c. let r = contains_from_filter p ys x c in (contains_later y ys x r.0, r.1))

-- ---- lists of numbers

same_ranked : (x y : ℤ) (r : Ordering) → MatchOrdering r (x <ℤ y) (x ≡ y) (y <ℤ x) → is_eq r ≡ true → x ≡ y
same_ranked x y Less m e = absurd (true≢false (sym e))
same_ranked x y Equal m e = m
same_ranked x y Greater m e = absurd (true≢false (sym e))

pub are_same-true : (xs ys : List ℤ) → are_same xs ys ≡ true → xs ≡ ys
are_same-true [] [] e = refl
are_same-true [] (y ∷ ys) e = absurd (true≢false (sym e))
are_same-true (x ∷ xs) [] e = absurd (true≢false (sym e))
are_same-true (x ∷ xs) (y ∷ ys) e =
    let parts = and_parts (int_eq x y) (are_same xs ys) e in
    let first : x ≡ y = same_ranked x y (int_cmp x y) (int_ranked x y (int_cmp x y) refl) parts.0 in
    let rest : xs ≡ ys = are_same-true xs ys parts.1 in
    cc

pub are_same-itself : (xs : List ℤ) → are_same xs xs ≡ true
are_same-itself [] = refl
are_same-itself (x ∷ xs) = and_from (int_eq x x) (are_same xs xs) (int_eq_equiv.refl x) (are_same-itself xs)

-- ---- each list of values once

once : List (List ℤ) → List (List ℤ)
once [] = []
once (v ∷ vs) = v ∷ filter (λ w. not (are_same v w)) (once vs)

differ_from : (v w : List ℤ) → not (are_same v w) ≡ true → v ≢ w
differ_from v w e same = true≢false (sym (subst (λ (u : List ℤ). are_same v u ≡ true) same (are_same-itself v)) ∙ not-true (are_same v w) e)

once-apart : (vs : List (List ℤ)) → Rising (λ v w. v ≢ w) (once vs)
unfolding once
once-apart [] = tt
once-apart (v ∷ vs) = (
  all_from_contains (λ w. v ≢ w) (filter (λ w. not (are_same v w)) (once vs))
      (λ w c. differ_from v w (contains_from_filter (λ w. not (are_same v w)) (once vs) w c).1),
  Rising-filter (λ v w. v ≢ w) (λ w. not (are_same v w)) (once vs) (once-apart vs),
)

from_once : (vs : List (List ℤ)) (w : List ℤ) → Contains (once vs) w → Contains vs w
unfolding once
from_once [] w c = absurd (contains_none w c)
from_once (v ∷ vs) w c =
    ⊎_elim (λ (e : v ≡ w). subst (λ (u : List ℤ). Contains (v ∷ vs) u) e (contains_here v vs))
    (λ (d : Contains (filter (λ w. not (are_same v w)) (once vs)) w).
    contains_later v vs w (from_once vs w (contains_from_filter (λ w. not (are_same v w)) (once vs) w d).0))
    (contains_cases v (filter (λ w. not (are_same v w)) (once vs)) w c)

to_once : (vs : List (List ℤ)) (w : List ℤ) → Contains vs w → Contains (once vs) w
unfolding once
to_once [] w c = absurd (contains_none w c)
to_once (v ∷ vs) w c =
    ⊎_elim (λ (e : v ≡ w). subst (λ (u : List ℤ). Contains (once (v ∷ vs)) u) e (contains_here v (filter (λ w. not (are_same v w)) (once vs))))
    (λ (d : Contains vs w).
    ⊎_elim (λ (b : are_same v w ≡ true).
    subst (λ (u : List ℤ). Contains (once (v ∷ vs)) u) (are_same-true v w b) (contains_here v (filter (λ w. not (are_same v w)) (once vs))))
    (λ (b : are_same v w ≡ false).
    contains_later v (filter (λ w. not (are_same v w)) (once vs)) w
    (contains_filter (λ w. not (are_same v w)) (once vs) w (to_once vs w d) (ap not b)))
    (cases_Bool (are_same v w)))
    (contains_cases v vs w c)

-- ---- there are groups

group_with : Schema → List ℕ → List Row → List ℤ → Group
group_with schema columns rows values = record { values = values; rows = rows_with schema columns rows values }

values_again : (schema : Schema) (columns : List ℕ) (rows : List Row) (vs : List (List ℤ)) → map (λ g. g.values) (map (group_with schema columns rows) vs) ≡ vs
unfolding group_with
values_again schema columns rows [] = refl
values_again schema columns rows (v ∷ vs) = ap (λ (ws : List (List ℤ)). v ∷ ws) (values_again schema columns rows vs)

groups_of : Schema → List ℕ → List Row → List Group
groups_of schema columns rows = map (group_with schema columns rows) (once (map (values_of schema columns) rows))

is_grouping : (schema : Schema) (columns : List ℕ) (rows : List Row) → IsGrouping schema columns rows (groups_of schema columns rows)
unfolding groups_of group_with
is_grouping schema columns rows =
    let all = map (values_of schema columns) rows in
    let again = values_again schema columns rows (once all) in
    record {
      apart = pairs-from_Rising (λ a b. a.values ≢ b.values) (groups_of schema columns rows)
          (Rising-mapped (λ a b. a.values ≢ b.values) (group_with schema columns rows) (once all) (once-apart all));
      values = λ values. (
        λ c. from_once all values (subst (λ (vs : List (List ℤ)). Contains vs values) again c),
        λ c. subst (λ (vs : List (List ℤ)). Contains vs values) (sym again) (to_once all values c),
      );
      members = All-map (λ g. g.rows ≡ rows_with schema columns rows g.values) (group_with schema columns rows) (once all) (λ k d within. refl);
    }

pub some_groups : (schema : Schema) (columns : List ℕ) (rows : List Row) → (groups : List Group) × AreGroups schema columns rows groups
some_groups schema [] rows = (record { values = []; rows = rows } ∷ [], refl)
some_groups schema (column ∷ columns) rows = (groups_of schema (column ∷ columns) rows, is_grouping schema (column ∷ columns) rows)

-- groups of which no two have the same values, with the values of some row each, and with all the rows that have its values
pub grouping_from : (schema : Schema) (columns : List ℕ) (rows : List Row) (groups : List Group) → Rising (λ a b. a.values ≢ b.values) groups
    → AllByRecursion (λ g. Contains (map (values_of schema columns) rows) g.values) groups
    → AllByRecursion (λ row. Contains (map (λ g. g.values) groups) (values_of schema columns row)) rows
    → AllByRecursion (λ g. g.rows ≡ rows_with schema columns rows g.values) groups
    → IsGrouping schema columns rows groups
grouping_from schema columns rows groups apart each every members = record {
  apart = pairs-from_Rising (λ a b. a.values ≢ b.values) groups apart;
  values = λ values. (
    λ c. let (g, here, is) = contains_from_map (λ g. g.values) groups values c in
        subst (λ (vs : List ℤ). Contains (map (values_of schema columns) rows) vs) is
        (all_at (λ g. Contains (map (values_of schema columns) rows) g.values) groups g each here),
    λ c. let (row, here, is) = contains_from_map (values_of schema columns) rows values c in
        subst (λ (vs : List ℤ). Contains (map (λ g. g.values) groups) vs) is
        (all_at (λ row. Contains (map (λ g. g.values) groups) (values_of schema columns row)) rows row every here),
  );
  members = All-from_recursion (λ g. g.rows ≡ rows_with schema columns rows g.values) groups members;
}

-- ---- they are the same groups

make : List ℤ → List Row → Group
make values rows = record { values = values; rows = rows }

same_group : (a b : Group) → a.values ≡ b.values → a.rows ≡ b.rows → a ≡ b
unfolding make
same_group a b p q = ap (λ (vs : List ℤ). make vs a.rows) p ∙ ap (λ (rs : List Row). make b.values rs) q

among_others : (schema : Schema) (columns : List ℕ) (rows : List Row) (groups others : List Group)
    → IsGrouping schema columns rows groups → IsGrouping schema columns rows others → (g : Group) → Contains groups g → Contains others g
among_others schema columns rows groups others a b g here =
    let there = (b.values g.values).1 ((a.values g.values).0 (contains_map (λ g. g.values) groups g here)) in
    let (other, found, is) = contains_from_map (λ g. g.values) others g.values there in
    let mine = All-contains (λ g. g.rows ≡ rows_with schema columns rows g.values) groups g a.members here in
    let theirs = All-contains (λ g. g.rows ≡ rows_with schema columns rows g.values) others other b.members found in
    let rows_same : other.rows ≡ g.rows = theirs ∙ ap (λ (vs : List ℤ). rows_with schema columns rows vs) is ∙ sym mine in
    subst (λ (h : Group). Contains others h) (same_group other g is rows_same) found

pub same_groups : (schema : Schema) (columns : List ℕ) (rows : List Row) (groups others : List Group)
    → AreGroups schema columns rows groups → AreGroups schema columns rows others → (g : Group) → Contains groups g → Contains others g
same_groups schema [] rows groups others a b g here = subst (λ (gs : List Group). Contains gs g) (a ∙ sym b) here
same_groups schema (column ∷ columns) rows groups others a b g here = among_others schema (column ∷ columns) rows groups others a b g here

-- ---- their cells are alike

-- a group of some row, with a value for each column
pub record IsWhole (columns : List ℕ) (group : Group) : Type 0 where
  pub values : length group.values ≡ length columns
  pub some : group.rows ≢ []

whole_group : (schema : Schema) (columns : List ℕ) (rows : List Row) (groups : List Group) → IsGrouping schema columns rows groups
    → (g : Group) → Contains groups g → IsWhole columns g
whole_group schema columns rows groups a g here =
    let (row, within, is) = contains_from_map (values_of schema columns) rows g.values
    ((a.values g.values).0 (contains_map (λ g. g.values) groups g here)) in
    let mine = All-contains (λ g. g.rows ≡ rows_with schema columns rows g.values) groups g a.members here in
    let has : Contains g.rows row = subst (λ (rs : List Row). Contains rs row) (sym mine)
    (contains_filter (λ row. are_same (values_of schema columns row) g.values) rows row within
    (subst (λ (vs : List ℤ). are_same (values_of schema columns row) vs ≡ true) is (are_same-itself (values_of schema columns row)))) in
    record {
      values = ap length (sym is) ∙ length-map columns (column_value schema row);
      some = λ none. contains_none row (subst (λ (rs : List Row). Contains rs row) none has);
    }

pub whole_groups : (schema : Schema) (columns : List ℕ) (rows : List Row) (groups : List Group) → IsGrouping schema columns rows groups
    → AllByRecursion (λ g. IsWhole columns g) groups
whole_groups schema columns rows groups a = all_from_contains (λ g. IsWhole columns g) groups (whole_group schema columns rows groups a)

picked-alike : (b : Bool) (x y : ℤ) (c d : Cell) → AreAlike c d → AreAlike (cond b (Number x) c) (cond b (Number y) d)
picked-alike true x y c d alike = tt
picked-alike false x y c d alike = alike

among-alike : (columns : List ℕ) (xs ys : List ℤ) (column : ℕ) → length xs ≡ length columns → length ys ≡ length columns
    → AreAlike (value_among columns xs column) (value_among columns ys column)
among-alike [] xs ys column p q = tt
among-alike (c ∷ columns) [] ys column p q = absurd (omega arith)
among-alike (c ∷ columns) (x ∷ xs) [] column p q = absurd (omega arith)
among-alike (c ∷ columns) (x ∷ xs) (y ∷ ys) column p q =
    picked-alike (c == column) x y (value_among columns xs column) (value_among columns ys column)
    (among-alike columns xs ys column (omega arith) (omega arith))

taken-alike : (taken : Taken) (xs ys : List ℤ) → xs ≢ [] → ys ≢ [] → AreAlike (taken_of taken xs) (taken_of taken ys)
taken-alike taken [] ys p q = absurd (p refl)
taken-alike taken (x ∷ xs) [] p q = absurd (q refl)
taken-alike Sum (x ∷ xs) (y ∷ ys) p q = tt
taken-alike Min (x ∷ xs) (y ∷ ys) p q = tt
taken-alike Max (x ∷ xs) (y ∷ ys) p q = tt

map-some : {A B : Type 0} (f : A → B) (xs : List A) → xs ≢ [] → map f xs ≢ []
map-some f [] some none = some refl
map-some f (x ∷ xs) some none = cc

pub cells-alike : (schema : Schema) (columns : List ℕ) (a b : Group) → IsWhole columns a → IsWhole columns b
    → (item : Item) → AreAlike (group_cell schema columns a item) (group_cell schema columns b item)
cells-alike schema columns a b p q (Column column) = among-alike columns a.values b.values column p.values q.values
cells-alike schema columns a b p q Count = tt
cells-alike schema columns a b p q (Aggregate taken column) =
    taken-alike taken (map (λ row. column_value schema row column) a.rows) (map (λ row. column_value schema row column) b.rows)
    (map-some (λ row. column_value schema row column) a.rows p.some) (map-some (λ row. column_value schema row column) b.rows q.some)
