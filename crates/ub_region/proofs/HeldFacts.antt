-- The rows that columns hold, and those that they hold once rows were put in, taken out, or taken over from others.
use Rattle.std.proofs.lemmas.Grind.{common_steps}
use Rattle.std.proofs.Common.{rules, ◌≡◌, ◌<◌, ◌≤◌, ◌+◌, ◌-◌, inl, inr, ℕ, ℤ, List, [], ◌++◌, length, map, take, drop, get_or, refl, sym, ap, subst, ◌∙◌, arith}
use Rattle.std.proofs.lemmas.Bool.{cases_lt, cases_eq}
use Rattle.std.proofs.lemmas.List.{ext_get_or, get_or-append_right, get_or-drop, get_or-map, get_or-take, get_or_append_left, length-append, length-drop, length-take-le}
use Rattle.std.proofs.lemmas.List.Edits.{length-insert, get_or-insert_below, get_or-insert_at, get_or-insert_above}
use Rattle.std.proofs.lemmas.List.FromFn.{length-map-range_with_len, get_or-map-range_with_len}
use Rattle.std.specs.List.{insert, range_with_len}
use Rattle.ub_region.proofs.BlankRow.{blank_row}
use Rattle.ub_region.specs.Columns.{point_in, values_in, row_in}
use Rattle.ub_region.specs.Held.{AreColumns, held, held_rows}
use Rattle.ub_region.specs.RegionPage.{RegionView}
use Rattle.ub_region.specs.declared.region_page.RegionPage.TheInside.{Inside}
use Rattle.ub_table.specs.declared.row.Row.{Row}

-- at each of the first n places stands what the row there has
abbrev Stands : {A : Type 0} → (Row → A) → ℕ → (ℕ → A) → List Row → Type 0
Stands part n f rows = (i : ℕ) → i < n → f i ≡ part (get_or rows i blank_row)

module _ {A : Type 0} (part : Row → A) where
  -- a row put in
  stands_put : (n index : ℕ) (row : Row) (f h : ℕ → A) (rows : List Row) → length rows ≡ n → index ≤ n → Stands part n f rows
      → ((j : ℕ) → j < index → h j ≡ f j) → h index ≡ part row → ((j : ℕ) → index ≤ j → j < n → h (j + 1) ≡ f j)
      → Stands part (n + 1) h (insert rows index row)
  stands_put n index row f h rows long within old below at above i lt = elim (cases_lt i index) [
    | inl less ↦ below i less ∙ old i (omega arith) ∙ ap part (sym (get_or-insert_below rows index row blank_row i less (omega arith)))
    | inr from ↦ elim (cases_eq i index) [
      | inl e ↦ ap h e ∙ at ∙ ap part (sym (get_or-insert_at rows index row blank_row (omega arith)) ∙ ap (λ (k : ℕ). get_or (insert rows index row) k blank_row) (sym e))
      | inr ne ↦
          let back : i ≡ i - 1 + 1 = omega arith in
          ap h back ∙ above (i - 1) (omega arith) (omega arith) ∙ old (i - 1) (omega arith)
          ∙ ap part (sym (get_or-insert_above rows index row blank_row (i - 1) (omega arith) (omega arith)) ∙ ap (λ (k : ℕ). get_or (insert rows index row) k blank_row) (sym back))
    ]
  ]

  -- the first rows, and behind them rows from an index of others on
  stands_copied : (n m at from count : ℕ) (f g h : ℕ → A) (xs ys : List Row) → length xs ≡ n → length ys ≡ m → at ≤ n → from + count ≤ m
      → Stands part n f xs → Stands part m g ys
      → ((j : ℕ) → j < at → h j ≡ f j) → ((j : ℕ) → j < count → h (at + j) ≡ g (from + j))
      → Stands part (at + count) h (take at xs ++ take count (drop from ys))
  stands_copied n m at from count f g h xs ys k j l o p q r s = search (rules, blank_row, cases_lt, get_or-append_right, get_or-drop, get_or-take, get_or_append_left, length-take-le)

  -- one row taken out
  stands_out : (n index : ℕ) (f h : ℕ → A) (rows : List Row) → length rows ≡ n → index < n → Stands part n f rows
      → ((j : ℕ) → j < index → h j ≡ f j) → ((j : ℕ) → index ≤ j → j + 1 < n → h j ≡ f (j + 1))
      → Stands part (n - 1) h (take index rows ++ drop (index + 1) rows)
  stands_out n index f h rows k j l m o = search (rules, blank_row, cases_lt, get_or-append_right, get_or-drop, get_or-take, get_or_append_left, length-take-le)

  -- the first of them
  stands_first : (n count : ℕ) (f : ℕ → A) (rows : List Row) → count ≤ n → Stands part n f rows → Stands part count f (take count rows)
  stands_first n count f rows le old i lt = old i (omega arith) ∙ ap part (sym (get_or-take count rows i blank_row lt))

-- columns hold these rows in their first places
pub record AreHeld (n : ℕ) (numbers : List ℕ) (points : List (List ℕ)) (values : List (List ℤ)) (rows : List Row) : Type 0 where
  pub long : length rows ≡ n
  pub number : Stands (λ row. row.number) n (λ i. get_or numbers i 0) rows
  pub point : Stands (λ row. row.dims) n (point_in points) rows
  pub value : Stands (λ row. row.measures) n (values_in values) rows

row_same : (a b : Row) → a.number ≡ b.number → a.dims ≡ b.dims → a.measures ≡ b.measures → a ≡ b
row_same a b p q r = rw (← p, ← q, ← r) refl

-- so they are those of the columns
pub rows_held : (n : ℕ) (numbers : List ℕ) (points : List (List ℕ)) (values : List (List ℤ)) (rows : List Row) → AreHeld n numbers points values rows
    → map (row_in numbers points values) (range_with_len 0 n) ≡ rows
rows_held n numbers points values rows h =
    let f : ℕ → Row = row_in numbers points values in
    let count = length-map-range_with_len f 0 n in
    let long = h.long in
    ext_get_or blank_row (map f (range_with_len 0 n)) rows (omega arith)
    (λ i lt. get_or-map-range_with_len f 0 n i i blank_row (omega arith) (omega arith)
    ∙ row_same (f i) (get_or rows i blank_row) (h.number i (omega arith)) (h.point i (omega arith)) (h.value i (omega arith)))

-- those of a region in memory
held_at : (p : Inside) → AreHeld p.len p.numbers p.dims p.measures (held_rows p)
held_at p =
    let f : ℕ → Row = row_in p.numbers p.dims p.measures in
    let at : (i : ℕ) → i < p.len → get_or (map f (range_with_len 0 p.len)) i blank_row ≡ f i = λ i lt. get_or-map-range_with_len f 0 p.len i i blank_row lt (omega arith) in
    record {
      long = length-map-range_with_len f 0 p.len;
      number = λ i lt. ap (λ (row : Row). row.number) (sym (at i lt));
      point = λ i lt. ap (λ (row : Row). row.dims) (sym (at i lt));
      value = λ i lt. ap (λ (row : Row). row.measures) (sym (at i lt));
    }

-- and its rows are those of its view
pub held_now : (p : Inside) (v : RegionView) → held p ≡ v → AreHeld p.len p.numbers p.dims p.measures v.region.rows
held_now p v is = subst (λ (rows : List Row). AreHeld p.len p.numbers p.dims p.measures rows) (ap (λ (w : RegionView). w.region.rows) is) (held_at p)

-- there are as many, and each has a place
pub view_long : (p : Inside) (v : RegionView) → held p ≡ v → length v.region.rows ≡ p.len
view_long p v is = (held_now p v is).long

pub row_within : (p : Inside) (v : RegionView) → held p ≡ v → p.len ≤ 64 → (i : ℕ) → i < length v.region.rows → i < 64
row_within p v is few i less = let long = view_long p v is in omega arith

-- where a row was put in
pub held_put : (n index : ℕ) (row : Row) (numbers new_numbers : List ℕ) (points new_points : List (List ℕ)) (values new_values : List (List ℤ)) (rows : List Row)
    → AreHeld n numbers points values rows → index ≤ n
    → ((j : ℕ) → j < index → get_or new_numbers j 0 ≡ get_or numbers j 0) → get_or new_numbers index 0 ≡ row.number
    → ((j : ℕ) → index ≤ j → j < n → get_or new_numbers (j + 1) 0 ≡ get_or numbers j 0)
    → ((j : ℕ) → j < index → point_in new_points j ≡ point_in points j) → point_in new_points index ≡ row.dims
    → ((j : ℕ) → index ≤ j → j < n → point_in new_points (j + 1) ≡ point_in points j)
    → ((j : ℕ) → j < index → values_in new_values j ≡ values_in values j) → values_in new_values index ≡ row.measures
    → ((j : ℕ) → index ≤ j → j < n → values_in new_values (j + 1) ≡ values_in values j)
    → AreHeld (n + 1) new_numbers new_points new_values (insert rows index row)
held_put n index row numbers new_numbers points new_points values new_values rows h k j l m o p q r s t = search (rules, length-insert, stands_put)

-- where one was taken out
pub held_out : (n index : ℕ) (numbers new_numbers : List ℕ) (points new_points : List (List ℕ)) (values new_values : List (List ℤ)) (rows : List Row)
    → AreHeld n numbers points values rows → index < n
    → ((j : ℕ) → j < index → get_or new_numbers j 0 ≡ get_or numbers j 0)
    → ((j : ℕ) → index ≤ j → j + 1 < n → get_or new_numbers j 0 ≡ get_or numbers (j + 1) 0)
    → ((j : ℕ) → j < index → point_in new_points j ≡ point_in points j)
    → ((j : ℕ) → index ≤ j → j + 1 < n → point_in new_points j ≡ point_in points (j + 1))
    → ((j : ℕ) → j < index → values_in new_values j ≡ values_in values j)
    → ((j : ℕ) → index ≤ j → j + 1 < n → values_in new_values j ≡ values_in values (j + 1))
    → AreHeld (n - 1) new_numbers new_points new_values (take index rows ++ drop (index + 1) rows)
held_out n index numbers new_numbers points new_points values new_values rows h within kb ka pb pa vb va =
    let long = h.long in
    let front : length (take index rows) ≡ index = length-take-le index rows (omega arith) in
    let rest : length (drop (index + 1) rows) ≡ length rows - (index + 1) = length-drop (index + 1) rows in
    let both : length (take index rows ++ drop (index + 1) rows) ≡ length (take index rows) + length (drop (index + 1) rows) = length-append (take index rows) (drop (index + 1) rows) in
    record {
      long = omega arith;
      number = stands_out (λ (r : Row). r.number) n index (λ i. get_or numbers i 0) (λ i. get_or new_numbers i 0) rows long within h.number kb ka;
      point = stands_out (λ (r : Row). r.dims) n index (point_in points) (point_in new_points) rows long within h.point pb pa;
      value = stands_out (λ (r : Row). r.measures) n index (values_in values) (values_in new_values) rows long within h.value vb va;
    }

-- where others were taken over
pub held_over : (n m at from count : ℕ) (numbers other_numbers new_numbers : List ℕ) (points other_points new_points : List (List ℕ)) (values other_values new_values : List (List ℤ)) (xs ys : List Row)
    → AreHeld n numbers points values xs → AreHeld m other_numbers other_points other_values ys → at ≤ n → from + count ≤ m
    → ((j : ℕ) → j < at → get_or new_numbers j 0 ≡ get_or numbers j 0)
    → ((j : ℕ) → j < count → get_or new_numbers (at + j) 0 ≡ get_or other_numbers (from + j) 0)
    → ((j : ℕ) → j < at → point_in new_points j ≡ point_in points j) → ((j : ℕ) → j < count → point_in new_points (at + j) ≡ point_in other_points (from + j))
    → ((j : ℕ) → j < at → values_in new_values j ≡ values_in values j) → ((j : ℕ) → j < count → values_in new_values (at + j) ≡ values_in other_values (from + j))
    → AreHeld (at + count) new_numbers new_points new_values (take at xs ++ take count (drop from ys))
held_over n m at from count numbers other_numbers new_numbers points other_points new_points values other_values new_values xs ys h g within there kb kc pb pc vb vc =
    let long = h.long in
    let long_other = g.long in
    let front : length (take at xs) ≡ at = length-take-le at xs (omega arith) in
    let behind : length (drop from ys) ≡ length ys - from = length-drop from ys in
    let rest : length (take count (drop from ys)) ≡ count = length-take-le count (drop from ys) (omega arith) in
    let both : length (take at xs ++ take count (drop from ys)) ≡ length (take at xs) + length (take count (drop from ys)) = length-append (take at xs) (take count (drop from ys)) in
    record {
      long = omega arith;
      number = stands_copied (λ (r : Row). r.number) n m at from count (λ i. get_or numbers i 0) (λ i. get_or other_numbers i 0) (λ i. get_or new_numbers i 0) xs ys long long_other within there h.number g.number kb kc;
      point = stands_copied (λ (r : Row). r.dims) n m at from count (point_in points) (point_in other_points) (point_in new_points) xs ys long long_other within there h.point g.point pb pc;
      value = stands_copied (λ (r : Row). r.measures) n m at from count (values_in values) (values_in other_values) (values_in new_values) xs ys long long_other within there h.value g.value vb vc;
    }

-- where the first ones are kept
pub held_first : (n count : ℕ) (numbers : List ℕ) (points : List (List ℕ)) (values : List (List ℤ)) (rows : List Row) → AreHeld n numbers points values rows → count ≤ n
    → AreHeld count numbers points values (take count rows)
held_first n count numbers points values rows h k = grind (arith, common_steps, length-take-le, stands_first)

-- what holds rows is a region in memory, and its rows are these
pub view_held : (p : Inside) (v : RegionView) (rows : List Row) → AreHeld p.len p.numbers p.dims p.measures rows → p.shape ≡ v.dims → p.first ≡ v.region.first
    → held p ≡ record { dims = v.dims; region = record { first = v.region.first; rows = rows } }
view_held p v rows h shape first = rw (← shape, ← first) (ap (λ (rs : List Row). record { dims = p.shape; region = record { first = p.first; rows = rs } }) (rows_held p.len p.numbers p.dims p.measures rows h))
