-- The laws of stands, as specs/Laws.antt states them.
use Rattle.std.proofs.Common.{◌≡◌, ◌<◌, ◌∷◌, ◌∙◌, inl, inr, ℕ, Bool, true, false, not, List, [], Contains, filter, nat_eq, refl, sym, ap, subst, arith}
use Rattle.std.proofs.lemmas.Bool.{cases_Bool, eq-eqb, eqb-true, not-true, true≢false}
use Rattle.std.specs.List.{AllByRecursion}
use Rattle.ub_exec.proofs.StandFacts.{has_its_key}
use Rattle.ub_exec.specs.Laws.{DeletionLeavesTheOthers, InsertionKeepsStands, NumbersAreNeverUsedAgain, RemovalKeepsStands, SoundTreesStand, StandsAreOne, TreesStandSoundly}
use Rattle.ub_exec.specs.Stand.{Stand, without_row, without_rows, without_selected}
use Rattle.ub_planning.proofs.Laws.{regions_have_a_table, regions_have_one_table}
use Rattle.ub_query.proofs.Laws.{Rising, Rising-filter, Rising-one, all_at, all_from_contains, contains_cases, contains_filter, contains_from_filter, contains_none, numbers-chain, numbers-never, rows-rising}
use Rattle.ub_query.specs.Groups.{is_selected}
use Rattle.ub_region.proofs.Laws.{insertion_adds_the_row, insertion_keeps_regions, removal_keeps_regions, removal_takes_the_row}
use Rattle.ub_region.specs.Regions.{AreRegions, AreTableRows, rows_of}
use Rattle.ub_table.specs.Region.{RegionRows, key_of}
use Rattle.ub_table.specs.declared.row.Row.{Row}
use Rattle.ub_table.specs.declared.schema.Schema.{Schema}
use Rattle.ub_tree.specs.View.{regions}
pub use Rattle.ub_exec.proofs.StandFacts.{change_stand, read_stand, stand_by}

pub sound_trees_stand : SoundTreesStand
sound_trees_stand t sound =
    let (rows, are) = regions_have_a_table t.schema t.next (regions t) sound.regions_are in (
      record { table = record { schema = t.schema; rows = rows }; regions = regions t; next = t.next },
      record { sound = sound; schema_is = refl; rows_are = are; regions_are = refl; next_is = refl },
    )

parts : (a b : Stand) → a.table.schema ≡ b.table.schema → a.table.rows ≡ b.table.rows → a.regions ≡ b.regions → a.next ≡ b.next → a ≡ b
parts a b schema rows places next =
    ap (λ (x : Schema). record { table = record { schema = x; rows = a.table.rows }; regions = a.regions; next = a.next }) schema
    ∙ ap (λ (x : List Row). record { table = record { schema = b.table.schema; rows = x }; regions = a.regions; next = a.next }) rows
    ∙ ap (λ (x : List RegionRows). record { table = b.table; regions = x; next = a.next }) places
    ∙ ap (λ (x : ℕ). record { table = b.table; regions = b.regions; next = x }) next

pub stands_are_one : StandsAreOne
stands_are_one t a b first second =
    parts a b (first.schema_is ∙ sym second.schema_is) (regions_have_one_table (regions t) a.table.rows b.table.rows first.rows_are second.rows_are)
    (first.regions_are ∙ sym second.regions_are) (first.next_is ∙ sym second.next_is)

pub trees_stand_soundly : TreesStandSoundly
trees_stand_soundly t s stand = record {
  regions_are = subst (λ (x : Schema). AreRegions x s.next s.regions) (sym stand.schema_is)
      (subst (λ (x : ℕ). AreRegions t.schema x s.regions) (sym stand.next_is)
      (subst (λ (x : List RegionRows). AreRegions t.schema t.next x) (sym stand.regions_are) stand.sound.regions_are));
  rows_are = subst (λ (x : List RegionRows). AreTableRows x s.table.rows) (sym stand.regions_are) stand.rows_are;
}

pub insertion_keeps_stands : InsertionKeepsStands
insertion_keeps_stands s row stand is number = record {
  regions_are = insertion_keeps_regions s.table.schema s.next s.regions row stand.regions_are is number;
  rows_are = insertion_adds_the_row s.table.schema s.next s.regions s.table.rows row stand.regions_are stand.rows_are is number;
}

pub removal_keeps_stands : RemovalKeepsStands
removal_keeps_stands s row stand there =
    let key = key_of s.table.schema.dims row in
    record {
      regions_are = removal_keeps_regions s.table.schema s.next s.regions key stand.regions_are;
      rows_are = removal_takes_the_row s.table.schema s.next s.regions s.table.rows key stand.regions_are stand.rows_are
          (has_its_key s.table.schema.dims (rows_of s.regions) row ((stand.rows_are.same row).0 there));
    }

pub numbers_are_never_used_again : NumbersAreNeverUsedAgain
numbers_are_never_used_again [] s = refl
numbers_are_never_used_again (row ∷ rows) s = numbers_are_never_used_again rows (without_row row s)

-- ---- which rows a deletion leaves

left_rise : (rows : List Row) (s : Stand) → Rising (λ a b. a.number < b.number) s.table.rows → Rising (λ a b. a.number < b.number) (without_rows rows s).table.rows
left_rise [] s up = up
left_rise (row ∷ rows) s up = left_rise rows (without_row row s) (Rising-filter (λ a b. a.number < b.number) (λ r. not (nat_eq r.number row.number)) s.table.rows up)

-- a row that is left was there, and has none of the numbers
was_there : (rows : List Row) (s : Stand) (row : Row) → Contains (without_rows rows s).table.rows row
    → Contains s.table.rows row × AllByRecursion (λ other. nat_eq row.number other.number ≡ false) rows
was_there [] s row there = (there, tt)
was_there (first ∷ rows) s row there =
    let (kept, others) = was_there rows (without_row first s) row there in
    let (before, apart) = contains_from_filter (λ (r : Row). not (nat_eq r.number first.number)) s.table.rows row kept in
    (before, (not-true (nat_eq row.number first.number) apart, others))

is_left : (rows : List Row) (s : Stand) (row : Row) → Contains s.table.rows row → AllByRecursion (λ other. nat_eq row.number other.number ≡ false) rows
    → Contains (without_rows rows s).table.rows row
is_left [] s row there apart = there
is_left (first ∷ rows) s row there apart =
    is_left rows (without_row first s) row (contains_filter (λ (r : Row). not (nat_eq r.number first.number)) s.table.rows row there (ap not apart.0)) apart.1

-- a number stands for one row
one_row : (rows : List Row) (a b : Row) → Rising (λ x y. x.number < y.number) rows → Contains rows a → Contains rows b → a.number ≡ b.number → a ≡ b
one_row [] a b up at_a at_b same = absurd (contains_none a at_a)
one_row (row ∷ rows) a b up at_a at_b same = elim (contains_cases row rows a at_a) [
  | inl is_a ↦ elim (contains_cases row rows b at_b) [
    | inl is_b ↦ sym is_a ∙ is_b
    | inr later ↦
        let below = all_at (λ (y : Row). row.number < y.number) rows b up.0 later in
        let number = ap (λ (r : Row). r.number) is_a in
        absurd (omega arith)
  ]
  | inr later ↦ elim (contains_cases row rows b at_b) [
    | inl is_b ↦
        let below = all_at (λ (y : Row). row.number < y.number) rows a up.0 later in
        let number = ap (λ (r : Row). r.number) is_b in
        absurd (omega arith)
    | inr also ↦ one_row rows a b up.1 later also same
  ]
]

module _ (selects : Row → Bool) (rows : List Row) (up : Rising (λ x y. x.number < y.number) rows) where
  -- a row that isn't selected has another number than each one that is
  apart_from : (row : Row) → Contains rows row → selects row ≡ false → (others : List Row) → AllByRecursion (λ other. Contains rows other × (selects other ≡ true)) others
      → AllByRecursion (λ other. nat_eq row.number other.number ≡ false) others
  apart_from row there none [] all = tt
  apart_from row there none (other ∷ others) all = (
    (elim (cases_Bool (nat_eq row.number other.number)) [
      | inl t ↦
          let same = one_row rows row other up there all.0.0 (eqb-true row.number other.number t) in
          absurd (true≢false (sym all.0.1 ∙ ap selects (sym same) ∙ none))
      | inr f ↦ f
    ]),
    apart_from row there none others all.1,
  )

  -- a row that has another number than each one that is selected isn't
  not_selected : (row : Row) → Contains rows row → AllByRecursion (λ other. nat_eq row.number other.number ≡ false) (filter selects rows) → not (selects row) ≡ true
  not_selected row there apart = elim (cases_Bool (selects row)) [
    | inl t ↦
        let other = all_at (λ (r : Row). nat_eq row.number r.number ≡ false) (filter selects rows) row apart (contains_filter selects rows row there t) in
        absurd (true≢false (sym (eq-eqb row.number row.number refl) ∙ other))
    | inr f ↦ ap not f
  ]

pub deletion_leaves_the_others : DeletionLeavesTheOthers
deletion_leaves_the_others q s order =
    let selects = is_selected s.table.schema q.filter in
    let rows = s.table.rows in
    let up = rows-rising rows order in
    let chosen = filter selects rows in
    Rising-one (λ a b. a.number < b.number) numbers-never numbers-chain (without_selected q s).table.rows (filter (λ row. not (selects row)) rows)
    (left_rise chosen s up) (Rising-filter (λ a b. a.number < b.number) (λ row. not (selects row)) rows up)
    (λ row there.
    let (before, apart) = was_there chosen s row there in
    contains_filter (λ r. not (selects r)) rows row before (not_selected selects rows up row before apart))
    (λ row there.
    let (before, none) = contains_from_filter (λ r. not (selects r)) rows row there in
    is_left chosen s row before (apart_from selects rows up row before (not-true (selects row) none) chosen
    (all_from_contains (λ (r : Row). Contains rows r × (selects r ≡ true)) chosen (λ r here. contains_from_filter selects rows r here))))
