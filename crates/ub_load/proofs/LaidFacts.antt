-- The regions of rows that are put in one after the other are those of a table, and can be laid.
use Rattle.std.proofs.Common.{◌≡◌, ◌≤◌, ◌+◌, ◌∙◌, ℕ, zero, suc, List, [], ◌∷◌, ◌++◌, length, refl, sym, ap, subst, arith, append_assoc, append-nil, inr, length-append}
use Rattle.std.specs.Prelude.{Bool, Err, IfErr, IfOk, IsTrue, Ok, Result}
use Rattle.std.proofs.lemmas.List.Sorted.{length_permutation}
use Rattle.std.proofs.lemmas.Map.Made.{IsDistinct-from_count}
use Rattle.std.specs.Bool.{nat_eq}
use Rattle.std.specs.Cmp.{nat_eq_equiv}
use Rattle.std.specs.List.{AllByRecursion, IsDistinct}
use Rattle.ub_growing.proofs.LineFacts.{count_all}
use Rattle.ub_region.proofs.Laws.{insert_keeps, insertion_adds_the_row}
use Rattle.ub_region.specs.Regions.{AreRegions, AreTableRows, insert, insert_all, rows_of as rows_in}
use Rattle.ub_store.specs.Facts.{StoreFacts, IsHonest, memory_facts}
use Rattle.ub_table.specs.Keys.{origin}
use Rattle.ub_table.specs.Region.{RegionRows, IsRow, measures_of}
use Rattle.ub_table.specs.Table.{IsInOrder}
use Rattle.ub_table.specs.declared.axes.Axes.{Axes}
use Rattle.ub_table.specs.declared.row.Row.{Row}
use Rattle.ub_table.specs.declared.schema.Schema.{Schema}
use Rattle.ub_laying.specs.Begun.{BegunView, CanLay, IsBegun}
use Rattle.ub_tree.specs.Laid.{IsLaid}
use Rattle.ub_tree.specs.View.{TreeView}
use Rattle.ub_load.proofs.ToldFacts.{told_new}
use Rattle.ub_load.specs.Calls.{Loads}
use Rattle.ub_load.specs.Grown.{IsGrownTable, ReadsTable}
use Rattle.ub_load.specs.LoadedTable.{IsLoaded, records_of}
use Rattle.ub_load.specs.LoadedTree.{IsLoadedTree, loaded_regions}
use Rattle.ub_load.specs.Loading.{IsAtWork, IsLoadFault, IsNewFault, IsToldOf}
use Rattle.ub_load.specs.Refusals.{first_refusal}
use Rattle.ub_load.specs.declared.fault.LoadFault.{LoadFault}
use Rattle.ub_load.specs.declared.fault.LoadFault.TheVariants.{Memory}
use Rattle.ub_load.specs.declared.grown.GrownTable.{GrownTable}
use Rattle.ub_load.specs.inner.Progress.{AreFirstRows, AreNumberedFrom, IsGrownOf}

none_twice : IsDistinct nat_eq []
none_twice = IsDistinct-from_count nat_eq_equiv [] refl

no_rows : (schema : Schema) → AreRegions schema 1 (record { first = origin; rows = [] } ∷ [])
no_rows schema = record {
  begins = refl;
  ascending = tt;
  each = (record { few = omega arith; first = (omega arith, omega arith); rows = tt; ascending = tt; within = tt }, tt);
  apart = tt;
  distinct = none_twice;
  numbered = tt;
}

-- the regions of a table, and its rows, of which there are so many
record AreGrown (schema : Schema) (next : ℕ) (rows : List Row) (regions : List RegionRows) : Type 0 where
  regions_are : AreRegions schema next regions
  table : AreTableRows regions rows
  count : length (rows_in regions) ≡ length rows

grown_all : (schema : Schema) (next : ℕ) (before rows : List Row) (regions : List RegionRows) → AreGrown schema next before regions → AreNumberedFrom next rows
    → AllByRecursion (IsRow schema.dims (measures_of schema)) rows → AreGrown schema (next + length rows) (before ++ rows) (insert_all schema.dims schema.page_rows rows regions)
grown_all schema next before [] regions h numbers good =
    let same : next ≡ next + length {A = Row} [] = omega arith in
    subst (λ (n : ℕ). AreGrown schema n (before ++ []) regions) same (subst (λ (rs : List Row). AreGrown schema next rs regions) (sym (append-nil before)) h)
grown_all schema next before (row ∷ rows) regions h numbers good =
    let kept = insert_keeps schema next row regions h.regions_are good.0 numbers.0 in
    let long = length_permutation (row ∷ rows_in regions) (rows_in (insert schema.dims schema.page_rows row regions)) kept.1 in
    let more = length-append before (row ∷ []) in
    let count = h.count in
    let one : AreGrown schema (next + 1) (before ++ row ∷ []) (insert schema.dims schema.page_rows row regions) = record {
      regions_are = kept.0;
      table = insertion_adds_the_row schema next regions before row h.regions_are h.table good.0 numbers.0;
      count = omega arith;
    } in
    let all = grown_all schema (next + 1) (before ++ row ∷ []) rows (insert schema.dims schema.page_rows row regions) one numbers.1 good.1 in
    let same : next + 1 + length rows ≡ next + length (row ∷ rows) = omega arith in
    subst (λ (n : ℕ). AreGrown schema n (before ++ row ∷ rows) (insert_all schema.dims schema.page_rows (row ∷ rows) regions)) same
    (subst (λ (rs : List Row). AreGrown schema (next + 1 + length rows) rs (insert_all schema.dims schema.page_rows (row ∷ rows) regions)) (append_assoc before (row ∷ []) rows) all)

numbered_in_order : (n : ℕ) (rows : List Row) → AreNumberedFrom n rows → IsInOrder rows
numbered_in_order n [] h k lt = absurd (omega arith)
numbered_in_order n (row ∷ []) h k lt = absurd (omega arith)
numbered_in_order n (row ∷ next ∷ rows) h zero lt = let a = h.0 in let b = h.1.0 in omega arith
numbered_in_order n (row ∷ next ∷ rows) h (suc k) lt =
    let same : suc k + 1 ≡ suc (k + 1) = omega arith in
    rw same (numbered_in_order (n + 1) (next ∷ rows) h.1 k (omega arith))

module _ (schema : Schema) (rows : List Row) (first : AreFirstRows schema rows) where
  abbrev all : List RegionRows
  all = loaded_regions schema.dims schema.page_rows rows

  pub in_order : IsInOrder rows
  in_order = numbered_in_order 1 rows first.numbers

  all_grown : AreGrown schema (1 + length rows) rows all
  all_grown = grown_all schema 1 [] rows (record { first = origin; rows = [] } ∷ [])
      (record { regions_are = no_rows schema; table = record { ascending = λ k lt. absurd (omega arith); same = λ row. (λ c. c, λ c. c) }; count = refl }) first.numbers first.each

  most_regions : length all ≤ 1 + length rows
  most_regions =
      let some = schema.counts.some_rows in
      count_all schema.dims schema.page_rows some rows (record { first = origin; rows = [] } ∷ [])

  pub can_lay : (grown : List RegionRows) (next : ℕ) → grown ≡ all → next ≡ length rows + 1 → CanLay schema next grown
  can_lay grown next is count =
      let few = first.few in
      let long = all_grown.count in
      let most = most_regions in
      let same : 1 + length rows ≡ next = omega arith in
      rw is (record {
        regions_are = subst (λ (n : ℕ). AreRegions schema n all) same all_grown.regions_are;
        fewer = omega arith;
        last_next = omega arith;
        few = omega arith;
      })

  -- the tree that is laid is the one that is loaded
  laid_tree : (text : List ℕ) (axes : Axes) (page_rows : ℕ) (name : List ℕ) (store : StoreFacts) (begun : BegunView) (t : TreeView) → IsBegun store schema begun
      → IsLaid begun (length rows + 1) all t → IsLoaded text axes page_rows name schema rows → IsHonest store → IsLoadedTree text axes page_rows name t
  laid_tree text axes page_rows name store begun t is laid loaded honest =
      let same : t.schema ≡ schema = laid.schema_is ∙ is.schema_is in
      let dims : schema.dims ≡ axes.dims = ap (λ (a : Axes). a.dims) loaded.axes_are in
      let here : IsHonest begun.store = subst (λ (s : StoreFacts). IsHonest s) (sym is.store_is) honest in
      let are = laid.regions_are here in
      record {
        rows = rows;
        loaded = subst (λ (s : Schema). IsLoaded text axes page_rows name s rows) (sym same) loaded;
        sound = laid.sound here;
        regions_are = are ∙ ap (λ (d : ℕ). loaded_regions d schema.page_rows rows) dims ∙ ap (λ (c : ℕ). loaded_regions axes.dims c rows) loaded.page_rows_are;
        table = subst (λ (rs : List RegionRows). AreTableRows rs rows) (sym are) all_grown.table;
        next = laid.next_is;
        few = (let count = laid.count_is in let next = laid.next_is in let most = most_regions in omega arith);
      }

  at_work : (store : StoreFacts) (begun : BegunView) (t : TreeView) → IsBegun store schema begun → IsLaid begun (length rows + 1) all t → IsAtWork store t
  at_work store begun t is laid =
      let most = most_regions in
      let pages = laid.pages in
      let next = laid.next_is in
      record {
        working = laid.working;
        store_is = laid.store_is ∙ ap (λ (s : StoreFacts). record s { pages = t.store.pages; synced = t.store.synced }) is.store_is;
        pages = omega arith;
        trace_is = laid.trace_is;
      }

  -- what is answered where the rows of a text are laid
  pub loads_laid : (text : List ℕ) (axes : Axes) (page_rows : ℕ) (name : List ℕ) (store : StoreFacts) (begun : BegunView) (result : Result TreeView LoadFault) → IsBegun store schema begun
      → IsLoaded text axes page_rows name schema rows → IfOk result (IsLaid begun (length rows + 1) (loaded_regions begun.schema.dims begun.schema.page_rows rows)) → IfErr result (IsNewFault begun.store)
      → Loads text axes page_rows name store result
  loads_laid text axes page_rows name store begun (Ok t) is loaded laid refused =
      let here : IsLaid begun (length rows + 1) all t = subst (λ (s : Schema). IsLaid begun (length rows + 1) (loaded_regions s.dims s.page_rows rows) t) is.schema_is laid in
      record { loaded = λ honest. laid_tree text axes page_rows name store begun t is here loaded honest; working = at_work store begun t is here; refused = tt }
  loads_laid text axes page_rows name store begun (Err fault) is loaded laid refused =
      let first = first_refusal axes name (records_of text) in
      let told : IsToldOf first (IsTrue begun.store.can_fail) (¬ (IsHonest store)) fault = told_new _ begun.store first fault refused in
      record {
        loaded = λ honest. tt;
        working = tt;
        refused = inr (subst (λ (b : Bool). IsToldOf first (IsTrue b) (¬ (IsHonest store)) fault) (ap (λ (s : StoreFacts). s.can_fail) is.store_is) told);
      }

  -- the table that is grown is the one of the text
  grown_table : (text : List ℕ) (axes : Axes) (page_rows : ℕ) (name : List ℕ) (table : GrownTable) → IsLoaded text axes page_rows name schema rows → IsGrownOf schema rows table
      → IsGrownTable text axes page_rows name table
  grown_table text axes page_rows name table loaded is =
      let dims : schema.dims ≡ axes.dims = ap (λ (a : Axes). a.dims) loaded.axes_are in
      record {
        rows = rows;
        loaded = subst (λ (s : Schema). IsLoaded text axes page_rows name s rows) (sym is.schema_is) loaded;
        grown_are = is.grown_are ∙ ap (λ (d : ℕ). loaded_regions d schema.page_rows rows) dims ∙ ap (λ (c : ℕ). loaded_regions axes.dims c rows) loaded.page_rows_are;
        table_is = subst (λ (rs : List RegionRows). AreTableRows rs rows) (sym is.grown_are) all_grown.table;
        next_is = is.next_is;
        can_lay = subst (λ (s : Schema). CanLay s table.next table.grown) (sym is.schema_is) (can_lay table.grown table.next is.grown_are is.next_is);
      }

  -- what is answered where the rows of a text are grown
  pub reads_grown : (text : List ℕ) (axes : Axes) (page_rows : ℕ) (name : List ℕ) (result : Result GrownTable LoadFault) → IsLoaded text axes page_rows name schema rows
      → IfOk result (IsGrownOf schema rows) → IfErr result (λ fault. fault ≡ Memory) → ReadsTable text axes page_rows name result
  reads_grown text axes page_rows name (Ok table) loaded grown refused = record { read = grown_table text axes page_rows name table loaded grown; refused = tt }
  reads_grown text axes page_rows name (Err fault) loaded grown refused =
      record { read = tt; refused = subst (λ (f : LoadFault). IsLoadFault axes name text (memory_facts []) f) (sym refused) (inr tt) }

-- a text that isn't read
pub not_read : (text : List ℕ) (axes : Axes) (page_rows : ℕ) (name : List ℕ) (result : Result GrownTable LoadFault) (e f : LoadFault) → result ≡ Err e → e ≡ f
    → IsLoadFault axes name text (memory_facts []) f → ReadsTable text axes page_rows name result
not_read text axes page_rows name result e f is same told = rw (is, same) (record { read = tt; refused = told })

-- the tree in which a table that was read is laid
pub grown_tree : (table : GrownTable) (store : StoreFacts) (begun : BegunView) (t : TreeView) → IsBegun store table.schema begun → IsLaid begun table.next table.grown t → IsHonest store
    → (text : List ℕ) (axes : Axes) (page_rows : ℕ) (name : List ℕ) → IsGrownTable text axes page_rows name table → IsLoadedTree text axes page_rows name t
grown_tree table store begun t is laid honest text axes page_rows name grown =
    let here : IsHonest begun.store = subst (λ (s : StoreFacts). IsHonest s) (sym is.store_is) honest in
    let are = laid.regions_are here in
    record {
      rows = grown.rows;
      loaded = subst (λ (s : Schema). IsLoaded text axes page_rows name s grown.rows) (sym (laid.schema_is ∙ is.schema_is)) grown.loaded;
      sound = laid.sound here;
      regions_are = are ∙ grown.grown_are;
      table = subst (λ (rs : List RegionRows). AreTableRows rs grown.rows) (sym are) grown.table_is;
      next = laid.next_is ∙ grown.next_is;
      few = (let count = laid.count_is in let next = laid.next_is in let most = grown.can_lay.few in omega arith);
    }
