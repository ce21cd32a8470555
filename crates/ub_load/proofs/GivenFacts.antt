-- What is answered where a source's records were read: that for a text that the source gives.
use Rattle.std.proofs.Common.{◌≡◌, ◌≤◌, ◌+◌, ℕ, List, [], ◌∷◌, ◌++◌, ◌∙◌, length, map, Option, Some, None, refl, sym, ap, subst, inl, inr, arith, append_assoc}
use Rattle.std.proofs.lemmas.List.{length-map}
use Rattle.std.specs.List.{AllByRecursion, enumerate_from, flat_map}
use Rattle.std.specs.Prelude.{Result, Err, IfErr, IfOk}
use Rattle.csv.specs.declared.reader.Reader.{Reader}
use Rattle.ub_laying.specs.Begun.{BegunView, IsBegun}
use Rattle.ub_load.specs.Calls.{Loads, LoadsFrom, MayGive}
use Rattle.ub_load.specs.Field.{trimmed}
use Rattle.ub_load.specs.Grown.{ReadsFrom}
use Rattle.ub_load.specs.LoadedTable.{IsLoaded, columns_of, records_of, rows_of}
use Rattle.ub_load.specs.LoadedTree.{loaded_regions}
use Rattle.ub_load.specs.Loading.{IsLoadFault, IsNewFault}
use Rattle.ub_load.specs.Refusals.{first_of, first_refusal, header_refusal, header_refusals, record_refusals, refusals}
use Rattle.ub_load.specs.declared.fault.LoadFault.{LoadFault}
use Rattle.ub_load.specs.declared.fault.LoadFault.TheVariants.{ColumnCount, Csv, Memory, NoHeader}
use Rattle.ub_load.specs.declared.grown.GrownTable.{GrownTable}
use Rattle.ub_load.specs.inner.Progress.{AreFirstRows, HasLoadedRecords, HasReadHeader, IsBadRecord, IsGrownOf, IsHeaderFault, IsRecordsFault, IsUnread, record_refusal}
use Rattle.ub_load.specs.inner.Records.{GivesNext, IsAt}
use Rattle.ub_load.proofs.HeaderFacts.{header_of_few}
use Rattle.ub_load.proofs.LaidFacts.{loads_laid, not_read, reads_grown}
use Rattle.ub_load.proofs.ReadingFacts.{header_all, header_next}
use Rattle.ub_load.proofs.RefusalFacts.{first-here, first-skip, flat-refused, record_of_other_length, record_with_bad_content}
use Rattle.ub_load.proofs.ToldFacts.{header_is_of_text, record_is_told, told_first, told_found, told_new, told_unread}
use Rattle.ub_load.proofs.WrittenFacts.{AreFilled, all_text, next_text, some_text, written, written_records}
use Rattle.ub_region.proofs.KeyLists.{all_append}
use Rattle.ub_store.specs.Facts.{StoreFacts, memory_facts}
use Rattle.ub_table.specs.Schema.{AreTableNumbers}
use Rattle.ub_table.specs.Value.{axes_of}
use Rattle.ub_table.specs.declared.axes.Axes.{Axes}
use Rattle.ub_table.specs.declared.row.Row.{Row}
use Rattle.ub_table.specs.declared.schema.Schema.{Schema}
use Rattle.ub_tree.specs.Laid.{IsLaid}
use Rattle.ub_tree.specs.View.{TreeView}

-- ---- the first thing wrong with records

-- there is none
none_refused : (axes : Axes) (name : List ℕ) → first_refusal axes name [] ≡ Some NoHeader
unfolding refusals
none_refused axes name = refl

-- a header is refused
header_refused : (axes : Axes) (name : List ℕ) (header : List (List ℕ)) (rest : List (List (List ℕ))) (f : LoadFault) → header_refusal axes.dims name (columns_of header) ≡ Some f
    → first_refusal axes name (header ∷ rest) ≡ Some f
unfolding refusals
header_refused axes name header rest f bad = first-here (header_refusals axes.dims name (map trimmed header)) _ f bad

-- a header with no field has too few
no_field : (axes : Axes) (name : List ℕ) (f : LoadFault) → 1 ≤ axes.dims → header_refusal axes.dims name (columns_of []) ≡ Some f → f ≡ ColumnCount
no_field axes name f some bad = let few = header_of_few axes.dims name [] (inl some) in cc

-- one with nine has too many, whatever its names are
abbrev nine : List (List ℕ)
nine = [] ∷ [] ∷ [] ∷ [] ∷ [] ∷ [] ∷ [] ∷ [] ∷ [] ∷ []

nine_refused : (axes : Axes) (name : List ℕ) → axes.dims ≤ 4 → header_refusal axes.dims name (columns_of nine) ≡ Some ColumnCount
nine_refused axes name few = header_of_few axes.dims name (columns_of nine) (inr (let long = length-map nine trimmed in omega arith))

-- so is a record with no field
no_row : (axes : Axes) (width n : ℕ) (f : LoadFault) → 1 ≤ width → first_of (record_refusals axes width (n, [])) ≡ Some f → f ≡ Csv
no_row axes width n f some bad =
    let other = record_with_bad_content axes width (n, []) Csv (record_of_other_length axes width n [] (λ e. absurd (omega arith))) in
    cc

module _ {R : Type 0} (rem : R → Option (List ℕ)) (axes : Axes) (page_rows : ℕ) (name : List ℕ) (from mid : Reader R) (schema : Schema)
    (is : HasReadHeader rem axes page_rows name from mid schema) where
  width_is : length schema.columns ≡ length is.header
  width_is = ap (λ (names : List (List ℕ)). length names) is.schema_is.1 ∙ length-map is.header trimmed

  -- what the schema tells is what the header tells
  of_header : (P : Axes → ℕ → Type 0) → P (axes_of schema) (length schema.columns) → P axes (length is.header)
  of_header P h = subst (λ (n : ℕ). P axes n) width_is (subst (λ (a : Axes). P a (length schema.columns)) is.schema_is.2 h)

  -- the header and the records of such a table have fields
  some_columns : 1 ≤ length schema.columns
  some_columns = let some = schema.counts.some_dims in let covers = schema.counts.covers_dims in omega arith

  some_header : 1 ≤ length is.header
  some_header = let some = some_columns in let same = width_is in omega arith

  filled : (taken : List (List (List ℕ))) → AllByRecursion (λ r. length r ≡ length schema.columns) taken → AreFilled taken
  filled [] h = tt
  filled (r ∷ taken) h = ((let some = some_columns in let long = h.0 in omega arith), filled taken h.1)

  -- a record that is refused is the first thing wrong, whatever comes after it
  bad_first : (f : LoadFault) (bad : IsBadRecord rem mid schema f) (rest : List (List (List ℕ)))
      → first_refusal axes name ((is.header ∷ (bad.taken ++ bad.bad ∷ [])) ++ rest) ≡ Some f
  unfolding refusals
  bad_first f bad rest =
      ap (λ (rs : List (List (List ℕ))). first_refusal axes name (is.header ∷ rs)) (append_assoc bad.taken (bad.bad ∷ []) rest)
      ∙ first-skip (header_refusals axes.dims name (map trimmed is.header)) _ is.fine
      ∙ flat-refused (record_refusals axes (length is.header)) 1 (1 + length bad.taken) bad.taken rest bad.bad f refl
      (of_header (λ a n. first_of (flat_map (record_refusals a n) (enumerate_from 1 bad.taken)) ≡ None) bad.fine.accepted)
      (of_header (λ a n. first_of (record_refusals a n (1 + length bad.taken, bad.bad)) ≡ Some f) bad.refused)

  -- a text of which these are all records is that of a table
  loaded_text : (rows : List Row) (l : HasLoadedRecords rem mid schema rows) (text : List ℕ) → is.header ∷ l.taken ≡ records_of text → IsLoaded text axes page_rows name schema rows
  unfolding refusals
  loaded_text rows l text e = record {
    header = is.header;
    rest = l.taken;
    records = sym e;
    accepted = first-skip (header_refusals axes.dims name (map trimmed is.header)) _ is.fine
        ∙ of_header (λ a n. first_of (flat_map (record_refusals a n) (enumerate_from 1 l.taken)) ≡ None) l.fine.accepted;
    name_is = is.schema_is.0;
    columns_are = is.schema_is.1;
    axes_are = is.schema_is.2;
    page_rows_are = is.schema_is.3;
    rows_are = of_header (λ a n. rows ≡ rows_of a l.taken) l.rows_are;
  }

-- ---- what is told

-- a text that is refused
not_loaded : (text : List ℕ) (axes : Axes) (page_rows : ℕ) (name : List ℕ) (store : StoreFacts) (result : Result TreeView LoadFault) (e f : LoadFault) → result ≡ Err e → e ≡ f
    → IsLoadFault axes name text store f → Loads text axes page_rows name store result
not_loaded text axes page_rows name store result e f is same told = rw (is, same) (record { loaded = λ honest. tt; working = tt; refused = told })

header_told_of : (axes : Axes) (name : List ℕ) (store : StoreFacts) (f : LoadFault) (text : List ℕ) (header : List (List ℕ)) (rest : List (List (List ℕ)))
    → header ∷ rest ≡ records_of text → header_refusal axes.dims name (columns_of header) ≡ Some f → IsLoadFault axes name text store f
header_told_of axes name store f text header rest e bad =
    inr (told_first _ _ _ f (header_is_of_text axes.dims name (columns_of header) f bad) (ap (first_refusal axes name) (sym e) ∙ header_refused axes name header rest f bad))

-- why a text isn't loaded that a source gives of which this is known
abbrev pub IsToldFrom : Option (List ℕ) → Axes → List ℕ → StoreFacts → LoadFault → Type 0
IsToldFrom known axes name store f = (text : List ℕ) × MayGive known text × IsLoadFault axes name text store f

-- so of a table that isn't read
pub no_table_from : (known : Option (List ℕ)) (axes : Axes) (page_rows : ℕ) (name : List ℕ) (result : Result GrownTable LoadFault) (e f : LoadFault) → result ≡ Err e → e ≡ f
    → IsToldFrom known axes name (memory_facts []) f → ReadsFrom known axes page_rows name result
no_table_from known axes page_rows name result e f is same told =
    record { text = told.0; text_is = told.1; reads = not_read told.0 axes page_rows name result e f is same told.2 }

-- a header with no field: where nothing is known of the source, it is told of one with nine fields, which are as wrong
no_field_told : {R : Type 0} (rem : R → Option (List ℕ)) (from : Reader R) (known : Option (List ℕ)) (axes : Axes) (name : List ℕ) (store : StoreFacts) (f : LoadFault)
    → 1 ≤ axes.dims → axes.dims ≤ 4 → ((text : List ℕ) → known ≡ Some text → IsAt rem text [] from) → GivesNext rem from ([] ∷ [])
    → header_refusal axes.dims name (columns_of []) ≡ Some f → IsToldFrom known axes name store f
no_field_told rem from None axes name store f some few fresh next bad =
    let refused = nine_refused axes name few ∙ ap Some (sym (no_field axes name f some bad)) in
    (written (nine ∷ []), tt, header_told_of axes name store f (written (nine ∷ [])) nine [] (written_records (nine ∷ []) (omega arith, tt)) refused)
no_field_told rem from (Some text) axes name store f some few fresh next bad =
    let more = next text [] (fresh text refl) in
    (text, refl, header_told_of axes name store f text [] more.0 more.1 bad)

module _ {R : Type 0} (rem : R → Option (List ℕ)) (from : Reader R) (known : Option (List ℕ)) (fresh : (text : List ℕ) → known ≡ Some text → IsAt rem text [] from)
    (axes : Axes) (page_rows : ℕ) (name : List ℕ) (store : StoreFacts) where
  pub not_from : (result : Result TreeView LoadFault) (e f : LoadFault) → result ≡ Err e → e ≡ f → IsToldFrom known axes name store f → LoadsFrom known axes page_rows name store result
  not_from result e f is same told = record { text = told.0; text_is = told.1; loads = not_loaded told.0 axes page_rows name store result e f is same told.2 }

  -- a record can't be read, or there is no table to begin with
  pub unread_from : (f : LoadFault) → IsUnread f → IsToldFrom known axes name store f
  unread_from f is = let t = some_text known in (t.0, t.1, told_unread _ _ _ f is)

  pub unbegun_from : (f : LoadFault) → IsNewFault store f → IsToldFrom known axes name store f
  unbegun_from f is = let t = some_text known in (t.0, t.1, inr (told_new _ store _ f is))

  -- the header is refused
  pub header_from : AreTableNumbers axes.dims page_rows → (f : LoadFault) → IsHeaderFault rem axes name from f → IsToldFrom known axes name store f
  header_from numbers f (inl unread) = unread_from f unread
  header_from numbers f (inr (inl (all, is))) =
      let t = all_text rem from [] tt known fresh all in
      let first = ap (first_refusal axes name) (sym t.2) ∙ none_refused axes name in
      (t.0, t.1, subst (λ (g : LoadFault). IsLoadFault axes name t.0 store g) (sym is) (inr first))
  header_from numbers f (inr (inr ([], next, bad))) = no_field_told rem from known axes name store f numbers.some_dims numbers.few_dims fresh next bad
  header_from numbers f (inr (inr (x ∷ xs, next, bad))) =
      let t = next_text rem from ((x ∷ xs) ∷ []) (omega arith, tt) known fresh next in
      (t.0, t.1, header_told_of axes name store f t.0 (x ∷ xs) t.2 t.3 bad)

  module _ (mid : Reader R) (schema : Schema) (is : HasReadHeader rem axes page_rows name from mid schema) where
    -- a record is refused
    bad_from : (f : LoadFault) (bad : IsBadRecord rem mid schema f) (b : List (List ℕ)) → bad.bad ≡ b → IsToldFrom known axes name store f
    bad_from f bad [] e =
        unread_from f (inl (no_row (axes_of schema) (length schema.columns) (1 + length bad.taken) f (some_columns rem axes page_rows name from mid schema is)
        (subst (λ (r : List (List ℕ)). record_refusal schema (1 + length bad.taken, r) ≡ Some f) e bad.refused)))
    bad_from f bad (x ∷ xs) e =
        let last : 1 ≤ length bad.bad = rw e (omega arith) in
        let taken = filled rem axes page_rows name from mid schema is bad.taken bad.fine.wide in
        let t = next_text rem from (is.header ∷ (bad.taken ++ bad.bad ∷ []))
        (some_header rem axes page_rows name from mid schema is, all_append (λ r. 1 ≤ length r) bad.taken (bad.bad ∷ []) taken (last, tt))
        known fresh (header_next rem from mid is.header is.read (bad.taken ++ bad.bad ∷ []) bad.next) in
        let first = ap (first_refusal axes name) (sym t.3) ∙ bad_first rem axes page_rows name from mid schema is f bad t.2 in
        (t.0, t.1, inr (told_found _ _ _ f (record_is_told (axes_of schema) (length schema.columns) (1 + length bad.taken, bad.bad) f bad.refused) first))

    pub records_from : (f : LoadFault) → IsRecordsFault rem mid schema f → IsToldFrom known axes name store f
    records_from f (inl unread) = unread_from f unread
    records_from f (inr bad) = bad_from f bad bad.bad refl

    -- all were read: a text of which these are all records
    text_from : (rows : List Row) → HasLoadedRecords rem mid schema rows → (text : List ℕ) × MayGive known text × IsLoaded text axes page_rows name schema rows
    text_from rows l =
        let t = all_text rem from (is.header ∷ l.taken)
        (some_header rem axes page_rows name from mid schema is, filled rem axes page_rows name from mid schema is l.taken l.fine.wide)
        known fresh (header_all rem from mid is.header is.read l.taken l.all) in
        (t.0, t.1, loaded_text rem axes page_rows name from mid schema is rows l t.0 t.2)

    -- their rows are laid
    pub laid_from : (rows : List Row) → AreFirstRows schema rows → HasLoadedRecords rem mid schema rows → (begun : BegunView) (result : Result TreeView LoadFault) → IsBegun store schema begun
        → IfOk result (IsLaid begun (length rows + 1) (loaded_regions begun.schema.dims begun.schema.page_rows rows)) → IfErr result (IsNewFault begun.store)
        → LoadsFrom known axes page_rows name store result
    laid_from rows first l begun result begins laid refused =
        let t = text_from rows l in
        record { text = t.0; text_is = t.1; loads = loads_laid schema rows first t.0 axes page_rows name store begun result begins t.2 laid refused }

    -- they are grown
    pub grown_from : (rows : List Row) → AreFirstRows schema rows → HasLoadedRecords rem mid schema rows → (result : Result GrownTable LoadFault)
        → IfOk result (IsGrownOf schema rows) → IfErr result (λ fault. fault ≡ Memory) → ReadsFrom known axes page_rows name result
    grown_from rows first l result grown refused =
        let t = text_from rows l in
        record { text = t.0; text_is = t.1; reads = reads_grown schema rows first t.0 axes page_rows name result t.2 grown refused }
