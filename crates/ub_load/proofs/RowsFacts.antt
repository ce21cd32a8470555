-- How the rows that have been read of a text become more.
use Rattle.std.proofs.Common.{◌⊎◌, ◌≡◌, ◌≤◌, ◌<◌, ◌+◌, ◌-◌, ℕ, true, false, List, [], ◌∷◌, ◌++◌, length, map, take, Some, None, Result, Ok, Err, IfOk, IfErr, OnOk, All, refl, sym, ap, subst, ◌∙◌, arith, append_assoc, length-append, inl, inr}
use Rattle.std.specs.Prelude.{nat_le, if◌then◌else◌}
use Rattle.std.proofs.lemmas.Bool.{le-leb, lt-leb}
use Rattle.std.proofs.lemmas.List.{length-map, map-append}
use Rattle.std.proofs.lemmas.List.Elements.{All-push}
use Rattle.std.specs.List.{enumerate_from, flat_map}
use Rattle.csv.specs.declared.reader.Reader.{Reader}
use Rattle.ub_load.specs.Appending.{appended_refusals, appended_rows, arranged, heading_refusals, misfits, missing_refusal, named_refusal, place_in, placed_refusals, places_in}
use Rattle.ub_load.specs.LoadedTable.{columns_of, records_of, row_of, rows_of}
use Rattle.ub_load.specs.Refusals.{first_of}
use Rattle.ub_load.specs.declared.fault.LoadFault.{LoadFault}
use Rattle.ub_load.specs.declared.fault.LoadFault.TheVariants.{NoHeader, Csv, Memory, Tree}
use Rattle.ub_load.specs.inner.Arranged.{HasReadFirst, HasRowsFrom, IsRefusedFrom}
use Rattle.ub_load.specs.inner.Records.{HasRead, IsAt, Source, bytes_of}
use Rattle.ub_load.proofs.LoadFacts.{rows_of-more, rows_of-none}
use Rattle.ub_load.proofs.NamedFacts.{heading_of_missing}
use Rattle.ub_load.proofs.ReadingFacts.{at_end, at_front, at_next}
use Rattle.ub_load.proofs.RefusalFacts.{first-here, first-skip, flat-more, flat-refused}
use Rattle.ub_table.specs.Region.{measures_of}
use Rattle.ub_table.specs.Value.{axes_of}
use Rattle.ub_table.specs.declared.axes.Axes.{Axes}
use Rattle.ub_table.specs.declared.row.Row.{Row}
use Rattle.ub_table.specs.declared.schema.Schema.{Schema}
use Rattle.ub_tree.specs.Change.{Suits}
use Rattle.ub_tree.specs.declared.fault.TreeFault.TheVariants as tree

-- the parts of a record's refusals, in order
pub record_with_bad_fields : (schema : Schema) (next : ℕ) (names : List (List ℕ)) (r : ℕ × List (List ℕ)) (f : LoadFault)
    → first_of (placed_refusals (axes_of schema) (length names) (places_in schema.columns names) r) ≡ Some f → first_of (appended_refusals schema next names r) ≡ Some f
unfolding appended_refusals
record_with_bad_fields schema next names r f h =
    first-here (placed_refusals (axes_of schema) (length names) (places_in schema.columns names) r) ((if nat_le (next + r.0) 16777216 then None else Some (Tree tree.Full)) ∷ []) f h

pub record_with_no_number : (schema : Schema) (next : ℕ) (names : List (List ℕ)) (r : ℕ × List (List ℕ)) → 16777216 < next + r.0
    → first_of (placed_refusals (axes_of schema) (length names) (places_in schema.columns names) r) ≡ None → first_of (appended_refusals schema next names r) ≡ Some (Tree tree.Full)
unfolding appended_refusals
record_with_no_number schema next names r past h =
    let u : nat_le (next + r.0) 16777216 ≡ false = lt-leb (next + r.0) 16777216 past in
    rw u (first-skip (placed_refusals (axes_of schema) (length names) (places_in schema.columns names) r) (Some (Tree tree.Full) ∷ []) h)

pub record_fits : (schema : Schema) (next : ℕ) (names : List (List ℕ)) (r : ℕ × List (List ℕ)) → next + r.0 ≤ 16777216
    → first_of (placed_refusals (axes_of schema) (length names) (places_in schema.columns names) r) ≡ None → first_of (appended_refusals schema next names r) ≡ None
unfolding appended_refusals
record_fits schema next names r le h =
    let u : nat_le (next + r.0) 16777216 ≡ true = le-leb (next + r.0) 16777216 le in
    rw u (first-skip (placed_refusals (axes_of schema) (length names) (places_in schema.columns names) r) (None ∷ []) h)

-- a record that can't be read, or for which there is no memory
pub unread : (rdr : Reader Source) (taken : List (List (List ℕ))) (schema : Schema) (next : ℕ) (f : LoadFault) → (f ≡ Csv) ⊎ (f ≡ Memory) → IsRefusedFrom rdr taken schema next f
unread rdr taken schema next f (inl is) = λ text start. inl is
unread rdr taken schema next f (inr is) = λ text start. inr (inl is)

-- whether a number is left
none_left : (next left number : ℕ) → left ≡ 16777216 - next → left < number → 16777216 < next + number
none_left next left number is past = omega arith

some_left : (next left number taken : ℕ) → number ≡ 1 + taken → left ≡ 16777216 - next → number ≤ left → next + number ≤ 16777216
some_left next left number taken first is le = omega arith

-- the records before this one have been read, with nothing wrong in them, and these are their rows
pub record IsReading (from : Reader Source) (header : List (List ℕ)) (schema : Schema) (next number : ℕ) (rows : List Row) (rdr : Reader Source) : Type 0 where
  pub taken : List (List (List ℕ))
  pub at : (text : List ℕ) → IsAt bytes_of text (header ∷ []) from → IsAt bytes_of text (header ∷ taken) rdr
  pub number_is : number ≡ 1 + length taken
  pub few : number ≤ 16777216 - next + 1
  pub accepted : first_of (flat_map (appended_refusals schema next (columns_of header)) (enumerate_from 1 taken)) ≡ None
  pub rows_are : rows ≡ appended_rows schema (columns_of header) taken
  pub suit : All (Suits schema.dims (measures_of schema)) rows

pub reading_none : (from : Reader Source) (header : List (List ℕ)) (schema : Schema) (next : ℕ) (rows : List Row) → rows ≡ [] → IsReading from header schema next 1 rows from
reading_none from header schema next rows none = record {
  taken = [];
  at = λ text start. start;
  number_is = refl;
  few = omega arith;
  accepted = refl;
  rows_are = none ∙ sym (rows_of-none (axes_of schema));
  suit = rw none (λ k d lt. absurd (omega arith));
}

module _ {from : Reader Source} {header : List (List ℕ)} {schema : Schema} {next number : ℕ} {rows : List Row} {a : Reader Source} (is : IsReading from header schema next number rows a)
    (b : Reader Source) (r : List (List ℕ)) where
  -- one more record
  pub reading_more : HasRead bytes_of a true r b → (row : Row) → next + number ≤ 16777216
      → first_of (placed_refusals (axes_of schema) (length (columns_of header)) (places_in schema.columns (columns_of header)) (number, r)) ≡ None
      → row ≡ row_of (axes_of schema) (number, arranged (places_in schema.columns (columns_of header)) r)
      → Suits schema.dims (measures_of schema) row → IsReading from header schema next (number + 1) (rows ++ row ∷ []) b
  reading_more read row le fine row_is suits =
      let order = arranged (places_in schema.columns (columns_of header)) in
      let long = length-map is.taken order in
      let whole : appended_rows schema (columns_of header) (is.taken ++ r ∷ []) ≡ appended_rows schema (columns_of header) is.taken ++ row_of (axes_of schema) (1 + length is.taken, order r) ∷ [] =
      ap (rows_of (axes_of schema)) (map-append order is.taken (r ∷ [])) ∙ rw long at (rows_of-more (axes_of schema) (map order is.taken) (order r)) in
      record {
        taken = is.taken ++ r ∷ [];
        at = λ text start. at_next (is.at text start) b r read;
        number_is = (let count = is.number_is in let more = length-append is.taken (r ∷ []) in omega arith);
        few = omega arith;
        accepted = flat-more (appended_refusals schema next (columns_of header)) 1 number is.taken r is.number_is is.accepted (record_fits schema next (columns_of header) (number, r) le fine);
        rows_are = rw (is.rows_are, row_is, is.number_is) (sym whole);
        suit = All-push (Suits schema.dims (measures_of schema)) rows row is.suit suits;
      }

  -- a record that is refused is the first thing wrong in the text
  pub reading_refused : HasRead bytes_of a true r b → first_of (heading_refusals schema.columns (columns_of header)) ≡ None → (f : LoadFault)
      → first_of (appended_refusals schema next (columns_of header) (number, r)) ≡ Some f → IsRefusedFrom from (header ∷ []) schema next f
  unfolding misfits
  reading_refused read fine f bad = λ text start.
      let front = at_front (at_next (is.at text start) b r read) in
      let whole : header ∷ (is.taken ++ r ∷ front.0) ≡ records_of text = ap (λ rs. header ∷ rs) (sym (append_assoc is.taken (r ∷ []) front.0)) ∙ front.1 in
      inr (inr (
      ap (λ records. first_of (misfits schema next records)) (sym whole)
      ∙ first-skip (heading_refusals schema.columns (columns_of header)) _ fine
      ∙ flat-refused (appended_refusals schema next (columns_of header)) 1 number is.taken front.0 r f is.number_is is.accepted bad
      ))

  module _ (read : HasRead bytes_of a true r b) (fine : first_of (heading_refusals schema.columns (columns_of header)) ≡ None) (axes : Axes) (width : ℕ) (places : List ℕ) (axes_are : axes ≡ axes_of schema)
      (width_is : width ≡ length (columns_of header)) (places_are : places ≡ places_in schema.columns (columns_of header)) where
    -- a record whose fields are refused
    pub reading_unfit : (f : LoadFault) → (f ≡ Memory) ⊎ (first_of (placed_refusals axes width places (number, r)) ≡ Some f) → IsRefusedFrom from (header ∷ []) schema next f
    reading_unfit f (inl memory) = unread from (header ∷ []) schema next f (inr memory)
    reading_unfit f (inr bad) =
        reading_refused read fine f (record_with_bad_fields schema next (columns_of header) (number, r) f (rw (axes_are, width_is, places_are) at bad))

    -- one for which no number is left
    pub reading_full : (left : ℕ) → left ≡ 16777216 - next → left < number → first_of (placed_refusals axes width places (number, r)) ≡ None
        → IsRefusedFrom from (header ∷ []) schema next (Tree tree.Full)
    reading_full left left_is past good =
        reading_refused read fine (Tree tree.Full) (record_with_no_number schema next (columns_of header) (number, r) (none_left next left number left_is past) (rw (axes_are, width_is, places_are) at good))

    -- one that is a row
    pub reading_step : (left : ℕ) → left ≡ 16777216 - next → (row : Row) (more : List Row) → number ≤ left → first_of (placed_refusals axes width places (number, r)) ≡ None → row ≡ row_of axes (number, arranged places r)
        → Suits axes.dims (length places - axes.dims) row → more ≡ rows ++ row ∷ [] → IsReading from header schema next (number + 1) more b
    reading_step left left_is row more le good row_is suits grown =
        let first = is.number_is in
        let long : length (places_in schema.columns (columns_of header)) ≡ length schema.columns = length-map schema.columns (place_in (columns_of header)) in
        let fits : Suits schema.dims (measures_of schema) row = rw (axes_are, places_are, long) at suits in
        rw grown (reading_more read row (some_left next left number (length is.taken) first left_is le) (rw (axes_are, width_is, places_are) at good) (rw (axes_are, places_are) at row_is) fits)

  -- there are no more
  pub all_read : HasRead bytes_of a false r b → first_of (heading_refusals schema.columns (columns_of header)) ≡ None → HasRowsFrom from header schema next rows
  unfolding misfits
  all_read read fine = λ text start. record {
    header = header;
    rest = is.taken;
    records = sym (at_end (is.at text start) b r read);
    fine = first-skip (heading_refusals schema.columns (columns_of header)) _ fine ∙ is.accepted;
    rows_are = is.rows_are;
  }

-- a text of no record
pub empty_refused : (a b : Reader Source) (fields : List (List ℕ)) (schema : Schema) (next : ℕ) → HasRead bytes_of a false fields b → IsRefusedFrom a [] schema next NoHeader
unfolding misfits
empty_refused a b fields schema next read = λ text start.
    inr (inr (ap (λ records. first_of (misfits schema next records)) (sym (at_end start b fields read)) ∙ refl))

-- a header that is refused is the first thing wrong
pub heading_refused : (a b : Reader Source) (header : List (List ℕ)) (schema : Schema) (next : ℕ) (f : LoadFault) → HasRead bytes_of a true header b
    → first_of (heading_refusals schema.columns (columns_of header)) ≡ Some f → IsRefusedFrom a [] schema next f
unfolding misfits
heading_refused a b header schema next f read bad = λ text start.
    let front = at_front (at_next start b header read) in
    inr (inr (
    ap (λ records. first_of (misfits schema next records)) (sym front.1)
    ∙ first-here (heading_refusals schema.columns (columns_of header)) _ f bad
    ))

pub first_read : (a b : Reader Source) (header : List (List ℕ)) → HasRead bytes_of a true header b → HasReadFirst a header b
first_read a b header read = λ text start. at_next start b header read

module _ {A : Type 0} (a b : Reader Source) (header : List (List ℕ)) (schema : Schema) (columns : List (List ℕ)) (are : columns ≡ schema.columns) (result : Result A LoadFault)
    (read : HasRead bytes_of a true header b) (named : first_of (map (named_refusal columns (columns_of header)) (enumerate_from 0 (columns_of header))) ≡ None) where
  -- each column was found, or one wasn't
  pub found_fine : OnOk result (missing_refusal columns (columns_of header) ≡ None) → OnOk result (first_of (heading_refusals schema.columns (columns_of header)) ≡ None)
  found_fine h = by result h
    where
      by : (r : Result A LoadFault) → OnOk r (missing_refusal columns (columns_of header) ≡ None) → OnOk r (first_of (heading_refusals schema.columns (columns_of header)) ≡ None)
      by (Ok places) h = rw are at (heading_of_missing columns (columns_of header) None named h)
      by (Err f) h = tt

  pub found_refused : IfErr result (λ f. missing_refusal columns (columns_of header) ≡ Some f) → IfErr result (λ f. (next : ℕ) → IsRefusedFrom a [] schema next f)
  found_refused h = by result h
    where
      by : (r : Result A LoadFault) → IfErr r (λ f. missing_refusal columns (columns_of header) ≡ Some f) → IfErr r (λ f. (next : ℕ) → IsRefusedFrom a [] schema next f)
      by (Ok places) h = tt
      by (Err f) h = λ next. heading_refused a b header schema next f read (rw are at (heading_of_missing columns (columns_of header) (Some f) named h))

-- where they stand
pub found_places : (names columns all : List (List ℕ)) (result : Result (List ℕ) LoadFault) → columns ≡ all → IfOk result (λ places. take (length columns) places ≡ places_in columns names)
    → IfOk result (λ places. take (length all) places ≡ places_in all names)
found_places names columns all result are h = subst (λ (columns : List (List ℕ)). IfOk result (λ places. take (length columns) places ≡ places_in columns names)) are h
