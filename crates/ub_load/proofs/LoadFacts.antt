-- How the records that have been read, and their rows, become more.
use Rattle.std.proofs.Common.{◌≡◌, ◌≤◌, ◌+◌, ◌==◌, ℕ, List, [], ◌∷◌, ◌++◌, length, Option, Some, None, true, false, refl, sym, ap, subst, ◌∙◌, arith, length-append, inl, inr}
use Rattle.std.proofs.lemmas.Bool.{cases_Bool, eqb-true}
use Rattle.std.proofs.lemmas.List.{map-append, length-map}
use Rattle.std.proofs.lemmas.List.FromFn.{length-enumerate_from}
use Rattle.std.specs.List.{AllByRecursion, enumerate_from}
use Rattle.std.specs.Prelude.{Result, Ok, Err, IfOk, IfErr}
use Rattle.std.specs.Result.{OnOk}
use Rattle.csv.specs.declared.reader.Reader.{Reader}
use Rattle.ub_region.proofs.KeyLists.{all_append}
use Rattle.ub_load.specs.LoadedTable.{IsSchemaOf, columns_of, row_of, rows_of}
use Rattle.ub_load.specs.inner.Progress.{AreAccepted, AreFirstRows, AreNumberedFrom, HasLoadedRecords, HasReadHeader, IsHeaderFault, IsRecordsFault, IsRowOf, record_refusal}
use Rattle.ub_load.specs.inner.Records.{HasRead}
use Rattle.ub_load.proofs.PutFacts.{number_is}
use Rattle.ub_load.proofs.ReadingFacts.{HasGiven, given_all, given_more, given_next, given_none}
use Rattle.ub_load.specs.Refusals.{content_refusals, first_of, header_refusal, record_refusals}
use Rattle.ub_load.specs.declared.fault.LoadFault.{LoadFault}
use Rattle.ub_load.specs.declared.fault.LoadFault.TheVariants.{Csv}
use Rattle.ub_load.proofs.RefusalFacts.{enumerate_from-append, flat-more}
use Rattle.ub_table.specs.Region.{IsRow, measures_of}
use Rattle.ub_table.specs.Value.{axes_of}
use Rattle.ub_table.specs.declared.axes.Axes.{Axes}
use Rattle.ub_table.specs.declared.row.Row.{Row}
use Rattle.ub_table.specs.declared.schema.Schema.{Schema}

length-rows_of : (axes : Axes) (taken : List (List (List ℕ))) → length (rows_of axes taken) ≡ length taken
unfolding rows_of
length-rows_of axes taken = length-map (enumerate_from 1 taken) (row_of axes) ∙ length-enumerate_from 1 taken

pub rows_of-more : (axes : Axes) (taken : List (List (List ℕ))) (r : List (List ℕ)) → rows_of axes (taken ++ r ∷ []) ≡ rows_of axes taken ++ row_of axes (1 + length taken, r) ∷ []
unfolding rows_of
rows_of-more axes taken r = rw (enumerate_from-append 1 taken (r ∷ []), map-append (row_of axes) (enumerate_from 1 taken) (enumerate_from (1 + length taken) (r ∷ []))) refl

pub rows_of-none : (axes : Axes) → rows_of axes [] ≡ []
unfolding rows_of
rows_of-none axes = refl

-- a record that is accepted has as many fields as there are columns
pub record_width : (axes : Axes) (width : ℕ) (r : ℕ × List (List ℕ)) → first_of (record_refusals axes width r) ≡ None → length r.1 ≡ width
unfolding record_refusals content_refusals
record_width axes width r h = elim (cases_Bool (length r.1 == width)) [
  | inl t ↦ eqb-true (length r.1) width t
  | inr n ↦ let bad : Some Csv ≡ None = rw n at h in cc
]

-- ---- the header

module _ {R : Type 0} (rem : R → Option (List ℕ)) (from b : Reader R) (header : List (List ℕ)) (s : HasRead rem from true header b) (axes : Axes) (name : List ℕ) where
  -- it was read and makes a schema
  pub took_header : (page_rows : ℕ) (result : Result Schema LoadFault) → IfOk result (IsSchemaOf header axes page_rows name)
      → OnOk result (header_refusal axes.dims name (columns_of header) ≡ None) → IfOk result (HasReadHeader rem axes page_rows name from b)
  took_header page_rows (Ok schema) is fine = record { header = header; read = s; fine = fine; schema_is = is }
  took_header page_rows (Err fault) is fine = tt

  -- it makes none
  pub told_header : (result : Result Schema LoadFault) → IfErr result (λ fault. header_refusal axes.dims name (columns_of header) ≡ Some fault)
      → IfErr result (IsHeaderFault rem axes name from)
  told_header (Ok schema) bad = tt
  told_header (Err fault) bad = inr (inr (header, given_next rem from b (header ∷ []) (given_more rem from from [] (given_none rem from) b header s), bad))

-- ---- the rows so far

numbered_more : (n : ℕ) (rows : List Row) (row : Row) → AreNumberedFrom n rows → row.number ≡ n + length rows → AreNumberedFrom n (rows ++ row ∷ [])
numbered_more n [] row h is = (omega arith, tt)
numbered_more n (first ∷ rows) row h is = (h.0, numbered_more (n + 1) rows row h.1 (omega arith))

-- the records before the row of this number have been read, with nothing wrong in them, and these are their rows
pub record IsTaking {R : Type 0} (rem : R → Option (List ℕ)) (from : Reader R) (schema : Schema) (number : ℕ) (rows : List Row) (rdr : Reader R) : Type 0 where
  pub few : number ≤ 16777216
  pub number_is : number ≡ 1 + length rows
  pub numbers : AreNumberedFrom 1 rows
  pub each : AllByRecursion (IsRow schema.dims (measures_of schema)) rows
  pub taken : List (List (List ℕ))
  pub given : HasGiven rem from taken rdr
  pub count : number ≡ 1 + length taken
  pub fine : AreAccepted schema taken
  pub rows_are : rows ≡ rows_of (axes_of schema) taken

pub taking_none : {R : Type 0} (rem : R → Option (List ℕ)) (from : Reader R) (schema : Schema) (number : ℕ) (rows : List Row) → number ≡ 1 → rows ≡ []
    → IsTaking rem from schema number rows from
taking_none rem from schema number rows is none = rw (is, none) (record {
  few = omega arith;
  number_is = refl;
  numbers = tt;
  each = tt;
  taken = [];
  given = given_none rem from;
  count = refl;
  fine = record { wide = tt; accepted = refl };
  rows_are = sym (rows_of-none (axes_of schema));
})

module _ {R : Type 0} {rem : R → Option (List ℕ)} {from : Reader R} {schema : Schema} {number : ℕ} {rows : List Row} {a : Reader R} (is : IsTaking rem from schema number rows a)
    (b : Reader R) (r : List (List ℕ)) where
  -- one more record
  pub taking_more : HasRead rem a true r b → (row : Row) → IsRowOf schema (number, r) row → record_refusal schema (number, r) ≡ None
      → IsTaking rem from schema (number + 1) (rows ++ row ∷ []) b
  taking_more s row made fine =
      let axes = axes_of schema in
      let width = length schema.columns in
      let own = number_is axes number r row made.0 in
      let last = made.1.number.1 in
      let count = is.number_is in
      record {
        few = omega arith;
        number_is = (let long = length-append rows (row ∷ []) in omega arith);
        numbers = numbered_more 1 rows row is.numbers (omega arith);
        each = all_append (IsRow schema.dims (measures_of schema)) rows (row ∷ []) is.each (made.1, tt);
        taken = is.taken ++ r ∷ [];
        given = given_more rem from a is.taken is.given b r s;
        count = (let taken = is.count in let long = length-append is.taken (r ∷ []) in omega arith);
        fine = record {
          wide = all_append (λ fields. length fields ≡ width) is.taken (r ∷ []) is.fine.wide (record_width axes width (number, r) fine, tt);
          accepted = flat-more (record_refusals axes width) 1 number is.taken r is.count is.fine.accepted fine;
        };
        rows_are = ap (λ (rs : List Row). rs ++ row ∷ []) is.rows_are
            ∙ ap (λ (x : Row). rows_of axes is.taken ++ x ∷ []) (made.0 ∙ ap (λ (n : ℕ). row_of axes (n, r)) is.count)
            ∙ sym (rows_of-more axes is.taken r);
      }

  -- a record is refused
  pub taking_refused : HasRead rem a true r b → (f : LoadFault) → record_refusal schema (number, r) ≡ Some f → IsRecordsFault rem from schema f
  taking_refused s f bad = inr (record {
    taken = is.taken;
    bad = r;
    next = given_next rem from b (is.taken ++ r ∷ []) (given_more rem from a is.taken is.given b r s);
    fine = is.fine;
    refused = subst (λ (n : ℕ). record_refusal schema (n, r) ≡ Some f) is.count bad;
  })

  -- there are no more
  pub all_taken : HasRead rem a false r b → HasLoadedRecords rem from schema rows
  all_taken s = record { taken = is.taken; all = given_all rem from a is.taken is.given b r s; fine = is.fine; rows_are = is.rows_are }

  pub first_rows : AreFirstRows schema rows
  first_rows = record { numbers = is.numbers; each = is.each; few = (let most = is.few in let count = is.number_is in omega arith) }
