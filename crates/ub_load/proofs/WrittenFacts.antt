-- For all records that have fields there is a text that has them: the one that the default writer writes. So of a source of which nothing is known
-- it can be said of which text a table is.
use Rattle.std.proofs.Common.{◌≡◌, ◌≤◌, ◌∙◌, ℕ, List, [], ◌∷◌, ◌++◌, Option, Some, None, length, ap, refl, append-nil, arith}
use Rattle.std.specs.List.{AllByRecursion}
use Rattle.csv.proofs.RoundTrip.{read-write, rows_text}
use Rattle.csv.specs.Machine.{next_record}
use Rattle.csv.specs.Reading.{Reached, default_config, records, strip_bom}
use Rattle.csv.specs.Writing.{read_back}
use Rattle.csv.specs.declared.parser.State.TheVariants as st
use Rattle.csv.specs.declared.reader.Reader.{Reader}
use Rattle.ub_load.specs.Calls.{MayGive}
use Rattle.ub_load.specs.LoadedTable.{records_of}
use Rattle.ub_load.specs.inner.Records.{GivesAll, GivesNext, IsAt}
use Rattle.ub_load.proofs.CsvFacts.{AreRecords-records}

-- a byte order mark, which is none of the records, and then these
abbrev pub written : List (List (List ℕ)) → List ℕ
written recs = 239 ∷ 187 ∷ 191 ∷ rows_text recs

abbrev pub AreFilled : List (List (List ℕ)) → Type 0
AreFilled recs = AllByRecursion (λ r. 1 ≤ length r) recs

read_again : (r : List (List ℕ)) → 1 ≤ length r → r ≡ read_back r
read_again [] some = absurd (omega arith)
read_again (x ∷ rest) some = refl

reached_written : (recs : List (List (List ℕ))) → AreFilled recs → Reached default_config st.StartRecord (rows_text recs) recs st.StartRecord []
unfolding Reached rows_text
reached_written [] h = (refl, refl)
reached_written (r ∷ recs) h = ((read_back r, st.StartRecord, rows_text recs), read-write r (rows_text recs), read_again r h.0, reached_written recs h.1)

stripped : (recs : List (List (List ℕ))) → rows_text recs ≡ strip_bom (written recs)
unfolding strip_bom
stripped recs = refl

no_record : next_record default_config st.StartRecord [] [] [] ≡ None
unfolding next_record
no_record = refl

pub written_records : (recs : List (List (List ℕ))) → AreFilled recs → recs ≡ records_of (written recs)
written_records recs h =
    AreRecords-records default_config (rows_text recs) recs (st.StartRecord, [], reached_written recs h, no_record) ∙ ap (records default_config) (stripped recs)

-- a text that is known, or else any
pub some_text : (known : Option (List ℕ)) → (text : List ℕ) × MayGive known text
some_text None = ([], tt)
some_text (Some text) = (text, refl)

module _ {R : Type 0} (rem : R → Option (List ℕ)) (rdr : Reader R) (recs : List (List (List ℕ))) (filled : AreFilled recs) where
  -- a text whose next records these are
  pub next_text : (known : Option (List ℕ)) → ((text : List ℕ) → known ≡ Some text → IsAt rem text [] rdr) → GivesNext rem rdr recs
      → (text : List ℕ) × MayGive known text × (rest : List (List (List ℕ))) × (recs ++ rest ≡ records_of text)
  next_text None fresh next = (written recs, tt, [], append-nil recs ∙ written_records recs filled)
  next_text (Some text) fresh next = let more = next text [] (fresh text refl) in (text, refl, more.0, more.1)

  -- one that has no others
  pub all_text : (known : Option (List ℕ)) → ((text : List ℕ) → known ≡ Some text → IsAt rem text [] rdr) → GivesAll rem rdr recs
      → (text : List ℕ) × MayGive known text × (recs ≡ records_of text)
  all_text None fresh all = (written recs, tt, written_records recs filled)
  all_text (Some text) fresh all = (text, refl, all text [] (fresh text refl))
