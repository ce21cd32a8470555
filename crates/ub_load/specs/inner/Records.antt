-- A reader of a text, and the records that it has given.
use Rattle.std.specs.Prelude.{◌≡◌, ℕ, Bool, true, false, List, [], ◌∷◌, ◌++◌, Option, Some}
use Rattle.std.specs.Borrow.{Bor}
use Rattle.csv.specs.Reading.{Reached, Ready, default_config, reader_config, reader_state, reader_trim, source_of, strip_bom}
use Rattle.csv.specs.declared.parser.State.TheVariants as st
use Rattle.csv.specs.declared.reader.Reader.{Reader}
use Rattle.csv.specs.declared.reader.Trim.TheVariants as trim
use Rattle.ub_load.specs.LoadedTable.{records_of}

-- bytes in memory, as a source of a text
abbrev pub Source : Type 0
Source = Bor (List ℕ)

abbrev pub bytes_of : Source → Option (List ℕ)
bytes_of s = Some s.now

-- a reader has given these records of the text, and reads on; `rem` tells the bytes that its source gives from here on
pub record IsAt {R : Type 0} (rem : R → Option (List ℕ)) (text : List ℕ) (taken : List (List (List ℕ))) (rdr : Reader R) : Type 0 where
  pub trim : reader_trim rdr ≡ trim.None
  pub ready : Ready rdr
  pub config : reader_config rdr ≡ default_config
  pub rest : List ℕ
  pub source : source_of rem rdr ≡ Some rest
  pub reached : Reached default_config st.StartRecord (strip_bom text) taken (reader_state rdr) rest

-- a reader of any text gave the record after those that it had given; or there was none, and those are all
abbrev pub HasRead : {R : Type 0} → (R → Option (List ℕ)) → Reader R → Bool → List (List ℕ) → Reader R → Type 0
HasRead rem old true fields new = (text : List ℕ) → (taken : List (List (List ℕ))) → IsAt rem text taken old → IsAt rem text (taken ++ fields ∷ []) new
HasRead rem old false fields new = (text : List ℕ) → (taken : List (List (List ℕ))) → IsAt rem text taken old → taken ≡ records_of text

-- of any text that a reader reads, these are the records that it gives next
abbrev pub GivesNext : {R : Type 0} → (R → Option (List ℕ)) → Reader R → List (List (List ℕ)) → Type 0
GivesNext rem rdr given =
    (text : List ℕ) → (taken : List (List (List ℕ))) → IsAt rem text taken rdr → (rest : List (List (List ℕ))) × ((taken ++ given) ++ rest ≡ records_of text)

-- and these are all that it still gives
abbrev pub GivesAll : {R : Type 0} → (R → Option (List ℕ)) → Reader R → List (List (List ℕ)) → Type 0
GivesAll rem rdr given = (text : List ℕ) → (taken : List (List (List ℕ))) → IsAt rem text taken rdr → taken ++ given ≡ records_of text
