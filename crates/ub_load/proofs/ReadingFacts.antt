-- The records that a reader gives of a text, one after the other.
use Rattle.std.proofs.Common.{◌⊎◌, ◌≡◌, ℕ, Bool, true, false, List, [], ◌∷◌, ◌++◌, Option, Some, None, ap, refl, sym, subst, ◌∙◌, append_assoc, append-nil, inl, inr}
use Rattle.std.specs.Prelude.{option_map}
use Rattle.csv.proofs.ReadFacts.{rows-more, rows-end}
use Rattle.csv.specs.Reading.{ReadRecord, Reached, Ready, builder_config, builder_names_headers, builder_trim, default_config, names_headers, reader_config, reader_headers, reader_state, reader_trim, source_of, strip_bom, took_first, with_names_headers}
use Rattle.csv.specs.declared.error.ErrorKind.{ErrorKind}
use Rattle.csv.specs.declared.error.ErrorKind.TheVariants as kind
use Rattle.csv.specs.declared.parser.State.TheVariants as st
use Rattle.csv.specs.declared.reader.Reader.{Reader}
use Rattle.csv.specs.declared.reader.ReaderBuilder.{ReaderBuilder}
use Rattle.csv.specs.declared.reader.Trim.TheVariants as trim
use Rattle.ub_load.specs.LoadedTable.{records_of}
use Rattle.ub_load.specs.Refusals.{fault_of}
use Rattle.ub_load.specs.declared.fault.LoadFault.{LoadFault}
use Rattle.ub_load.specs.declared.fault.LoadFault.TheVariants.{Csv, Memory}
use Rattle.ub_load.specs.inner.Records.{GivesAll, GivesNext, HasRead, IsAt}
use Rattle.ub_load.proofs.CsvFacts.{AreRecords-records, Reached-front}

-- one record more
one_more : {R : Type 0} (rem : R → Option (List ℕ)) {text : List ℕ} {taken : List (List (List ℕ))} {a : Reader R} → IsAt rem text taken a → (b : Reader R) (fields : List (List ℕ))
    → ReadRecord rem a b true fields → took_first b ≡ true → IsAt rem text (taken ++ fields ∷ []) b
one_more rem {text} {taken} {a} is b fields s first =
    let more = rows-more rem a b fields default_config st.StartRecord (strip_bom text) is.rest taken is.config is.source is.reached s in
    record {
      trim = s.3 ∙ is.trim;
      ready = inl first;
      config = s.2 ∙ is.config;
      rest = more.0;
      source = more.1;
      reached = more.2;
    }

-- at the end, these are all
no_more : {R : Type 0} (rem : R → Option (List ℕ)) {text : List ℕ} {taken : List (List (List ℕ))} {a : Reader R} → IsAt rem text taken a → (b : Reader R) (fields : List (List ℕ))
    → ReadRecord rem a b false fields → taken ≡ records_of text
no_more rem {text} {taken} {a} is b fields s =
    AreRecords-records default_config (strip_bom text) taken (a.state, is.rest, is.reached, rows-end rem a b fields default_config is.rest is.config is.source s)

-- which is what a call tells that succeeds
pub has_read : {R : Type 0} (rem : R → Option (List ℕ)) (a b : Reader R) (found : Bool) (fields : List (List ℕ)) → (reader_trim a ≡ trim.None → Ready a → ReadRecord rem a b found fields)
    → (reader_trim a ≡ trim.None → took_first b ≡ true) → HasRead rem a found fields b
has_read rem a b true fields reads first = λ text taken is. one_more rem is b fields (reads is.trim is.ready) (first is.trim)
has_read rem a b false fields reads first = λ text taken is. no_more rem is b fields (reads is.trim is.ready)

-- why one fails
pub read_fault : (why : ErrorKind) (f : LoadFault) → f ≡ fault_of why → (f ≡ Csv) ⊎ (f ≡ Memory)
read_fault kind.OutOfMemory f is = inr is
read_fault (kind.Io e) f is = inl is
read_fault (kind.UnequalLengths pos expected len) f is = inl is
read_fault (kind.Utf8 pos why) f is = inl is
read_fault (kind.Serialize why) f is = inl is
read_fault (kind.Deserialize pos why) f is = inl is

-- there was a record, or there was none
pub read_one : {R : Type 0} (rem : R → Option (List ℕ)) (a b : Reader R) (found : Bool) (fields : List (List ℕ)) → HasRead rem a found fields b → found ≡ true → HasRead rem a true fields b
read_one rem a b found fields h e = subst (λ (found : Bool). HasRead rem a found fields b) e h

pub read_none : {R : Type 0} (rem : R → Option (List ℕ)) (a b : Reader R) (found : Bool) (fields : List (List ℕ)) → HasRead rem a found fields b → found ≡ false → HasRead rem a false fields b
read_none rem a b found fields h e = subst (λ (found : Bool). HasRead rem a found fields b) e h

pub at_next : {R : Type 0} {rem : R → Option (List ℕ)} {text : List ℕ} {taken : List (List (List ℕ))} {a : Reader R} → IsAt rem text taken a → (b : Reader R) (fields : List (List ℕ))
    → HasRead rem a true fields b → IsAt rem text (taken ++ fields ∷ []) b
at_next {text = text} {taken = taken} is b fields h = h text taken is

pub at_end : {R : Type 0} {rem : R → Option (List ℕ)} {text : List ℕ} {taken : List (List (List ℕ))} {a : Reader R} → IsAt rem text taken a → (b : Reader R) (fields : List (List ℕ))
    → HasRead rem a false fields b → taken ≡ records_of text
at_end {text = text} {taken = taken} is b fields h = h text taken is

-- the records that were read are the first of all
pub at_front : {R : Type 0} {rem : R → Option (List ℕ)} {text : List ℕ} {taken : List (List (List ℕ))} {a : Reader R} → IsAt rem text taken a
    → (rest : List (List (List ℕ))) × (taken ++ rest ≡ records_of text)
at_front {text = text} {taken = taken} {a = a} is = Reached-front default_config (strip_bom text) is.rest a.state taken is.reached

-- ---- records that were read one after the other

-- these records were given since the reader stood there
abbrev pub HasGiven : {R : Type 0} → (R → Option (List ℕ)) → Reader R → List (List (List ℕ)) → Reader R → Type 0
HasGiven rem from given rdr = (text : List ℕ) → (taken : List (List (List ℕ))) → IsAt rem text taken from → IsAt rem text (taken ++ given) rdr

pub given_none : {R : Type 0} (rem : R → Option (List ℕ)) (from : Reader R) → HasGiven rem from [] from
given_none rem from = λ text taken is. subst (λ (rs : List (List (List ℕ))). IsAt rem text rs from) (sym (append-nil taken)) is

module _ {R : Type 0} (rem : R → Option (List ℕ)) (from a : Reader R) (given : List (List (List ℕ))) (is : HasGiven rem from given a) where
  pub given_more : (b : Reader R) (r : List (List ℕ)) → HasRead rem a true r b → HasGiven rem from (given ++ r ∷ []) b
  given_more b r read = λ text taken at.
      subst (λ (rs : List (List (List ℕ))). IsAt rem text rs b) (append_assoc taken given (r ∷ [])) (read text (taken ++ given) (is text taken at))

  -- so they are the next ones, or all
  pub given_next : GivesNext rem from given
  given_next = λ text taken at. at_front (is text taken at)

  pub given_all : (b : Reader R) (r : List (List ℕ)) → HasRead rem a false r b → GivesAll rem from given
  given_all b r read = λ text taken at. read text (taken ++ given) (is text taken at)

-- with the header before them
module _ {R : Type 0} (rem : R → Option (List ℕ)) (from a : Reader R) (header : List (List ℕ)) (read : HasRead rem from true header a) (given : List (List (List ℕ))) where
  pub header_next : GivesNext rem a given → GivesNext rem from (header ∷ given)
  header_next next = λ text taken at.
      let more = next text (taken ++ header ∷ []) (read text taken at) in
      (more.0, ap (λ (rs : List (List (List ℕ))). rs ++ more.0) (sym (append_assoc taken (header ∷ []) given)) ∙ more.1)

  pub header_all : GivesAll rem a given → GivesAll rem from (header ∷ given)
  header_all all = λ text taken at. sym (append_assoc taken (header ∷ []) given) ∙ all text (taken ++ header ∷ []) (read text taken at)

-- a fresh reader with no header row, of a source that gives this text
pub at_start : {R : Type 0} (rem : R → Option (List ℕ)) (text : List ℕ) (fresh b : ReaderBuilder) (rdr : Reader R) (known : Option (List ℕ))
    → builder_config fresh ≡ default_config → builder_trim fresh ≡ trim.None → b ≡ with_names_headers fresh false
    → reader_config rdr ≡ builder_config b → names_headers rdr ≡ builder_names_headers b → reader_trim rdr ≡ builder_trim b → reader_headers rdr ≡ None → reader_state rdr ≡ st.StartRecord
    → source_of rem rdr ≡ option_map strip_bom known → known ≡ Some text → IsAt rem text [] rdr
unfolding Reached
at_start rem text fresh b rdr known config trimming is rconfig rnames rtrim rheaders rstate rsource told = record {
  trim = rw is at rtrim ∙ trimming;
  ready = inr (inr (rw is at rnames, rheaders));
  config = rw is at rconfig ∙ config;
  rest = strip_bom text;
  source = rsource ∙ ap (option_map strip_bom) told;
  reached = (sym rstate, refl);
}
