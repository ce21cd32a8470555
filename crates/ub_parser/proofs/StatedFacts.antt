-- What a statement that is built says, and that it may be given to a table.
use Rattle.std.proofs.Common.{◌≡◌, ◌⊎◌, ◌≤◌, ℕ, List, length, Contains, sym, ap, subst, ◌∙◌, inl, inr, Result, Ok, Err}
use Rattle.std.specs.List.{All}
use Rattle.std.specs.Result.{IsErrAnd, IfErr, MatchResult}
use Rattle.ub_lexer.specs.Tokens.{text_of, AreSpelled}
use Rattle.ub_lexer.specs.declared.token.Token.{Token}
use Rattle.ub_query.specs.Posed.{IsPosed}
use Rattle.ub_query.specs.Shape.{Asked}
use Rattle.ub_syntax.specs.Grammar.{lexemes, IsOptional, IsFilter, IsSelect, IsInsert, IsDelete, IsStatement}
use Rattle.ub_syntax.specs.Tree.{Select, rows_of, Stated, selects, inserts, deletes, select_of, stated_of}
use Rattle.ub_syntax.specs.declared.syntax.Insertion.{Insertion}
use Rattle.ub_syntax.specs.declared.syntax.Sentence.{Sentence}
use Rattle.ub_syntax.specs.declared.syntax.Sentence.TheVariants as sentence
use Rattle.ub_syntax.specs.declared.syntax.Syntax.{Syntax}
use Rattle.ub_parser.specs.Known.{IsAskedOver}
use Rattle.ub_parser.specs.Outcome.{Command, command_of, IsAccepted, IsOfRows}
use Rattle.ub_parser.specs.Refusals.{IsFirstFault, IsMisfit, IsStatedMisfit, names}
use Rattle.ub_parser.specs.Sense.{items_of, sense_of}
use Rattle.ub_parser.specs.Spans.{IsWithin, IsNumber, AreWritten, IsInsertWritten}
use Rattle.ub_parser.specs.declared.fault.SqlFault.{SqlFault}
use Rattle.ub_parser.specs.declared.fault.SqlFault.TheVariants.{Memory}
use Rattle.ub_parser.proofs.Among.{select_good, delete_good, insert_good}
use Rattle.ub_parser.proofs.FaultFacts.{IsFirstStatedMisfit, NoBad, NoLarge, fits, misfit_first}
use Rattle.ub_parser.proofs.GoodTokens.{are_good}
use Rattle.ub_parser.proofs.KnownFacts.{are_columns, known_filter, known_limit}
use Rattle.ub_parser.proofs.ParseFacts.{nothing_accepted, only_misfit}
use Rattle.ub_parser.proofs.PosedFacts.{posed, some_listed, some_columns}
use Rattle.ub_table.specs.declared.schema.Schema.{Schema}

module _ (source : List ℕ) (schema : Schema) (tokens : List Token) (spelled : AreSpelled source tokens) (large : NoLarge source schema tokens) where
  -- the names and numbers of a syntax of the tokens
  pub select_written : (s : Select) → IsSelect 64 (lexemes source tokens) s → AreWritten source s
  select_written s is =
      let good = select_good (IsWithin source) (IsNumber source) 64 (lexemes source tokens) s is (are_good source tokens spelled large) in
      record { names_are = good.0; numbers_are = good.1 }

  pub select_table : (s : Select) → IsSelect 64 (lexemes source tokens) s → IsWithin source s.table
  select_table s is = (select_good (IsWithin source) (IsNumber source) 64 (lexemes source tokens) s is (are_good source tokens spelled large)).2

  pub delete_written : (s : Select) → IsDelete 64 (lexemes source tokens) s → AreWritten source s
  delete_written s is =
      let good = delete_good (IsWithin source) (IsNumber source) 64 (lexemes source tokens) s is (are_good source tokens spelled large) in
      record { names_are = good.0; numbers_are = good.1 }

  pub delete_table : (s : Select) → IsDelete 64 (lexemes source tokens) s → IsWithin source s.table
  delete_table s is = (delete_good (IsWithin source) (IsNumber source) 64 (lexemes source tokens) s is (are_good source tokens spelled large)).2

  pub insert_written : (i : Insertion) → IsInsert (lexemes source tokens) i → IsInsertWritten source i
  insert_written i is =
      let good = insert_good (IsWithin source) (IsNumber source) (lexemes source tokens) i is (are_good source tokens spelled large) in
      record { table_is = good.0; numbers_are = good.1 }

  -- what is asked may be posed
  module _ (s : Select) (fits : (fault : SqlFault) → ¬ IsMisfit source schema s fault) (known : All (λ name. Contains schema.columns (text_of source name)) (names s)) (x : Asked)
      (is_asked : x ≡ sense_of source schema s) (over : IsAskedOver (length schema.columns) x) where
    pub select_posed : IsSelect 64 (lexemes source tokens) s → IsPosed (length schema.columns) x
    select_posed is =
        let written = select_written s is in
        let filter = known_filter source schema s written (are_columns source schema s written known) in
        let all = subst (λ (q : Asked). IsAskedOver (length schema.columns) q) is_asked over in
        subst (λ (q : Asked). IsPosed (length schema.columns) q) (sym is_asked)
        (posed source schema s fits is.filter is.filter_is (some_listed source schema s fits is.items s.selection is.items_are) filter (known_limit source schema s written) all)

    pub delete_posed : IsDelete 64 (lexemes source tokens) s → IsPosed (length schema.columns) x
    delete_posed is =
        let written = delete_written s is in
        let filter = known_filter source schema s written (are_columns source schema s written known) in
        let all = subst (λ (q : Asked). IsAskedOver (length schema.columns) q) is_asked over in
        let some : 1 ≤ length (items_of source schema s.selection) = rw is.rows (some_columns source schema s fits is.word) in
        subst (λ (q : Asked). IsPosed (length schema.columns) q) (sym is_asked)
        (posed source schema s fits is.filter (subst (λ (r : Select). IsOptional (IsFilter 64) is.filter r.filter) (sym is.rows) is.filter_is) some filter
        (known_limit source schema s written) all)

    pub delete_rows : IsDelete 64 (lexemes source tokens) s → IsOfRows schema x
    delete_rows is =
        let same : x ≡ sense_of source schema (rows_of is.word is.table is.condition) = is_asked ∙ ap (λ (r : Select). sense_of source schema r) is.rows in
        record {
          items = ap (λ (q : Asked). q.items) same;
          group = ap (λ (q : Asked). q.group) same;
          order = ap (λ (q : Asked). q.order) same;
          limit = ap (λ (q : Asked). q.limit) same;
        }

-- the statement that is built of tokens that are one
module _ (source : List ℕ) (schema : Schema) (tokens : List Token) (t : Sentence) (one : (s : Stated) → IsStatement 64 (lexemes source tokens) s → stated_of t ≡ s)
    (some : (s : Stated) × IsStatement 64 (lexemes source tokens) s) where
  pub built_select : (y : Syntax) → t ≡ sentence.Select y → IsStatement 64 (lexemes source tokens) (selects (select_of y))
  built_select y e = subst (λ (s : Stated). IsStatement 64 (lexemes source tokens) s) (sym (one some.0 some.1) ∙ ap stated_of e) some.1

  pub built_insert : (i : Insertion) → t ≡ sentence.Insert i → IsStatement 64 (lexemes source tokens) (inserts i)
  built_insert i e = subst (λ (s : Stated). IsStatement 64 (lexemes source tokens) s) (sym (one some.0 some.1) ∙ ap stated_of e) some.1

  pub built_delete : (y : Syntax) → t ≡ sentence.Delete y → IsStatement 64 (lexemes source tokens) (deletes (select_of y))
  built_delete y e = subst (λ (s : Stated). IsStatement 64 (lexemes source tokens) s) (sym (one some.0 some.1) ∙ ap stated_of e) some.1

  -- and there is no other
  pub built_one : (u : Sentence) → t ≡ u → (s : Stated) → IsStatement 64 (lexemes source tokens) s → stated_of u ≡ s
  built_one u e s is = sym (ap stated_of e) ∙ one s is

-- of tokens with one syntax: what its misfits tell
module _ (source : List ℕ) (schema : Schema) (tokens : List Token) (bytes : NoBad source schema tokens) (large : NoLarge source schema tokens) (s : Stated)
    (is : IsStatement 64 (lexemes source tokens) s) (one : (t : Stated) → IsStatement 64 (lexemes source tokens) t → s ≡ t) where
  first_fault : (fault : SqlFault) → IsFirstStatedMisfit source schema s fault → IsFirstFault source schema tokens fault
  first_fault fault h = misfit_first source schema tokens s bytes large is one fault h

  -- it is refused for want of memory, or for its first misfit
  pub refused_first : (fault : SqlFault) → (fault ≡ Memory) ⊎ IsFirstStatedMisfit source schema s fault → (fault ≡ Memory) ⊎ IsFirstFault source schema tokens fault
  refused_first fault (inl memory) = inl memory
  refused_first fault (inr first) = inr (first_fault fault first)

  pub refused_only : (fault : SqlFault) → (fault ≡ Memory) ⊎ IsFirstStatedMisfit source schema s fault → (c : Command) → IsAccepted source schema tokens c → fault ≡ Memory
  refused_only fault (inl memory) c accepted = memory
  refused_only fault (inr first) c accepted = nothing_accepted source schema tokens fault (first_fault fault first) c accepted

  pub refused_one : (fault : SqlFault) → (fault ≡ Memory) ⊎ IsFirstStatedMisfit source schema s fault → (f : SqlFault) → IsFirstFault source schema tokens f
      → (fault ≡ Memory) ⊎ (fault ≡ f)
  refused_one fault (inl memory) f other = inl memory
  refused_one fault (inr first) f other = only_misfit source schema tokens s one fault (first_fault fault first) f other

  -- it is accepted where it has none
  pub accepted_so : ((fault : SqlFault) → ¬ IsStatedMisfit source schema s fault) → (c : Command) → c ≡ command_of source schema s → IsAccepted source schema tokens c
  accepted_so none c says = record { syntax = s; is = is; fits = fits source schema tokens s bytes large is one none; says = says }

-- where memory was refused nothing else is told
pub only_memory : {T : Type 0} (r : Result T SqlFault) (P : T → Type 0) → IsErrAnd r (λ x. x ≡ Memory) → MatchResult r P (λ fault. fault ≡ Memory)
only_memory (Ok x) P h = absurd h
only_memory (Err e) P h = h

pub memory_or : {T : Type 0} (r : Result T SqlFault) (Q : SqlFault → Type 0) → IsErrAnd r (λ x. x ≡ Memory) → IfErr r (λ fault. (fault ≡ Memory) ⊎ Q fault)
memory_or (Ok x) Q h = tt
memory_or (Err e) Q h = inl h
