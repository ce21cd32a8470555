-- What `parse` is told by its parts.
use Rattle.std.proofs.Common.{◌≡◌, ◌<◌, ◌⊎◌, ℕ, List, [], ◌∷◌, Option, Some, None, slice_get, refl, sym, arith, ◌∙◌, inr}
use Rattle.ub_lexer.specs.declared.token.Token.{Token}
use Rattle.ub_lexer.specs.declared.token.TokenKind.TheVariants as kind
use Rattle.ub_syntax.specs.Grammar.{lexemes, IsStatement}
use Rattle.ub_syntax.specs.Limits.{past_limits_of}
use Rattle.ub_syntax.specs.Tree.{Stated}
use Rattle.ub_syntax.specs.Verdicts.{IsVerdict}
use Rattle.ub_syntax.specs.declared.recogniser.Verdict.{Verdict}
use Rattle.ub_syntax.specs.declared.recogniser.Verdict.TheVariants as verdict
use Rattle.ub_parser.specs.Firsts.{IsRefusalAtFirst}
use Rattle.ub_parser.specs.Outcome.{Command, IsAccepted}
use Rattle.ub_parser.specs.Refusals.{IsTooLarge, IsFirstFault, rank}
use Rattle.ub_parser.specs.declared.fault.SqlFault.{SqlFault}
use Rattle.ub_parser.specs.declared.fault.SqlFault.TheVariants.{BadByte, NumberTooLarge, TooMany, Memory}
use Rattle.ub_parser.proofs.FaultFacts.{NoBad, NoLarge, NoSyntax, no_syntax_if_deep, no_syntax_if_statement, bad_first, large_first, many_first}
use Rattle.ub_parser.proofs.OneFault.{one_fault, one_many, one_misfit}
use Rattle.ub_table.specs.declared.schema.Schema.{Schema}

module _ (source : List ℕ) (schema : Schema) (tokens : List Token) where
  -- a first fault leaves nothing that is accepted
  pub nothing_accepted : (fault : SqlFault) → IsFirstFault source schema tokens fault → (c : Command) → IsAccepted source schema tokens c → fault ≡ Memory
  nothing_accepted fault first c is = absurd (is.fits fault first.0)

  pub no_bad_told : (result : Option SqlFault) → result ≡ None → IsRefusalAtFirst (λ t. t.kind ≡ kind.Bad) (λ at. BadByte at) tokens result → NoBad source schema tokens
  no_bad_told result e is = rw e at is

  pub bad_told : (result : Option SqlFault) (fault : SqlFault) → result ≡ Some fault → IsRefusalAtFirst (λ t. t.kind ≡ kind.Bad) (λ at. BadByte at) tokens result
      → IsFirstFault source schema tokens fault
  bad_told result fault e is = let h = rw e at is in rw h.2 (bad_first source schema tokens h.0.from (h.0, h.1, refl))

  pub no_large_told : (result : Option SqlFault) → result ≡ None → IsRefusalAtFirst (λ t. IsTooLarge source t) (λ at. NumberTooLarge at) tokens result → NoLarge source schema tokens
  no_large_told result e is = rw e at is

  pub large_told : (result : Option SqlFault) (fault : SqlFault) → NoBad source schema tokens → NoSyntax source schema tokens → result ≡ Some fault
      → IsRefusalAtFirst (λ t. IsTooLarge source t) (λ at. NumberTooLarge at) tokens result → IsFirstFault source schema tokens fault
  large_told result fault none syntax e is = let h = rw e at is in rw h.2 (large_first source schema tokens none syntax h.0.from (h.0, h.1, refl))

  pub bad_low : (result : Option SqlFault) (fault : SqlFault) → result ≡ Some fault → IsRefusalAtFirst (λ t. t.kind ≡ kind.Bad) (λ at. BadByte at) tokens result → rank fault < 5
  bad_low result fault e is = let h = rw e at is in rw h.2 (omega arith)

  pub large_low : (result : Option SqlFault) (fault : SqlFault) → result ≡ Some fault → IsRefusalAtFirst (λ t. IsTooLarge source t) (λ at. NumberTooLarge at) tokens result
      → rank fault < 5
  large_low result fault e is = let h = rw e at is in rw h.2 (omega arith)

  -- a verdict that isn't Syntax
  pub no_syntax_told : (v : Verdict) → IsVerdict 64 (lexemes source tokens) v → ((at : ℕ) → v ≡ verdict.Syntax at → ⊥) → NoSyntax source schema tokens
  no_syntax_told verdict.Statement is other = no_syntax_if_statement source schema tokens is.0 is.1
  no_syntax_told (verdict.Syntax at) is other = absurd (other at refl)
  no_syntax_told (verdict.TooDeep at) is other = no_syntax_if_deep source schema tokens at is

  -- a verdict that is neither
  pub statement_told : (v : Verdict) → IsVerdict 64 (lexemes source tokens) v → ((at : ℕ) → v ≡ verdict.Syntax at → ⊥) → ((at : ℕ) → v ≡ verdict.TooDeep at → ⊥)
      → (s : Stated) × IsStatement 64 (lexemes source tokens) s
  statement_told verdict.Statement is other deep = is
  statement_told (verdict.Syntax at) is other deep = absurd (other at refl)
  statement_told (verdict.TooDeep at) is other deep = absurd (deep at refl)

  -- the first token past the limits, of each syntax
  abbrev pub IsPast : Option Token → Type 0
  IsPast o = (s : Stated) → IsStatement 64 (lexemes source tokens) s → o ≡ slice_get (past_limits_of s) 0

  none_past : (ts : List Token) → ◌≡◌ {A = Option Token} None (slice_get ts 0) → ts ≡ []
  none_past [] e = refl
  none_past (t ∷ ts) e = cc

  pub few_told : (o : Option Token) → IsPast o → o ≡ None → (s : Stated) → IsStatement 64 (lexemes source tokens) s → past_limits_of s ≡ []
  few_told o past none s is = none_past (past_limits_of s) (sym none ∙ past s is)

  pub many_told : (o : Option Token) (t : Token) → NoBad source schema tokens → NoLarge source schema tokens → ((s : Stated) × IsStatement 64 (lexemes source tokens) s) → IsPast o → o ≡ Some t
      → IsFirstFault source schema tokens (TooMany t.from)
  many_told o t none large is past some = many_first source schema tokens none large is.0 is.1 t (sym (past is.0 is.1) ∙ some)

  -- the first fault, and no other
  pub only_grammar : (fault : SqlFault) → rank fault < 5 → IsFirstFault source schema tokens fault → (f : SqlFault) → IsFirstFault source schema tokens f → (fault ≡ Memory) ⊎ (fault ≡ f)
  only_grammar fault low first f other = inr (one_fault source schema tokens fault f (λ high. absurd (omega arith)) first other)

  pub only_many : (o : Option Token) (at : ℕ) → IsPast o → IsFirstFault source schema tokens (TooMany at) → (f : SqlFault) → IsFirstFault source schema tokens f
      → (TooMany at ≡ Memory) ⊎ (TooMany at ≡ f)
  only_many o at past first f other = inr (one_fault source schema tokens (TooMany at) f (one_many source schema tokens o past) first other)

  pub only_misfit : (s : Stated) → ((t : Stated) → IsStatement 64 (lexemes source tokens) t → s ≡ t) → (fault : SqlFault) → IsFirstFault source schema tokens fault
      → (f : SqlFault) → IsFirstFault source schema tokens f → (fault ≡ Memory) ⊎ (fault ≡ f)
  only_misfit s only fault first f other = inr (one_fault source schema tokens fault f (one_misfit source schema tokens s only fault) first other)
