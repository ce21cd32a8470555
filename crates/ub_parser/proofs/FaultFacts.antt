-- Which fault of a statement is the first, by what its parts have told.
use Rattle.std.proofs.Common.{◌≡◌, ◌<◌, ℕ, zero, suc, List, [], ◌∷◌, ◌++◌, All, Some, slice_get, refl, arith}
use Rattle.ub_lexer.specs.declared.token.Token.{Token}
use Rattle.ub_lexer.specs.declared.token.TokenKind.TheVariants as kind
use Rattle.ub_syntax.specs.Grammar.{lexemes, IsStatement}
use Rattle.ub_syntax.specs.Limits.{past_limits_of}
use Rattle.ub_syntax.specs.Stop.{IsRefusedAt, IsTooDeepAt}
use Rattle.ub_syntax.specs.Tree.{Stated, selects, inserts, deletes}
use Rattle.ub_syntax.proofs.Laws.{deep_alone, deep_no_statement}
use Rattle.ub_parser.specs.Refusals.{IsFirst, IsTooLarge, IsStatedMisfit, IsFault, IsFirstFault, rank}
use Rattle.ub_parser.specs.declared.fault.SqlFault.{SqlFault}
use Rattle.ub_parser.specs.declared.fault.SqlFault.TheVariants.{BadByte, Syntax, NumberTooLarge, TooDeep, TooMany, UnknownTable, UnknownColumn, NotGrouped, NotSelected, ValueCount, ValueRange, Memory}
use Rattle.ub_table.specs.declared.schema.Schema.{Schema}

-- the first misfit of a statement
abbrev pub IsFirstStatedMisfit : List ℕ → Schema → Stated → SqlFault → Type 0
IsFirstStatedMisfit source schema s fault =
    IsStatedMisfit source schema s fault × ((other : SqlFault) → rank other < rank fault → ¬ IsStatedMisfit source schema s other)

-- where P holds of none, there is no first
no_first : {A : Type 0} (P : A → Type 0) (before after : List A) (x : A) → All (λ y. ¬ (P y)) (before ++ x ∷ after) → ¬ (P x)
no_first P [] after x h = h zero x (omega arith)
no_first P (y ∷ before) after x h = no_first P before after x (λ k d below. h (suc k) d (omega arith))

none_first : {A : Type 0} (P : A → Type 0) (xs : List A) (x : A) → All (λ y. ¬ (P y)) xs → ¬ (IsFirst P xs x)
none_first P xs x none is = no_first P is.0 is.1 x (rw is.2 at none) is.4

module _ (source : List ℕ) (schema : Schema) (tokens : List Token) where
  -- the fault is none of the first four kinds, or it is one of them and not there
  abbrev pub Holds : SqlFault → Type 0
  Holds fault = IsFault source schema tokens fault

  abbrev pub NoBad : Type 0
  NoBad = All (λ (t : Token). ¬ (t.kind ≡ kind.Bad)) tokens

  abbrev pub NoLarge : Type 0
  NoLarge = All (λ (t : Token). ¬ (IsTooLarge source t)) tokens

  abbrev pub NoSyntax : Type 0
  NoSyntax = (at : ℕ) → ¬ (IsRefusedAt 64 (lexemes source tokens) at)

  no_bad : NoBad → (at : ℕ) → ¬ (Holds (BadByte at))
  no_bad none at h = none_first (λ (t : Token). t.kind ≡ kind.Bad) tokens h.0 none h.1

  no_large : NoLarge → (at : ℕ) → ¬ (Holds (NumberTooLarge at))
  no_large none at h = none_first (λ (t : Token). IsTooLarge source t) tokens h.0 none h.1

  above_bad : (other : SqlFault) → rank other < 1 → ⊥
  above_bad (BadByte at) h = omega arith
  above_bad (Syntax at) h = omega arith
  above_bad (NumberTooLarge at) h = omega arith
  above_bad (TooDeep at) h = omega arith
  above_bad (TooMany at) h = omega arith
  above_bad (UnknownTable at) h = omega arith
  above_bad (UnknownColumn at) h = omega arith
  above_bad (NotGrouped at) h = omega arith
  above_bad (NotSelected at) h = omega arith
  above_bad (ValueCount at) h = omega arith
  above_bad (ValueRange at) h = omega arith
  above_bad Memory h = omega arith

  pub bad_first : (at : ℕ) → Holds (BadByte at) → IsFirstFault source schema tokens (BadByte at)
  bad_first at h = (h, λ other less. absurd (above_bad other less))

  above_syntax : NoBad → (other : SqlFault) → rank other < 2 → ¬ (Holds other)
  above_syntax none (BadByte at) h = no_bad none at
  above_syntax none (Syntax at) h = absurd (omega arith)
  above_syntax none (NumberTooLarge at) h = absurd (omega arith)
  above_syntax none (TooDeep at) h = absurd (omega arith)
  above_syntax none (TooMany at) h = absurd (omega arith)
  above_syntax none (UnknownTable at) h = absurd (omega arith)
  above_syntax none (UnknownColumn at) h = absurd (omega arith)
  above_syntax none (NotGrouped at) h = absurd (omega arith)
  above_syntax none (NotSelected at) h = absurd (omega arith)
  above_syntax none (ValueCount at) h = absurd (omega arith)
  above_syntax none (ValueRange at) h = absurd (omega arith)
  above_syntax none Memory h = absurd (omega arith)

  pub syntax_first : NoBad → (at : ℕ) → IsRefusedAt 64 (lexemes source tokens) at → IsFirstFault source schema tokens (Syntax at)
  syntax_first none at h = (h, above_syntax none)

  above_large : NoBad → NoSyntax → (other : SqlFault) → rank other < 3 → ¬ (Holds other)
  above_large none syntax (BadByte at) h = no_bad none at
  above_large none syntax (Syntax at) h = syntax at
  above_large none syntax (NumberTooLarge at) h = absurd (omega arith)
  above_large none syntax (TooDeep at) h = absurd (omega arith)
  above_large none syntax (TooMany at) h = absurd (omega arith)
  above_large none syntax (UnknownTable at) h = absurd (omega arith)
  above_large none syntax (UnknownColumn at) h = absurd (omega arith)
  above_large none syntax (NotGrouped at) h = absurd (omega arith)
  above_large none syntax (NotSelected at) h = absurd (omega arith)
  above_large none syntax (ValueCount at) h = absurd (omega arith)
  above_large none syntax (ValueRange at) h = absurd (omega arith)
  above_large none syntax Memory h = absurd (omega arith)

  pub large_first : NoBad → NoSyntax → (at : ℕ) → Holds (NumberTooLarge at) → IsFirstFault source schema tokens (NumberTooLarge at)
  large_first none syntax at h = (h, above_large none syntax)

  above_deep : NoBad → NoSyntax → NoLarge → (other : SqlFault) → rank other < 4 → ¬ (Holds other)
  above_deep none syntax large (BadByte at) h = no_bad none at
  above_deep none syntax large (Syntax at) h = syntax at
  above_deep none syntax large (NumberTooLarge at) h = no_large large at
  above_deep none syntax large (TooDeep at) h = absurd (omega arith)
  above_deep none syntax large (TooMany at) h = absurd (omega arith)
  above_deep none syntax large (UnknownTable at) h = absurd (omega arith)
  above_deep none syntax large (UnknownColumn at) h = absurd (omega arith)
  above_deep none syntax large (NotGrouped at) h = absurd (omega arith)
  above_deep none syntax large (NotSelected at) h = absurd (omega arith)
  above_deep none syntax large (ValueCount at) h = absurd (omega arith)
  above_deep none syntax large (ValueRange at) h = absurd (omega arith)
  above_deep none syntax large Memory h = absurd (omega arith)

  pub no_syntax_if_deep : (at : ℕ) → IsTooDeepAt 64 (lexemes source tokens) at → NoSyntax
  no_syntax_if_deep at deep = λ other is. deep_alone 64 (lexemes source tokens) at other deep is

  pub no_syntax_if_statement : (s : Stated) → IsStatement 64 (lexemes source tokens) s → NoSyntax
  no_syntax_if_statement s is = λ at refused. refused.0 s is

  pub deep_first : NoBad → NoLarge → (at : ℕ) → IsTooDeepAt 64 (lexemes source tokens) at → IsFirstFault source schema tokens (TooDeep at)
  deep_first none large at h = (h, above_deep none (no_syntax_if_deep at h) large)

  above_many : NoBad → NoSyntax → NoLarge → ((at : ℕ) → ¬ (Holds (TooDeep at))) → (other : SqlFault) → rank other < 5 → ¬ (Holds other)
  above_many none syntax large deep (BadByte at) h = no_bad none at
  above_many none syntax large deep (Syntax at) h = syntax at
  above_many none syntax large deep (NumberTooLarge at) h = no_large large at
  above_many none syntax large deep (TooDeep at) h = deep at
  above_many none syntax large deep (TooMany at) h = absurd (omega arith)
  above_many none syntax large deep (UnknownTable at) h = absurd (omega arith)
  above_many none syntax large deep (UnknownColumn at) h = absurd (omega arith)
  above_many none syntax large deep (NotGrouped at) h = absurd (omega arith)
  above_many none syntax large deep (NotSelected at) h = absurd (omega arith)
  above_many none syntax large deep (ValueCount at) h = absurd (omega arith)
  above_many none syntax large deep (ValueRange at) h = absurd (omega arith)
  above_many none syntax large deep Memory h = absurd (omega arith)

  -- a token past the limits is a misfit
  past_misfit : (s : Stated) (t : Token) → slice_get (past_limits_of s) 0 ≡ Some t → IsStatedMisfit source schema s (TooMany t.from)
  past_misfit (selects s) t past = (t, past, refl)
  past_misfit (inserts i) t past = cc
  past_misfit (deletes s) t past = (t, past, refl)

  -- and a misfit is none of the first four kinds, nor want of memory
  abbrev Never : SqlFault → Type 0
  Never fault = (s : Stated) → ¬ (IsStatedMisfit source schema s fault)

  never_bad : (at : ℕ) → Never (BadByte at)
  never_bad at (selects s) h = h
  never_bad at (inserts i) h = h
  never_bad at (deletes s) h = h

  never_syntax : (at : ℕ) → Never (Syntax at)
  never_syntax at (selects s) h = h
  never_syntax at (inserts i) h = h
  never_syntax at (deletes s) h = h

  never_large : (at : ℕ) → Never (NumberTooLarge at)
  never_large at (selects s) h = h
  never_large at (inserts i) h = h
  never_large at (deletes s) h = h

  never_deep : (at : ℕ) → Never (TooDeep at)
  never_deep at (selects s) h = h
  never_deep at (inserts i) h = h
  never_deep at (deletes s) h = h

  never_memory : Never Memory
  never_memory (selects s) h = h
  never_memory (inserts i) h = h
  never_memory (deletes s) h = h

  pub many_first : NoBad → NoLarge → (s : Stated) → IsStatement 64 (lexemes source tokens) s → (t : Token) → slice_get (past_limits_of s) 0 ≡ Some t
      → IsFirstFault source schema tokens (TooMany t.from)
  many_first none large s is t past = (
    (s, is, past_misfit s t past),
    above_many none (no_syntax_if_statement s is) large (λ at deep. deep_no_statement 64 (lexemes source tokens) at s deep is),
  )

  -- of a statement whose only syntax is this one: a fault is a misfit of that
  fault_fits : (s : Stated) → NoBad → NoLarge → IsStatement 64 (lexemes source tokens) s → ((t : Stated) → IsStatement 64 (lexemes source tokens) t → s ≡ t)
      → (fault : SqlFault) → Holds fault → IsStatedMisfit source schema s fault
  fault_fits s none large is only (BadByte at) h = absurd (no_bad none at h)
  fault_fits s none large is only (Syntax at) h = absurd (h.0 s is)
  fault_fits s none large is only (NumberTooLarge at) h = absurd (no_large large at h)
  fault_fits s none large is only (TooDeep at) h = absurd (deep_no_statement 64 (lexemes source tokens) at s h is)
  fault_fits s none large is only (TooMany at) h = let same = only h.0 h.1 in rw same h.2
  fault_fits s none large is only (UnknownTable at) h = let same = only h.0 h.1 in rw same h.2
  fault_fits s none large is only (UnknownColumn at) h = let same = only h.0 h.1 in rw same h.2
  fault_fits s none large is only (NotGrouped at) h = let same = only h.0 h.1 in rw same h.2
  fault_fits s none large is only (NotSelected at) h = let same = only h.0 h.1 in rw same h.2
  fault_fits s none large is only (ValueCount at) h = let same = only h.0 h.1 in rw same h.2
  fault_fits s none large is only (ValueRange at) h = let same = only h.0 h.1 in rw same h.2
  fault_fits s none large is only Memory h = absurd (never_memory h.0 h.2)

  pub fits : (s : Stated) → NoBad → NoLarge → IsStatement 64 (lexemes source tokens) s → ((t : Stated) → IsStatement 64 (lexemes source tokens) t → s ≡ t)
      → ((fault : SqlFault) → ¬ (IsStatedMisfit source schema s fault)) → (fault : SqlFault) → ¬ (Holds fault)
  fits s none large is only misfits fault h = misfits fault (fault_fits s none large is only fault h)

  -- a misfit is a fault
  misfit_holds : (s : Stated) → IsStatement 64 (lexemes source tokens) s → (fault : SqlFault) → IsStatedMisfit source schema s fault → Holds fault
  misfit_holds s is (BadByte at) h = absurd (never_bad at s h)
  misfit_holds s is (Syntax at) h = absurd (never_syntax at s h)
  misfit_holds s is (NumberTooLarge at) h = absurd (never_large at s h)
  misfit_holds s is (TooDeep at) h = absurd (never_deep at s h)
  misfit_holds s is (TooMany at) h = (s, is, h)
  misfit_holds s is (UnknownTable at) h = (s, is, h)
  misfit_holds s is (UnknownColumn at) h = (s, is, h)
  misfit_holds s is (NotGrouped at) h = (s, is, h)
  misfit_holds s is (NotSelected at) h = (s, is, h)
  misfit_holds s is (ValueCount at) h = (s, is, h)
  misfit_holds s is (ValueRange at) h = (s, is, h)
  misfit_holds s is Memory h = absurd (never_memory s h)

  pub misfit_first : (s : Stated) → NoBad → NoLarge → IsStatement 64 (lexemes source tokens) s → ((t : Stated) → IsStatement 64 (lexemes source tokens) t → s ≡ t)
      → (fault : SqlFault) → IsFirstStatedMisfit source schema s fault → IsFirstFault source schema tokens fault
  misfit_first s none large is only fault h =
      (misfit_holds s is fault h.0, λ other less holds. h.1 other less (fault_fits s none large is only other holds))
