-- The five misfits of a SELECT, and which of them is the first.
use Rattle.std.proofs.Common.{◌≡◌, ◌≢◌, ◌↔◌, ◌<◌, ℕ, Bool, false, IsTrue, List, [], Option, Some, None, slice_get, Contains, refl, sym, ap, ◌∙◌, arith}
use Rattle.std.specs.List.{All, position_from}
use Rattle.std.specs.Str.{bytes_eq}
use Rattle.std.proofs.lemmas.List.Elements.{All-weaker}
use Rattle.ub_lexer.specs.Tokens.{text_of}
use Rattle.ub_lexer.specs.declared.token.Token.{Token}
use Rattle.ub_syntax.specs.Tree.{Select}
use Rattle.ub_syntax.specs.declared.syntax.Item.{Item}
use Rattle.ub_parser.specs.Known.{IsNamed, IsUnknown}
use Rattle.ub_syntax.specs.Limits.{first_token, key_items, past_limits}
use Rattle.ub_parser.specs.Refusals.{IsFirst, IsFirstMisfit, IsGrouping, IsMisfit, IsNotGrouped, IsUnselected, names, rank}
use Rattle.ub_parser.specs.declared.fault.SqlFault.{SqlFault}
use Rattle.ub_parser.specs.declared.fault.SqlFault.TheVariants.{BadByte, Syntax, NumberTooLarge, TooDeep, TooMany, UnknownTable, UnknownColumn, NotGrouped, NotSelected, ValueCount, ValueRange, Memory}
use Rattle.ub_parser.proofs.FirstFacts.{fails}
use Rattle.ub_parser.proofs.GroupFacts.{no_first}
use Rattle.ub_parser.proofs.PlaceFacts.{found}
use Rattle.ub_table.specs.declared.schema.Schema.{Schema}

-- whether a text is among some names is decided
pub stable_at : (text : List ℕ) (columns : List (List ℕ)) (r : Option ℕ) → r ≡ position_from (λ name. bytes_eq name text) 0 columns → ¬ (¬ Contains columns text) → Contains columns text
stable_at text columns None is h = absurd (h (found text columns None is))
stable_at text columns (Some place) is h = (found text columns (Some place) is).2

module _ (source : List ℕ) (schema : Schema) (s : Select) where
  pub all_known : All (λ t. ¬ IsUnknown source schema t) (names s) → All (λ name. Contains schema.columns (text_of source name)) (names s)
  all_known h =
      All-weaker (λ (t : Token). ¬ IsUnknown source schema t) (λ (t : Token). Contains schema.columns (text_of source t))
      (λ t known. stable_at (text_of source t) schema.columns (position_from (λ name. bytes_eq name (text_of source t)) 0 schema.columns) refl known) (names s) h

  -- there is none of each kind
  pub No : (ℕ → SqlFault) → Type 0
  No kind = (at : ℕ) → ¬ IsMisfit source schema s (kind at)

  -- nor any below a rank, where there is none of the kinds below it
  pub below : (n : ℕ) → (5 < n → No (λ at. TooMany at)) → (6 < n → No (λ at. UnknownTable at)) → (7 < n → No (λ at. UnknownColumn at)) → (8 < n → No (λ at. NotGrouped at))
      → (9 < n → No (λ at. NotSelected at)) → (other : SqlFault) → rank other < n → ¬ IsMisfit source schema s other
  unfolding No
  below n many table column grouped selected (BadByte at) lt h = h
  below n many table column grouped selected (Syntax at) lt h = h
  below n many table column grouped selected (NumberTooLarge at) lt h = h
  below n many table column grouped selected (TooDeep at) lt h = h
  below n many table column grouped selected (TooMany at) lt h = many lt at h
  below n many table column grouped selected (UnknownTable at) lt h = table lt at h
  below n many table column grouped selected (UnknownColumn at) lt h = column lt at h
  below n many table column grouped selected (NotGrouped at) lt h = grouped lt at h
  below n many table column grouped selected (NotSelected at) lt h = selected lt at h
  below n many table column grouped selected (ValueCount at) lt h = h
  below n many table column grouped selected (ValueRange at) lt h = h
  below n many table column grouped selected Memory lt h = h

  pub no_many : past_limits s ≡ [] → No (λ at. TooMany at)
  unfolding No
  no_many few at (t, e, same) = let clash : ◌≡◌ {A = Option Token} None (Some t) = ap (λ (ts : List Token). slice_get ts 0) (sym few) ∙ e in cc

  pub no_table : (r : Bool) → (IsTrue r ↔ (text_of source s.table ≢ schema.name)) → r ≡ false → No (λ at. UnknownTable at)
  unfolding No
  no_table r tells is at h = fails r (text_of source s.table ≢ schema.name) tells is h.0

  pub no_column : All (λ t. ¬ IsUnknown source schema t) (names s) → No (λ at. UnknownColumn at)
  unfolding No
  no_column none at h = no_first (λ (t : Token). IsUnknown source schema t) (names s) h.0 none h.1

  pub no_grouped : ((t : Token) → IsGrouping s → ¬ IsNotGrouped source s s.selection t) → No (λ at. NotGrouped at)
  unfolding No
  no_grouped none at h = none h.1 h.0 h.2

  pub no_selected : All (λ key. ¬ IsUnselected source schema s key) (key_items s.order) → No (λ at. NotSelected at)
  unfolding No
  no_selected none at h = no_first (λ (key : Item). IsUnselected source schema s key) (key_items s.order) h.0 none h.1

  -- the names are known where there is no misfit of the first three kinds
  pub named : No (λ at. TooMany at) → No (λ at. UnknownTable at) → No (λ at. UnknownColumn at) → IsNamed source schema s
  named many table column =
      below 8 (λ lt. many) (λ lt. table) (λ lt. column) (λ lt. absurd (omega arith)) (λ lt. absurd (omega arith))

  -- and below a rank there is none where the names are known and there is none of the other two kinds
  beyond : (n : ℕ) → IsNamed source schema s → (8 < n → No (λ at. NotGrouped at)) → (9 < n → No (λ at. NotSelected at)) → (other : SqlFault) → rank other < n
      → ¬ IsMisfit source schema s other
  unfolding No
  beyond n known grouped selected = below n (λ lt at. known (TooMany at) (omega arith)) (λ lt at. known (UnknownTable at) (omega arith)) (λ lt at. known (UnknownColumn at) (omega arith)) grouped selected

  -- each kind of misfit is the first where there is none of those before it
  pub first_grouped : IsNamed source schema s → (t : Token) → IsGrouping s → IsNotGrouped source s s.selection t
      → IsFirstMisfit source schema s (NotGrouped t.from)
  first_grouped known t grouping h = ((grouping, t, h, refl), known)

  pub first_selected : IsNamed source schema s → No (λ at. NotGrouped at) → (key : Item) (at : ℕ)
      → IsFirst (λ key. IsUnselected source schema s key) (key_items s.order) key → at ≡ (first_token key).from → IsFirstMisfit source schema s (NotSelected at)
  first_selected known grouped key at first same =
      ((key, first, same), beyond 9 known (λ lt. grouped) (λ lt. absurd (omega arith)))

  rank_small : (fault : SqlFault) → rank fault < 13
  rank_small (BadByte at) = omega arith
  rank_small (Syntax at) = omega arith
  rank_small (NumberTooLarge at) = omega arith
  rank_small (TooDeep at) = omega arith
  rank_small (TooMany at) = omega arith
  rank_small (UnknownTable at) = omega arith
  rank_small (UnknownColumn at) = omega arith
  rank_small (NotGrouped at) = omega arith
  rank_small (NotSelected at) = omega arith
  rank_small (ValueCount at) = omega arith
  rank_small (ValueRange at) = omega arith
  rank_small Memory = omega arith

  pub no_misfit : IsNamed source schema s → No (λ at. NotGrouped at) → No (λ at. NotSelected at) → (fault : SqlFault) → ¬ IsMisfit source schema s fault
  no_misfit known grouped selected fault = beyond 13 known (λ lt. grouped) (λ lt. selected) fault (rank_small fault)
