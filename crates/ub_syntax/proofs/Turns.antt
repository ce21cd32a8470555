-- What the grammar's parts say of a symbol that is none of those which they name.
use Rattle.std.proofs.Common.{◌≡◌, ◌≢◌, ◌⊎◌, ℕ, true, Result, Ok, Err, refl, ap, inl, inr}
use Rattle.std.specs.Result.{IsErrAnd}
use Rattle.ub_query.specs.declared.condition.Operator.TheVariants as operator
use Rattle.ub_query.specs.declared.query.Aggregate.TheVariants as aggregate
use Rattle.ub_syntax.specs.Machine.{after_direction, after_key, after_operand, after_table, and_then, group, item, items, turn_to}
use Rattle.ub_syntax.specs.contracts.symbol.SymbolPartialEq.TheImpl.{eq-value}
use Rattle.ub_syntax.specs.declared.machine.Refusal.{Refusal}
use Rattle.ub_syntax.specs.declared.machine.Rest.TheVariants as rest
use Rattle.ub_syntax.specs.declared.machine.Row.TheVariants.{Nothing}
use Rattle.ub_syntax.specs.declared.machine.Turn.{Turn}
use Rattle.ub_syntax.specs.declared.symbol.Symbol.{Symbol}
use Rattle.ub_syntax.specs.declared.symbol.Symbol.TheVariants as symbol

pub other_items : (s : Symbol) → s ≢ symbol.Star → items s ≡ and_then (item s) (λ row. turn_to row rest.AfterItem)
other_items symbol.Star h = absurd (h refl)
other_items _ h = refl

-- an item that is refused is refused as the turn
pub refused_turn : (r : Result Turn Refusal) (f : Refusal) → IsErrAnd r (λ e. e ≡ f) → r ≡ Err f
refused_turn (Ok t) f h = absurd h
refused_turn (Err e) f h = ap (λ (g : Refusal). let r : Result Turn Refusal = Err g in r) h

pub other_after_table : (n : ℕ) (s : Symbol) → s ≢ symbol.Where → after_table n s ≡ group s
other_after_table n symbol.Where h = absurd (h refl)
other_after_table n _ h = refl

pub other_after_operand : (n : ℕ) (s : Symbol) → s ≢ symbol.And → s ≢ symbol.Or → after_operand n s ≡ group s
other_after_operand n symbol.And h k = absurd (h refl)
other_after_operand n symbol.Or h k = absurd (k refl)
other_after_operand n _ h k = refl

pub other_after_key : (s : Symbol) → s ≢ symbol.Ascending → s ≢ symbol.Descending → after_key s ≡ after_direction s
other_after_key symbol.Ascending h k = absurd (h refl)
other_after_key symbol.Descending h k = absurd (k refl)
other_after_key _ h k = refl

-- a direction ends a key
pub directed_key : (s : Symbol) → (s ≡ symbol.Ascending) ⊎ (s ≡ symbol.Descending) → after_key s ≡ turn_to Nothing rest.AfterDirection
directed_key s (inl e) = ap after_key e
directed_key s (inr e) = ap after_key e

-- a symbol compares as equal with itself
pub same_symbol : (s : Symbol) → eq-value.it s s ≡ true
same_symbol (symbol.Aggregate aggregate.Sum) = refl
same_symbol (symbol.Aggregate aggregate.Min) = refl
same_symbol (symbol.Aggregate aggregate.Max) = refl
same_symbol (symbol.Operator operator.Equal) = refl
same_symbol (symbol.Operator operator.NotEqual) = refl
same_symbol (symbol.Operator operator.Less) = refl
same_symbol (symbol.Operator operator.AtMost) = refl
same_symbol (symbol.Operator operator.Greater) = refl
same_symbol (symbol.Operator operator.AtLeast) = refl
same_symbol _ = refl
