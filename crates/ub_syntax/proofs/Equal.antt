-- Two symbols that compare as equal are one.
use Rattle.std.proofs.Common.{◌≡◌, true, false, Option, Some, None, refl, ap}
use Rattle.std.proofs.lemmas.Bool.{false≢true}
use Rattle.std.specs.Option.{option_eq}
use Rattle.ub_query.specs.declared.condition.Operator.TheVariants as operator
use Rattle.ub_query.specs.declared.query.Aggregate.TheVariants as aggregate
use Rattle.ub_syntax.specs.declared.symbol.Symbol.{Symbol}
use Rattle.ub_syntax.specs.declared.symbol.Symbol.TheVariants as symbol
use Rattle.ub_syntax.specs.contracts.symbol.SymbolPartialEq.TheImpl.{eq-value}

same : (a b : Symbol) → eq-value.it a b ≡ true → a ≡ b
same symbol.Select symbol.Select e = refl
same symbol.Explain symbol.Explain e = refl
same symbol.From symbol.From e = refl
same symbol.Where symbol.Where e = refl
same symbol.And symbol.And e = refl
same symbol.Or symbol.Or e = refl
same symbol.Not symbol.Not e = refl
same symbol.Between symbol.Between e = refl
same symbol.Group symbol.Group e = refl
same symbol.Order symbol.Order e = refl
same symbol.By symbol.By e = refl
same symbol.Ascending symbol.Ascending e = refl
same symbol.Descending symbol.Descending e = refl
same symbol.Limit symbol.Limit e = refl
same symbol.Insert symbol.Insert e = refl
same symbol.Into symbol.Into e = refl
same symbol.Values symbol.Values e = refl
same symbol.Delete symbol.Delete e = refl
same symbol.Count symbol.Count e = refl
same (symbol.Aggregate aggregate.Sum) (symbol.Aggregate aggregate.Sum) e = refl
same (symbol.Aggregate aggregate.Min) (symbol.Aggregate aggregate.Min) e = refl
same (symbol.Aggregate aggregate.Max) (symbol.Aggregate aggregate.Max) e = refl
same symbol.Name symbol.Name e = refl
same symbol.Number symbol.Number e = refl
same symbol.Comma symbol.Comma e = refl
same symbol.Open symbol.Open e = refl
same symbol.Close symbol.Close e = refl
same symbol.Star symbol.Star e = refl
same (symbol.Operator operator.Equal) (symbol.Operator operator.Equal) e = refl
same (symbol.Operator operator.NotEqual) (symbol.Operator operator.NotEqual) e = refl
same (symbol.Operator operator.Less) (symbol.Operator operator.Less) e = refl
same (symbol.Operator operator.AtMost) (symbol.Operator operator.AtMost) e = refl
same (symbol.Operator operator.Greater) (symbol.Operator operator.Greater) e = refl
same (symbol.Operator operator.AtLeast) (symbol.Operator operator.AtLeast) e = refl
same symbol.Minus symbol.Minus e = refl
same symbol.Other symbol.Other e = refl
same _ _ e = absurd (false≢true e)

pub symbol_eq : (o : Option Symbol) (b : Symbol) → option_eq eq-value.it o (Some b) ≡ true → o ≡ Some b
symbol_eq None b e = let bad : false ≡ true = e in cc
symbol_eq (Some a) b e = let h : eq-value.it a b ≡ true = e in ap Some (same a b h)
