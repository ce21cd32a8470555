-- A machine that reads the symbols of a statement: it knows the goals that are still to come, and the end of the statement
-- after them (predictive parsing with a stack of goals).
use Rattle.std.specs.Prelude.{ℕ, zero, suc, Bool, true, false, List, [], ◌∷◌, ◌++◌, Option, Some, None, Result, Ok, Err, if◌then◌else◌}
use Rattle.ub_syntax.specs.Grammar.{Lexeme, symbol_of}
use Rattle.ub_syntax.specs.declared.symbol.Symbol.{Symbol}
use Rattle.ub_syntax.specs.declared.symbol.Symbol.TheVariants as symbol
use Rattle.ub_syntax.specs.declared.machine.Fixed.{Fixed}
use Rattle.ub_syntax.specs.declared.machine.Fixed.TheVariants as fixed
use Rattle.ub_syntax.specs.declared.machine.Goal.{Goal}
use Rattle.ub_syntax.specs.declared.machine.Goal.TheVariants as goal
use Rattle.ub_syntax.specs.declared.machine.Rest.{Rest}
use Rattle.ub_syntax.specs.declared.machine.Rest.TheVariants as rest
use Rattle.ub_syntax.specs.declared.machine.Row.{Row}
use Rattle.ub_syntax.specs.declared.machine.Row.TheVariants.{Nothing, One, Two, Three}
use Rattle.ub_syntax.specs.declared.machine.Turn.{Turn}
use Rattle.ub_syntax.specs.declared.machine.Refusal.{Refusal}
use Rattle.ub_syntax.specs.declared.machine.Refusal.TheVariants.{Syntax, TooDeep}

-- the goals that are still to come, the next one first, and the end of the statement after them
pub record Config : Type 0 where
  pub goals : List Goal
  pub rest : Rest

abbrev pub config : List Goal → Rest → Config
config goals rest = record { goals = goals; rest = rest }

-- the goals of a row
abbrev pub goals_of : Row → List Goal
goals_of Nothing = []
goals_of (One a) = a ∷ []
goals_of (Two a b) = a ∷ b ∷ []
goals_of (Three a b c) = a ∷ b ∷ c ∷ []

-- the goals of a row before the others
abbrev pub with_row : Row → Config → Config
with_row row c = config (goals_of row ++ c.goals) c.rest

-- what is made of what a call gives, if it refuses nothing
abbrev pub if_ok : {T U : Type 0} → (T → U) → Result T Refusal → Result U Refusal
if_ok f (Ok x) = Ok (f x)
if_ok f (Err e) = Err e

-- what is done after a call that refuses nothing
abbrev pub and_then : {T U : Type 0} → Result T Refusal → (T → Result U Refusal) → Result U Refusal
and_then (Ok x) f = f x
and_then (Err e) f = Err e

-- the symbol is this one
abbrev pub is_fixed : Fixed → Symbol → Bool
is_fixed fixed.Select symbol.Select = true
is_fixed fixed.From symbol.From = true
is_fixed fixed.By symbol.By = true
is_fixed fixed.And symbol.And = true
is_fixed fixed.Into symbol.Into = true
is_fixed fixed.Values symbol.Values = true
is_fixed fixed.Name symbol.Name = true
is_fixed fixed.Number symbol.Number = true
is_fixed fixed.Open symbol.Open = true
is_fixed fixed.Star symbol.Star = true
is_fixed fixed.Close symbol.Close = true
is_fixed _ _ = false

-- what each goal asks for after its first symbol
abbrev pub token : Fixed → Symbol → Result Row Refusal
token f s = if is_fixed f s then Ok Nothing else Err Syntax

abbrev pub item : Symbol → Result Row Refusal
item symbol.Name = Ok Nothing
item symbol.Count = Ok (Three (goal.Token fixed.Open) (goal.Token fixed.Star) (goal.Token fixed.Close))
item (symbol.Aggregate _) = Ok (Three (goal.Token fixed.Open) (goal.Token fixed.Name) (goal.Token fixed.Close))
item _ = Err Syntax

abbrev pub comparison : Symbol → Result Row Refusal
comparison (symbol.Operator _) = Ok (One goal.Literal)
comparison symbol.Between = Ok (Three goal.Literal (goal.Token fixed.And) goal.Literal)
comparison _ = Err Syntax

abbrev pub literal : Symbol → Result Row Refusal
literal symbol.Number = Ok Nothing
literal symbol.Minus = Ok (One (goal.Token fixed.Number))
literal _ = Err Syntax

-- how many may open inside one more parenthesis or NOT
abbrev pub inner : ℕ → Result ℕ Refusal
inner zero = Err TooDeep
inner (suc n) = Ok n

abbrev pub operand : ℕ → Symbol → Result Row Refusal
operand n symbol.Name = Ok (One goal.Comparison)
operand n symbol.Not = if_ok (λ m. One (goal.Operand m)) (inner n)
operand n symbol.Open = if_ok (λ m. Two (goal.Operand m) (goal.Nested m)) (inner n)
operand n _ = Err Syntax

abbrev pub nested : ℕ → Symbol → Result Row Refusal
nested n symbol.And = Ok (Two (goal.Operand n) (goal.Nested n))
nested n symbol.Or = Ok (Two (goal.Operand n) (goal.Nested n))
nested n symbol.Close = Ok Nothing
nested n _ = Err Syntax

abbrev pub expand : Goal → Symbol → Result Row Refusal
expand (goal.Token f) s = token f s
expand goal.Item s = item s
expand goal.Comparison s = comparison s
expand goal.Literal s = literal s
expand (goal.Operand n) s = operand n s
expand (goal.Nested n) s = nested n s

-- what comes after a symbol with which each end of a statement begins
abbrev pub turn_to : Row → Rest → Result Turn Refusal
turn_to row rest = Ok (record { row = row; rest = rest })

abbrev pub begin : Symbol → Result Turn Refusal
begin symbol.Explain = turn_to (One (goal.Token fixed.Select)) rest.Items
begin symbol.Select = turn_to Nothing rest.Items
begin symbol.Insert = turn_to (Three (goal.Token fixed.Into) (goal.Token fixed.Name) (goal.Token fixed.Values)) rest.Values
begin symbol.Delete = turn_to (Two (goal.Token fixed.From) (goal.Token fixed.Name)) rest.AfterDeleted
begin _ = Err Syntax

abbrev pub items : Symbol → Result Turn Refusal
items symbol.Star = turn_to (Two (goal.Token fixed.From) (goal.Token fixed.Name)) rest.AfterTable
items s = and_then (item s) (λ row. turn_to row rest.AfterItem)

abbrev pub after_item : Symbol → Result Turn Refusal
after_item symbol.Comma = turn_to (One goal.Item) rest.AfterItem
after_item symbol.From = turn_to (One (goal.Token fixed.Name)) rest.AfterTable
after_item _ = Err Syntax

abbrev pub limit : Symbol → Result Turn Refusal
limit symbol.Limit = turn_to (One (goal.Token fixed.Number)) rest.End
limit _ = Err Syntax

abbrev pub order : Symbol → Result Turn Refusal
order symbol.Order = turn_to (Two (goal.Token fixed.By) goal.Item) rest.AfterKey
order s = limit s

abbrev pub group : Symbol → Result Turn Refusal
group symbol.Group = turn_to (Two (goal.Token fixed.By) (goal.Token fixed.Name)) rest.AfterGroup
group s = order s

abbrev pub after_table : ℕ → Symbol → Result Turn Refusal
after_table n symbol.Where = turn_to (One (goal.Operand n)) rest.AfterOperand
after_table n s = group s

abbrev pub after_operand : ℕ → Symbol → Result Turn Refusal
after_operand n symbol.And = turn_to (One (goal.Operand n)) rest.AfterOperand
after_operand n symbol.Or = turn_to (One (goal.Operand n)) rest.AfterOperand
after_operand n s = group s

abbrev pub after_group : Symbol → Result Turn Refusal
after_group symbol.Comma = turn_to (One (goal.Token fixed.Name)) rest.AfterGroup
after_group s = order s

abbrev pub after_direction : Symbol → Result Turn Refusal
after_direction symbol.Comma = turn_to (One goal.Item) rest.AfterKey
after_direction s = limit s

abbrev pub after_key : Symbol → Result Turn Refusal
after_key symbol.Ascending = turn_to Nothing rest.AfterDirection
after_key symbol.Descending = turn_to Nothing rest.AfterDirection
after_key s = after_direction s

abbrev pub values : Symbol → Result Turn Refusal
values symbol.Open = turn_to (One goal.Literal) rest.AfterValue
values _ = Err Syntax

abbrev pub after_value : Symbol → Result Turn Refusal
after_value symbol.Comma = turn_to (One goal.Literal) rest.AfterValue
after_value symbol.Close = turn_to Nothing rest.End
after_value _ = Err Syntax

abbrev pub after_deleted : ℕ → Symbol → Result Turn Refusal
after_deleted n symbol.Where = turn_to (One (goal.Operand n)) rest.AfterCondition
after_deleted n _ = Err Syntax

abbrev pub after_condition : ℕ → Symbol → Result Turn Refusal
after_condition n symbol.And = turn_to (One (goal.Operand n)) rest.AfterCondition
after_condition n symbol.Or = turn_to (One (goal.Operand n)) rest.AfterCondition
after_condition n _ = Err Syntax

-- with at most so many parentheses and NOTs round a place
abbrev pub follow : ℕ → Rest → Symbol → Result Turn Refusal
follow n rest.Start s = begin s
follow n rest.Items s = items s
follow n rest.AfterItem s = after_item s
follow n rest.AfterTable s = after_table n s
follow n rest.AfterOperand s = after_operand n s
follow n rest.AfterGroup s = after_group s
follow n rest.AfterKey s = after_key s
follow n rest.AfterDirection s = after_direction s
follow n rest.Values s = values s
follow n rest.AfterValue s = after_value s
follow n rest.AfterDeleted s = after_deleted n s
follow n rest.AfterCondition s = after_condition n s
follow n rest.End s = Err Syntax

-- the next goal takes the symbol, or else the end of the statement
abbrev pub advance : ℕ → Option Goal → Rest → Symbol → Result Turn Refusal
advance n (Some g) rest s = and_then (expand g s) (λ row. turn_to row rest)
advance n None rest s = follow n rest s

-- the other goals after those of a turn
abbrev pub config_of : List Goal → Turn → Config
config_of goals t = config (goals_of t.row ++ goals) t.rest

-- what is still to come after one symbol
abbrev pub step_from : ℕ → List Goal → Rest → Symbol → Result Config Refusal
step_from n [] rest s = if_ok (config_of []) (advance n None rest s)
step_from n (g ∷ goals) rest s = if_ok (config_of goals) (advance n (Some g) rest s)

abbrev pub step : ℕ → Config → Symbol → Result Config Refusal
step n c s = step_from n c.goals c.rest s

-- what is still to come after these lexemes
abbrev pub reads : ℕ → Config → List Lexeme → Result Config Refusal
reads n c [] = Ok c
reads n c (l ∷ ls) = and_then (step n c (symbol_of l)) (λ d. reads n d ls)

-- a whole statement is to come
abbrev pub start : Config
start = config [] rest.Start

-- the statement may end here
abbrev pub may_end : Rest → Bool
may_end rest.Start = false
may_end rest.Items = false
may_end rest.AfterItem = false
may_end rest.Values = false
may_end rest.AfterValue = false
may_end _ = true

-- no goal is to come, and the statement may end
abbrev pub can_end_from : List Goal → Rest → Bool
can_end_from [] rest = may_end rest
can_end_from (g ∷ goals) rest = false

abbrev pub can_end : Config → Bool
can_end c = can_end_from c.goals c.rest
