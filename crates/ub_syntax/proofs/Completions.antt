-- Each state of the machine has lexemes after which it may end.
use Rattle.std.proofs.Common.{◌≡◌, ℕ, List, [], ◌∷◌, ◌++◌, Result, Ok, true, refl, sym, ap, ◌∙◌, codes}
use Rattle.std.proofs.lemmas.List.{append-nil}
use Rattle.ub_lexer.specs.declared.token.TokenKind.{TokenKind}
use Rattle.ub_lexer.specs.declared.token.TokenKind.TheVariants as kind
use Rattle.ub_syntax.specs.Grammar.{Lexeme, symbol_of, Is}
use Rattle.ub_syntax.specs.Symbols.{keywords}
use Rattle.ub_syntax.specs.Stop.{Begins}
use Rattle.ub_syntax.specs.Machine.{Config, config, and_then, token, reads, start, may_end}
use Rattle.ub_query.specs.declared.condition.Operator.TheVariants as operator
use Rattle.ub_syntax.specs.declared.symbol.Symbol.TheVariants as symbol
use Rattle.ub_syntax.specs.declared.machine.Fixed.{Fixed}
use Rattle.ub_syntax.specs.declared.machine.Fixed.TheVariants as fixed
use Rattle.ub_syntax.specs.declared.machine.Goal.{Goal}
use Rattle.ub_syntax.specs.declared.machine.Goal.TheVariants as goal
use Rattle.ub_syntax.specs.declared.machine.Rest.{Rest}
use Rattle.ub_syntax.specs.declared.machine.Rest.TheVariants as rest
use Rattle.ub_syntax.specs.declared.machine.Row.TheVariants.{Nothing, One}
use Rattle.ub_syntax.proofs.Moves.{Moves, stay, go, by_step, reads-append}
use Rattle.ub_syntax.proofs.Drives.{Drives, drives_first, drives_only}
use Rattle.ub_syntax.proofs.GoalsSound.{fixed_symbol}
use Rattle.ub_syntax.proofs.StatementSound.{accepted}

lexeme : TokenKind → List ℕ → Lexeme
lexeme k text = record { token = record { kind = k; from = 0; to = 0 }; text = text }

some : Fixed → Lexeme
some fixed.Select = lexeme kind.Word (codes "SELECT")
some fixed.From = lexeme kind.Word (codes "FROM")
some fixed.By = lexeme kind.Word (codes "BY")
some fixed.And = lexeme kind.Word (codes "AND")
some fixed.Into = lexeme kind.Word (codes "INTO")
some fixed.Values = lexeme kind.Word (codes "VALUES")
some fixed.Name = lexeme kind.Word (codes "x")
some fixed.Number = lexeme kind.Number (codes "1")
some fixed.Open = lexeme kind.OpenParenthesis (codes "(")
some fixed.Star = lexeme kind.Star (codes "*")
some fixed.Close = lexeme kind.CloseParenthesis (codes ")")

some_is : (f : Fixed) → symbol_of (some f) ≡ fixed_symbol f
unfolding some lexeme keywords
some_is fixed.Select = refl
some_is fixed.From = refl
some_is fixed.By = refl
some_is fixed.And = refl
some_is fixed.Into = refl
some_is fixed.Values = refl
some_is fixed.Name = refl
some_is fixed.Number = refl
some_is fixed.Open = refl
some_is fixed.Star = refl
some_is fixed.Close = refl

this : (f : Fixed) → Is (fixed_symbol f) (some f ∷ [])
this f = (some f, refl, some_is f)

equal : Lexeme
equal = lexeme kind.Equal (codes "=")

equal_is : Is (symbol.Operator operator.Equal) (equal ∷ [])
unfolding equal lexeme
equal_is = (equal, refl, refl)

taken : (f : Fixed) → token f (fixed_symbol f) ≡ Ok Nothing
taken fixed.Select = refl
taken fixed.From = refl
taken fixed.By = refl
taken fixed.And = refl
taken fixed.Into = refl
taken fixed.Values = refl
taken fixed.Name = refl
taken fixed.Number = refl
taken fixed.Open = refl
taken fixed.Star = refl
taken fixed.Close = refl

token_drives : (n : ℕ) (f : Fixed) → Drives n (goal.Token f ∷ []) (some f ∷ [])
token_drives n f = drives_only (goal.Token f) (fixed_symbol f) (taken f) (this f)

literal_drives : (n : ℕ) → Drives n (goal.Literal ∷ []) (some fixed.Number ∷ [])
literal_drives n = drives_only goal.Literal symbol.Number refl (this fixed.Number)

comparison_drives : (n : ℕ) → Drives n (goal.Comparison ∷ []) (equal ∷ some fixed.Number ∷ [])
comparison_drives n = drives_first goal.Comparison (symbol.Operator operator.Equal) (One goal.Literal) refl equal_is (literal_drives n)

goal_done : (n : ℕ) (g : Goal) → (ls : List Lexeme) × Drives n (g ∷ []) ls
goal_done n (goal.Token f) = (some f ∷ [], token_drives n f)
goal_done n goal.Item = (some fixed.Name ∷ [], drives_only goal.Item symbol.Name refl (this fixed.Name))
goal_done n goal.Comparison = (equal ∷ some fixed.Number ∷ [], comparison_drives n)
goal_done n goal.Literal = (some fixed.Number ∷ [], literal_drives n)
goal_done n (goal.Operand m) = (
  (some fixed.Name ∷ []) ++ (equal ∷ some fixed.Number ∷ []),
  drives_first (goal.Operand m) symbol.Name (One goal.Comparison) refl (this fixed.Name) (comparison_drives n),
)
goal_done n (goal.Nested m) = (some fixed.Close ∷ [], drives_only (goal.Nested m) symbol.Close refl (this fixed.Close))

-- lexemes that lead to where the machine may end
record Done (n : ℕ) (c : Config) : Type 0 where
  pub ls : List Lexeme
  pub end : Rest
  pub ends : may_end end ≡ true
  pub moves : Moves n c (config [] end) ls

first : {n : ℕ} {c d : Config} (ls : List Lexeme) → Moves n c d ls → Done n d → Done n c
first ls moves done = record { ls = ls ++ done.ls; end = done.end; ends = done.ends; moves = go moves done.moves }

here : (n : ℕ) (r : Rest) → may_end r ≡ true → Done n (config [] r)
here n r e = record { ls = []; end = r; ends = e; moves = stay }

table_done : (n : ℕ) → Done n (config (goal.Token fixed.Name ∷ []) rest.AfterTable)
table_done n = first (some fixed.Name ∷ []) ((token_drives n fixed.Name).moves [] rest.AfterTable) (here n rest.AfterTable refl)

items_done : (n : ℕ) → Done n (config [] rest.Items)
items_done n =
    first (some fixed.Star ∷ []) (by_step symbol.Star refl (this fixed.Star))
    (first (some fixed.From ∷ []) ((token_drives n fixed.From).moves (goal.Token fixed.Name ∷ []) rest.AfterTable) (table_done n))

value_done : (n : ℕ) → Done n (config [] rest.AfterValue)
value_done n = first (some fixed.Close ∷ []) (by_step symbol.Close refl (this fixed.Close)) (here n rest.End refl)

values_done : (n : ℕ) → Done n (config [] rest.Values)
values_done n =
    first (some fixed.Open ∷ []) (by_step symbol.Open refl (this fixed.Open))
    (first (some fixed.Number ∷ []) ((literal_drives n).moves [] rest.AfterValue) (value_done n))

rest_done : (n : ℕ) (r : Rest) → Done n (config [] r)
rest_done n rest.Start = first (some fixed.Select ∷ []) (by_step symbol.Select refl (this fixed.Select)) (items_done n)
rest_done n rest.Items = items_done n
rest_done n rest.AfterItem = first (some fixed.From ∷ []) (by_step symbol.From refl (this fixed.From)) (table_done n)
rest_done n rest.AfterTable = here n rest.AfterTable refl
rest_done n rest.AfterOperand = here n rest.AfterOperand refl
rest_done n rest.AfterGroup = here n rest.AfterGroup refl
rest_done n rest.AfterKey = here n rest.AfterKey refl
rest_done n rest.AfterDirection = here n rest.AfterDirection refl
rest_done n rest.Values = values_done n
rest_done n rest.AfterValue = value_done n
rest_done n rest.AfterDeleted = here n rest.AfterDeleted refl
rest_done n rest.AfterCondition = here n rest.AfterCondition refl
rest_done n rest.End = here n rest.End refl

done : (n : ℕ) (goals : List Goal) (r : Rest) → Done n (config goals r)
done n [] r = rest_done n r
done n (g ∷ goals) r =
    let d = goal_done n g in
    first d.0 (d.1.moves goals r) (done n goals r)

-- what the machine read, some statement begins with
pub begins : (n : ℕ) (ls : List Lexeme) (c : Config) → reads n start ls ≡ Ok c → Begins n ls
begins n ls c e =
    let d = done n c.goals c.rest in
    let whole : reads n start (ls ++ d.ls) ≡ Ok (config [] d.end) =
    reads-append n start ls d.ls ∙ ap (λ (r : Result Config _). and_then r (λ k. reads n k d.ls)) e
    ∙ ap (λ (k : List Lexeme). reads n c k) (sym (append-nil d.ls)) ∙ d.moves.reading [] in
    let s = accepted n (ls ++ d.ls) (config [] d.end) whole d.ends in
    (d.ls, s.0, s.1)
