-- The machine with a greater depth does the same, but for a refusal of depth.
use Rattle.std.proofs.Common.{◌≡◌, ◌≢◌, ◌⊎◌, ℕ, zero, suc, ◌+◌, Bool, true, false, List, [], ◌∷◌, map, Result, Ok, Err, refl, sym, ap, ◌∙◌, inl, inr, arith, if◌then◌else◌}
use Rattle.std.proofs.lemmas.Bool.{false≢true}
use Rattle.ub_syntax.specs.Grammar.{Lexeme, symbol_of}
use Rattle.ub_syntax.specs.Machine.{Config, config, if_ok, and_then, is_fixed, item, comparison, literal, inner, operand, nested, expand, turn_to, begin, items, after_item, after_table, after_operand, after_group, after_direction, after_key, values, after_value, after_deleted, after_condition, follow, config_of, step, reads}
use Rattle.ub_syntax.specs.declared.symbol.Symbol.{Symbol}
use Rattle.ub_syntax.specs.declared.symbol.Symbol.TheVariants as symbol
use Rattle.ub_syntax.specs.declared.machine.Goal.{Goal}
use Rattle.ub_syntax.specs.declared.machine.Goal.TheVariants as goal
use Rattle.ub_syntax.specs.declared.machine.Rest.{Rest}
use Rattle.ub_syntax.specs.declared.machine.Rest.TheVariants as rest
use Rattle.ub_syntax.specs.declared.machine.Row.{Row}
use Rattle.ub_syntax.specs.declared.machine.Row.TheVariants.{Nothing, One, Two, Three}
use Rattle.ub_syntax.specs.declared.machine.Turn.{Turn}
use Rattle.ub_syntax.specs.declared.machine.Refusal.{Refusal}
use Rattle.ub_syntax.specs.declared.machine.Refusal.TheVariants.{Syntax, TooDeep}

-- so many more parentheses and NOTs may open
abbrev pub raise : ℕ → Goal → Goal
raise k (goal.Operand n) = goal.Operand (n + k)
raise k (goal.Nested n) = goal.Nested (n + k)
raise k g = g

abbrev raise_row : ℕ → Row → Row
raise_row k Nothing = Nothing
raise_row k (One a) = One (raise k a)
raise_row k (Two a b) = Two (raise k a) (raise k b)
raise_row k (Three a b c) = Three (raise k a) (raise k b) (raise k c)

abbrev raise_turn : ℕ → Turn → Turn
raise_turn k t = record { row = raise_row k t.row; rest = t.rest }

abbrev pub raised : ℕ → Config → Config
raised k c = config (map (raise k) c.goals) c.rest

token_raise : (k : ℕ) (b : Bool) → (let r : Result Row Refusal = if b then Ok Nothing else Err Syntax in r) ≡ if_ok (raise_row k) (if b then Ok Nothing else Err Syntax)
token_raise k true = refl
token_raise k false = refl

item_raise : (k : ℕ) (s : Symbol) → item s ≡ if_ok (raise_row k) (item s)
item_raise k symbol.Name = refl
item_raise k _ = refl

comparison_raise : (k : ℕ) (s : Symbol) → comparison s ≡ if_ok (raise_row k) (comparison s)
comparison_raise k symbol.Between = refl
comparison_raise k _ = refl

literal_raise : (k : ℕ) (s : Symbol) → literal s ≡ if_ok (raise_row k) (literal s)
literal_raise k symbol.Number = refl
literal_raise k _ = refl

inner_raise : (n k : ℕ) → inner (suc n + k) ≡ Ok (n + k)
inner_raise n k = let e : suc n + k ≡ suc (n + k) = omega arith in ap inner e

operand_raise : (k n : ℕ) (s : Symbol) → operand n s ≢ Err TooDeep → operand (n + k) s ≡ if_ok (raise_row k) (operand n s)
operand_raise k zero symbol.Not h = absurd (h refl)
operand_raise k zero symbol.Open h = absurd (h refl)
operand_raise k (suc n) symbol.Not h = ap (if_ok (λ m. One (goal.Operand m))) (inner_raise n k)
operand_raise k (suc n) symbol.Open h = ap (if_ok (λ m. Two (goal.Operand m) (goal.Nested m))) (inner_raise n k)
operand_raise k n _ h = refl

nested_raise : (k n : ℕ) (s : Symbol) → nested (n + k) s ≡ if_ok (raise_row k) (nested n s)
nested_raise k n symbol.Close = refl
nested_raise k n _ = refl

expand_raise : (k : ℕ) (g : Goal) (s : Symbol) → expand g s ≢ Err TooDeep → expand (raise k g) s ≡ if_ok (raise_row k) (expand g s)
expand_raise k (goal.Token f) s h = token_raise k (is_fixed f s)
expand_raise k goal.Item s h = item_raise k s
expand_raise k goal.Comparison s h = comparison_raise k s
expand_raise k goal.Literal s h = literal_raise k s
expand_raise k (goal.Operand n) s h = operand_raise k n s h
expand_raise k (goal.Nested n) s h = nested_raise k n s

begin_raise : (k : ℕ) (s : Symbol) → begin s ≡ if_ok (raise_turn k) (begin s)
begin_raise k symbol.Select = refl
begin_raise k _ = refl

items_raise : (k : ℕ) (s : Symbol) → items s ≡ if_ok (raise_turn k) (items s)
items_raise k symbol.Star = refl
items_raise k _ = refl

after_item_raise : (k : ℕ) (s : Symbol) → after_item s ≡ if_ok (raise_turn k) (after_item s)
after_item_raise k symbol.From = refl
after_item_raise k _ = refl

after_table_raise : (k n : ℕ) (s : Symbol) → after_table (n + k) s ≡ if_ok (raise_turn k) (after_table n s)
after_table_raise k n symbol.Where = refl
after_table_raise k n _ = refl

after_operand_raise : (k n : ℕ) (s : Symbol) → after_operand (n + k) s ≡ if_ok (raise_turn k) (after_operand n s)
after_operand_raise k n symbol.And = refl
after_operand_raise k n _ = refl

after_group_raise : (k : ℕ) (s : Symbol) → after_group s ≡ if_ok (raise_turn k) (after_group s)
after_group_raise k symbol.Comma = refl
after_group_raise k _ = refl

after_key_raise : (k : ℕ) (s : Symbol) → after_key s ≡ if_ok (raise_turn k) (after_key s)
after_key_raise k symbol.Comma = refl
after_key_raise k _ = refl

after_direction_raise : (k : ℕ) (s : Symbol) → after_direction s ≡ if_ok (raise_turn k) (after_direction s)
after_direction_raise k symbol.Comma = refl
after_direction_raise k _ = refl

values_raise : (k : ℕ) (s : Symbol) → values s ≡ if_ok (raise_turn k) (values s)
values_raise k symbol.Open = refl
values_raise k _ = refl

after_value_raise : (k : ℕ) (s : Symbol) → after_value s ≡ if_ok (raise_turn k) (after_value s)
after_value_raise k symbol.Comma = refl
after_value_raise k _ = refl

after_deleted_raise : (k n : ℕ) (s : Symbol) → after_deleted (n + k) s ≡ if_ok (raise_turn k) (after_deleted n s)
after_deleted_raise k n symbol.Where = refl
after_deleted_raise k n _ = refl

after_condition_raise : (k n : ℕ) (s : Symbol) → after_condition (n + k) s ≡ if_ok (raise_turn k) (after_condition n s)
after_condition_raise k n symbol.And = refl
after_condition_raise k n _ = refl

follow_raise : (k n : ℕ) (r : Rest) (s : Symbol) → follow (n + k) r s ≡ if_ok (raise_turn k) (follow n r s)
follow_raise k n rest.Start s = begin_raise k s
follow_raise k n rest.Items s = items_raise k s
follow_raise k n rest.AfterItem s = after_item_raise k s
follow_raise k n rest.AfterTable s = after_table_raise k n s
follow_raise k n rest.AfterOperand s = after_operand_raise k n s
follow_raise k n rest.AfterGroup s = after_group_raise k s
follow_raise k n rest.AfterKey s = after_key_raise k s
follow_raise k n rest.AfterDirection s = after_direction_raise k s
follow_raise k n rest.Values s = values_raise k s
follow_raise k n rest.AfterValue s = after_value_raise k s
follow_raise k n rest.AfterDeleted s = after_deleted_raise k n s
follow_raise k n rest.AfterCondition s = after_condition_raise k n s
follow_raise k n rest.End s = refl

config_raise : (k : ℕ) (row : Row) (goals : List Goal) (r : Rest)
    → config_of (map (raise k) goals) (record { row = raise_row k row; rest = r }) ≡ raised k (config_of goals (record { row = row; rest = r }))
config_raise k Nothing goals r = refl
config_raise k (One a) goals r = refl
config_raise k (Two a b) goals r = refl
config_raise k (Three a b c) goals r = refl

by_turn : (k : ℕ) (goals : List Goal) (t : Result Turn Refusal) → if_ok (config_of (map (raise k) goals)) (if_ok (raise_turn k) t) ≡ if_ok (raised k) (if_ok (config_of goals) t)
by_turn k goals (Ok t) = ap (λ (c : Config). let r : Result Config Refusal = Ok c in r) (config_raise k t.row goals t.rest)
by_turn k goals (Err e) = refl

by_row : (k : ℕ) (r : Rest) (t : Result Row Refusal) → and_then (if_ok (raise_row k) t) (λ row. turn_to row r) ≡ if_ok (raise_turn k) (and_then t (λ row. turn_to row r))
by_row k r (Ok row) = refl
by_row k r (Err e) = refl

deep_turn : (t : Result Row Refusal) (goals : List Goal) (r : Rest) → t ≡ Err TooDeep → if_ok (config_of goals) (and_then t (λ row. turn_to row r)) ≡ Err TooDeep
deep_turn (Ok row) goals r e = cc
deep_turn (Err f) goals r e = let same : f ≡ TooDeep = cc in ap (λ (g : Refusal). let c : Result Config Refusal = Err g in c) same

-- a step that isn't refused for depth is the same with a greater depth
pub step_raise : (k n : ℕ) (goals : List Goal) (r : Rest) (s : Symbol) → step n (config goals r) s ≢ Err TooDeep
    → step (n + k) (raised k (config goals r)) s ≡ if_ok (raised k) (step n (config goals r) s)
step_raise k n [] r s h =
    ap (if_ok (config_of [])) (follow_raise k n r s) ∙ by_turn k [] (follow n r s)
step_raise k n (g ∷ goals) r s h =
    let e = expand_raise k g s (λ deep. h (deep_turn (expand g s) goals r deep)) in
    ap (λ (t : Result Row Refusal). if_ok (config_of (map (raise k) goals)) (and_then t (λ row. turn_to row r))) e
    ∙ ap (if_ok (config_of (map (raise k) goals))) (by_row k r (expand g s))
    ∙ by_turn k goals (and_then (expand g s) (λ row. turn_to row r))

pub first_ok : (t : Result Config Refusal) (f : Config → Result Config Refusal) (d : Config) → and_then t f ≡ Ok d → (c : Config) × (t ≡ Ok c) × (f c ≡ Ok d)
first_ok (Ok c) f d e = (c, refl, e)
first_ok (Err r) f d e = cc

-- what is read is read with a greater depth
pub reads_raise : (k n : ℕ) (c d : Config) (ls : List Lexeme) → reads n c ls ≡ Ok d → reads (n + k) (raised k c) ls ≡ Ok (raised k d)
reads_raise k n c d [] e = let same : c ≡ d = cc in ap (λ (x : Config). let r : Result Config Refusal = Ok (raised k x) in r) same
reads_raise k n c d (l ∷ ls) e =
    let f = first_ok (step n c (symbol_of l)) (λ x. reads n x ls) d e in
    let went = f.1 in
    let up = step_raise k n c.goals c.rest (symbol_of l) (λ deep. let here : step n c (symbol_of l) ≡ Err TooDeep = deep in cc) in
    ap (λ (t : Result Config Refusal). and_then t (λ x. reads (n + k) x ls)) (up ∙ ap (if_ok (raised k)) went)
    ∙ reads_raise k n f.0 d ls f.2

-- it isn't refused for depth
abbrev is_quiet : {A : Type 0} → Result A Refusal → Bool
is_quiet (Err TooDeep) = false
is_quiet _ = true

quiet : {A : Type 0} (r : Result A Refusal) → is_quiet r ≡ true → r ≢ Err TooDeep
quiet r h e = false≢true (sym (ap is_quiet e) ∙ h)

-- no end of a statement refuses for depth
never : (n : ℕ) (r : Rest) (s : Symbol) → follow n r s ≢ Err TooDeep
never n rest.Start s = begin_never s
  where
    begin_never : (s : Symbol) → begin s ≢ Err TooDeep
    begin_never symbol.Select = λ e. quiet _ refl e
    begin_never _ = λ e. quiet _ refl e
never n rest.Items s = items_never s
  where
    items_never : (s : Symbol) → items s ≢ Err TooDeep
    items_never symbol.Star = λ e. quiet _ refl e
    items_never _ = λ e. quiet _ refl e
never n rest.AfterItem s = after_item_never s
  where
    after_item_never : (s : Symbol) → after_item s ≢ Err TooDeep
    after_item_never symbol.From = λ e. quiet _ refl e
    after_item_never _ = λ e. quiet _ refl e
never n rest.AfterTable s = after_table_never n s
  where
    after_table_never : (n : ℕ) (s : Symbol) → after_table n s ≢ Err TooDeep
    after_table_never n symbol.Where = λ e. quiet _ refl e
    after_table_never n _ = λ e. quiet _ refl e
never n rest.AfterOperand s = after_operand_never n s
  where
    after_operand_never : (n : ℕ) (s : Symbol) → after_operand n s ≢ Err TooDeep
    after_operand_never n symbol.And = λ e. quiet _ refl e
    after_operand_never n _ = λ e. quiet _ refl e
never n rest.AfterGroup s = after_group_never s
  where
    after_group_never : (s : Symbol) → after_group s ≢ Err TooDeep
    after_group_never symbol.Comma = λ e. quiet _ refl e
    after_group_never _ = λ e. quiet _ refl e
never n rest.AfterKey s = after_key_never s
  where
    after_key_never : (s : Symbol) → after_key s ≢ Err TooDeep
    after_key_never symbol.Comma = λ e. quiet _ refl e
    after_key_never _ = λ e. quiet _ refl e
never n rest.AfterDirection s = after_direction_never s
  where
    after_direction_never : (s : Symbol) → after_direction s ≢ Err TooDeep
    after_direction_never symbol.Comma = λ e. quiet _ refl e
    after_direction_never _ = λ e. quiet _ refl e
never n rest.Values s = values_never s
  where
    values_never : (s : Symbol) → values s ≢ Err TooDeep
    values_never symbol.Open = λ e. quiet _ refl e
    values_never _ = λ e. quiet _ refl e
never n rest.AfterValue s = after_value_never s
  where
    after_value_never : (s : Symbol) → after_value s ≢ Err TooDeep
    after_value_never symbol.Comma = λ e. quiet _ refl e
    after_value_never _ = λ e. quiet _ refl e
never n rest.AfterDeleted s = after_deleted_never n s
  where
    after_deleted_never : (n : ℕ) (s : Symbol) → after_deleted n s ≢ Err TooDeep
    after_deleted_never n symbol.Where = λ e. quiet _ refl e
    after_deleted_never n _ = λ e. quiet _ refl e
never n rest.AfterCondition s = after_condition_never n s
  where
    after_condition_never : (n : ℕ) (s : Symbol) → after_condition n s ≢ Err TooDeep
    after_condition_never n symbol.And = λ e. quiet _ refl e
    after_condition_never n _ = λ e. quiet _ refl e
never n rest.End s = λ e. quiet _ refl e

abbrev Opens : Symbol → Type 0
Opens s = (s ≡ symbol.Open) ⊎ (s ≡ symbol.Not)

operand_deep : (n : ℕ) (s : Symbol) → operand n s ≡ Err TooDeep → (row : Row) × (operand (n + 1) s ≡ Ok row) × Opens s
operand_deep zero symbol.Not e = (One (goal.Operand 0), refl, inr refl)
operand_deep zero symbol.Open e = (Two (goal.Operand 0) (goal.Nested 0), refl, inl refl)
operand_deep (suc n) symbol.Not e = absurd (quiet _ refl e)
operand_deep (suc n) symbol.Open e = absurd (quiet _ refl e)
operand_deep n _ e = absurd (quiet _ refl e)

token_never : (b : Bool) → (let r : Result Row Refusal = if b then Ok Nothing else Err Syntax in r) ≢ Err TooDeep
token_never true = λ e. quiet _ refl e
token_never false = λ e. quiet _ refl e

item_never : (s : Symbol) → item s ≢ Err TooDeep
item_never symbol.Name = λ e. quiet _ refl e
item_never _ = λ e. quiet _ refl e

comparison_never : (s : Symbol) → comparison s ≢ Err TooDeep
comparison_never symbol.Between = λ e. quiet _ refl e
comparison_never _ = λ e. quiet _ refl e

literal_never : (s : Symbol) → literal s ≢ Err TooDeep
literal_never symbol.Number = λ e. quiet _ refl e
literal_never _ = λ e. quiet _ refl e

nested_never : (n : ℕ) (s : Symbol) → nested n s ≢ Err TooDeep
nested_never n symbol.Close = λ e. quiet _ refl e
nested_never n _ = λ e. quiet _ refl e

expand_deep : (g : Goal) (s : Symbol) → expand g s ≡ Err TooDeep → (row : Row) × (expand (raise 1 g) s ≡ Ok row) × Opens s
expand_deep (goal.Token f) s e = absurd (token_never (is_fixed f s) e)
expand_deep goal.Item s e = absurd (item_never s e)
expand_deep goal.Comparison s e = absurd (comparison_never s e)
expand_deep goal.Literal s e = absurd (literal_never s e)
expand_deep (goal.Operand n) s e = operand_deep n s e
expand_deep (goal.Nested n) s e = absurd (nested_never n s e)

refused_turn : (t : Result Turn Refusal) (goals : List Goal) → if_ok (config_of goals) t ≡ Err TooDeep → t ≡ Err TooDeep
refused_turn (Ok x) goals e = cc
refused_turn (Err f) goals e = let same : f ≡ TooDeep = cc in ap (λ (g : Refusal). let c : Result Turn Refusal = Err g in c) same

refused_row : (t : Result Row Refusal) (r : Rest) → and_then t (λ row. turn_to row r) ≡ Err TooDeep → t ≡ Err TooDeep
refused_row (Ok x) r e = cc
refused_row (Err f) r e = let same : f ≡ TooDeep = cc in ap (λ (g : Refusal). let c : Result Row Refusal = Err g in c) same

-- a step that is refused for depth is one of `(` or NOT, and goes on where one more may open
pub step_deep : (n : ℕ) (goals : List Goal) (r : Rest) (s : Symbol) → step n (config goals r) s ≡ Err TooDeep
    → (d : Config) × (step (n + 1) (raised 1 (config goals r)) s ≡ Ok d) × Opens s
step_deep n [] r s e = absurd (never n r s (refused_turn (follow n r s) [] e))
step_deep n (g ∷ goals) r s e =
    let x = expand_deep g s (refused_row (expand g s) r (refused_turn (and_then (expand g s) (λ row. turn_to row r)) goals e)) in (
      config_of (map (raise 1) goals) (record { row = x.0; rest = r }),
      ap (λ (t : Result Row Refusal). if_ok (config_of (map (raise 1) goals)) (and_then t (λ row. turn_to row r))) x.1,
      x.2,
    )
