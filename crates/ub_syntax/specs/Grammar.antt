-- Which lists of lexemes are statements, and the syntax of each (SQL's SELECT, INSERT and DELETE, the part of them that
-- docs/SQL.md states).
-- In parts: a list of lexemes is what the grammar says where it is cut into parts that are.
use Rattle.std.specs.Prelude.{◌≡◌, ℕ, zero, suc, ◌⊎◌, Bool, true, false, List, [], ◌∷◌, ◌++◌, map, Option, Some, None}
use Rattle.std.specs.List.{fold}
use Rattle.ub_lexer.specs.declared.token.Token.{Token}
use Rattle.ub_lexer.specs.Tokens.{text_of}
use Rattle.ub_syntax.specs.Symbols as of
use Rattle.ub_syntax.specs.Tree.{Shape, both, either, neither, compares, between, Select, rows_of, Stated, selects, inserts, deletes}
use Rattle.ub_syntax.specs.declared.symbol.Symbol.{Symbol}
use Rattle.ub_syntax.specs.declared.symbol.Symbol.TheVariants as symbol
use Rattle.ub_syntax.specs.declared.syntax.Insertion.{Insertion}
use Rattle.ub_syntax.specs.declared.syntax.Item.{Item}
use Rattle.ub_syntax.specs.declared.syntax.Item.TheVariants.{Column, Count, Aggregate}
use Rattle.ub_syntax.specs.declared.syntax.Literal.{Literal}
use Rattle.ub_syntax.specs.declared.syntax.OrderKey.{OrderKey}
use Rattle.ub_syntax.specs.declared.syntax.Selection.{Selection}
use Rattle.ub_syntax.specs.declared.syntax.Selection.TheVariants.{All, Listed}
use Rattle.ub_syntax.specs.declared.syntax.Value.{Value}

-- a token and its text
pub record Lexeme : Type 0 where
  pub token : Token
  pub text : List ℕ

abbrev pub lexemes : List ℕ → List Token → List Lexeme
lexemes source tokens = map (λ t. record { token = t; text = text_of source t }) tokens

abbrev pub symbol_of : Lexeme → Symbol
symbol_of l = of.symbol l.token.kind l.text

-- one lexeme, which is this token and this symbol
abbrev pub IsToken : Symbol → List Lexeme → Token → Type 0
IsToken s ls token = (l : Lexeme) × (ls ≡ l ∷ []) × (symbol_of l ≡ s) × (l.token ≡ token)

-- one lexeme, this symbol
abbrev pub Is : Symbol → List Lexeme → Type 0
Is s ls = (l : Lexeme) × (ls ≡ l ∷ []) × (symbol_of l ≡ s)

-- one part or more, with the symbol between each two
abbrev pub AreJoined : {A : Type 0} → Symbol → (List Lexeme → A → Type 0) → List Lexeme → List A → Type 0
AreJoined s P ls [] = ⊥
AreJoined s P ls (x ∷ []) = P ls x
AreJoined s P ls (x ∷ y ∷ xs) =
    (part joint rest : List Lexeme) × (ls ≡ part ++ (joint ++ rest)) × P part x × Is s joint × AreJoined s P rest (y ∷ xs)

-- the same, the parts being grouped from the left
abbrev pub IsChain : Symbol → (Shape → Shape → Shape) → (List Lexeme → Shape → Type 0) → List Lexeme → Shape → Type 0
IsChain s group P ls c =
    (first : Shape) × (others : List Shape) × AreJoined s P ls (first ∷ others) × (c ≡ fold group first others)

-- nothing, or what P says
abbrev pub IsOptional : {A : Type 0} → (List Lexeme → A → Type 0) → List Lexeme → Option A → Type 0
IsOptional P ls None = ls ≡ []
IsOptional P ls (Some x) = P ls x

-- literal: Number, or `-` Number
abbrev pub IsLiteral : List Lexeme → Literal → Type 0
IsLiteral ls v =
    ((v.is_negative ≡ false) × IsToken symbol.Number ls v.digits)
    ⊎ ((v.is_negative ≡ true) × (minus number : List Lexeme) × (ls ≡ minus ++ number) × Is symbol.Minus minus × IsToken symbol.Number number v.digits)

-- comparison: name operator literal, or name BETWEEN literal AND literal
abbrev pub IsComparison : List Lexeme → Shape → Type 0
IsComparison ls (compares column operator value) =
    (name sign literal : List Lexeme) × (ls ≡ name ++ (sign ++ literal))
    × IsToken symbol.Name name column × Is (symbol.Operator operator) sign × IsLiteral literal value
IsComparison ls (between column low high) =
    (name word from and to : List Lexeme) × (ls ≡ name ++ (word ++ (from ++ (and ++ to))))
    × IsToken symbol.Name name column × Is symbol.Between word × IsLiteral from low × Is symbol.And and × IsLiteral to high
IsComparison ls _ = ⊥

-- NOT operand
abbrev pub IsNegation : (List Lexeme → Shape → Type 0) → List Lexeme → Shape → Type 0
IsNegation P ls c =
    (word operand : List Lexeme) × (negated : Shape)
    × (ls ≡ word ++ operand) × Is symbol.Not word × P operand negated × (c ≡ neither negated)

-- condition: operands joined by AND, and these joined by OR
abbrev pub IsDisjunction : (List Lexeme → Shape → Type 0) → List Lexeme → Shape → Type 0
IsDisjunction P ls c = IsChain symbol.Or either (IsChain symbol.And both P) ls c

-- ( condition )
abbrev pub IsNested : (List Lexeme → Shape → Type 0) → List Lexeme → Shape → Type 0
IsNested P ls c =
    (left inner right : List Lexeme) × (ls ≡ left ++ (inner ++ right))
    × Is symbol.Open left × IsDisjunction P inner c × Is symbol.Close right

-- operand: a comparison, NOT operand, or ( condition ), with at most so many parentheses and NOTs one in the other
abbrev pub IsOperand : ℕ → List Lexeme → Shape → Type 0
IsOperand zero ls c = IsComparison ls c
IsOperand (suc n) ls c = IsComparison ls c ⊎ (IsNegation (IsOperand n) ls c ⊎ IsNested (IsOperand n) ls c)

abbrev pub IsCondition : ℕ → List Lexeme → Shape → Type 0
IsCondition n ls c = IsDisjunction (IsOperand n) ls c

-- item: name, COUNT ( * ), or SUM, MIN or MAX ( name )
abbrev pub IsItem : List Lexeme → Item → Type 0
IsItem ls (Column name) = IsToken symbol.Name ls name
IsItem ls (Count first) =
    (word left star right : List Lexeme) × (ls ≡ word ++ (left ++ (star ++ right)))
    × IsToken symbol.Count word first × Is symbol.Open left × Is symbol.Star star × Is symbol.Close right
IsItem ls (Aggregate aggregate first column) =
    (word left name right : List Lexeme) × (ls ≡ word ++ (left ++ (name ++ right)))
    × IsToken (symbol.Aggregate aggregate) word first × Is symbol.Open left × IsToken symbol.Name name column × Is symbol.Close right

-- items: `*`, or items joined by commas
abbrev pub IsSelection : List Lexeme → Selection → Type 0
IsSelection ls (All star) = IsToken symbol.Star ls star
IsSelection ls (Listed items) = AreJoined symbol.Comma IsItem ls items

-- key: item, and ASC or DESC or neither
abbrev pub IsKey : List Lexeme → OrderKey → Type 0
IsKey ls key =
    (item direction : List Lexeme) × (ls ≡ item ++ direction) × IsItem item key.item
    × (((key.is_descending ≡ false) × ((direction ≡ []) ⊎ Is symbol.Ascending direction))
    ⊎ ((key.is_descending ≡ true) × Is symbol.Descending direction))

-- WHERE condition
abbrev pub IsFilter : ℕ → List Lexeme → Shape → Type 0
IsFilter n ls c = (word condition : List Lexeme) × (ls ≡ word ++ condition) × Is symbol.Where word × IsCondition n condition c

-- GROUP BY or ORDER BY, and parts joined by commas; or nothing where there are none
abbrev pub AreListedBy : {A : Type 0} → Symbol → (List Lexeme → A → Type 0) → List Lexeme → List A → Type 0
AreListedBy s P ls [] = ls ≡ []
AreListedBy s P ls (x ∷ xs) =
    (word by list : List Lexeme) × (ls ≡ word ++ (by ++ list)) × Is s word × Is symbol.By by × AreJoined symbol.Comma P list (x ∷ xs)

-- LIMIT Number
abbrev pub IsLimit : List Lexeme → Token → Type 0
IsLimit ls number = (word digits : List Lexeme) × (ls ≡ word ++ digits) × Is symbol.Limit word × IsToken symbol.Number digits number

-- EXPLAIN, or nothing
abbrev pub IsExplain : List Lexeme → Bool → Type 0
IsExplain ls is_explained = ((is_explained ≡ false) × (ls ≡ [])) ⊎ ((is_explained ≡ true) × Is symbol.Explain ls)

-- select: [EXPLAIN] SELECT items FROM name [WHERE condition] [GROUP BY names] [ORDER BY keys] [LIMIT Number],
-- with at most so many parentheses and NOTs round any place of its condition
pub record IsSelect (n : ℕ) (ls : List Lexeme) (s : Select) : Type 0 where
  pub explain : List Lexeme
  pub select : List Lexeme
  pub items : List Lexeme
  pub from : List Lexeme
  pub name : List Lexeme
  pub filter : List Lexeme
  pub group : List Lexeme
  pub order : List Lexeme
  pub limit : List Lexeme
  pub parts : ls ≡ explain ++ (select ++ (items ++ (from ++ (name ++ (filter ++ (group ++ (order ++ limit)))))))
  pub explain_is : IsExplain explain s.is_explained
  pub select_is : Is symbol.Select select
  pub items_are : IsSelection items s.selection
  pub from_is : Is symbol.From from
  pub name_is : IsToken symbol.Name name s.table
  pub filter_is : IsOptional (IsFilter n) filter s.filter
  pub group_is : AreListedBy symbol.Group (IsToken symbol.Name) group s.group
  pub order_is : AreListedBy symbol.Order IsKey order s.order
  pub limit_is : IsOptional IsLimit limit s.limit

-- value: literal, which begins with this token
abbrev pub IsValue : List Lexeme → Value → Type 0
IsValue ls v = (head : Lexeme) × (tail : List Lexeme) × (ls ≡ head ∷ tail) × (head.token ≡ v.first) × IsLiteral ls v.literal

-- insert: INSERT INTO name VALUES ( values )
pub record IsInsert (ls : List Lexeme) (i : Insertion) : Type 0 where
  pub insert : List Lexeme
  pub into : List Lexeme
  pub name : List Lexeme
  pub word : List Lexeme
  pub left : List Lexeme
  pub values : List Lexeme
  pub close : List Lexeme
  pub parts : ls ≡ insert ++ (into ++ (name ++ (word ++ (left ++ (values ++ close)))))
  pub insert_is : Is symbol.Insert insert
  pub into_is : Is symbol.Into into
  pub name_is : IsToken symbol.Name name i.table
  pub word_is : Is symbol.Values word
  pub left_is : Is symbol.Open left
  pub values_are : AreJoined symbol.Comma IsValue values i.values
  pub close_is : IsToken symbol.Close close i.close

-- delete: DELETE FROM name [WHERE condition], with at most so many parentheses and NOTs round any place of its condition
pub record IsDelete (n : ℕ) (ls : List Lexeme) (s : Select) : Type 0 where
  pub delete : List Lexeme
  pub from : List Lexeme
  pub name : List Lexeme
  pub filter : List Lexeme
  pub word : Token
  pub table : Token
  pub condition : Option Shape
  pub parts : ls ≡ delete ++ (from ++ (name ++ filter))
  pub delete_is : IsToken symbol.Delete delete word
  pub from_is : Is symbol.From from
  pub name_is : IsToken symbol.Name name table
  pub filter_is : IsOptional (IsFilter n) filter condition
  pub rows : s ≡ rows_of word table condition

-- statement: select, insert or delete
abbrev pub IsStatement : ℕ → List Lexeme → Stated → Type 0
IsStatement n ls (selects s) = IsSelect n ls s
IsStatement n ls (inserts i) = IsInsert ls i
IsStatement n ls (deletes s) = IsDelete n ls s
