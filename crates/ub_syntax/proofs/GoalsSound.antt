-- What a goal's lexemes are to the grammar.
use Rattle.std.proofs.Common.{◌≡◌, ◌⊎◌, ℕ, zero, suc, List, [], ◌∷◌, ◌++◌, Bool, true, false, Result, Ok, Err, refl, sym, ap, ◌∙◌, append_assoc, inl, inr, subst, if◌then◌else◌}
use Rattle.std.proofs.lemmas.Bool.{false≢true}
use Rattle.std.proofs.lemmas.List.{append-nil}
use Rattle.ub_lexer.specs.declared.token.Token.{Token}
use Rattle.ub_syntax.specs.Grammar.{Lexeme, symbol_of, Is, IsToken, AreJoined, IsChain, IsLiteral, IsComparison, IsDisjunction, IsOperand, IsCondition, IsItem}
use Rattle.ub_syntax.specs.Tree.{Shape, both, either, neither, compares, between}
use Rattle.std.specs.List.{fold}
use Rattle.ub_syntax.specs.Machine.{goals_of, is_fixed, token, item, comparison, literal, operand, nested, expand}
use Rattle.ub_syntax.specs.declared.symbol.Symbol.{Symbol}
use Rattle.ub_syntax.specs.declared.symbol.Symbol.TheVariants as symbol
use Rattle.ub_syntax.specs.declared.syntax.Literal.{Literal}
use Rattle.ub_syntax.specs.declared.syntax.Item.{Item}
use Rattle.ub_syntax.specs.declared.syntax.Item.TheVariants.{Column, Count, Aggregate}
use Rattle.ub_syntax.specs.declared.machine.Fixed.{Fixed}
use Rattle.ub_syntax.specs.declared.machine.Fixed.TheVariants as fixed
use Rattle.ub_syntax.specs.declared.machine.Goal.{Goal}
use Rattle.ub_syntax.specs.declared.machine.Goal.TheVariants as goal
use Rattle.ub_syntax.specs.declared.machine.Row.{Row}
use Rattle.ub_syntax.specs.declared.machine.Row.TheVariants.{Nothing, One, Two, Three}
use Rattle.ub_syntax.specs.declared.machine.Refusal.{Refusal}
use Rattle.ub_syntax.specs.declared.machine.Refusal.TheVariants.{Syntax}

abbrev pub fixed_symbol : Fixed → Symbol
fixed_symbol fixed.Select = symbol.Select
fixed_symbol fixed.From = symbol.From
fixed_symbol fixed.By = symbol.By
fixed_symbol fixed.And = symbol.And
fixed_symbol fixed.Into = symbol.Into
fixed_symbol fixed.Values = symbol.Values
fixed_symbol fixed.Name = symbol.Name
fixed_symbol fixed.Number = symbol.Number
fixed_symbol fixed.Open = symbol.Open
fixed_symbol fixed.Star = symbol.Star
fixed_symbol fixed.Close = symbol.Close

-- what the lexemes of a goal are
abbrev pub Stands : Goal → List Lexeme → Type 0
Stands (goal.Token f) ls = Is (fixed_symbol f) ls
Stands goal.Item ls = (x : Item) × IsItem ls x
Stands goal.Comparison ls = (name : List Lexeme) (column : Token) → IsToken symbol.Name name column → (c : Shape) × IsComparison (name ++ ls) c
Stands goal.Literal ls = (v : Literal) × IsLiteral ls v
Stands (goal.Operand n) ls = (c : Shape) × IsOperand n ls c
Stands (goal.Nested n) ls =
    (front : List Lexeme) (c : Shape) → IsCondition n front c
    → (inside right : List Lexeme) × (d : Shape) × (front ++ ls ≡ inside ++ right) × IsCondition n inside d × Is symbol.Close right

-- what the lexemes of goals in a row are
abbrev pub StandAll : List Goal → List Lexeme → Type 0
StandAll [] ls = ls ≡ []
StandAll (g ∷ gs) ls = (part others : List Lexeme) × (ls ≡ part ++ others) × Stands g part × StandAll gs others

pub split : (gs hs : List Goal) (ls : List Lexeme) → StandAll (gs ++ hs) ls
    → (part others : List Lexeme) × (ls ≡ part ++ others) × StandAll gs part × StandAll hs others
split [] hs ls h = ([], ls, refl, refl, h)
split (g ∷ gs) hs ls h =
    let rest = split gs hs h.1 h.4 in
    (h.0 ++ rest.0, rest.1, h.2 ∙ ap (λ (xs : List Lexeme). h.0 ++ xs) rest.2 ∙ sym (append_assoc h.0 rest.0 rest.1), (h.0, rest.0, refl, h.3, rest.3), rest.4)

is_this : (f : Fixed) (s : Symbol) → is_fixed f s ≡ true → s ≡ fixed_symbol f
is_this fixed.Select symbol.Select h = refl
is_this fixed.From symbol.From h = refl
is_this fixed.By symbol.By h = refl
is_this fixed.And symbol.And h = refl
is_this fixed.Into symbol.Into h = refl
is_this fixed.Values symbol.Values h = refl
is_this fixed.Name symbol.Name h = refl
is_this fixed.Number symbol.Number h = refl
is_this fixed.Open symbol.Open h = refl
is_this fixed.Star symbol.Star h = refl
is_this fixed.Close symbol.Close h = refl
is_this _ _ h = absurd (false≢true h)

-- what is refused gives nothing
pub none_given : {A B : Type 0} (f : Refusal) (x : A) → (let r : Result A Refusal = Err f in r) ≡ Ok x → B
none_given f x e = let never : ⊥ = cc in absurd never

abbrev good : Row → Result Row Refusal
good row = Ok row

tested : (b : Bool) (row : Row) → (if b then Ok Nothing else Err Syntax) ≡ good row → (b ≡ true) × (row ≡ Nothing)
tested true row h = (refl, cc)
tested false row h = cc

-- parts with a symbol between each two, and one part more
pub joined_more : {A : Type 0} (s : Symbol) (P : List Lexeme → A → Type 0) (ls : List Lexeme) (xs : List A) (joint part : List Lexeme) (x : A)
    → AreJoined s P ls xs → Is s joint → P part x → AreJoined s P (ls ++ (joint ++ part)) (xs ++ x ∷ [])
joined_more s P ls [] joint part x h is p = absurd h
joined_more s P ls (y ∷ []) joint part x h is p = (ls, joint, part, refl, h, is, p)
joined_more s P ls (y ∷ z ∷ xs) joint part x h is p = (
  h.0,
  h.1,
  h.2 ++ (joint ++ part),
  ap (λ (k : List Lexeme). k ++ (joint ++ part)) h.3 ∙ append_assoc h.0 (h.1 ++ h.2) (joint ++ part) ∙ ap (λ (k : List Lexeme). h.0 ++ k) (append_assoc h.1 h.2 (joint ++ part)),
  h.4,
  h.5,
  joined_more s P h.2 (z ∷ xs) joint part x h.6 is p,
)

-- an operand is a condition
pub lone : (P : List Lexeme → Shape → Type 0) (ls : List Lexeme) (c : Shape) → P ls c → IsDisjunction P ls c
lone P ls c h = (c, [], (c, [], h, refl), refl)

or_more : (P : List Lexeme → Shape → Type 0) (ls joint part : List Lexeme) (c x : Shape) → IsDisjunction P ls c → Is symbol.Or joint → P part x
    → (d : Shape) × IsDisjunction P (ls ++ (joint ++ part)) d
or_more P ls joint part c x h is p = (
  fold either h.0 (h.1 ++ x ∷ []),
  (h.0, h.1 ++ x ∷ [], joined_more symbol.Or (IsChain symbol.And both P) ls (h.0 ∷ h.1) joint part x h.2 is (x, [], p, refl), refl),
)

-- the last of the parts that OR joins goes on with AND
last_more : (P : List Lexeme → Shape → Type 0) (ls joint part : List Lexeme) (y : Shape) (ys : List Shape) (x : Shape)
    → AreJoined symbol.Or (IsChain symbol.And both P) ls (y ∷ ys) → Is symbol.And joint → P part x
    → (z : Shape) × (zs : List Shape) × AreJoined symbol.Or (IsChain symbol.And both P) (ls ++ (joint ++ part)) (z ∷ zs)
last_more P ls joint part y [] x h is p =
    (fold both h.0 (h.1 ++ x ∷ []), [], (h.0, h.1 ++ x ∷ [], joined_more symbol.And P ls (h.0 ∷ h.1) joint part x h.2 is p, refl))
last_more P ls joint part y (y2 ∷ ys) x h is p =
    let more = last_more P h.2 joint part y2 ys x h.6 is p in (
      y,
      more.0 ∷ more.1,
      (
        h.0,
        h.1,
        h.2 ++ (joint ++ part),
        ap (λ (k : List Lexeme). k ++ (joint ++ part)) h.3 ∙ append_assoc h.0 (h.1 ++ h.2) (joint ++ part) ∙ ap (λ (k : List Lexeme). h.0 ++ k) (append_assoc h.1 h.2 (joint ++ part)),
        h.4,
        h.5,
        more.2,
      ),
    )

and_more : (P : List Lexeme → Shape → Type 0) (ls joint part : List Lexeme) (c x : Shape) → IsDisjunction P ls c → Is symbol.And joint → P part x
    → (d : Shape) × IsDisjunction P (ls ++ (joint ++ part)) d
and_more P ls joint part c x h is p =
    let more = last_more P ls joint part h.0 h.1 x h.2 is p in
    (fold either more.0 more.1, (more.0, more.1, more.2, refl))

-- a condition goes on with AND or OR and an operand
pub condition_more : (n : ℕ) (ls joint part : List Lexeme) (c x : Shape) → IsCondition n ls c → (Is symbol.And joint ⊎ Is symbol.Or joint) → IsOperand n part x
    → (d : Shape) × IsCondition n (ls ++ (joint ++ part)) d
condition_more n ls joint part c x h (inl is) p = and_more (IsOperand n) ls joint part c x h is p
condition_more n ls joint part c x h (inr is) p = or_more (IsOperand n) ls joint part c x h is p

stand : (a row : Row) (ls : List Lexeme) → good a ≡ good row → StandAll (goals_of row) ls → StandAll (goals_of a) ls
stand a row ls e h = let same : row ≡ a = cc in subst (λ (r : Row). StandAll (goals_of r) ls) same h

pub one : (a : Goal) (ls : List Lexeme) → StandAll (a ∷ []) ls → Stands a ls
one a ls h = subst (Stands a) (sym (h.2 ∙ ap (λ (k : List Lexeme). h.0 ++ k) h.4 ∙ append-nil h.0)) h.3

pub two : (a b : Goal) (ls : List Lexeme) → StandAll (a ∷ b ∷ []) ls → (p q : List Lexeme) × (ls ≡ p ++ q) × Stands a p × Stands b q
two a b ls h = (h.0, h.1, h.2, h.3, one b h.1 h.4)

pub three : (a b c : Goal) (ls : List Lexeme) → StandAll (a ∷ b ∷ c ∷ []) ls
    → (p q r : List Lexeme) × (ls ≡ p ++ (q ++ r)) × Stands a p × Stands b q × Stands c r
three a b c ls h =
    let others = two b c h.1 h.4 in
    (h.0, others.0, others.1, h.2 ∙ ap (λ (k : List Lexeme). h.0 ++ k) others.2, h.3, others.3, others.4)

pub alone : (s : Symbol) (l : Lexeme) (ls : List Lexeme) → symbol_of l ≡ s → ls ≡ [] → IsToken s (l ∷ ls) l.token
alone s l ls e none = (l, ap (λ (k : List Lexeme). l ∷ k) none, e, refl)

token_stands : (f : Fixed) (l : Lexeme) (row : Row) (ls : List Lexeme) → token f (symbol_of l) ≡ Ok row → StandAll (goals_of row) ls → Stands (goal.Token f) (l ∷ ls)
token_stands f l row ls e h =
    let t = tested (is_fixed f (symbol_of l)) row e in
    let none : ls ≡ [] = subst (λ (r : Row). StandAll (goals_of r) ls) t.1 h in
    (l, ap (λ (k : List Lexeme). l ∷ k) none, is_this f (symbol_of l) t.0)

pub item_stands : (s : Symbol) (l : Lexeme) (row : Row) (ls : List Lexeme) → symbol_of l ≡ s → item s ≡ Ok row → StandAll (goals_of row) ls → Stands goal.Item (l ∷ ls)
item_stands symbol.Name l row ls is e h = (Column l.token, alone symbol.Name l ls is (stand Nothing row ls e h))
item_stands symbol.Count l row ls is e h =
    let p = three (goal.Token fixed.Open) (goal.Token fixed.Star) (goal.Token fixed.Close) ls (stand (Three (goal.Token fixed.Open) (goal.Token fixed.Star) (goal.Token fixed.Close)) row ls e h) in
    (Count l.token, (l ∷ [], p.0, p.1, p.2, ap (λ (k : List Lexeme). l ∷ k) p.3, alone symbol.Count l [] is refl, p.4, p.5, p.6))
item_stands (symbol.Aggregate a) l row ls is e h =
    let p = three (goal.Token fixed.Open) (goal.Token fixed.Name) (goal.Token fixed.Close) ls (stand (Three (goal.Token fixed.Open) (goal.Token fixed.Name) (goal.Token fixed.Close)) row ls e h) in
    let name = p.5 in
    (Aggregate a l.token name.0.token, (l ∷ [], p.0, p.1, p.2, ap (λ (k : List Lexeme). l ∷ k) p.3, alone (symbol.Aggregate a) l [] is refl, p.4, (name.0, name.1, name.2, refl), p.6))
item_stands _ l row ls is e h = none_given _ _ e

comparison_stands : (s : Symbol) (l : Lexeme) (row : Row) (ls : List Lexeme) → symbol_of l ≡ s → comparison s ≡ Ok row → StandAll (goals_of row) ls → Stands goal.Comparison (l ∷ ls)
comparison_stands (symbol.Operator o) l row ls is e h = λ name column named.
    let v = one goal.Literal ls (stand (One goal.Literal) row ls e h) in
    (compares column o v.0, (name, l ∷ [], ls, refl, named, (l, refl, is), v.1))
comparison_stands symbol.Between l row ls is e h = λ name column named.
    let p = three goal.Literal (goal.Token fixed.And) goal.Literal ls (stand (Three goal.Literal (goal.Token fixed.And) goal.Literal) row ls e h) in
    let low = p.4 in
    let high = p.6 in
    (between column low.0 high.0, (name, l ∷ [], p.0, p.1, p.2, ap (λ (k : List Lexeme). name ++ (l ∷ k)) p.3, named, (l, refl, is), low.1, p.5, high.1))
comparison_stands _ l row ls is e h = none_given _ _ e

literal_stands : (s : Symbol) (l : Lexeme) (row : Row) (ls : List Lexeme) → symbol_of l ≡ s → literal s ≡ Ok row → StandAll (goals_of row) ls → Stands goal.Literal (l ∷ ls)
literal_stands symbol.Number l row ls is e h =
    (record { is_negative = false; digits = l.token }, inl (refl, alone symbol.Number l ls is (stand Nothing row ls e h)))
literal_stands symbol.Minus l row ls is e h =
    let digits = one (goal.Token fixed.Number) ls (stand (One (goal.Token fixed.Number)) row ls e h) in
    (record { is_negative = true; digits = digits.0.token }, inr (refl, l ∷ [], ls, refl, (l, refl, is), (digits.0, digits.1, digits.2, refl)))
literal_stands _ l row ls is e h = none_given _ _ e

comparison_operand : (n : ℕ) (ls : List Lexeme) (c : Shape) → IsComparison ls c → IsOperand n ls c
comparison_operand zero ls c h = h
comparison_operand (suc n) ls c h = inl h

operand_stands : (n : ℕ) (s : Symbol) (l : Lexeme) (row : Row) (ls : List Lexeme) → symbol_of l ≡ s → operand n s ≡ Ok row → StandAll (goals_of row) ls
    → Stands (goal.Operand n) (l ∷ ls)
operand_stands n symbol.Name l row ls is e h =
    let c = one goal.Comparison ls (stand (One goal.Comparison) row ls e h) (l ∷ []) l.token (alone symbol.Name l [] is refl) in
    (c.0, comparison_operand n (l ∷ ls) c.0 c.1)
operand_stands zero symbol.Not l row ls is e h = none_given _ _ e
operand_stands (suc n) symbol.Not l row ls is e h =
    let c = one (goal.Operand n) ls (stand (One (goal.Operand n)) row ls e h) in
    (neither c.0, inr (inl (l ∷ [], ls, c.0, refl, (l, refl, is), c.1, refl)))
operand_stands zero symbol.Open l row ls is e h = none_given _ _ e
operand_stands (suc n) symbol.Open l row ls is e h =
    let p = two (goal.Operand n) (goal.Nested n) ls (stand (Two (goal.Operand n) (goal.Nested n)) row ls e h) in
    let c = p.3 in
    let r = p.4 p.0 c.0 (lone (IsOperand n) p.0 c.0 c.1) in
    (r.2, inr (inr (l ∷ [], r.0, r.1, ap (λ (k : List Lexeme). l ∷ k) (p.2 ∙ r.3), (l, refl, is), r.4, r.5)))
operand_stands n _ l row ls is e h = none_given _ _ e

nested_more : (n : ℕ) (l : Lexeme) (row : Row) (ls : List Lexeme) → (Is symbol.And (l ∷ []) ⊎ Is symbol.Or (l ∷ [])) → good (Two (goal.Operand n) (goal.Nested n)) ≡ good row
    → StandAll (goals_of row) ls → Stands (goal.Nested n) (l ∷ ls)
nested_more n l row ls is e h = λ front c known.
    let p = two (goal.Operand n) (goal.Nested n) ls (stand (Two (goal.Operand n) (goal.Nested n)) row ls e h) in
    let x = p.3 in
    let more = condition_more n front (l ∷ []) p.0 c x.0 known is x.1 in
    let r = p.4 (front ++ (l ∷ p.0)) more.0 more.1 in
    (r.0, r.1, r.2, ap (λ (k : List Lexeme). front ++ (l ∷ k)) p.2 ∙ sym (append_assoc front (l ∷ p.0) p.1) ∙ r.3, r.4, r.5)

nested_stands : (n : ℕ) (s : Symbol) (l : Lexeme) (row : Row) (ls : List Lexeme) → symbol_of l ≡ s → nested n s ≡ Ok row → StandAll (goals_of row) ls
    → Stands (goal.Nested n) (l ∷ ls)
nested_stands n symbol.And l row ls is e h = nested_more n l row ls (inl (l, refl, is)) e h
nested_stands n symbol.Or l row ls is e h = nested_more n l row ls (inr (l, refl, is)) e h
nested_stands n symbol.Close l row ls is e h = λ front c known.
    (front, l ∷ [], c, ap (λ (k : List Lexeme). front ++ (l ∷ k)) (stand Nothing row ls e h), known, (l, refl, is))
nested_stands n _ l row ls is e h = none_given _ _ e

-- a goal's first lexeme and what the goals are for which it then asks make up the goal
pub goal_stands : (g : Goal) (l : Lexeme) (row : Row) (ls : List Lexeme) → expand g (symbol_of l) ≡ Ok row → StandAll (goals_of row) ls → Stands g (l ∷ ls)
goal_stands (goal.Token f) l row ls e h = token_stands f l row ls e h
goal_stands goal.Item l row ls e h = item_stands (symbol_of l) l row ls refl e h
goal_stands goal.Comparison l row ls e h = comparison_stands (symbol_of l) l row ls refl e h
goal_stands goal.Literal l row ls e h = literal_stands (symbol_of l) l row ls refl e h
goal_stands (goal.Operand n) l row ls e h = operand_stands n (symbol_of l) l row ls refl e h
goal_stands (goal.Nested n) l row ls e h = nested_stands n (symbol_of l) l row ls refl e h
