-- A statement drives the machine from its start to a state in which it may end.
use Rattle.std.proofs.Common.{◌≡◌, ◌≢◌, ◌⊎◌, ℕ, List, [], ◌∷◌, ◌++◌, Bool, true, Option, Some, None, Result, refl, sym, ap, ◌∙◌, append_assoc, inl, inr, subst}
use Rattle.std.proofs.lemmas.List.{append-nil}
use Rattle.ub_lexer.specs.declared.token.Token.{Token}
use Rattle.ub_syntax.specs.Grammar.{Lexeme, symbol_of, Is, IsToken, AreJoined, IsOperand, IsItem, IsSelection, IsKey, IsOptional, IsFilter, AreListedBy, IsLimit, IsExplain, IsSelect, IsStatement}
use Rattle.ub_syntax.specs.Tree.{Shape, Select, Stated, selects, inserts, deletes}
use Rattle.ub_syntax.specs.Machine.{Config, config, goals_of, if_ok, and_then, follow, turn_to, config_of, step, reads, start, may_end}
use Rattle.ub_syntax.specs.declared.symbol.Symbol.{Symbol}
use Rattle.ub_syntax.specs.declared.symbol.Symbol.TheVariants as symbol
use Rattle.ub_syntax.specs.declared.syntax.Item.{Item}
use Rattle.ub_syntax.specs.declared.syntax.Item.TheVariants.{Column, Count, Aggregate}
use Rattle.ub_syntax.specs.declared.syntax.Selection.{Selection}
use Rattle.ub_syntax.specs.declared.syntax.Selection.TheVariants.{All, Listed}
use Rattle.ub_syntax.specs.declared.syntax.OrderKey.{OrderKey}
use Rattle.ub_syntax.specs.declared.machine.Fixed.TheVariants as fixed
use Rattle.ub_syntax.specs.declared.machine.Goal.TheVariants as goal
use Rattle.ub_syntax.specs.declared.machine.Rest.{Rest}
use Rattle.ub_syntax.specs.declared.machine.Rest.TheVariants as rest
use Rattle.ub_syntax.specs.declared.machine.Row.{Row}
use Rattle.ub_syntax.specs.declared.machine.Row.TheVariants.{One, Two}
use Rattle.ub_syntax.specs.declared.machine.Turn.{Turn}
use Rattle.ub_syntax.specs.declared.machine.Refusal.{Refusal}
use Rattle.ub_syntax.proofs.Moves.{Moves, stay, go, over, by_step, is_of, joined_moves}
use Rattle.ub_syntax.proofs.Drives.{drives_only, item_drives, operand_drives, disjunction_moves}
use Rattle.ub_syntax.proofs.ChangeDrives.{insert_moves, delete_moves}

-- a state after which the statement may end or go on with LIMIT
record CanLimit (n : ℕ) (r : Rest) : Type 0 where
  pub ends : may_end r ≡ true
  pub limit : follow n r symbol.Limit ≡ turn_to (One (goal.Token fixed.Number)) rest.End

record CanOrder (n : ℕ) (r : Rest) : Type 0 where
  pub order : follow n r symbol.Order ≡ turn_to (Two (goal.Token fixed.By) goal.Item) rest.AfterKey
  pub can : CanLimit n r

record CanGroup (n : ℕ) (r : Rest) : Type 0 where
  pub group : follow n r symbol.Group ≡ turn_to (Two (goal.Token fixed.By) (goal.Token fixed.Name)) rest.AfterGroup
  pub can : CanOrder n r

by_turn : {n : ℕ} {r t : Rest} (s : Symbol) (row : Row) {ls : List Lexeme} → follow n r s ≡ turn_to row t → Is s ls
    → Moves n (config [] r) (config (goals_of row ++ []) t) ls
by_turn s row e is = by_step s (ap (λ (u : Result Turn Refusal). if_ok (config_of []) u) e) is

limit_moves : (n : ℕ) (r : Rest) (ls : List Lexeme) (o : Option Token) → CanLimit n r → IsOptional IsLimit ls o
    → (e : Rest) × (may_end e ≡ true) × Moves n (config [] r) (config [] e) ls
limit_moves n r ls None can h = (r, can.ends, over h stay)
limit_moves n r ls (Some number) can h = (
  rest.End,
  refl,
  over h.2 (go (by_turn symbol.Limit (One (goal.Token fixed.Number)) can.limit h.3)
      ((drives_only (goal.Token fixed.Number) symbol.Number refl (is_of _ h.4)).moves [] rest.End)),
)

-- a state after a key
record KeyEnd (n : ℕ) (c : Config) : Type 0 where
  pub r : Rest
  pub is : c ≡ config [] r
  pub can : CanLimit n r
  pub comma : follow n r symbol.Comma ≡ turn_to (One goal.Item) rest.AfterKey

after_item_of_key : (n : ℕ) → KeyEnd n (config [] rest.AfterKey)
after_item_of_key n = record { r = rest.AfterKey; is = refl; can = record { ends = refl; limit = refl }; comma = refl }

after_direction : (n : ℕ) → KeyEnd n (config [] rest.AfterDirection)
after_direction n = record { r = rest.AfterDirection; is = refl; can = record { ends = refl; limit = refl }; comma = refl }

key_moves : (n : ℕ) (ls : List Lexeme) (key : OrderKey) → IsKey ls key → (e : Config) × KeyEnd n e × Moves n (config (goal.Item ∷ []) rest.AfterKey) e ls
key_moves n ls key h =
    let item : Moves n (config (goal.Item ∷ []) rest.AfterKey) (config [] rest.AfterKey) h.0 = (item_drives n h.0 key.item h.3).moves [] rest.AfterKey in
    elim h.4 [
      | inl a ↦ elim a.1 [
        | inl none ↦ (config [] rest.AfterKey, after_item_of_key n, over h.2 (go item (over none stay)))
        | inr is ↦ (config [] rest.AfterDirection, after_direction n, over h.2 (go item (by_step symbol.Ascending refl is)))
      ]
      | inr d ↦ (config [] rest.AfterDirection, after_direction n, over h.2 (go item (by_step symbol.Descending refl d.1)))
    ]

order_moves : (n : ℕ) (r : Rest) (ls : List Lexeme) (keys : List OrderKey) → CanOrder n r → AreListedBy symbol.Order IsKey ls keys
    → (e : Rest) × CanLimit n e × Moves n (config [] r) (config [] e) ls
order_moves n r ls [] can h = (r, can.can, over h stay)
order_moves n r ls (key ∷ keys) can h =
    let all = joined_moves {n = n} symbol.Comma IsKey (config (goal.Item ∷ []) rest.AfterKey) (KeyEnd n) (key_moves n)
    (λ e j end is. subst (λ (k : Config). Moves n k (config (goal.Item ∷ []) rest.AfterKey) j) (sym end.is) (by_turn symbol.Comma (One goal.Item) end.comma is))
    h.2 (key ∷ keys) h.6 in (
      all.1.r,
      all.1.can,
      over h.3 (go (by_turn symbol.Order (Two (goal.Token fixed.By) goal.Item) can.order h.4)
          (go ((drives_only (goal.Token fixed.By) symbol.By refl h.5).moves (goal.Item ∷ []) rest.AfterKey)
          (subst (λ (k : Config). Moves n (config (goal.Item ∷ []) rest.AfterKey) k h.2) all.1.is all.2))),
    )

group_moves : (n : ℕ) (r : Rest) (ls : List Lexeme) (names : List Token) → CanGroup n r → AreListedBy symbol.Group (IsToken symbol.Name) ls names
    → (e : Rest) × CanOrder n e × Moves n (config [] r) (config [] e) ls
group_moves n r ls [] can h = (r, can.can, over h stay)
group_moves n r ls (name ∷ names) can h =
    let all = joined_moves {n = n} symbol.Comma (IsToken symbol.Name) (config (goal.Token fixed.Name ∷ []) rest.AfterGroup) (λ (e : Config). e ≡ config [] rest.AfterGroup)
    (λ ls x is. (config [] rest.AfterGroup, refl, (drives_only (goal.Token fixed.Name) symbol.Name refl (is_of x is)).moves [] rest.AfterGroup))
    (λ e j end is. subst (λ (k : Config). Moves n k (config (goal.Token fixed.Name ∷ []) rest.AfterGroup) j) (sym end) (by_step symbol.Comma refl is))
    h.2 (name ∷ names) h.6 in (
      rest.AfterGroup,
      record { order = refl; can = record { ends = refl; limit = refl } },
      over h.3 (go (by_turn symbol.Group (Two (goal.Token fixed.By) (goal.Token fixed.Name)) can.group h.4)
          (go ((drives_only (goal.Token fixed.By) symbol.By refl h.5).moves (goal.Token fixed.Name ∷ []) rest.AfterGroup)
          (subst (λ (k : Config). Moves n (config (goal.Token fixed.Name ∷ []) rest.AfterGroup) k h.2) all.1 all.2))),
    )

outside : (n : ℕ) (joint : List Lexeme) → (Is symbol.And joint ⊎ Is symbol.Or joint)
    → Moves n (config [] rest.AfterOperand) (config (goal.Operand n ∷ []) rest.AfterOperand) joint
outside n joint (inl is) = by_step symbol.And refl is
outside n joint (inr is) = by_step symbol.Or refl is

filter_moves : (n : ℕ) (ls : List Lexeme) (o : Option Shape) → IsOptional (IsFilter n) ls o
    → (e : Rest) × CanGroup n e × Moves n (config [] rest.AfterTable) (config [] e) ls
filter_moves n ls None h =
    (rest.AfterTable, record { group = refl; can = record { order = refl; can = record { ends = refl; limit = refl } } }, over h stay)
filter_moves n ls (Some c) h = (
  rest.AfterOperand,
  record { group = refl; can = record { order = refl; can = record { ends = refl; limit = refl } } },
  over h.2 (go (by_step symbol.Where refl h.3)
      (disjunction_moves (IsOperand n) (config (goal.Operand n ∷ []) rest.AfterOperand) (config [] rest.AfterOperand)
      (λ ls x p. (operand_drives n n ls x p).moves [] rest.AfterOperand) (outside n) h.1 c h.4)),
)

head_moves : (n : ℕ) (explain select : List Lexeme) (b : Bool) → IsExplain explain b → Is symbol.Select select
    → (m : Config) × Moves n start m explain × Moves n m (config [] rest.Items) select
head_moves n explain select b (inl h) is = (start, over h.1 stay, by_step symbol.Select refl is)
head_moves n explain select b (inr h) is = (
  config (goal.Token fixed.Select ∷ []) rest.Items,
  by_step symbol.Explain refl h.1,
  (drives_only (goal.Token fixed.Select) symbol.Select refl is).moves [] rest.Items,
)

-- the lexemes begin with one that isn't `*`
record BeginsItem (ls : List Lexeme) : Type 0 where
  pub first : Lexeme
  pub others : List Lexeme
  pub are : ls ≡ first ∷ others
  pub no_star : symbol_of first ≢ symbol.Star

begins_with : (s : Symbol) (ls others : List Lexeme) (word : List Lexeme) → ls ≡ word ++ others → Is s word → s ≢ symbol.Star → BeginsItem ls
begins_with s ls others word e is other = record {
  first = is.0;
  others = others;
  are = e ∙ ap (λ (w : List Lexeme). w ++ others) is.1;
  no_star = λ star. other (sym is.2 ∙ star);
}

item_begins : (ls others : List Lexeme) (x : Item) → IsItem ls x → BeginsItem (ls ++ others)
item_begins ls others (Column name) h = begins_with symbol.Name _ others ls refl (is_of name h) (λ e. cc)
item_begins ls others (Count first) h =
    begins_with symbol.Count _ _ h.0 (ap (λ (xs : List Lexeme). xs ++ others) h.4 ∙ append_assoc h.0 _ others) (is_of first h.5) (λ e. cc)
item_begins ls others (Aggregate a first column) h =
    begins_with (symbol.Aggregate a) _ _ h.0 (ap (λ (xs : List Lexeme). xs ++ others) h.4 ∙ append_assoc h.0 _ others) (is_of first h.5) (λ e. cc)

items_begin : (ls : List Lexeme) (xs : List Item) → AreJoined symbol.Comma IsItem ls xs → BeginsItem ls
items_begin ls [] h = absurd h
items_begin ls (x ∷ []) h = subst BeginsItem (append-nil ls) (item_begins ls [] x h)
items_begin ls (x ∷ y ∷ xs) h = subst BeginsItem (sym h.3) (item_begins h.0 (h.1 ++ h.2) x h.4)

same_step : (n : ℕ) (s : Symbol) → s ≢ symbol.Star → step n (config [] rest.Items) s ≡ step n (config (goal.Item ∷ []) rest.AfterItem) s
same_step n symbol.Star h = absurd (h refl)
same_step n _ h = refl

as_item : (n : ℕ) (e : Config) (ls : List Lexeme) → BeginsItem ls → Moves n (config (goal.Item ∷ []) rest.AfterItem) e ls → Moves n (config [] rest.Items) e ls
as_item n e ls b moves = record {
  reading = λ more.
      ap (λ (xs : List Lexeme). reads n (config [] rest.Items) (xs ++ more)) b.are
      ∙ ap (λ (r : Result Config Refusal). and_then r (λ d. reads n d (b.others ++ more))) (same_step n (symbol_of b.first) b.no_star)
      ∙ ap (λ (xs : List Lexeme). reads n (config (goal.Item ∷ []) rest.AfterItem) (xs ++ more)) (sym b.are)
      ∙ moves.reading more;
}

selection_moves : (n : ℕ) (items from : List Lexeme) (s : Selection) → IsSelection items s → Is symbol.From from
    → (m : Config) × Moves n (config [] rest.Items) m items × Moves n m (config (goal.Token fixed.Name ∷ []) rest.AfterTable) from
selection_moves n items from (All star) h is = (
  config (goal.Token fixed.From ∷ goal.Token fixed.Name ∷ []) rest.AfterTable,
  by_step symbol.Star refl (is_of star h),
  (drives_only (goal.Token fixed.From) symbol.From refl is).moves (goal.Token fixed.Name ∷ []) rest.AfterTable,
)
selection_moves n items from (Listed xs) h is =
    let all = joined_moves {n = n} symbol.Comma IsItem (config (goal.Item ∷ []) rest.AfterItem) (λ (e : Config). e ≡ config [] rest.AfterItem)
    (λ ls x p. (config [] rest.AfterItem, refl, (item_drives n ls x p).moves [] rest.AfterItem))
    (λ e j end is. subst (λ (k : Config). Moves n k (config (goal.Item ∷ []) rest.AfterItem) j) (sym end) (by_step symbol.Comma refl is))
    items xs h in (
      config [] rest.AfterItem,
      as_item n _ items (items_begin items xs h) (subst (λ (k : Config). Moves n (config (goal.Item ∷ []) rest.AfterItem) k items) all.1 all.2),
      by_step symbol.From refl is,
    )

select_moves : (n : ℕ) (ls : List Lexeme) (s : Select) → IsSelect n ls s → (e : Rest) × (may_end e ≡ true) × Moves n start (config [] e) ls
select_moves n ls s h =
    let head = head_moves n h.explain h.select s.is_explained h.explain_is h.select_is in
    let selection = selection_moves n h.items h.from s.selection h.items_are h.from_is in
    let filter = filter_moves n h.filter s.filter h.filter_is in
    let group = group_moves n filter.0 h.group s.group filter.1 h.group_is in
    let order = order_moves n group.0 h.order s.order group.1 h.order_is in
    let limit = limit_moves n order.0 h.limit s.limit order.1 h.limit_is in
    let name : Moves n (config (goal.Token fixed.Name ∷ []) rest.AfterTable) (config [] rest.AfterTable) h.name =
    (drives_only (goal.Token fixed.Name) symbol.Name refl (is_of s.table h.name_is)).moves [] rest.AfterTable in (
      limit.0,
      limit.1,
      over h.parts (go head.1 (go head.2 (go selection.1 (go selection.2 (go name (go filter.2 (go group.2 (go order.2 limit.2)))))))),
    )

pub statement_moves : (n : ℕ) (ls : List Lexeme) (s : Stated) → IsStatement n ls s → (e : Rest) × (may_end e ≡ true) × Moves n start (config [] e) ls
statement_moves n ls (selects s) h = select_moves n ls s h
statement_moves n ls (inserts i) h = insert_moves n ls i h
statement_moves n ls (deletes s) h = delete_moves n ls s h
