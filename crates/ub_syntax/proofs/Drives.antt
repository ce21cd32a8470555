-- What the grammar says drives the machine.
use Rattle.std.proofs.Common.{◌≡◌, ◌⊎◌, ℕ, zero, suc, List, [], ◌∷◌, ◌++◌, Result, Ok, refl, sym, ap, inl, inr, subst}
use Rattle.ub_syntax.specs.Grammar.{Lexeme, Is, IsChain, IsLiteral, IsComparison, IsDisjunction, IsOperand, IsItem}
use Rattle.ub_syntax.specs.Tree.{Shape, both, either, neither, compares, between}
use Rattle.ub_syntax.specs.Machine.{Config, config, goals_of, if_ok, and_then, expand, turn_to, config_of, step}
use Rattle.ub_syntax.specs.declared.symbol.Symbol.{Symbol}
use Rattle.ub_syntax.specs.declared.symbol.Symbol.TheVariants as symbol
use Rattle.ub_syntax.specs.declared.syntax.Literal.{Literal}
use Rattle.ub_syntax.specs.declared.syntax.Item.{Item}
use Rattle.ub_syntax.specs.declared.syntax.Item.TheVariants.{Column, Count, Aggregate}
use Rattle.ub_syntax.specs.declared.machine.Fixed.TheVariants as fixed
use Rattle.ub_syntax.specs.declared.machine.Goal.{Goal}
use Rattle.ub_syntax.specs.declared.machine.Goal.TheVariants as goal
use Rattle.ub_syntax.specs.declared.machine.Rest.{Rest}
use Rattle.ub_syntax.specs.declared.machine.Row.{Row}
use Rattle.ub_syntax.specs.declared.machine.Row.TheVariants.{Nothing, One, Two, Three}
use Rattle.ub_syntax.specs.declared.machine.Refusal.{Refusal}
use Rattle.ub_syntax.proofs.Moves.{Moves, go, over, by_step, is_of, joined_moves}

-- these goals are met by the lexemes
pub record Drives (n : ℕ) (gs : List Goal) (ls : List Lexeme) : Type 0 where
  pub moves : (goals : List Goal) (r : Rest) → Moves n (config (gs ++ goals) r) (config goals r) ls

pub drives_more : {n : ℕ} {g : Goal} {gs : List Goal} {a b : List Lexeme} → Drives n (g ∷ []) a → Drives n gs b → Drives n (g ∷ gs) (a ++ b)
drives_more {gs = gs} first others = record { moves = λ goals r. go (first.moves (gs ++ goals) r) (others.moves goals r) }

drives_over : {n : ℕ} {gs : List Goal} {a b : List Lexeme} → a ≡ b → Drives n gs b → Drives n gs a
drives_over same drives = record { moves = λ goals r. over same (drives.moves goals r) }

expanded : (n : ℕ) (g : Goal) (s : Symbol) (row : Row) (goals : List Goal) (r : Rest) → expand g s ≡ Ok row
    → step n (config (g ∷ goals) r) s ≡ Ok (config (goals_of row ++ goals) r)
expanded n g s row goals r e = ap (λ (t : Result Row Refusal). if_ok (config_of goals) (and_then t (λ row. turn_to row r))) e

-- a goal's first symbol, and then the goals for which it asks
pub drives_first : {n : ℕ} (g : Goal) (s : Symbol) (row : Row) {word b : List Lexeme} → expand g s ≡ Ok row → Is s word → Drives n (goals_of row) b
    → Drives n (g ∷ []) (word ++ b)
drives_first {n} g s row e is others = record {
  moves = λ goals r. go (by_step s (expanded n g s row goals r e) is) (others.moves goals r);
}

pub drives_only : {n : ℕ} (g : Goal) (s : Symbol) {word : List Lexeme} → expand g s ≡ Ok Nothing → Is s word → Drives n (g ∷ []) word
drives_only {n} g s e is = record { moves = λ goals r. by_step s (expanded n g s Nothing goals r e) is }

pub literal_drives : (n : ℕ) (ls : List Lexeme) (v : Literal) → IsLiteral ls v → Drives n (goal.Literal ∷ []) ls
literal_drives n ls v (inl h) = drives_only goal.Literal symbol.Number refl (is_of _ h.1)
literal_drives n ls v (inr h) =
    drives_over h.3
    (drives_first goal.Literal symbol.Minus (One (goal.Token fixed.Number)) refl h.4 (drives_only (goal.Token fixed.Number) symbol.Number refl (is_of _ h.5)))

comparison_drives : (n m : ℕ) (ls : List Lexeme) (c : Shape) → IsComparison ls c → Drives n (goal.Operand m ∷ []) ls
comparison_drives n m ls (compares column operator value) h =
    drives_over h.3
    (drives_first (goal.Operand m) symbol.Name (One goal.Comparison) refl (is_of _ h.4)
    (drives_first goal.Comparison (symbol.Operator operator) (One goal.Literal) refl h.5 (literal_drives n h.2 value h.6)))
comparison_drives n m ls (between column low high) h =
    drives_over h.5
    (drives_first (goal.Operand m) symbol.Name (One goal.Comparison) refl (is_of _ h.6)
    (drives_first goal.Comparison symbol.Between (Three goal.Literal (goal.Token fixed.And) goal.Literal) refl h.7
    (drives_more (literal_drives n h.2 low h.8)
    (drives_more (drives_only (goal.Token fixed.And) symbol.And refl h.9) (literal_drives n h.4 high h.10)))))
comparison_drives n m ls (both a b) h = absurd h
comparison_drives n m ls (either a b) h = absurd h
comparison_drives n m ls (neither a) h = absurd h

-- operands with AND or OR between each two lead from where an operand is to come to where one was
pub disjunction_moves : {n : ℕ} (P : List Lexeme → Shape → Type 0) (c e : Config)
    → ((ls : List Lexeme) (x : Shape) → P ls x → Moves n c e ls)
    → ((joint : List Lexeme) → (Is symbol.And joint ⊎ Is symbol.Or joint) → Moves n e c joint)
    → (ls : List Lexeme) (x : Shape) → IsDisjunction P ls x → Moves n c e ls
disjunction_moves {n} P c e part joint ls x h =
    let Ends : Config → Type 0 = λ d. d ≡ e in
    let conjunction : (ls : List Lexeme) (x : Shape) → IsChain symbol.And both P ls x → (d : Config) × Ends d × Moves n c d ls =
    λ ls x k. joined_moves symbol.And P c Ends (λ ls x p. (e, refl, part ls x p))
    (λ d j same is. subst (λ (k : Config). Moves n k c j) (sym same) (joint j (inl is))) ls (k.0 ∷ k.1) k.2 in
    let all = joined_moves symbol.Or (IsChain symbol.And both P) c Ends conjunction
    (λ d j same is. subst (λ (k : Config). Moves n k c j) (sym same) (joint j (inr is))) ls (h.0 ∷ h.1) h.2 in
    subst (λ (k : Config). Moves n c k ls) all.1 all.2

inside : (n m : ℕ) (goals : List Goal) (r : Rest) (joint : List Lexeme) → (Is symbol.And joint ⊎ Is symbol.Or joint)
    → Moves n (config (goal.Nested m ∷ goals) r) (config (goal.Operand m ∷ goal.Nested m ∷ goals) r) joint
inside n m goals r joint (inl is) = by_step symbol.And refl is
inside n m goals r joint (inr is) = by_step symbol.Or refl is

pub operand_drives : (n m : ℕ) (ls : List Lexeme) (c : Shape) → IsOperand m ls c → Drives n (goal.Operand m ∷ []) ls
operand_drives n zero ls c h = comparison_drives n zero ls c h
operand_drives n (suc m) ls c (inl h) = comparison_drives n (suc m) ls c h
operand_drives n (suc m) ls c (inr (inl h)) =
    drives_over h.3
    (drives_first (goal.Operand (suc m)) symbol.Not (One (goal.Operand m)) refl h.4 (operand_drives n m h.1 h.2 h.5))
operand_drives n (suc m) ls c (inr (inr h)) =
    drives_over h.3
    (drives_first (goal.Operand (suc m)) symbol.Open (Two (goal.Operand m) (goal.Nested m)) refl h.4
    (record {
      moves = λ goals r.
          go (disjunction_moves (IsOperand m) (config (goal.Operand m ∷ goal.Nested m ∷ goals) r) (config (goal.Nested m ∷ goals) r)
          (λ ls x p. (operand_drives n m ls x p).moves (goal.Nested m ∷ goals) r) (inside n m goals r) h.1 c h.5)
          ((drives_only (goal.Nested m) symbol.Close refl h.6).moves goals r);
    }))

pub item_drives : (n : ℕ) (ls : List Lexeme) (x : Item) → IsItem ls x → Drives n (goal.Item ∷ []) ls
item_drives n ls (Column name) h = drives_only goal.Item symbol.Name refl (is_of name h)
item_drives n ls (Count first) h =
    drives_over h.4
    (drives_first goal.Item symbol.Count (Three (goal.Token fixed.Open) (goal.Token fixed.Star) (goal.Token fixed.Close)) refl (is_of _ h.5)
    (drives_more (drives_only (goal.Token fixed.Open) symbol.Open refl h.6)
    (drives_more (drives_only (goal.Token fixed.Star) symbol.Star refl h.7) (drives_only (goal.Token fixed.Close) symbol.Close refl h.8))))
item_drives n ls (Aggregate a first column) h =
    drives_over h.4
    (drives_first goal.Item (symbol.Aggregate a) (Three (goal.Token fixed.Open) (goal.Token fixed.Name) (goal.Token fixed.Close)) refl (is_of _ h.5)
    (drives_more (drives_only (goal.Token fixed.Open) symbol.Open refl h.6)
    (drives_more (drives_only (goal.Token fixed.Name) symbol.Name refl (is_of _ h.7)) (drives_only (goal.Token fixed.Close) symbol.Close refl h.8))))
