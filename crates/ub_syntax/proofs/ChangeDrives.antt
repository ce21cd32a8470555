-- An INSERT and a DELETE drive the machine from its start to a state in which it may end.
use Rattle.std.proofs.Common.{◌≡◌, ◌⊎◌, ℕ, List, [], ◌∷◌, true, Option, Some, None, refl, sym, inl, inr, subst}
use Rattle.ub_syntax.specs.Grammar.{Lexeme, Is, IsOperand, IsValue, IsOptional, IsFilter, IsInsert, IsDelete}
use Rattle.ub_syntax.specs.Tree.{Shape, Select}
use Rattle.ub_syntax.specs.Machine.{Config, config, start, may_end}
use Rattle.ub_syntax.specs.declared.symbol.Symbol.TheVariants as symbol
use Rattle.ub_syntax.specs.declared.syntax.Insertion.{Insertion}
use Rattle.ub_syntax.specs.declared.machine.Fixed.TheVariants as fixed
use Rattle.ub_syntax.specs.declared.machine.Goal.TheVariants as goal
use Rattle.ub_syntax.specs.declared.machine.Rest.{Rest}
use Rattle.ub_syntax.specs.declared.machine.Rest.TheVariants as rest
use Rattle.ub_syntax.proofs.Moves.{Moves, stay, go, over, by_step, is_of, joined_moves}
use Rattle.ub_syntax.proofs.Drives.{drives_only, literal_drives, operand_drives, disjunction_moves}

pub insert_moves : (n : ℕ) (ls : List Lexeme) (i : Insertion) → IsInsert ls i → (e : Rest) × (may_end e ≡ true) × Moves n start (config [] e) ls
insert_moves n ls i h =
    let all = joined_moves {n = n} symbol.Comma IsValue (config (goal.Literal ∷ []) rest.AfterValue) (λ (e : Config). e ≡ config [] rest.AfterValue)
    (λ ls x p. (config [] rest.AfterValue, refl, (literal_drives n ls x.literal p.4).moves [] rest.AfterValue))
    (λ e j end is. subst (λ (k : Config). Moves n k (config (goal.Literal ∷ []) rest.AfterValue) j) (sym end) (by_step symbol.Comma refl is))
    h.values i.values h.values_are in
    let values : Moves n (config (goal.Literal ∷ []) rest.AfterValue) (config [] rest.AfterValue) h.values =
    subst (λ (k : Config). Moves n (config (goal.Literal ∷ []) rest.AfterValue) k h.values) all.1 all.2 in (
      rest.End,
      refl,
      over h.parts (go (by_step symbol.Insert refl h.insert_is)
          (go ((drives_only (goal.Token fixed.Into) symbol.Into refl h.into_is).moves (goal.Token fixed.Name ∷ goal.Token fixed.Values ∷ []) rest.Values)
          (go ((drives_only (goal.Token fixed.Name) symbol.Name refl (is_of i.table h.name_is)).moves (goal.Token fixed.Values ∷ []) rest.Values)
          (go ((drives_only (goal.Token fixed.Values) symbol.Values refl h.word_is).moves [] rest.Values)
          (go (by_step symbol.Open refl h.left_is)
          (go values (by_step symbol.Close refl (is_of i.close h.close_is)))))))),
    )

joins : (n : ℕ) (joint : List Lexeme) → (Is symbol.And joint ⊎ Is symbol.Or joint)
    → Moves n (config [] rest.AfterCondition) (config (goal.Operand n ∷ []) rest.AfterCondition) joint
joins n joint (inl is) = by_step symbol.And refl is
joins n joint (inr is) = by_step symbol.Or refl is

filter_moves : (n : ℕ) (ls : List Lexeme) (o : Option Shape) → IsOptional (IsFilter n) ls o
    → (e : Rest) × (may_end e ≡ true) × Moves n (config [] rest.AfterDeleted) (config [] e) ls
filter_moves n ls None h = (rest.AfterDeleted, refl, over h stay)
filter_moves n ls (Some c) h = (
  rest.AfterCondition,
  refl,
  over h.2 (go (by_step symbol.Where refl h.3)
      (disjunction_moves (IsOperand n) (config (goal.Operand n ∷ []) rest.AfterCondition) (config [] rest.AfterCondition)
      (λ ls x p. (operand_drives n n ls x p).moves [] rest.AfterCondition) (joins n) h.1 c h.4)),
)

pub delete_moves : (n : ℕ) (ls : List Lexeme) (s : Select) → IsDelete n ls s → (e : Rest) × (may_end e ≡ true) × Moves n start (config [] e) ls
delete_moves n ls s h =
    let filter = filter_moves n h.filter h.condition h.filter_is in (
      filter.0,
      filter.1,
      over h.parts (go (by_step symbol.Delete refl (is_of h.word h.delete_is))
          (go ((drives_only (goal.Token fixed.From) symbol.From refl h.from_is).moves (goal.Token fixed.Name ∷ []) rest.AfterDeleted)
          (go ((drives_only (goal.Token fixed.Name) symbol.Name refl (is_of h.table h.name_is)).moves [] rest.AfterDeleted) filter.2))),
    )
