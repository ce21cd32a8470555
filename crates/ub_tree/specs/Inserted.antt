-- What a call promises that puts in a row, with the number that is next, or with its own.
use Rattle.std.specs.Prelude.{◌≡◌, ◌+◌, ℕ, false, IsTrue, Result, Err, IfOk, OnOk}
use Rattle.ub_tree.specs.Common.{Failed, IsFree, IsHonest, IsSound, key_of, regions, Row, TreeFault, TreeView}
use Rattle.ub_tree.specs.Change.{IsInserted, IsPutIn, next_after}
use Rattle.ub_tree.specs.Effects.{Changes, ChangesOf}
use Rattle.ub_tree.specs.Holding.{AnswersKey, AnswersRow, GrowsAt}
use Rattle.ub_tree.specs.Pages.{PutsRow}

-- a row was to be put into a tree, with its own number, and this was answered: first of a sound tree that had no such number, then of any
pub record InsertsAs (row : Row) (old new : TreeView) (result : Result ℕ TreeFault) : Type 0 where
  pub inserted : IsSound old → IsFree row.number (regions old) → OnOk result (IsPutIn row old new)
  pub number : IfOk result (λ n. n ≡ row.number)
  pub counted : OnOk result ((new.next ≡ next_after old.next row.number) × (new.rows ≡ old.rows + 1) × (new.is_failed ≡ false)
      × GrowsAt (key_of old.schema.dims row) old new)
  pub put : OnOk result (PutsRow row old new)
  pub failed : IsTrue old.is_failed → result ≡ Err Failed
  pub refused : old.is_failed ≡ false → IsHonest old.store → AnswersKey old (key_of old.schema.dims row) result
  pub effect : ChangesOf row.number old new result

-- a row was to be put into a tree, with the number that was next, and this was answered: first of a sound tree, then of any
pub record Inserts (row : Row) (old new : TreeView) (result : Result ℕ TreeFault) : Type 0 where
  pub inserted : IsSound old → OnOk result (IsInserted row old new)
  pub number : IfOk result (λ n. n ≡ old.next)
  pub counted : OnOk result ((new.next ≡ old.next + 1) × (new.rows ≡ old.rows + 1) × (new.is_failed ≡ false)
      × GrowsAt (key_of old.schema.dims row) old new)
  pub put : OnOk result (PutsRow row old new)
  pub failed : IsTrue old.is_failed → result ≡ Err Failed
  pub refused : old.is_failed ≡ false → AnswersRow old (key_of old.schema.dims row) result
  pub effect : Changes old new result
