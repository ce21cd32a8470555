-- What is held of the rows that were taken: with LIMIT n a row may be let go once n of those held don't stand after it.
use Rattle.std.specs.Prelude.{◌≡◌, ℕ, ◌≤◌, not, List, ◌++◌, Option, Some, None, IfSome}
use Rattle.std.specs.Cmp.{IsTotalOrder}
use Rattle.std.specs.Fn.{ComparesAs, Mut}
use Rattle.std.specs.List.{AllByRecursion, count_by}
use Rattle.std.specs.List.Sorted.{IsPermutation, IsSorted}
use Rattle.std.specs.Ordering.{is_lt}
use Rattle.std.specs.declared.cmp.Ordering.{Ordering}
use Rattle.ub_answer.specs.inner.Compare.{row_cmp}
use Rattle.ub_query.specs.Meaning.{limited}
use Rattle.ub_query.specs.declared.query.SortKey.{SortKey}
use Rattle.ub_table.specs.declared.row.Row.{Row}
use Rattle.ub_table.specs.declared.schema.Schema.{Schema}
use denote.Ref.{Bor}

-- how many of some entries don't stand after one
abbrev pub up_to : {E : Type 0} → (E → E → Ordering) → List E → E → ℕ
up_to cmp entries entry = count_by (λ other. not (is_lt (cmp entry other))) entries

-- the entry isn't needed for the first n
abbrev pub IsBehind : {E : Type 0} → (E → E → Ordering) → Option ℕ → List E → E → Type 0
IsBehind cmp None held entry = ⊥
IsBehind cmp (Some n) held entry = n ≤ up_to cmp held entry

-- those held and those let go are those taken
pub record HoldsFirst {E : Type 0} (cmp : E → E → Ordering) (limit : Option ℕ) (taken held : List E) : Type 0 where
  pub gone : List E
  pub same : IsPermutation taken (held ++ gone)
  pub behind : AllByRecursion (λ entry. IsBehind cmp limit held entry) gone

-- the same entries in order, and of these the first n where LIMIT n stands
abbrev pub IsArranged : {E : Type 0} → (E → E → Ordering) → Option ℕ → List E → List E → Type 0
IsArranged {E} cmp limit entries arranged =
    (sorted : List E) × IsPermutation entries sorted × IsSorted cmp sorted × (arranged ≡ limited limit sorted)

-- the same, of what a call of `compare` tells of two entries, where that is a total order
abbrev pub IsArrangedBy : {E F : Type 0} → Mut F (Bor E × (Bor E × Unit {0})) Ordering → F → Option ℕ → List E → List E → Type 0
IsArrangedBy {E} calls compare limit entries arranged = (cmp : E → E → Ordering) → IsTotalOrder cmp
    → ComparesAs calls (λ a b. is_lt (cmp a b)) compare → IsArranged cmp limit entries arranged

-- what is held of a query of rows: those that the result needs, and one after which none is needed
abbrev pub HoldsRows : Schema → List SortKey → Option ℕ → List Row → List Row → Option Row → Type 0
HoldsRows schema keys limit taken held last =
    HoldsFirst (row_cmp schema keys) limit taken held × IfSome last (λ row. IsBehind (row_cmp schema keys) limit held row)
