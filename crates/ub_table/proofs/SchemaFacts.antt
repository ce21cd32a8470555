-- A schema is told by its parts: what is true of them is no part of it.
use Rattle.std.proofs.Common.{◌≡◌, ℕ, List, length, subst, sym}
use Rattle.std.specs.Coded.{le_prop}
use Rattle.ub_table.specs.Schema.{AreCounts, AreDistinct, IsMask}
use Rattle.ub_table.specs.declared.schema.Schema.{Schema}

abbrev schema_with : (name : List ℕ) (columns : List (List ℕ)) (dims rows signed : ℕ) → AreCounts (length columns) dims rows → IsMask dims signed → AreDistinct columns → Schema
schema_with name columns dims rows signed counts mask distinct =
    record { name = name; columns = columns; dims = dims; page_rows = rows; signed = signed; counts = counts; mask = mask; distinct = distinct }

-- what is true of the parts, in whatever way, makes this schema of them
abbrev IsMadeOf : Schema → (name : List ℕ) (columns : List (List ℕ)) (dims rows signed : ℕ) → Type 0
IsMadeOf b name columns dims rows signed =
    (counts : AreCounts (length columns) dims rows) (mask : IsMask dims signed) (distinct : AreDistinct columns) → schema_with name columns dims rows signed counts mask distinct ≡ b

module _ (b : Schema) where
  counts_prop : IsProp (AreCounts (length b.columns) b.dims b.page_rows)
  counts_prop = Prim.hlevel le_prop

  mask_prop : IsProp (IsMask b.dims b.signed)
  mask_prop = Prim.hlevel le_prop

  distinct_prop : IsProp (AreDistinct b.columns)
  distinct_prop = Prim.hlevel

  by_proofs : IsMadeOf b b.name b.columns b.dims b.page_rows b.signed
  by_proofs counts mask distinct =
      λ i. schema_with b.name b.columns b.dims b.page_rows b.signed (counts_prop counts b.counts i) (mask_prop mask b.mask i) (distinct_prop distinct b.distinct i)

  by_parts : (name : List ℕ) (columns : List (List ℕ)) (dims rows signed : ℕ) → b.name ≡ name → b.columns ≡ columns → b.dims ≡ dims → b.page_rows ≡ rows → b.signed ≡ signed
      → IsMadeOf b name columns dims rows signed
  by_parts name columns dims rows signed same_name same_columns same_dims same_rows same_signed =
      subst (λ (n : List ℕ). IsMadeOf b n columns dims rows signed) same_name
      (subst (λ (cs : List (List ℕ)). IsMadeOf b b.name cs dims rows signed) same_columns
      (subst (λ (d : ℕ). IsMadeOf b b.name b.columns d rows signed) same_dims
      (subst (λ (r : ℕ). IsMadeOf b b.name b.columns b.dims r signed) same_rows
      (subst (λ (m : ℕ). IsMadeOf b b.name b.columns b.dims b.page_rows m) same_signed by_proofs))))

pub same_schema : (a b : Schema) → a.name ≡ b.name → a.columns ≡ b.columns → a.dims ≡ b.dims → a.page_rows ≡ b.page_rows → a.signed ≡ b.signed → a ≡ b
same_schema a b name columns dims rows signed =
    by_parts b a.name a.columns a.dims a.page_rows a.signed (sym name) (sym columns) (sym dims) (sym rows) (sym signed) a.counts a.mask a.distinct
