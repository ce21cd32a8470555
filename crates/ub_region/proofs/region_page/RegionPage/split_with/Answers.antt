use Rattle.std.proofs.Common.{◌≡◌, ◌-◌, ◌∙◌, ℕ, List, ap, arith, drop, length, refl, suc, take}
use Rattle.std.specs.List.{insert}
use Rattle.ub_region.proofs.SplitFacts.{left_kept, past_left, put_left, put_right, separator_at}
use Rattle.ub_region.proofs.region_page.RegionPage.split_with.Goals as goal
use Rattle.ub_region.proofs.region_page.RegionPage.split_with.Goals.{then-index-left, else-index-left}
use Rattle.ub_region.specs.RegionPage.{RegionView}
use Rattle.ub_region.specs.Rows.{left_half}
use Rattle.ub_table.specs.declared.row.Row.{Row}

pub returns-clause-left : goal.returns-clause-left
returns-clause-left c =
    let v = c.args.self.now in
    let some = c.requires.some in
    let within = c.requires.within in
    let n : ℕ = left_half (length v.region.rows) in
    let is : c.left_half-left.result ≡ n = c.left_half-left.ensures ∙ ap left_half c.len.ensures.len in
    elim c.if-index-left.branch [
      | then-index-left w ↦
          let less = w.if-index-left.true in
          let next : suc (c.left_half-left.result - 1) ≡ n = omega arith in
          let rows = put_left c.args.row.now v.region.rows c.args.index (c.left_half-left.result - 1) (omega arith) (omega arith)
          ∙ ap (λ (k : ℕ). take k (insert v.region.rows c.args.index c.args.row.now)) next in
          w.self-is ∙ w.insert_at.ensures ∙ rw w.split_at.ensures.left (ap (λ (rs : List Row). record { dims = v.dims; region = record { first = v.region.first; rows = rs } }) rows)
      | else-index-left w ↦
          let from = w.if-index-left.false in
          let rows = left_kept c.args.row.now v.region.rows c.args.index n (omega arith) within in
          w.self-is ∙ w.split_at-else-index-left.ensures.left
          ∙ ap (λ (rs : List Row). record { dims = v.dims; region = record { first = v.region.first; rows = rs } }) (ap (λ (k : ℕ). take k v.region.rows) is ∙ rows)
    ]

pub returns-clause-right : goal.returns-clause-right
returns-clause-right c =
    let v = c.args.self.now in
    let some = c.requires.some in
    let within = c.requires.within in
    let n : ℕ = left_half (length v.region.rows) in
    let new : List Row = insert v.region.rows c.args.index c.args.row.now in
    let is : c.left_half-left.result ≡ n = c.left_half-left.ensures ∙ ap left_half c.len.ensures.len in
    let left_is = returns-clause-left c in
    let right_is : c.if-index-left.right ≡ record { dims = v.dims; region = record { first = v.region.first; rows = drop n new } } = elim c.if-index-left.branch [
      | then-index-left w ↦
          let less = w.if-index-left.true in
          let next : suc (c.left_half-left.result - 1) ≡ n = omega arith in
          let rows = past_left c.args.row.now v.region.rows c.args.index (c.left_half-left.result - 1) (omega arith) (omega arith) ∙ ap (λ (k : ℕ). drop k new) next in
          w.right-is ∙ w.split_at.ensures.right ∙ ap (λ (rs : List Row). record { dims = v.dims; region = record { first = v.region.first; rows = rs } }) rows
      | else-index-left w ↦
          let from = w.if-index-left.false in
          let rows = put_right c.args.row.now v.region.rows c.args.index n (c.args.index - c.left_half-left.result) (omega arith) within in
          w.right-is ∙ w.insert_at-else-index-left.ensures
          ∙ rw w.split_at-else-index-left.ensures.right (ap (λ (rs : List Row). record { dims = v.dims; region = record { first = v.region.first; rows = rs } })
          (ap (λ (k : ℕ). insert (drop k v.region.rows) (c.args.index - c.left_half-left.result) c.args.row.now) is ∙ rows))
    ] in
    let at_left = rw (ap (λ (w : RegionView). w.dims) left_is, is) at c.key.ensures in
    let at_right = rw (ap (λ (w : RegionView). w.dims) right_is) at c.key-2.ensures in
    let first = c.first_between-first.ensures
    ∙ separator_at v.dims n new c.if-index-left.self.region.rows c.if-index-left.right.region.rows c.key.result c.key-2.result (omega arith)
    (ap (λ (w : RegionView). w.region.rows) left_is) (ap (λ (w : RegionView). w.region.rows) right_is) at_left at_right in
    c.start_at.ensures ∙ rw (first, right_is) refl
