use Rattle.std.proofs.Common.{◌≡◌, ◌<◌, ◌∙◌, ◌-◌, true, false, ap, arith, inl, inr, sym}
use Rattle.std.proofs.lemmas.Bool.{eq-eqb, ltb-true}
use Rattle.ub_bytes.specs.Bytes.{padded}
use Rattle.ub_laying.proofs.LayFacts.{one_of, region_at}
use Rattle.ub_laying.proofs.SpelledFacts.{spelled_none, spelled_region}
use Rattle.ub_laying.proofs.spelled.spell.Goals as goal
use Rattle.ub_laying.proofs.spelled.spell.Goals.{then-n-eq0, else-n-eq0}
use Rattle.ub_table.specs.Region.{IsRegion, RegionRows}

pub write_region-requires : goal.write_region-requires
write_region-requires c =
    one_of (IsRegion c.args.schema.now) c.args.grown.now (c.args.n - 1) (record { first = c.first.result; rows = c.rows.result.now }) c.requires
    (region_at c.args.grown.now (c.args.n - 1) c.first.result c.rows.result.now c.first.ensures c.rows.ensures)

pub returns-then-n-len : goal.returns-then-n-len
returns-then-n-len c =
    ap padded c.clear.ensures ∙ spelled_none c.args.schema.now c.args.grown.now c.args.n (elim c.if-n-eq0.branch [
      | then-n-eq0 w ↦ inl w.if-n-eq0.true
      | else-n-eq0 w ↦ inr (let past = ltb-true w.len.result c.args.n (sym w.value-is ∙ c.if-n-len.true) in omega (arith, past, w.len.ensures))
    ])

pub returns-else-n-len : goal.returns-else-n-len
returns-else-n-len c =
    let region : RegionRows = record { first = c.first.result; rows = c.rows.result.now } in
    let some : 0 < c.args.n = elim c.if-n-eq0.branch [
      | then-n-eq0 w ↦ let none : true ≡ false = sym (eq-eqb c.args.n 0 w.if-n-eq0.true) ∙ sym w.value-is ∙ c.if-n-len.false in cc
      | else-n-eq0 w ↦ omega (arith, w.if-n-eq0.false)
    ] in
    c.write_region.ensures.page
    ∙ sym (spelled_region c.args.schema.now c.args.grown.now c.args.n region some (region_at c.args.grown.now (c.args.n - 1) c.first.result c.rows.result.now c.first.ensures c.rows.ensures))
