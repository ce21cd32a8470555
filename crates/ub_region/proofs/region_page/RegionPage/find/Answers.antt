use Rattle.std.proofs.Common.{◌++◌, ◌∙◌, ap, arith, sym, take, List}
use Rattle.ub_region.proofs.SplitFacts.{found_any, found_rest, passed_any, passed_rest}
use Rattle.ub_region.proofs.region_page.RegionPage.find.Goals as goal
use Rattle.ub_table.specs.declared.row.Row.{Row}

pub returns-then-has_at-clause-found : goal.returns-then-has_at-clause-found
returns-then-has_at-clause-found c =
    let v = c.args.self.now in
    let long = c.len-i-end.ensures.len in
    let less = c.loop-i-test.true in
    sym (c.loop-i.invariant.found ∙ found_any v.dims c.args.key.now v.region.rows c.loop-i.i (omega arith) _ c.has_at.ensures c.if-has_at.true)

pub returns-then-has_at-clause-index : goal.returns-then-has_at-clause-index
returns-then-has_at-clause-index c =
    let v = c.args.self.now in
    let long = c.len-i-end.ensures.len in
    let less = c.loop-i-test.true in (
      omega arith,
      c.loop-i.invariant.rest
          ∙ ap (λ (rest : List Row). take c.loop-i.i v.region.rows ++ rest) (found_rest v.dims c.args.key.now v.region.rows c.loop-i.i (omega arith) _ c.has_at.ensures c.if-has_at.true),
    )

pub loop-i-preserved : goal.loop-i-preserved
loop-i-preserved c =
    let v = c.args.self.now in
    let long = c.len-i-end.ensures.len in
    let less = c.loop-i-test.true in
    record {
      found = c.loop-i.invariant.found ∙ passed_any v.dims c.args.key.now v.region.rows c.loop-i.i (omega arith) _ c.has_at.ensures c.if-has_at.false;
      rest = c.loop-i.invariant.rest ∙ passed_rest v.dims c.args.key.now v.region.rows c.loop-i.i (omega arith) _ c.has_at.ensures c.if-has_at.false;
    }
