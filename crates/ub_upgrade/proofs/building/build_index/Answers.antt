use Rattle.std.proofs.Common.{◌<◌, ◌^◌, arith}
use Rattle.ub_upgrade.proofs.Common.{heading_of, honest_over, page_count}
use Rattle.ub_upgrade.proofs.LeafFacts.{built_of}
use Rattle.ub_upgrade.proofs.WholeFacts.{built_same, exactly_refused}
use Rattle.ub_upgrade.proofs.building.build_index.Goals as goal

pub returns-in_err-leaves-clause-exact : goal.returns-in_err-leaves-clause-exact
returns-in_err-leaves-clause-exact g c chain entries honest honest_new is below =
    let count = c.pages-pages.ensures in
    let fits = c.pages-pages.type_inv in
    let small : page_count (g.O.PageStore.facts c.args.old.now) < 2 ^ 32 = omega arith in
    exactly_refused (heading_of c.args.schema.now.dims c.args.root c.args.regions) c.args.schema.now.counts.few_dims (g.O.PageStore.facts c.args.old.now) honest small chain entries is _
    c.args.pager.now.store c.from_residual.result c.in_err-leaves.field-0.0 below c.from_residual.ensures.1 c.in_err-leaves.ensures.over.refused

pub returns-in-Ok-clause-built : goal.returns-in-Ok-clause-built
returns-in-Ok-clause-built g c honest honest_new =
    let middle = c.write_leaves.new.pager.store in
    let still = honest_over c.args.pager.now c.write_leaves.new.pager c.in_ok-leaves.ensures.over.effect.same honest_new in
    built_of (heading_of c.args.schema.now.dims c.args.root c.args.regions) (g.O.PageStore.facts c.args.old.now) c.args.pager.now.store middle c.write_levels.new.pager.store c.in_ok-leaves.leaves
    c.in-Ok.root c.args.schema.now.counts.few_dims (c.in_ok-leaves.ensures.leaves honest honest_new) c.in_ok-leaves.ensures.level.first c.in_ok-leaves.ensures.level.last c.in_ok-leaves.ensures.level.small
    c.requires.first (c.in-Ok.ensures.raised still)

pub returns-in-Ok-clause-exact : goal.returns-in-Ok-clause-exact
returns-in-Ok-clause-exact g c chain entries honest honest_new is below =
    let count = c.pages-pages.ensures in
    let fits = c.pages-pages.type_inv in
    let small : page_count (g.O.PageStore.facts c.args.old.now) < 2 ^ 32 = omega arith in
    let middle = c.write_leaves.new.pager.store in
    let still = honest_over c.args.pager.now c.write_leaves.new.pager c.in_ok-leaves.ensures.over.effect.same honest_new in
    built_same (heading_of c.args.schema.now.dims c.args.root c.args.regions) c.args.schema.now.counts.few_dims (g.O.PageStore.facts c.args.old.now) honest small chain entries is
    c.args.pager.now.store c.write_levels.new.pager.store c.in-Ok.root
    (built_of (heading_of c.args.schema.now.dims c.args.root c.args.regions) (g.O.PageStore.facts c.args.old.now) c.args.pager.now.store middle c.write_levels.new.pager.store c.in_ok-leaves.leaves
    c.in-Ok.root c.args.schema.now.counts.few_dims (c.in_ok-leaves.ensures.leaves honest honest_new) c.in_ok-leaves.ensures.level.first c.in_ok-leaves.ensures.level.last c.in_ok-leaves.ensures.level.small
    c.requires.first (c.in-Ok.ensures.raised still))
