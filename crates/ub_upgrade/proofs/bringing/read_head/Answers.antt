use Rattle.std.proofs.Common.{refl, rules, slice_get}
use Rattle.ub_upgrade.proofs.Common.{header_page_of, IsPage}
use Rattle.ub_upgrade.proofs.BringFacts.{same_head, some_same}
use Rattle.ub_upgrade.proofs.bringing.read_head.Goals as goal

pub returns-in-Ok-clause-exact : goal.returns-in-Ok-clause-exact
returns-in-Ok-clause-exact g c = λ head honest has.
    let from = g.O.PageStore.facts c.args.old.now in
    let at : IsPage from 0 c.read_into.new.page = search rules in
    let page = some_same (slice_get from.pages 0) c.read_into.new.page (header_page_of head.version head.header) (at honest) (has.spelled honest) in
    let same = (c.in-Ok.ensures.exact head has.is has.clean page).1 in
    same_head c.in-Ok.head head same.0 same.1

pub returns-in-Err-clause-refused : goal.returns-in-Err-clause-refused
returns-in-Err-clause-refused g c =
    let at : IsPage (g.O.PageStore.facts c.args.old.now) 0 c.read_into.new.page = search rules in
    (refl, c.read_into.new.page, at, c.in-Err.ensures.refused)
