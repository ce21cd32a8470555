use Rattle.std.proofs.Common.{ℕ, List, subst}
use Rattle.ub_load.specs.Calls.{Loads}
use Rattle.ub_load.specs.LoadedTable.{axes_with}
use Rattle.ub_load.proofs.table.load.Goals as goal

pub returns : goal.returns
returns g c =
    let from = c.load_from.ensures in
    subst (λ (text : List ℕ). Loads text (axes_with c.args.dims c.args.signed) c.args.page_rows c.args.name.now (g.S.PageStore.facts c.args.store) c.load_from.result) from.text_is from.loads
