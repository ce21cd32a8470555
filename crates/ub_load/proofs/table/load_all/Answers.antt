use Rattle.std.proofs.Common.{subst, sym}
use Rattle.std.proofs.lemmas.Result.{err_from_is_err_and}
use Rattle.ub_load.proofs.GivenFacts.{header_from, laid_from, not_from, records_from, unbegun_from}
use Rattle.ub_load.proofs.table.load_all.Goals as goal
use Rattle.ub_load.specs.inner.Progress.{AreFirstRows}
use Rattle.ub_table.specs.declared.schema.Schema.{Schema}

pub lay_rows-requires : goal.lay_rows-requires
lay_rows-requires g c =
    subst (λ (s : Schema). AreFirstRows s c.in_ok-rows.rows.items) (sym c.in_ok-begun.ensures.begun.schema_is) c.in_ok-rows.ensures.rows

pub returns-in_err-schema : goal.returns-in_err-schema
returns-in_err-schema g c known fresh =
    let rem = g.R.Read.remaining in
    let store = g.S.PageStore.facts c.args.store in
    let p = err_from_is_err_and c.from_residual.result c.from_residual.ensures.1 in
    not_from rem c.args.reader.now known fresh c.args.axes c.args.page_rows c.args.name.now store _ _ _ p.1 p.2
    (header_from rem c.args.reader.now known fresh c.args.axes c.args.page_rows c.args.name.now store c.requires.numbers _ c.in_err-schema.ensures.refused)

pub returns-in_err-begun : goal.returns-in_err-begun
returns-in_err-begun g c known fresh =
    let rem = g.R.Read.remaining in
    let store = g.S.PageStore.facts c.args.store in
    let p = err_from_is_err_and c.from_residual-in_err-begun.result c.from_residual-in_err-begun.ensures.1 in
    not_from rem c.args.reader.now known fresh c.args.axes c.args.page_rows c.args.name.now store _ _ _ p.1 p.2
    (unbegun_from rem c.args.reader.now known fresh c.args.axes c.args.page_rows c.args.name.now store _ c.in_err-begun.ensures.refused)

pub returns-in_err-rows : goal.returns-in_err-rows
returns-in_err-rows g c known fresh =
    let rem = g.R.Read.remaining in
    let store = g.S.PageStore.facts c.args.store in
    let p = err_from_is_err_and c.from_residual-in_err-rows.result c.from_residual-in_err-rows.ensures.1 in
    not_from rem c.args.reader.now known fresh c.args.axes c.args.page_rows c.args.name.now store _ _ _ p.1 p.2
    (records_from rem c.args.reader.now known fresh c.args.axes c.args.page_rows c.args.name.now store c.read_header.new.reader c.in_ok-schema.schema c.in_ok-schema.ensures.read _
    c.in_err-rows.ensures.refused)

pub returns : goal.returns
returns g c known fresh =
    laid_from g.R.Read.remaining c.args.reader.now known fresh c.args.axes c.args.page_rows c.args.name.now (g.S.PageStore.facts c.args.store) c.read_header.new.reader c.in_ok-schema.schema
    c.in_ok-schema.ensures.read c.in_ok-rows.rows.items c.in_ok-rows.ensures.rows c.in_ok-rows.ensures.loaded c.in_ok-begun.begun c.lay_rows.result c.in_ok-begun.ensures.begun
    c.lay_rows.ensures.laid c.lay_rows.ensures.refused
