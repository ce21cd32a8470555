use Rattle.std.proofs.Common.{[]}
use Rattle.std.proofs.lemmas.Result.{err_from_is_err_and}
use Rattle.ub_load.proofs.GivenFacts.{grown_from, header_from, no_table_from, records_from}
use Rattle.ub_load.proofs.grown.read_grown.Goals as goal
use Rattle.ub_store.specs.Facts.{memory_facts}

pub returns-in_err-schema : goal.returns-in_err-schema
returns-in_err-schema g c known fresh =
    let rem = g.R.Read.remaining in
    let p = err_from_is_err_and c.from_residual.result c.from_residual.ensures.1 in
    no_table_from known c.args.axes c.args.page_rows c.args.name.now _ _ _ p.1 p.2
    (header_from rem c.args.reader.now known fresh c.args.axes c.args.page_rows c.args.name.now (memory_facts []) c.requires.numbers _ c.in_err-schema.ensures.refused)

pub returns-in_err-rows : goal.returns-in_err-rows
returns-in_err-rows g c known fresh =
    let rem = g.R.Read.remaining in
    let p = err_from_is_err_and c.from_residual-in_err-rows.result c.from_residual-in_err-rows.ensures.1 in
    no_table_from known c.args.axes c.args.page_rows c.args.name.now _ _ _ p.1 p.2
    (records_from rem c.args.reader.now known fresh c.args.axes c.args.page_rows c.args.name.now (memory_facts []) c.read_header.new.reader c.in_ok-schema.schema c.in_ok-schema.ensures.read _
    c.in_err-rows.ensures.refused)

pub returns : goal.returns
returns g c known fresh =
    grown_from g.R.Read.remaining c.args.reader.now known fresh c.args.axes c.args.page_rows c.args.name.now (memory_facts []) c.read_header.new.reader c.in_ok-schema.schema
    c.in_ok-schema.ensures.read c.in_ok-rows.rows.items c.in_ok-rows.ensures.rows c.in_ok-rows.ensures.loaded c.grow_table.result c.grow_table.ensures.grown c.grow_table.ensures.refused
