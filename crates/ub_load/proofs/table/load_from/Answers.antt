use Rattle.ub_load.proofs.table.load_from.Goals as goal

pub returns : goal.returns
returns g c = c.load_all.ensures (g.R.Read.remaining c.args.source) c.reader_of-reader.ensures
