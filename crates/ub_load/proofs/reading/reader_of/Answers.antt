use Rattle.ub_load.proofs.ReadingFacts.{at_start}
use Rattle.ub_load.proofs.reading.reader_of.Goals as goal

pub returns : goal.returns
returns g c = λ text told.
    let fr = c.from_reader.ensures in
    at_start g.R.Read.remaining text c.new.result c.has_headers.result.now c.from_reader.result (g.R.Read.remaining c.args.source) c.new.ensures.config c.new.ensures.trim c.has_headers.ensures
    fr.config fr.has_headers fr.trim fr.headers fr.state fr.source told
