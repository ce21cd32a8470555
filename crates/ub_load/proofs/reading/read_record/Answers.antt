use Rattle.csv.specs.Records.{fields_of}
use Rattle.ub_load.proofs.ReadingFacts.{has_read}
use Rattle.ub_load.proofs.reading.read_record.Goals as goal

pub returns-clause-read : goal.returns-clause-read
returns-clause-read g c =
    let call = c.read_byte_record in
    let read = c.in_ok-read_byte_record in
    has_read g.R.Read.remaining c.args.reader.now call.new.self read.field-0 (fields_of call.new.row) read.ensures.reads read.ensures.ready
