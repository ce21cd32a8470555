use Rattle.std.proofs.Common.{[], inl, inr, refl}
use Rattle.std.proofs.lemmas.Result.{err_from_is_err_and}
use Rattle.csv.specs.Records.{fields_of}
use Rattle.ub_load.proofs.LoadFacts.{told_header, took_header}
use Rattle.ub_load.proofs.ReadingFacts.{given_all, given_none, read_none, read_one}
use Rattle.ub_load.proofs.table.read_header.Goals as goal

pub returns-in_err-read_record-clause-refused : goal.returns-in_err-read_record-clause-refused
returns-in_err-read_record-clause-refused g c =
    let p = err_from_is_err_and c.from_residual.result c.from_residual.ensures.1 in
    rw (p.1, p.2) (inl c.in_err-read_record.ensures.refused)

pub returns-then-not-branch-clause-refused : goal.returns-then-not-branch-clause-refused
returns-then-not-branch-clause-refused g c =
    let rem = g.R.Read.remaining in
    let call = c.read_record in
    let from = c.args.reader.now in
    let s = read_none rem from call.new.reader c.in_ok-read_record.field-0 (fields_of call.new.fields) c.in_ok-read_record.ensures.read c.if-not-branch.true in
    inr (inl (given_all rem from from [] (given_none rem from) call.new.reader (fields_of call.new.fields) s, refl))

pub returns-clause-read : goal.returns-clause-read
returns-clause-read g c =
    let rem = g.R.Read.remaining in
    let call = c.read_record in
    let s = read_one rem c.args.reader.now call.new.reader c.in_ok-read_record.field-0 (fields_of call.new.fields) c.in_ok-read_record.ensures.read c.if-not-branch.false in
    took_header rem c.args.reader.now call.new.reader (fields_of call.new.fields) s c.args.axes c.args.name.now c.args.page_rows
    c.read_schema.result c.read_schema.ensures.reads.value c.read_schema.ensures.reads.accepted

pub returns-clause-refused : goal.returns-clause-refused
returns-clause-refused g c =
    let rem = g.R.Read.remaining in
    let call = c.read_record in
    let s = read_one rem c.args.reader.now call.new.reader c.in_ok-read_record.field-0 (fields_of call.new.fields) c.in_ok-read_record.ensures.read c.if-not-branch.false in
    told_header rem c.args.reader.now call.new.reader (fields_of call.new.fields) s c.args.axes c.args.name.now
    c.read_schema.result c.read_schema.ensures.reads.refused
