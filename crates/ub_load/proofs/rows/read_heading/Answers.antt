use Rattle.std.proofs.lemmas.Result.{err_from_is_err_and}
use Rattle.csv.specs.Records.{fields_of}
use Rattle.ub_load.specs.LoadedTable.{columns_of}
use Rattle.ub_load.proofs.NamedFacts.{heading_of_name}
use Rattle.ub_load.specs.inner.Records.{bytes_of}
use Rattle.ub_load.proofs.ReadingFacts.{read_none, read_one}
use Rattle.ub_load.proofs.RowsFacts.{empty_refused, found_fine, found_refused, heading_refused}
use Rattle.ub_load.proofs.rows.read_heading.Goals as goal

pub returns-then-not-branch-clause-refused : goal.returns-then-not-branch-clause-refused
returns-then-not-branch-clause-refused c = λ next.
    let call = c.read_record in
    let fields = fields_of call.new.fields in
    empty_refused c.args.reader.now call.new.reader fields c.args.schema.now next
    (read_none bytes_of c.args.reader.now call.new.reader c.in_ok-read_record.field-0 fields c.in_ok-read_record.ensures.read c.if-not-branch.true)

pub returns-in_err-check_names-clause-refused : goal.returns-in_err-check_names-clause-refused
returns-in_err-check_names-clause-refused c =
    let call = c.read_record in
    let header = fields_of call.new.fields in
    let read = read_one bytes_of c.args.reader.now call.new.reader c.in_ok-read_record.field-0 header c.in_ok-read_record.ensures.read c.if-not-branch.false in
    let p = err_from_is_err_and c.from_residual-in_err-check_names.result c.from_residual-in_err-check_names.ensures.1 in
    let bad = heading_of_name c.columns-columns.result.now (columns_of header) c.in_err-check_names.field-0.0 c.in_err-check_names.ensures.refused in
    rw (p.1, p.2) (λ next. heading_refused c.args.reader.now call.new.reader header c.args.schema.now next c.in_err-check_names.field-0.0 read (rw c.columns-columns.ensures.columns at bad))

pub returns-clause-fine : goal.returns-clause-fine
returns-clause-fine c =
    let call = c.read_record in
    let header = fields_of call.new.fields in
    let read = read_one bytes_of c.args.reader.now call.new.reader c.in_ok-read_record.field-0 header c.in_ok-read_record.ensures.read c.if-not-branch.false in
    found_fine c.args.reader.now call.new.reader header c.args.schema.now c.columns-columns.result.now c.columns-columns.ensures.columns c.find_places.result read c.in_ok-check_names.ensures.accepted
    c.find_places.ensures.accepted

pub returns-clause-refused : goal.returns-clause-refused
returns-clause-refused c =
    let call = c.read_record in
    let header = fields_of call.new.fields in
    let read = read_one bytes_of c.args.reader.now call.new.reader c.in_ok-read_record.field-0 header c.in_ok-read_record.ensures.read c.if-not-branch.false in
    found_refused c.args.reader.now call.new.reader header c.args.schema.now c.columns-columns.result.now c.columns-columns.ensures.columns c.find_places.result read c.in_ok-check_names.ensures.accepted
    c.find_places.ensures.refused
