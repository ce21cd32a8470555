use Rattle.std.proofs.Common.{◌+◌, List, arith, inl, refl, subst, sym}
use Rattle.std.proofs.lemmas.Result.{err_from_is_err_and}
use Rattle.csv.specs.Records.{fields_of}
use Rattle.ub_load.proofs.LoadFacts.{IsTaking, all_taken, first_rows, taking_more, taking_none, taking_refused}
use Rattle.ub_load.proofs.ReadingFacts.{read_none, read_one}
use Rattle.ub_load.proofs.table.load_records.Goals as goal
use Rattle.ub_table.specs.declared.row.Row.{Row}

pub loop-rows-init : goal.loop-rows-init
loop-rows-init g c = taking_none g.R.Read.remaining c.args.reader.now c.args.schema.now _ _ refl c.new-rows.ensures.items

pub load_record-requires : goal.load_record-requires
load_record-requires g c = (let count = c.loop-rows.invariant.number_is in omega arith, c.loop-rows.invariant.few)

pub returns-in_err-read_record-clause-refused : goal.returns-in_err-read_record-clause-refused
returns-in_err-read_record-clause-refused g c =
    let p = err_from_is_err_and c.from_residual.result c.from_residual.ensures.1 in
    rw (p.1, p.2) (inl c.in_err-read_record.ensures.refused)

pub returns-in_err-row-clause-refused : goal.returns-in_err-row-clause-refused
returns-in_err-row-clause-refused g c =
    let call = c.read_record in
    let r = fields_of call.new.fields in
    let s = read_one g.R.Read.remaining c.loop-rows.reader call.new.reader c.in_ok-read_record.field-0 r c.in_ok-read_record.ensures.read c.if-branch.true in
    let p = err_from_is_err_and c.from_residual-in_err-row.result c.from_residual-in_err-row.ensures.1 in
    rw (p.1, p.2) (taking_refused c.loop-rows.invariant call.new.reader r s c.in_err-row.field-0.0 c.in_err-row.ensures.refused)

pub loop-rows-preserved : goal.loop-rows-preserved
loop-rows-preserved g c =
    let call = c.read_record in
    let r = fields_of call.new.fields in
    let s = read_one g.R.Read.remaining c.loop-rows.reader call.new.reader c.in_ok-read_record.field-0 r c.in_ok-read_record.ensures.read c.if-branch.true in
    subst (λ (rows : List Row). IsTaking g.R.Read.remaining c.args.reader.now c.args.schema.now (c.loop-rows.number + 1) rows call.new.reader) (sym c.in_ok-push.ensures.items)
    (taking_more c.loop-rows.invariant call.new.reader r s c.in_ok-row.row c.in_ok-row.ensures.value c.in_ok-row.ensures.accepted)

pub returns-clause-loaded : goal.returns-clause-loaded
returns-clause-loaded g c =
    let call = c.read_record in
    let r = fields_of call.new.fields in
    all_taken c.loop-rows.invariant call.new.reader r
    (read_none g.R.Read.remaining c.loop-rows.reader call.new.reader c.in_ok-read_record.field-0 r c.in_ok-read_record.ensures.read c.if-branch.false)

pub returns-clause-rows : goal.returns-clause-rows
returns-clause-rows g c = first_rows c.loop-rows.invariant c.read_record.new.reader (fields_of c.read_record.new.fields)
