-- What was built is the one statement that the tokens are.
use Rattle.std.proofs.Common.{◌∙◌, ap}
use Rattle.std.proofs.lemmas.Result.{IfOk-from_err, err_from_is_err_and}
use Rattle.ub_syntax.specs.Tree.{select_of, selects, inserts, deletes}
use Rattle.ub_syntax.specs.declared.syntax.Sentence.TheVariants as sentence
use Rattle.ub_parser.specs.Outcome.{command, asks, puts, takes}
use Rattle.ub_query.specs.Shape.{Asked, asked}
use Rattle.ub_parser.proofs.StatedFacts.{select_written, select_table, delete_written, delete_table, insert_written, select_posed, delete_posed, delete_rows, built_select, built_insert, built_delete, built_one, refused_first, refused_only, refused_one, accepted_so, only_memory, memory_or}
use Rattle.ub_parser.proofs.ValueFacts.{given_values}
use Rattle.ub_parser.proofs.parser.sense.Goals as goal

pub selected-requires-clause-table : goal.selected-requires-clause-table
selected-requires-clause-table c =
    let is = built_select c.args.source.now c.args.schema.now c.args.tokens.now c.in_ok-sentence.sentence c.in_ok-sentence.ensures c.requires.statement c.in-Select.syntax c.in-Select.is in
    select_table c.args.source.now c.args.schema.now c.args.tokens.now c.requires.spelled c.requires.numbers (select_of c.in-Select.syntax) is

pub selected-requires-clause-written : goal.selected-requires-clause-written
selected-requires-clause-written c =
    let is = built_select c.args.source.now c.args.schema.now c.args.tokens.now c.in_ok-sentence.sentence c.in_ok-sentence.ensures c.requires.statement c.in-Select.syntax c.in-Select.is in
    select_written c.args.source.now c.args.schema.now c.args.tokens.now c.requires.spelled c.requires.numbers (select_of c.in-Select.syntax) is

pub selected-requires-in-Delete-clause-table : goal.selected-requires-in-Delete-clause-table
selected-requires-in-Delete-clause-table c =
    let is = built_delete c.args.source.now c.args.schema.now c.args.tokens.now c.in_ok-sentence.sentence c.in_ok-sentence.ensures c.requires.statement c.in-Delete.syntax c.in-Delete.is in
    delete_table c.args.source.now c.args.schema.now c.args.tokens.now c.requires.spelled c.requires.numbers (select_of c.in-Delete.syntax) is

pub selected-requires-in-Delete-clause-written : goal.selected-requires-in-Delete-clause-written
selected-requires-in-Delete-clause-written c =
    let is = built_delete c.args.source.now c.args.schema.now c.args.tokens.now c.in_ok-sentence.sentence c.in_ok-sentence.ensures c.requires.statement c.in-Delete.syntax c.in-Delete.is in
    delete_written c.args.source.now c.args.schema.now c.args.tokens.now c.requires.spelled c.requires.numbers (select_of c.in-Delete.syntax) is

pub returns-in_err-query-in-Select-clause-only : goal.returns-in_err-query-in-Select-clause-only
returns-in_err-query-in-Select-clause-only c =
    let is = built_select c.args.source.now c.args.schema.now c.args.tokens.now c.in_ok-sentence.sentence c.in_ok-sentence.ensures c.requires.statement c.in-Select.syntax c.in-Select.is in
    let one = built_one c.args.source.now c.args.schema.now c.args.tokens.now c.in_ok-sentence.sentence c.in_ok-sentence.ensures c.requires.statement (sentence.Select c.in-Select.syntax) c.in-Select.is in
    let p = err_from_is_err_and c.from_residual-in_err-query-in-Select.result c.from_residual-in_err-query-in-Select.ensures.1 in
    rw (p.1, p.2) (refused_only c.args.source.now c.args.schema.now c.args.tokens.now c.requires.bytes c.requires.numbers (selects (select_of c.in-Select.syntax)) is one c.in_err-query-in-Select.field-0.0 c.in_err-query-in-Select.ensures.refused)

pub returns-in_err-query-in-Select-clause-refused : goal.returns-in_err-query-in-Select-clause-refused
returns-in_err-query-in-Select-clause-refused c =
    let is = built_select c.args.source.now c.args.schema.now c.args.tokens.now c.in_ok-sentence.sentence c.in_ok-sentence.ensures c.requires.statement c.in-Select.syntax c.in-Select.is in
    let one = built_one c.args.source.now c.args.schema.now c.args.tokens.now c.in_ok-sentence.sentence c.in_ok-sentence.ensures c.requires.statement (sentence.Select c.in-Select.syntax) c.in-Select.is in
    let p = err_from_is_err_and c.from_residual-in_err-query-in-Select.result c.from_residual-in_err-query-in-Select.ensures.1 in
    rw (p.1, p.2) (refused_first c.args.source.now c.args.schema.now c.args.tokens.now c.requires.bytes c.requires.numbers (selects (select_of c.in-Select.syntax)) is one c.in_err-query-in-Select.field-0.0 c.in_err-query-in-Select.ensures.refused)

pub returns-in_err-query-in-Select-clause-only_fault : goal.returns-in_err-query-in-Select-clause-only_fault
returns-in_err-query-in-Select-clause-only_fault c =
    let is = built_select c.args.source.now c.args.schema.now c.args.tokens.now c.in_ok-sentence.sentence c.in_ok-sentence.ensures c.requires.statement c.in-Select.syntax c.in-Select.is in
    let one = built_one c.args.source.now c.args.schema.now c.args.tokens.now c.in_ok-sentence.sentence c.in_ok-sentence.ensures c.requires.statement (sentence.Select c.in-Select.syntax) c.in-Select.is in
    let p = err_from_is_err_and c.from_residual-in_err-query-in-Select.result c.from_residual-in_err-query-in-Select.ensures.1 in
    rw (p.1, p.2) (refused_one c.args.source.now c.args.schema.now c.args.tokens.now c.requires.bytes c.requires.numbers (selects (select_of c.in-Select.syntax)) is one c.in_err-query-in-Select.field-0.0 c.in_err-query-in-Select.ensures.refused)

pub returns-in_err-query-in-Delete-clause-only : goal.returns-in_err-query-in-Delete-clause-only
returns-in_err-query-in-Delete-clause-only c =
    let is = built_delete c.args.source.now c.args.schema.now c.args.tokens.now c.in_ok-sentence.sentence c.in_ok-sentence.ensures c.requires.statement c.in-Delete.syntax c.in-Delete.is in
    let one = built_one c.args.source.now c.args.schema.now c.args.tokens.now c.in_ok-sentence.sentence c.in_ok-sentence.ensures c.requires.statement (sentence.Delete c.in-Delete.syntax) c.in-Delete.is in
    let p = err_from_is_err_and c.from_residual-in_err-query-in-Delete.result c.from_residual-in_err-query-in-Delete.ensures.1 in
    rw (p.1, p.2) (refused_only c.args.source.now c.args.schema.now c.args.tokens.now c.requires.bytes c.requires.numbers (deletes (select_of c.in-Delete.syntax)) is one c.in_err-query-in-Delete.field-0.0 c.in_err-query-in-Delete.ensures.refused)

pub returns-in_err-query-in-Delete-clause-refused : goal.returns-in_err-query-in-Delete-clause-refused
returns-in_err-query-in-Delete-clause-refused c =
    let is = built_delete c.args.source.now c.args.schema.now c.args.tokens.now c.in_ok-sentence.sentence c.in_ok-sentence.ensures c.requires.statement c.in-Delete.syntax c.in-Delete.is in
    let one = built_one c.args.source.now c.args.schema.now c.args.tokens.now c.in_ok-sentence.sentence c.in_ok-sentence.ensures c.requires.statement (sentence.Delete c.in-Delete.syntax) c.in-Delete.is in
    let p = err_from_is_err_and c.from_residual-in_err-query-in-Delete.result c.from_residual-in_err-query-in-Delete.ensures.1 in
    rw (p.1, p.2) (refused_first c.args.source.now c.args.schema.now c.args.tokens.now c.requires.bytes c.requires.numbers (deletes (select_of c.in-Delete.syntax)) is one c.in_err-query-in-Delete.field-0.0 c.in_err-query-in-Delete.ensures.refused)

pub returns-in_err-query-in-Delete-clause-only_fault : goal.returns-in_err-query-in-Delete-clause-only_fault
returns-in_err-query-in-Delete-clause-only_fault c =
    let is = built_delete c.args.source.now c.args.schema.now c.args.tokens.now c.in_ok-sentence.sentence c.in_ok-sentence.ensures c.requires.statement c.in-Delete.syntax c.in-Delete.is in
    let one = built_one c.args.source.now c.args.schema.now c.args.tokens.now c.in_ok-sentence.sentence c.in_ok-sentence.ensures c.requires.statement (sentence.Delete c.in-Delete.syntax) c.in-Delete.is in
    let p = err_from_is_err_and c.from_residual-in_err-query-in-Delete.result c.from_residual-in_err-query-in-Delete.ensures.1 in
    rw (p.1, p.2) (refused_one c.args.source.now c.args.schema.now c.args.tokens.now c.requires.bytes c.requires.numbers (deletes (select_of c.in-Delete.syntax)) is one c.in_err-query-in-Delete.field-0.0 c.in_err-query-in-Delete.ensures.refused)

pub values-requires : goal.values-requires
values-requires c =
    let is = built_insert c.args.source.now c.args.schema.now c.args.tokens.now c.in_ok-sentence.sentence c.in_ok-sentence.ensures c.requires.statement c.in-Insert.insertion c.in-Insert.is in
    insert_written c.args.source.now c.args.schema.now c.args.tokens.now c.requires.spelled c.requires.numbers c.in-Insert.insertion is

pub returns-in_err-values-in-Insert-clause-only : goal.returns-in_err-values-in-Insert-clause-only
returns-in_err-values-in-Insert-clause-only c =
    let is = built_insert c.args.source.now c.args.schema.now c.args.tokens.now c.in_ok-sentence.sentence c.in_ok-sentence.ensures c.requires.statement c.in-Insert.insertion c.in-Insert.is in
    let one = built_one c.args.source.now c.args.schema.now c.args.tokens.now c.in_ok-sentence.sentence c.in_ok-sentence.ensures c.requires.statement (sentence.Insert c.in-Insert.insertion) c.in-Insert.is in
    let p = err_from_is_err_and c.from_residual-in_err-values-in-Insert.result c.from_residual-in_err-values-in-Insert.ensures.1 in
    rw (p.1, p.2) (refused_only c.args.source.now c.args.schema.now c.args.tokens.now c.requires.bytes c.requires.numbers (inserts c.in-Insert.insertion) is one c.in_err-values-in-Insert.field-0.0 c.in_err-values-in-Insert.ensures.refused)

pub returns-in_err-values-in-Insert-clause-refused : goal.returns-in_err-values-in-Insert-clause-refused
returns-in_err-values-in-Insert-clause-refused c =
    let is = built_insert c.args.source.now c.args.schema.now c.args.tokens.now c.in_ok-sentence.sentence c.in_ok-sentence.ensures c.requires.statement c.in-Insert.insertion c.in-Insert.is in
    let one = built_one c.args.source.now c.args.schema.now c.args.tokens.now c.in_ok-sentence.sentence c.in_ok-sentence.ensures c.requires.statement (sentence.Insert c.in-Insert.insertion) c.in-Insert.is in
    let p = err_from_is_err_and c.from_residual-in_err-values-in-Insert.result c.from_residual-in_err-values-in-Insert.ensures.1 in
    rw (p.1, p.2) (refused_first c.args.source.now c.args.schema.now c.args.tokens.now c.requires.bytes c.requires.numbers (inserts c.in-Insert.insertion) is one c.in_err-values-in-Insert.field-0.0 c.in_err-values-in-Insert.ensures.refused)

pub returns-in_err-values-in-Insert-clause-only_fault : goal.returns-in_err-values-in-Insert-clause-only_fault
returns-in_err-values-in-Insert-clause-only_fault c =
    let is = built_insert c.args.source.now c.args.schema.now c.args.tokens.now c.in_ok-sentence.sentence c.in_ok-sentence.ensures c.requires.statement c.in-Insert.insertion c.in-Insert.is in
    let one = built_one c.args.source.now c.args.schema.now c.args.tokens.now c.in_ok-sentence.sentence c.in_ok-sentence.ensures c.requires.statement (sentence.Insert c.in-Insert.insertion) c.in-Insert.is in
    let p = err_from_is_err_and c.from_residual-in_err-values-in-Insert.result c.from_residual-in_err-values-in-Insert.ensures.1 in
    rw (p.1, p.2) (refused_one c.args.source.now c.args.schema.now c.args.tokens.now c.requires.bytes c.requires.numbers (inserts c.in-Insert.insertion) is one c.in_err-values-in-Insert.field-0.0 c.in_err-values-in-Insert.ensures.refused)

pub returns-in_ok-query-in-Select-clause-accepted : goal.returns-in_ok-query-in-Select-clause-accepted
returns-in_ok-query-in-Select-clause-accepted c =
    let is = built_select c.args.source.now c.args.schema.now c.args.tokens.now c.in_ok-sentence.sentence c.in_ok-sentence.ensures c.requires.statement c.in-Select.syntax c.in-Select.is in
    let one = built_one c.args.source.now c.args.schema.now c.args.tokens.now c.in_ok-sentence.sentence c.in_ok-sentence.ensures c.requires.statement (sentence.Select c.in-Select.syntax) c.in-Select.is in
    accepted_so c.args.source.now c.args.schema.now c.args.tokens.now c.requires.bytes c.requires.numbers (selects (select_of c.in-Select.syntax)) is one c.in_ok-query-in-Select.ensures.fits (command c.statement.result)
    (c.statement.ensures ∙ ap (λ (q : Asked). asks (record { is_explained = c.in-Select.syntax.is_explained; asked = q })) c.in_ok-query-in-Select.ensures.asked)

pub returns-in_ok-query-in-Select-clause-given : goal.returns-in_ok-query-in-Select-clause-given
returns-in_ok-query-in-Select-clause-given c =
    let is = built_select c.args.source.now c.args.schema.now c.args.tokens.now c.in_ok-sentence.sentence c.in_ok-sentence.ensures c.requires.statement c.in-Select.syntax c.in-Select.is in
    rw c.statement.ensures
    (select_posed c.args.source.now c.args.schema.now c.args.tokens.now c.requires.spelled c.requires.numbers (select_of c.in-Select.syntax)
    c.in_ok-query-in-Select.ensures.fits c.in_ok-query-in-Select.ensures.known _ c.in_ok-query-in-Select.ensures.asked c.in_ok-query-in-Select.ensures.over is)

pub returns-in_ok-values-in-Insert-clause-accepted : goal.returns-in_ok-values-in-Insert-clause-accepted
returns-in_ok-values-in-Insert-clause-accepted c =
    let is = built_insert c.args.source.now c.args.schema.now c.args.tokens.now c.in_ok-sentence.sentence c.in_ok-sentence.ensures c.requires.statement c.in-Insert.insertion c.in-Insert.is in
    let one = built_one c.args.source.now c.args.schema.now c.args.tokens.now c.in_ok-sentence.sentence c.in_ok-sentence.ensures c.requires.statement (sentence.Insert c.in-Insert.insertion) c.in-Insert.is in
    accepted_so c.args.source.now c.args.schema.now c.args.tokens.now c.requires.bytes c.requires.numbers (inserts c.in-Insert.insertion) is one c.in_ok-values-in-Insert.ensures.fine (puts c.new.result) (ap puts (c.new.ensures ∙ c.in_ok-values-in-Insert.ensures.values))

pub returns-in_ok-values-in-Insert-clause-given : goal.returns-in_ok-values-in-Insert-clause-given
returns-in_ok-values-in-Insert-clause-given c =
    given_values c.args.source.now c.args.schema.now c.in-Insert.insertion c.new.result (c.new.ensures ∙ c.in_ok-values-in-Insert.ensures.values) c.in_ok-values-in-Insert.ensures.count c.in_ok-values-in-Insert.ensures.fit

pub returns-in_ok-query-in-Delete-clause-accepted : goal.returns-in_ok-query-in-Delete-clause-accepted
returns-in_ok-query-in-Delete-clause-accepted c =
    let is = built_delete c.args.source.now c.args.schema.now c.args.tokens.now c.in_ok-sentence.sentence c.in_ok-sentence.ensures c.requires.statement c.in-Delete.syntax c.in-Delete.is in
    let one = built_one c.args.source.now c.args.schema.now c.args.tokens.now c.in_ok-sentence.sentence c.in_ok-sentence.ensures c.requires.statement (sentence.Delete c.in-Delete.syntax) c.in-Delete.is in
    accepted_so c.args.source.now c.args.schema.now c.args.tokens.now c.requires.bytes c.requires.numbers (deletes (select_of c.in-Delete.syntax)) is one c.in_ok-query-in-Delete.ensures.fits
    (takes (asked c.in_ok-query-in-Delete.query)) (ap takes c.in_ok-query-in-Delete.ensures.asked)

pub returns-in_ok-query-in-Delete-clause-given : goal.returns-in_ok-query-in-Delete-clause-given
returns-in_ok-query-in-Delete-clause-given c =
    let is = built_delete c.args.source.now c.args.schema.now c.args.tokens.now c.in_ok-sentence.sentence c.in_ok-sentence.ensures c.requires.statement c.in-Delete.syntax c.in-Delete.is in (
      delete_posed c.args.source.now c.args.schema.now c.args.tokens.now c.requires.spelled c.requires.numbers (select_of c.in-Delete.syntax) c.in_ok-query-in-Delete.ensures.fits c.in_ok-query-in-Delete.ensures.known (asked c.in_ok-query-in-Delete.query) c.in_ok-query-in-Delete.ensures.asked c.in_ok-query-in-Delete.ensures.over is,
      delete_rows c.args.source.now c.args.schema.now c.args.tokens.now c.requires.spelled c.requires.numbers (select_of c.in-Delete.syntax) c.in_ok-query-in-Delete.ensures.fits c.in_ok-query-in-Delete.ensures.known (asked c.in_ok-query-in-Delete.query) c.in_ok-query-in-Delete.ensures.asked c.in_ok-query-in-Delete.ensures.over is,
    )

pub returns-in_err-sentence-clause-accepted : goal.returns-in_err-sentence-clause-accepted
returns-in_err-sentence-clause-accepted c = IfOk-from_err c.from_residual.result _ c.from_residual.ensures.0

pub returns-in_err-sentence-clause-given : goal.returns-in_err-sentence-clause-given
returns-in_err-sentence-clause-given c = IfOk-from_err c.from_residual.result _ c.from_residual.ensures.0

pub returns-in_err-sentence-clause-only : goal.returns-in_err-sentence-clause-only
returns-in_err-sentence-clause-only c = λ d is. only_memory c.from_residual.result _ c.from_residual.ensures.1

pub returns-in_err-sentence-clause-refused : goal.returns-in_err-sentence-clause-refused
returns-in_err-sentence-clause-refused c = memory_or c.from_residual.result _ c.from_residual.ensures.1

pub returns-in_err-sentence-clause-only_fault : goal.returns-in_err-sentence-clause-only_fault
returns-in_err-sentence-clause-only_fault c = λ f is. memory_or c.from_residual.result _ c.from_residual.ensures.1

pub returns-in_err-query-in-Select-clause-accepted : goal.returns-in_err-query-in-Select-clause-accepted
returns-in_err-query-in-Select-clause-accepted c = IfOk-from_err c.from_residual-in_err-query-in-Select.result _ c.from_residual-in_err-query-in-Select.ensures.0

pub returns-in_err-query-in-Select-clause-given : goal.returns-in_err-query-in-Select-clause-given
returns-in_err-query-in-Select-clause-given c = IfOk-from_err c.from_residual-in_err-query-in-Select.result _ c.from_residual-in_err-query-in-Select.ensures.0

pub returns-in_err-values-in-Insert-clause-accepted : goal.returns-in_err-values-in-Insert-clause-accepted
returns-in_err-values-in-Insert-clause-accepted c = IfOk-from_err c.from_residual-in_err-values-in-Insert.result _ c.from_residual-in_err-values-in-Insert.ensures.0

pub returns-in_err-values-in-Insert-clause-given : goal.returns-in_err-values-in-Insert-clause-given
returns-in_err-values-in-Insert-clause-given c = IfOk-from_err c.from_residual-in_err-values-in-Insert.result _ c.from_residual-in_err-values-in-Insert.ensures.0

pub returns-in_err-query-in-Delete-clause-accepted : goal.returns-in_err-query-in-Delete-clause-accepted
returns-in_err-query-in-Delete-clause-accepted c = IfOk-from_err c.from_residual-in_err-query-in-Delete.result _ c.from_residual-in_err-query-in-Delete.ensures.0

pub returns-in_err-query-in-Delete-clause-given : goal.returns-in_err-query-in-Delete-clause-given
returns-in_err-query-in-Delete-clause-given c = IfOk-from_err c.from_residual-in_err-query-in-Delete.result _ c.from_residual-in_err-query-in-Delete.ensures.0
