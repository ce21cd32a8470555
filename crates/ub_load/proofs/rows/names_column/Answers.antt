use Rattle.std.proofs.Common.{◌∙◌, Some, sym, ap}
use Rattle.csv.specs.Records.{fields_of}
use Rattle.ub_load.specs.Field.{trimmed}
use Rattle.ub_load.specs.LoadedTable.{columns_of}
use Rattle.ub_load.proofs.HeaderFacts.{get-map}
use Rattle.ub_load.proofs.NamedFacts.{named_first, named_other}
use Rattle.ub_load.proofs.rows.names_column.Goals as goal

pub returns-then-is_column : goal.returns-then-is_column
returns-then-is_column c = λ name at.
    let fields = fields_of c.args.header.now in
    let here = get-map trimmed fields c.args.place c.field_at.result.now c.field_at.ensures ∙ ap Some (sym c.trim_spaces-name.ensures) in
    named_first c.args.columns.now (columns_of fields) c.args.place c.trim_spaces-name.result.now name c.place_of.result here at
    (sym c.is_column.ensures ∙ c.if-is_column.true) c.place_of.ensures

pub returns-else-is_column : goal.returns-else-is_column
returns-else-is_column c = λ name at.
    let fields = fields_of c.args.header.now in
    let here = get-map trimmed fields c.args.place c.field_at.result.now c.field_at.ensures ∙ ap Some (sym c.trim_spaces-name.ensures) in
    c.if-is_column.false ∙ named_other c.args.columns.now (columns_of fields) c.args.place c.trim_spaces-name.result.now name here at (sym c.is_column.ensures ∙ c.if-is_column.false)
