use Rattle.std.proofs.Common.{◌∙◌, sym, arith}
use Rattle.std.proofs.lemmas.List.{length-map}
use Rattle.std.specs.Str.{bytes_eq}
use Rattle.csv.specs.Records.{fields_of}
use Rattle.ub_load.specs.Field.{trimmed}
use Rattle.ub_load.specs.LoadedTable.{columns_of}
use Rattle.ub_load.proofs.HeaderFacts.{get-map}
use Rattle.ub_load.proofs.NamedFacts.{first_at, first_none, none_more}
use Rattle.ub_load.proofs.RowFacts.{take_all}
use Rattle.ub_load.proofs.rows.place_of.Goals as goal

pub returns-then-is_same : goal.returns-then-is_same
returns-then-is_same c =
    let fields = fields_of c.args.header.now in
    let at = get-map trimmed fields c.loop-place.place c.field_at.result.now c.field_at.ensures in
    let same = rw c.trim_spaces.ensures at (sym c.is_same.ensures ∙ c.if-is_same.true) in
    sym (first_at (bytes_eq c.args.name.now) (columns_of fields) c.loop-place.place (trimmed c.field_at.result.now) at c.loop-place.invariant same)

pub loop-place-preserved : goal.loop-place-preserved
loop-place-preserved c =
    let fields = fields_of c.args.header.now in
    let at = get-map trimmed fields c.loop-place.place c.field_at.result.now c.field_at.ensures in
    let other = rw c.trim_spaces.ensures at (sym c.is_same.ensures ∙ c.if-is_same.false) in
    none_more (bytes_eq c.args.name.now) (columns_of fields) c.loop-place.place (trimmed c.field_at.result.now) at c.loop-place.invariant other

pub returns : goal.returns
returns c =
    let fields = fields_of c.args.header.now in
    let long = length-map fields trimmed in
    let count = c.len-count.ensures in
    let past = c.loop-place-test.false in
    let none = rw (take_all c.loop-place.place (columns_of fields) (omega arith)) at c.loop-place.invariant in
    count ∙ sym (first_none (bytes_eq c.args.name.now) (columns_of fields) none ∙ long)
