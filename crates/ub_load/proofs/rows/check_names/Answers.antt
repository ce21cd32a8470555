use Rattle.std.proofs.Common.{◌+◌, sym, ◌∙◌, arith}
use Rattle.std.proofs.lemmas.List.{length-map}
use Rattle.csv.specs.Records.{fields_of}
use Rattle.ub_load.specs.Appending.{named_refusal}
use Rattle.ub_load.specs.Field.{trimmed}
use Rattle.ub_load.specs.LoadedTable.{columns_of}
use Rattle.ub_load.proofs.HeaderFacts.{got_at}
use Rattle.ub_load.proofs.NamedFacts.{fine_few, name_fails, name_fits}
use Rattle.ub_load.proofs.RefusalFacts.{each-more, each-refused}
use Rattle.ub_load.proofs.rows.check_names.Goals as goal

pub returns-then-not-names_column-clause-refused : goal.returns-then-not-names_column-clause-refused
returns-then-not-names_column-clause-refused c =
    let all = columns_of (fields_of c.args.header.now) in
    let long = length-map (fields_of c.args.header.now) trimmed in
    let test = c.loop-place-test.true in
    let (name, at) = got_at all c.loop-place.place (omega arith) in
    each-refused (named_refusal c.args.columns.now all) all c.loop-place.place name _ at c.loop-place.invariant.accepted
    (name_fails c.args.columns.now all c.loop-place.place name (sym (c.names_column.ensures name at) ∙ c.if-not-names_column.true))

pub loop-place-preserved : goal.loop-place-preserved
loop-place-preserved c =
    let all = columns_of (fields_of c.args.header.now) in
    let long = length-map (fields_of c.args.header.now) trimmed in
    let test = c.loop-place-test.true in
    let (name, at) = got_at all c.loop-place.place (omega arith) in
    let fine = each-more (named_refusal c.args.columns.now all) all c.loop-place.place name at c.loop-place.invariant.accepted
    (name_fits c.args.columns.now all c.loop-place.place name (sym (c.names_column.ensures name at) ∙ c.if-not-names_column.false)) in
    let few = fine_few c.args.columns.now all (c.loop-place.place + 1) (omega arith) fine in
    record { few = omega (arith, c.requires); accepted = fine }
