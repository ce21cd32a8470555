use Rattle.std.proofs.Common.{◌≡◌, ◌∙◌, get_or, sym, arith}
use Rattle.std.proofs.Math.ListN.{length-set}
use Rattle.std.proofs.lemmas.List.{length-map}
use Rattle.csv.specs.Records.{fields_of}
use Rattle.ub_load.specs.Field.{trimmed}
use Rattle.ub_load.specs.LoadedTable.{columns_of}
use Rattle.ub_load.proofs.NamedFacts.{found_here, missing_here, place_here}
use Rattle.ub_load.proofs.rows.find_places.Goals as goal

pub returns-then-place-len-clause-refused : goal.returns-then-place-len-clause-refused
returns-then-place-len-clause-refused c =
    let fields = fields_of c.args.header.now in
    let long = length-map fields trimmed in
    let element = c.index-columns-index.result in
    let text : c.bytes.result.now ≡ get_or c.args.columns.now c.loop-index.index element = c.bytes.ensures.bytes ∙ c.index-columns-index.is in
    missing_here c.args.columns.now (columns_of fields) c.loop-index.index element c.bytes.result.now c.place_of-place.result c.loop-index-test.true text c.place_of-place.ensures
    (c.if-place-len.true ∙ c.len.ensures ∙ sym long)

pub loop-index-preserved : goal.loop-index-preserved
loop-index-preserved c =
    let fields = fields_of c.args.header.now in
    let long = length-map fields trimmed in
    let element = c.index-columns-index.result in
    let text : c.bytes.result.now ≡ get_or c.args.columns.now c.loop-index.index element = c.bytes.ensures.bytes ∙ c.index-columns-index.is in
    let test = c.loop-index-test.true in
    let few = c.requires in
    let all = c.loop-index.invariant.long in
    record {
      long = length-set c.loop-index.places c.loop-index.index c.place_of-place.result ∙ all;
      places = place_here (columns_of fields) c.args.columns.now c.loop-index.places c.loop-index.index c.place_of-place.result element c.bytes.result.now test text c.place_of-place.ensures
          (omega arith) c.loop-index.invariant.places;
      found = found_here c.args.columns.now (columns_of fields) c.loop-index.index element c.bytes.result.now c.place_of-place.result test text c.place_of-place.ensures
          (λ e. c.if-place-len.false (e ∙ long ∙ sym c.len.ensures)) c.loop-index.invariant.found;
    }
