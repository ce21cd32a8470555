use Rattle.std.proofs.Common.{length, map, take, refl, rules, ◌∙◌, ap, arith, inl, inr}
use Rattle.std.proofs.lemmas.Bool.{false≢true}
use Rattle.std.proofs.lemmas.List.{length-map}
use Rattle.std.proofs.lemmas.Result.{err_from_is_err_and}
use Rattle.csv.specs.Records.{fields_of}
use Rattle.ub_load.specs.Field.{trimmed}
use Rattle.ub_load.proofs.HeaderFacts.{header_of_few, header_with_bad_table, header_with_names, distinct_names, counts, never_true}
use Rattle.ub_load.proofs.RefusalFacts.{reads_refused}
use Rattle.ub_load.proofs.header.read_schema.Goals as goal
use Rattle.ub_load.proofs.header.read_schema.Goals.{then-width-dims-via-then-width-dims, then-width-dims-via-else-width-dims+then-width-dims-2}

pub returns-then-width-dims-clause-reads : goal.returns-then-width-dims-clause-reads
returns-then-width-dims-clause-reads c =
    let long = length-map (fields_of c.args.header.now) trimmed in
    record {
      value = tt;
      accepted = tt;
      refused = elim c.then-width-dims.branch [
        | then-width-dims-via-then-width-dims w ↦ header_of_few c.args.axes.dims c.args.name.now (map trimmed (fields_of c.args.header.now)) (inl (omega arith))
        | then-width-dims-via-else-width-dims+then-width-dims-2 w ↦ header_of_few c.args.axes.dims c.args.name.now (map trimmed (fields_of c.args.header.now)) (inr (omega arith))
      ];
    }

pub returns-in_default-clause-reads : goal.returns-in_default-clause-reads
returns-in_default-clause-reads c =
    let long = length-map (fields_of c.args.header.now) trimmed in
    record {
      value = tt;
      accepted = tt;
      refused = header_with_bad_table c.args.axes.dims c.args.name.now (map trimmed (fields_of c.args.header.now)) (omega arith) (omega arith) (never_true _ (λ t. false≢true (c.in_default.ensures.valid.1 t)));
    }

pub returns-in_err-columns-clause-reads : goal.returns-in_err-columns-clause-reads
returns-in_err-columns-clause-reads c =
    let long = length-map (fields_of c.args.header.now) trimmed in
    let p = err_from_is_err_and c.from_residual.result c.from_residual.ensures.1 in
    reads_refused p.1 p.2
    (header_with_names c.args.axes.dims c.args.name.now (map trimmed (fields_of c.args.header.now)) _ (omega arith) (omega arith) (c.in-Ok.ensures.valid.0 refl) c.in_err-columns.ensures.refused)

pub unwrap-requires : goal.unwrap-requires
unwrap-requires c =
    let long = length-map (fields_of c.args.header.now) trimmed in
    let distinct = distinct_names (map trimmed (fields_of c.args.header.now)) c.in_ok-columns.ensures.accepted in
    let names = ap (λ n. take n c.in_ok-columns.columns) c.len-width.ensures ∙ c.in_ok-columns.ensures.value in
    c.new-2.ensures.valid.1
    (rw names (
      record {
        counts = counts (length (map trimmed (fields_of c.args.header.now))) c.args.axes.dims c.args.page_rows c.requires.numbers (omega arith) (omega arith);
        mask = c.requires.mask;
      },
      distinct,
    ))

pub returns-clause-reads : goal.returns-clause-reads
returns-clause-reads c =
    let long = length-map (fields_of c.args.header.now) trimmed in
    record {
      value = search rules;
      accepted = header_with_names c.args.axes.dims c.args.name.now (map trimmed (fields_of c.args.header.now)) _ (omega arith) (omega arith) (c.in-Ok.ensures.valid.0 refl) c.in_ok-columns.ensures.accepted;
      refused = tt;
    }
