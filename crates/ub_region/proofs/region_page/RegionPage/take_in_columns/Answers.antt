use Rattle.std.proofs.Common.{◌≡◌, ◌+◌, ◌*◌, arith, ◌∙◌, refl}
use Rattle.std.proofs.lemmas.List.FromFn.{length-map-range_with_len}
use Rattle.ub_region.proofs.ColumnFacts.{are_read, columns_long, rows_read}
use Rattle.ub_bytes.specs.Bytes.{number_at}
use Rattle.ub_region.proofs.region_page.RegionPage.take_in_columns.Goals as goal
use Rattle.ub_table.specs.Region.{measures_of}

pub invariant_of-self : goal.invariant_of-self
invariant_of-self c =
    let schema = c.args.schema.now in
    let few_columns = schema.counts.few_measures in
    let len = c.from-len.result in
    let read = are_read schema.dims (measures_of schema) len c.dims-used.result c.measures.result c.args.page.now c.read_numbers.new.numbers c.read_dims.new.columns c.read_measures.new.columns
    schema.counts.few_dims (omega arith) (rw (c.from-len.ensures, c.u8_at.ensures) c.requires) c.dims-used.ensures.dims c.measures.ensures.measures
    c.read_numbers.ensures c.read_dims.ensures c.read_measures.ensures in
    record {
      few = read.few;
      numbers_long = rw read.numbers_are (length-map-range_with_len (λ i. number_at 4 (24 + 4 * i) c.args.page.now) 0 64);
      dims_long = λ d less. rw read.points_are
          (columns_long (λ d i. number_at 4 (24 + 4 * len + 4 * (len * d + i)) c.args.page.now) schema.dims d read.few_dims less);
    }

pub returns-clause-region : goal.returns-clause-region
returns-clause-region c =
    let schema = c.args.schema.now in
    let few_columns = schema.counts.few_measures in
    let len = c.from-len.result in
    let read = are_read schema.dims (measures_of schema) len c.dims-used.result c.measures.result c.args.page.now c.read_numbers.new.numbers c.read_dims.new.columns c.read_measures.new.columns
    schema.counts.few_dims (omega arith) (rw (c.from-len.ensures, c.u8_at.ensures) c.requires) c.dims-used.ensures.dims c.measures.ensures.measures
    c.read_numbers.ensures c.read_dims.ensures c.read_measures.ensures in
    let rows = rows_read schema.dims (measures_of schema) len c.args.page.now c.read_numbers.new.numbers c.read_dims.new.columns c.read_measures.new.columns read in
    let is : len ≡ number_at 1 3 c.args.page.now = c.from-len.ensures ∙ c.u8_at.ensures in
    rw (c.u128_at.ensures, c.u32_at.ensures, rows, is) refl
