use Rattle.ub_region.proofs.WriteFacts.{written}
use Rattle.ub_region.proofs.region_page.RegionPage.write.Goals as goal
use Rattle.std.proofs.Common.{arith}

pub returns : goal.returns
returns c =
    let p = c.self.inside in
    let schema = c.args.schema.now in
    let few_measures = schema.counts.few_measures in
    rw (c.put_measures.ensures, c.put_dims.ensures.bytes, c.put_words.ensures.bytes, c.put_head.ensures.bytes)
    (rw (c.dims.ensures.dims, c.measures.ensures.measures, ← c.self.view_is)
    (written p.numbers p.dims p.measures p.len schema p.first schema.counts.few_dims (omega arith)))
