use Rattle.ub_page.proofs.EntryFacts.{written}
use Rattle.ub_page.proofs.entries.write_entries.Goals as goal

pub returns : goal.returns
returns c =
    rw (c.put_entries.ensures, c.put_u64.ensures.bytes, c.put_u32.ensures.bytes, c.put_u16.ensures.bytes, c.put_u8-2.ensures.bytes, c.put_u8.ensures.bytes, c.clear.ensures)
    (written c.args.kind c.args.level c.args.next c.args.entries.now)
