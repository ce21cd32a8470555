use Rattle.std.proofs.Common.{arith, lit≤}
use Rattle.ub_page.specs.Header.{numbers_of}
use Rattle.ub_page.proofs.HeaderFacts.{written}
use Rattle.ub_page.proofs.header.spell.Goals as goal

pub returns-clause-page : goal.returns-clause-page
returns-clause-page c =
    rw (
      c.put_names.ensures.bytes,
      c.put_name.ensures.bytes,
      c.put_u32-6.ensures.bytes,
      c.put_u32-5.ensures.bytes,
      c.put_u32-4.ensures.bytes,
      c.put_u32-3.ensures.bytes,
      c.put_u32-2.ensures.bytes,
      c.put_u16.ensures.bytes,
      c.put_u8-6.ensures.bytes,
      c.put_u8-5.ensures.bytes,
      c.put_u8-4.ensures.bytes,
      c.put_u8-3.ensures.bytes,
      c.put_u8-2.ensures.bytes,
      c.put_u8.ensures.bytes,
      c.put_u32.ensures.bytes,
      c.clear.ensures,
    )
    (rw (c.state_of.ensures, c.dims.ensures.dims, c.measures.ensures.measures, c.page_rows.ensures.page_rows, c.signed.ensures.signed, c.name.ensures, c.columns.ensures.columns)
    (written c.args.version (numbers_of c.args.header.now) c.args.header.now.schema.name c.args.header.now.schema.columns))

pub returns-clause-names : goal.returns-clause-names
returns-clause-names c = (rw c.name.ensures at c.put_name.ensures.name, rw c.columns.ensures.columns at c.put_names.ensures.names)

pub put_u8-requires : goal.put_u8-requires
put_u8-requires c = rw (c.put_u32.ensures.len, c.clear.ensures) (lit≤ tt)

pub put_u8-requires-2 : goal.put_u8-requires-2
put_u8-requires-2 c = rw (c.put_u8.ensures.len, c.put_u32.ensures.len, c.clear.ensures) (lit≤ tt)

pub put_u8-requires-3 : goal.put_u8-requires-3
put_u8-requires-3 c = rw (c.put_u8-2.ensures.len, c.put_u8.ensures.len, c.put_u32.ensures.len, c.clear.ensures) (lit≤ tt)

pub put_u8-requires-4 : goal.put_u8-requires-4
put_u8-requires-4 c = rw (c.put_u8-3.ensures.len, c.put_u8-2.ensures.len, c.put_u8.ensures.len, c.put_u32.ensures.len, c.clear.ensures) (lit≤ tt)

pub put_u8-requires-5 : goal.put_u8-requires-5
put_u8-requires-5 c =
    rw (c.put_u8-4.ensures.len, c.put_u8-3.ensures.len, c.put_u8-2.ensures.len, c.put_u8.ensures.len, c.put_u32.ensures.len, c.clear.ensures)
    (lit≤ tt)

pub put_u8-requires-6 : goal.put_u8-requires-6
put_u8-requires-6 c =
    rw (
      c.put_u8-5.ensures.len,
      c.put_u8-4.ensures.len,
      c.put_u8-3.ensures.len,
      c.put_u8-2.ensures.len,
      c.put_u8.ensures.len,
      c.put_u32.ensures.len,
      c.clear.ensures,
    )
    (lit≤ tt)

pub put_u16-requires : goal.put_u16-requires
put_u16-requires c =
    rw (
      c.put_u8-6.ensures.len,
      c.put_u8-5.ensures.len,
      c.put_u8-4.ensures.len,
      c.put_u8-3.ensures.len,
      c.put_u8-2.ensures.len,
      c.put_u8.ensures.len,
      c.put_u32.ensures.len,
      c.clear.ensures,
    )
    (lit≤ tt)

pub put_u32-requires-2 : goal.put_u32-requires-2
put_u32-requires-2 c =
    rw (
      c.put_u16.ensures.len,
      c.put_u8-6.ensures.len,
      c.put_u8-5.ensures.len,
      c.put_u8-4.ensures.len,
      c.put_u8-3.ensures.len,
      c.put_u8-2.ensures.len,
      c.put_u8.ensures.len,
      c.put_u32.ensures.len,
      c.clear.ensures,
    )
    (lit≤ tt)

pub put_u32-requires-3 : goal.put_u32-requires-3
put_u32-requires-3 c =
    rw (
      c.put_u32-2.ensures.len,
      c.put_u16.ensures.len,
      c.put_u8-6.ensures.len,
      c.put_u8-5.ensures.len,
      c.put_u8-4.ensures.len,
      c.put_u8-3.ensures.len,
      c.put_u8-2.ensures.len,
      c.put_u8.ensures.len,
      c.put_u32.ensures.len,
      c.clear.ensures,
    )
    (lit≤ tt)

pub put_u32-requires-4 : goal.put_u32-requires-4
put_u32-requires-4 c =
    rw (
      c.put_u32-3.ensures.len,
      c.put_u32-2.ensures.len,
      c.put_u16.ensures.len,
      c.put_u8-6.ensures.len,
      c.put_u8-5.ensures.len,
      c.put_u8-4.ensures.len,
      c.put_u8-3.ensures.len,
      c.put_u8-2.ensures.len,
      c.put_u8.ensures.len,
      c.put_u32.ensures.len,
      c.clear.ensures,
    )
    (lit≤ tt)

pub put_u32-requires-5 : goal.put_u32-requires-5
put_u32-requires-5 c =
    rw (
      c.put_u32-4.ensures.len,
      c.put_u32-3.ensures.len,
      c.put_u32-2.ensures.len,
      c.put_u16.ensures.len,
      c.put_u8-6.ensures.len,
      c.put_u8-5.ensures.len,
      c.put_u8-4.ensures.len,
      c.put_u8-3.ensures.len,
      c.put_u8-2.ensures.len,
      c.put_u8.ensures.len,
      c.put_u32.ensures.len,
      c.clear.ensures,
    )
    (lit≤ tt)

pub put_u32-requires-6 : goal.put_u32-requires-6
put_u32-requires-6 c =
    rw (
      c.put_u32-5.ensures.len,
      c.put_u32-4.ensures.len,
      c.put_u32-3.ensures.len,
      c.put_u32-2.ensures.len,
      c.put_u16.ensures.len,
      c.put_u8-6.ensures.len,
      c.put_u8-5.ensures.len,
      c.put_u8-4.ensures.len,
      c.put_u8-3.ensures.len,
      c.put_u8-2.ensures.len,
      c.put_u8.ensures.len,
      c.put_u32.ensures.len,
      c.clear.ensures,
    )
    (lit≤ tt)

pub put_name-requires : goal.put_name-requires
put_name-requires c =
    rw (
      c.put_u32-6.ensures.len,
      c.put_u32-5.ensures.len,
      c.put_u32-4.ensures.len,
      c.put_u32-3.ensures.len,
      c.put_u32-2.ensures.len,
      c.put_u16.ensures.len,
      c.put_u8-6.ensures.len,
      c.put_u8-5.ensures.len,
      c.put_u8-4.ensures.len,
      c.put_u8-3.ensures.len,
      c.put_u8-2.ensures.len,
      c.put_u8.ensures.len,
      c.put_u32.ensures.len,
      c.clear.ensures,
    )
    (lit≤ tt)

pub overflow_cast-dims : goal.overflow_cast-dims
overflow_cast-dims c = let few = c.dims.ensures.few in omega arith

pub overflow_cast-measures : goal.overflow_cast-measures
overflow_cast-measures c = let few = c.measures.ensures.few in omega arith

pub overflow_cast-page_rows : goal.overflow_cast-page_rows
overflow_cast-page_rows c = let few = c.page_rows.ensures.few in omega arith
