use Rattle.std.proofs.Common.{arith, sym}
use Rattle.ub_bytes.specs.Bytes.{number_bytes}
use Rattle.ub_bytes.proofs.BytesFacts.{length-number_bytes}
use Rattle.ub_bytes.proofs.DraftFacts.{IsDraft, after_put, fits_in, mid_long, put_len}
use Rattle.ub_bytes.proofs.draft.Draft.put_u64.Goals as goal

pub invariant_of-self : goal.invariant_of-self
unfolding number_bytes
invariant_of-self c =
    let draft : IsDraft 4096 c.self.inside.len 8 c.self.inside.page c.args.self.now
    = record { long = c.self.told; within = c.self.invariant.0; blank = c.self.invariant.1; is = c.self.view_is; room = c.requires } in
    let after = after_put draft (number_bytes 8 c.args.x) c.write_u64.new.buf (sym (length-number_bytes 8 c.args.x)) c.write_u64.ensures in
    (after.0, after.1)

pub returns-clause-bytes : goal.returns-clause-bytes
unfolding number_bytes
returns-clause-bytes c =
    let draft : IsDraft 4096 c.self.inside.len 8 c.self.inside.page c.args.self.now
    = record { long = c.self.told; within = c.self.invariant.0; blank = c.self.invariant.1; is = c.self.view_is; room = c.requires } in
    (after_put draft (number_bytes 8 c.args.x) c.write_u64.new.buf (sym (length-number_bytes 8 c.args.x)) c.write_u64.ensures).2

pub returns-clause-len : goal.returns-clause-len
unfolding number_bytes
returns-clause-len c =
    let draft : IsDraft 4096 c.self.inside.len 8 c.self.inside.page c.args.self.now
    = record { long = c.self.told; within = c.self.invariant.0; blank = c.self.invariant.1; is = c.self.view_is; room = c.requires } in
    put_len draft (number_bytes 8 c.args.x) c.write_u64.new.buf (sym (length-number_bytes 8 c.args.x)) c.write_u64.ensures

pub write_u64-requires : goal.write_u64-requires
write_u64-requires c =
    let draft : IsDraft 4096 c.self.inside.len 8 c.self.inside.page c.args.self.now
    = record { long = c.self.told; within = c.self.invariant.0; blank = c.self.invariant.1; is = c.self.view_is; room = c.requires } in
    mid_long draft

pub slice_bounds-write_u64-count : goal.slice_bounds-write_u64-count
slice_bounds-write_u64-count c = c.self.invariant.0

pub overflow_add-self : goal.overflow_add-self
overflow_add-self c =
    let draft : IsDraft 4096 c.self.inside.len 8 c.self.inside.page c.args.self.now
    = record { long = c.self.told; within = c.self.invariant.0; blank = c.self.invariant.1; is = c.self.view_is; room = c.requires } in
    let fits = fits_in draft in
    omega arith
