use Rattle.std.proofs.Common.{arith, length, refl}
use Rattle.ub_bytes.proofs.DraftFacts.{IsDraft, after_put, fits_in, mid_long, put_len}
use Rattle.ub_bytes.proofs.draft.Draft.put_bytes.Goals as goal

pub invariant_of-self : goal.invariant_of-self
invariant_of-self c =
    let draft : IsDraft 4096 c.self.inside.len (length c.args.bytes.now) c.self.inside.page c.args.self.now
    = record { long = c.self.told; within = c.self.invariant.0; blank = c.self.invariant.1; is = c.self.view_is; room = c.requires } in
    let after = after_put draft c.args.bytes.now c.copy_to_front.new.target refl c.copy_to_front.ensures in
    (after.0, after.1)

pub returns-clause-bytes : goal.returns-clause-bytes
returns-clause-bytes c =
    let draft : IsDraft 4096 c.self.inside.len (length c.args.bytes.now) c.self.inside.page c.args.self.now
    = record { long = c.self.told; within = c.self.invariant.0; blank = c.self.invariant.1; is = c.self.view_is; room = c.requires } in
    (after_put draft c.args.bytes.now c.copy_to_front.new.target refl c.copy_to_front.ensures).2

pub returns-clause-len : goal.returns-clause-len
returns-clause-len c =
    let draft : IsDraft 4096 c.self.inside.len (length c.args.bytes.now) c.self.inside.page c.args.self.now
    = record { long = c.self.told; within = c.self.invariant.0; blank = c.self.invariant.1; is = c.self.view_is; room = c.requires } in
    put_len draft c.args.bytes.now c.copy_to_front.new.target refl c.copy_to_front.ensures

pub copy_to_front-requires : goal.copy_to_front-requires
copy_to_front-requires c =
    let draft : IsDraft 4096 c.self.inside.len (length c.args.bytes.now) c.self.inside.page c.args.self.now
    = record { long = c.self.told; within = c.self.invariant.0; blank = c.self.invariant.1; is = c.self.view_is; room = c.requires } in
    mid_long draft

pub slice_bounds-copy_to_front-count : goal.slice_bounds-copy_to_front-count
slice_bounds-copy_to_front-count c = c.self.invariant.0

pub overflow_add-self : goal.overflow_add-self
overflow_add-self c =
    let draft : IsDraft 4096 c.self.inside.len (length c.args.bytes.now) c.self.inside.page c.args.self.now
    = record { long = c.self.told; within = c.self.invariant.0; blank = c.self.invariant.1; is = c.self.view_is; room = c.requires } in
    let fits = fits_in draft in
    omega arith
