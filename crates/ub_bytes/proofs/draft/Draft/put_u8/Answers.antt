use Rattle.std.proofs.Common.{◌<◌, ◌++◌, List, ℕ, ap, ◌∙◌, sym, arith}
use Rattle.ub_bytes.proofs.BytesFacts.{one_byte}
use Rattle.ub_bytes.proofs.DraftFacts.{IsDraft, after_push}
use Rattle.ub_bytes.proofs.draft.Draft.put_u8.Goals as goal

pub invariant_of-self : goal.invariant_of-self
invariant_of-self c =
    let draft : IsDraft 4096 c.self.inside.len 1 c.self.inside.page c.args.self.now
    = record { long = c.self.told; within = c.self.invariant.0; blank = c.self.invariant.1; is = c.self.view_is; room = c.requires } in
    let after = after_push draft c.args.x in
    (after.0, after.1)

pub returns-clause-bytes : goal.returns-clause-bytes
returns-clause-bytes c =
    let draft : IsDraft 4096 c.self.inside.len 1 c.self.inside.page c.args.self.now
    = record { long = c.self.told; within = c.self.invariant.0; blank = c.self.invariant.1; is = c.self.view_is; room = c.requires } in
    let small : c.args.x < 256 = omega (arith, c.ranges.x) in
    (after_push draft c.args.x).2 ∙ ap (λ (bytes : List ℕ). c.args.self.now ++ bytes) (sym (one_byte c.args.x small))
