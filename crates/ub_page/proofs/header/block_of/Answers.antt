use Rattle.std.proofs.Common.{◌++◌, List, ℕ, length, ap}
use Rattle.std.proofs.lemmas.List.{drop-replicate}
use Rattle.ub_page.proofs.header.block_of.Goals as goal

pub returns : goal.returns
returns c = rw (c.copy_from_slice.ensures.after, c.bytes-text.ensures.bytes) (ap (λ (zeros : List ℕ). c.args.name.now ++ zeros) (drop-replicate (length c.args.name.now) 32 0))
