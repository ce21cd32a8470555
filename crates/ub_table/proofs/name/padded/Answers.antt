use Rattle.std.proofs.Common.{◌++◌, List, ℕ, length, ap}
use Rattle.std.proofs.lemmas.List.{drop-replicate}
use Rattle.ub_table.proofs.name.padded.Goals as goal

pub returns : goal.returns
returns c = rw c.copy_from_slice.ensures.after (ap (λ (zeros : List ℕ). c.args.text.now ++ zeros) (drop-replicate (length c.args.text.now) 32 0))
