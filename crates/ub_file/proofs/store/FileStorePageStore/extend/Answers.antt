use Rattle.std.proofs.Common.{rules}
use Rattle.ub_file.proofs.store.FileStorePageStore.extend.Goals as goal

pub invariant_of-self : goal.invariant_of-self
invariant_of-self g c = search rules
