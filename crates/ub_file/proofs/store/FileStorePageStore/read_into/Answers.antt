use Rattle.std.proofs.Common.{rules}
use Rattle.ub_file.proofs.store.FileStorePageStore.read_into.Goals as goal

pub returns-clause-page : goal.returns-clause-page
returns-clause-page g c = search rules
