use Rattle.std.proofs.Common.{◌∙◌, List, ap, sym}
use Rattle.ub_store.specs.Facts.{zero_page}
use Rattle.ub_journal.specs.Image.{begun}
use Rattle.ub_journal.specs.declared.journal.Change.{Change}
use Rattle.ub_journal.specs.inner.TornBeside.{drafted}
use Rattle.ub_journal.proofs.torn.copy_seen.Goals as goal

pub returns-in-None : goal.returns-in-None
returns-in-None c = ap (λ (l : List Change). record (begun zero_page zero_page 0) { changes = l }) c.new.ensures.items ∙ ap drafted (sym c.in-None.is)
