use Rattle.std.proofs.Common.{append_assoc}
use Rattle.std.proofs.lemmas.List.{append-nil}
use Rattle.ub_page.proofs.entries.put_entry.Goals as goal

pub returns-clause-bytes : goal.returns-clause-bytes
returns-clause-bytes c = rw (c.put_u32-2.ensures.bytes, c.put_u32.ensures.bytes, c.put_u128.ensures.bytes) (simp (append_assoc, append-nil))
