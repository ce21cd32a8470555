use Rattle.std.proofs.Common.{◌≡◌, take}
use Rattle.ub_overlay.specs.Changes.{put_each}
use Rattle.ub_overlay.proofs.changes.Changes.put_journal.Given as goal

-- the first so many of the journal's changes were put
abbrev pub invariant-loop-change : goal.invariant-loop-change
invariant-loop-change l = record {
  same : l.journal ≡ l.fn.journal;
  items : l.change-items ≡ l.fn.journal.changes.items;
  put : l.self ≡ put_each (take l.change-index l.change-items) l.fn.self;
}
