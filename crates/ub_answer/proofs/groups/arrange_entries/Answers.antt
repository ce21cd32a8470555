use Rattle.std.proofs.Common.{rules}
use Rattle.std.proofs.lemmas.Cmp.{on_total}
use Rattle.std.proofs.lemmas.Fn.{always_returns_same}
use Rattle.ub_answer.proofs.EntryFacts.{entries_total}
use Rattle.ub_answer.specs.inner.Groups.{entry_of, lent_cmp}
use Rattle.ub_answer.proofs.groups.arrange_entries.Goals as goal

pub returns-clause-arranged : goal.returns-clause-arranged
returns-clause-arranged c =
    c.arrange.ensures.arranged (lent_cmp c.args.items.now c.args.keys.now) (on_total (λ e. entry_of e) (entries_total c.args.items.now c.args.keys.now))
    (always_returns_same _ _ _ (λ a r f k. search rules))
