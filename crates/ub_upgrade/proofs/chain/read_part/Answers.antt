use Rattle.std.proofs.Common.{◌≡◌, rules, true}
use Rattle.ub_upgrade.proofs.Common.{AreBelow, IsPage, page_count}
use Rattle.ub_upgrade.proofs.ReadFacts.{named_missing, read_refused}
use Rattle.ub_upgrade.proofs.chain.read_part.Goals as goal

pub returns-in-Err-clause-refused : goal.returns-in-Err-clause-refused
returns-in-Err-clause-refused g c chain before new read met =
    read_refused (Unit {0}) c.in-Err.fault c.args.heading.now (g.O.PageStore.facts c.args.old.now) new c.args.place.now.next c.in-Err.ensures.effect.device c.in-Err.ensures.missing
    c.in-Err.ensures.no_size (chain, before, read)

pub returns-then-not-are_below-clause-refused : goal.returns-then-not-are_below-clause-refused
returns-then-not-are_below-clause-refused g c chain before new read met =
    let at : IsPage (g.O.PageStore.facts c.args.old.now) c.args.place.now.next c.read_into.new.page = search rules in
    let none : ¬ (AreBelow (page_count (g.O.PageStore.facts c.args.old.now)) c.in-Ok.part.entries) =
    λ all. let yes : c.are_below.result ≡ true = c.are_below.ensures.1 (rw (c.entries.ensures.entries, c.pages-count.ensures) all) in let not_so = c.if-not-are_below.true in cc in
    named_missing c.args.heading.now (g.O.PageStore.facts c.args.old.now) new chain before c.args.place.now.next c.args.place.now.met c.read_into.new.page c.in-Ok.part read met.met at
    c.in-Ok.ensures.listing.0 c.in-Ok.ensures.listing.1 c.in-Ok.ensures.part (c.in-Ok.ensures.begun before read.begun met) none
