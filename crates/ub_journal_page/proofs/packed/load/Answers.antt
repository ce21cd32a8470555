use Rattle.std.proofs.Common.{arith, rules}
use Rattle.ub_journal_page.proofs.StreamFacts.{load_more, load_none}
use Rattle.ub_journal_page.proofs.packed.load.Goals as goal

pub returns-then-n-from-clause-damaged : goal.returns-then-n-from-clause-damaged
returns-then-n-from-clause-damaged g c told honest =
    load_none (g.S.PageStore.facts c.args.store.now).pages c.args.cursor.now.place c.args.cursor.now.page (c.requires.read honest) c.if-cursor-ne0.false
    (let count = c.requires.count in let same = c.from.ensures in let past = c.if-n-from.true in omega arith)

pub returns-clause-page : goal.returns-clause-page
returns-clause-page g c =
    let more = load_more (g.S.PageStore.facts c.args.store.now).pages c.args.cursor.now.place c.args.cursor.now.page c.read_page.new.page in
    let long = c.read_page.array_long in
    let none = c.if-cursor-ne0.false in
    let page = c.read_page.ensures.page in
    let read = c.requires.read in
    search (rules, more)
