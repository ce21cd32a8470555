use Rattle.std.proofs.Common.{◌+◌, ◌≡◌, ◌∙◌, ℕ, ap, sym, subst, drop, refl, arith, length}
use Rattle.ub_store.specs.Facts.{StoreFacts, IsHonest}
use Rattle.ub_journal_page.specs.Whole.{pages_in}
use Rattle.ub_journal_page.proofs.WholeFacts.{changes_back, listed_numbers, listed_pages, listed_of}
use Rattle.ub_journal_page.proofs.ExitFacts.{fault_of, looks_ok, not_ok, refused, count_on}
use Rattle.ub_journal.specs.declared.fault.JournalFault.TheVariants.{Damaged}
use Rattle.std.proofs.lemmas.List.{length-map}
use Rattle.ub_journal.specs.declared.journal.Change.{Change}
use Rattle.ub_journal_page.proofs.whole.read_whole.Goals as goal

pub returns-clause-exact : goal.returns-clause-exact
returns-clause-exact g c honest ds many are =
    let old = g.S.PageStore.facts c.args.store.now in
    let one : g.S.PageStore.facts c.read_numbers.new.store ≡ old = c.in_ok-numbers.ensures.effect.same in
    let from = 3 + c.parts.result in
    let pages : pages_in c.in_ok-read.read.items ≡ drop from old.pages =
    subst (λ (f : StoreFacts). pages_in c.in_ok-read.read.items ≡ drop from f.pages) one (c.in_ok-read.ensures.read (subst IsHonest (sym one) honest)) in
    let numbers = c.in_ok-numbers.ensures.exact honest _ (listed_numbers c.args.changes old.pages ds many are) in
    changes_back c.in_ok-read.read.items ds (c.in_ok-read.ensures.numbers ∙ c.as_slice.ensures.value ∙ numbers)
    (pages ∙ listed_pages c.args.changes old.pages ds from many.count are (ap (λ (n : ℕ). 3 + n) c.parts.ensures))

pub returns-in_err-numbers-clause-damaged : goal.returns-in_err-numbers-clause-damaged
returns-in_err-numbers-clause-damaged g c = λ told honest ds many are.
    c.in_err-numbers.ensures.damaged (fault_of c.from_residual.result _ Damaged c.from_residual.ensures.1 told) honest _ (listed_numbers c.args.changes (g.S.PageStore.facts c.args.store.now).pages ds many are)

pub returns-in_err-numbers-clause-effect : goal.returns-in_err-numbers-clause-effect
returns-in_err-numbers-clause-effect g c = refused c.from_residual.result _ _ _ _ refl c.from_residual.ensures.1 c.in_err-numbers.ensures.effect

pub overflow_cast-from : goal.overflow_cast-from
overflow_cast-from g c = let there = c.requires.there in let few = c.requires.few in let are = c.parts.ensures in omega arith

pub overflow_add-from : goal.overflow_add-from
overflow_add-from g c = let there = c.requires.there in let few = c.requires.few in let are = c.parts.ensures in omega arith

pub read_listed-requires-clause-there : goal.read_listed-requires-clause-there
read_listed-requires-clause-there g c =
    let same = count_on (g.S.PageStore.facts c.args.store.now) (g.S.PageStore.facts c.read_numbers.new.store) c.in_ok-numbers.ensures.effect.same in
    let value = ap length c.as_slice.ensures.value in
    let there = c.requires.there in let are = c.parts.ensures in let count = c.in_ok-numbers.ensures.count in
    omega arith

pub read_listed-requires-clause-few : goal.read_listed-requires-clause-few
read_listed-requires-clause-few g c =
    let same = count_on (g.S.PageStore.facts c.args.store.now) (g.S.PageStore.facts c.read_numbers.new.store) c.in_ok-numbers.ensures.effect.same in let few = c.requires.few in omega arith

pub returns-in_err-read-clause-damaged : goal.returns-in_err-read-clause-damaged
returns-in_err-read-clause-damaged g c = λ told honest ds many are. c.in_err-read.ensures.damaged (fault_of c.from_residual-in_err-read.result _ Damaged c.from_residual-in_err-read.ensures.1 told)

pub returns-in_err-read-clause-effect : goal.returns-in_err-read-clause-effect
returns-in_err-read-clause-effect g c = refused c.from_residual-in_err-read.result _ _ _ _ c.in_ok-numbers.ensures.effect.same c.from_residual-in_err-read.ensures.1 c.in_err-read.ensures.effect

pub returns-clause-count : goal.returns-clause-count
returns-clause-count g c =
    sym (length-map c.in_ok-read.read.items (λ (x : Change). x.number)) ∙ ap length (c.in_ok-read.ensures.numbers ∙ c.as_slice.ensures.value) ∙ c.in_ok-numbers.ensures.count

pub returns-clause-read : goal.returns-clause-read
returns-clause-read g c = λ honest.
    let one : g.S.PageStore.facts c.read_numbers.new.store ≡ (g.S.PageStore.facts c.args.store.now) = c.in_ok-numbers.ensures.effect.same in
    let from = 3 + c.parts.result in
    listed_of c.args.changes (g.S.PageStore.facts c.args.store.now).pages c.in_ok-read.read.items c.in_ok-numbers.numbers.items from c.in_ok-numbers.ensures.count (c.in_ok-numbers.ensures.read honest)
    (c.in_ok-read.ensures.numbers ∙ c.as_slice.ensures.value) (ap (λ (n : ℕ). 3 + n) c.parts.ensures)
    (subst (λ (f : StoreFacts). IsHonest f → pages_in c.in_ok-read.read.items ≡ drop from f.pages) one c.in_ok-read.ensures.read honest)

pub returns-clause-damaged : goal.returns-clause-damaged
returns-clause-damaged g c = λ told honest ds many are. not_ok c.in_ok-read.read Damaged told

pub returns-clause-effect : goal.returns-clause-effect
returns-clause-effect g c = looks_ok _ _ _ (c.in_ok-read.ensures.effect.same ∙ c.in_ok-numbers.ensures.effect.same)
