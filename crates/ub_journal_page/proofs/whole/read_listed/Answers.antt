use Rattle.std.proofs.Common.{◌+◌, refl, arith, ◌∙◌, ◌≡◌, ℕ, ap, drop, length}
use Rattle.std.proofs.lemmas.List.{length-drop}
use Rattle.ub_journal_page.proofs.ReadFacts.{there_on}
use Rattle.ub_journal_page.proofs.WholeFacts.{changes_more, pages_more}
use Rattle.ub_journal_page.proofs.ExitFacts.{count_on, fault_of, looks_full, looks_ok, memory_isnt_damaged, not_ok, refused, take_whole}
use Rattle.ub_journal.specs.declared.fault.JournalFault.TheVariants.{Damaged}
use Rattle.ub_journal_page.proofs.whole.read_listed.Goals as goal

pub loop-i-preserved : goal.loop-i-preserved
loop-i-preserved g c =
    let inv = c.loop-i.invariant in
    let pages = (g.S.PageStore.facts c.args.store.now).pages in
    record {
      facts = c.in_ok-read_page.ensures.effect.same ∙ inv.facts;
      numbers = changes_more c.loop-i.changes.items c.push.new.self.items _ c.read_page.new.page c.args.numbers.now pages c.args.from c.loop-i.i (c.args.from + c.loop-i.i) c.in-Ok-push.ensures.items (omega arith) refl inv.numbers;
      read = λ honest. pages_more c.loop-i.changes.items c.push.new.self.items _ c.read_page.new.page pages c.args.from c.loop-i.i (c.args.from + c.loop-i.i) c.in-Ok-push.ensures.items refl
          (there_on (g.S.PageStore.facts c.loop-i.store) (g.S.PageStore.facts c.args.store.now) (c.args.from + c.loop-i.i) c.read_page.new.page inv.facts c.in_ok-read_page.ensures.page honest) (inv.read honest);
    }

pub returns-in_default-clause-numbers : goal.returns-in_default-clause-numbers
returns-in_default-clause-numbers g c = tt

pub returns-in_default-clause-read : goal.returns-in_default-clause-read
returns-in_default-clause-read g c = tt

pub returns-in_default-clause-damaged : goal.returns-in_default-clause-damaged
returns-in_default-clause-damaged g c = memory_isnt_damaged

pub returns-in_default-clause-effect : goal.returns-in_default-clause-effect
returns-in_default-clause-effect g c = looks_full _ _ refl

pub overflow_cast-i : goal.overflow_cast-i
overflow_cast-i g c = let there = c.requires.there in let few = c.requires.few in let less = c.loop-i-test.true in omega arith

pub overflow_add-from : goal.overflow_add-from
overflow_add-from g c = let there = c.requires.there in let few = c.requires.few in let less = c.loop-i-test.true in omega arith

pub read_page-requires : goal.read_page-requires
read_page-requires g c = record {
  there = (let there = c.requires.there in let less = c.loop-i-test.true in let same = count_on (g.S.PageStore.facts c.args.store.now) (g.S.PageStore.facts c.loop-i.store) c.loop-i.invariant.facts in omega arith);
}

pub returns-in_err-read_page-clause-damaged : goal.returns-in_err-read_page-clause-damaged
returns-in_err-read_page-clause-damaged g c = λ told. c.in_err-read_page.ensures.damaged (fault_of c.from_residual.result _ Damaged c.from_residual.ensures.1 told)

pub returns-in_err-read_page-clause-effect : goal.returns-in_err-read_page-clause-effect
returns-in_err-read_page-clause-effect g c = refused c.from_residual.result _ _ _ _ c.loop-i.invariant.facts c.from_residual.ensures.1 c.in_err-read_page.ensures.effect

pub offset_bounds-numbers-i : goal.offset_bounds-numbers-i
offset_bounds-numbers-i g c = let less = c.loop-i-test.true in omega arith

pub bounds-numbers-i : goal.bounds-numbers-i
bounds-numbers-i g c = c.loop-i-test.true

pub returns-in-Err-clause-numbers : goal.returns-in-Err-clause-numbers
returns-in-Err-clause-numbers g c = tt

pub returns-in-Err-clause-read : goal.returns-in-Err-clause-read
returns-in-Err-clause-read g c = tt

pub returns-in-Err-clause-damaged : goal.returns-in-Err-clause-damaged
returns-in-Err-clause-damaged g c = memory_isnt_damaged

pub returns-in-Err-clause-effect : goal.returns-in-Err-clause-effect
returns-in-Err-clause-effect g c = looks_full _ _ (c.in_ok-read_page.ensures.effect.same ∙ c.loop-i.invariant.facts)

pub returns-clause-numbers : goal.returns-clause-numbers
returns-clause-numbers g c = let past = c.loop-i-test.false in c.loop-i.invariant.numbers ∙ take_whole c.loop-i.i c.args.numbers.now (omega arith)

pub returns-clause-read : goal.returns-clause-read
returns-clause-read g c = λ honest.
    let past = c.loop-i-test.false in
    let there = c.requires.there in
    c.loop-i.invariant.read honest
    ∙ take_whole c.loop-i.i (drop c.args.from (g.S.PageStore.facts c.args.store.now).pages) (omega (arith, length-drop c.args.from (g.S.PageStore.facts c.args.store.now).pages))

pub returns-clause-damaged : goal.returns-clause-damaged
returns-clause-damaged g c = not_ok c.loop-i.changes Damaged

pub returns-clause-effect : goal.returns-clause-effect
returns-clause-effect g c = looks_ok _ _ _ c.loop-i.invariant.facts
