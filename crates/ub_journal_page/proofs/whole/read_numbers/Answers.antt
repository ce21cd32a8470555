use Rattle.std.proofs.Common.{◌+◌, ◌<◌, refl, rules, arith, ◌∙◌, drop, ◌≡◌, ◌*◌, ℕ, take, subst}
use Rattle.std.specs.Result.{IsErrOf}
use Rattle.ub_journal_page.specs.Whole.{parts_of, number_pages}
use Rattle.ub_journal.specs.declared.fault.JournalFault.TheVariants.{Damaged}
use Rattle.ub_journal_page.proofs.ReadFacts.{there_on}
use Rattle.ub_journal_page.proofs.WholeFacts.{part_on, part_more, parts_more, count_more}
use Rattle.ub_journal_page.proofs.ExitFacts.{count_on, fault_of, looks_full, looks_ok, memory_isnt_damaged, not_ok, refused, take_whole, handed_on}
use Rattle.ub_journal_page.proofs.whole.read_numbers.Goals as goal

pub returns-in_err-take_numbers-clause-damaged : goal.returns-in_err-take_numbers-clause-damaged
returns-in_err-take_numbers-clause-damaged g c told honest ns has =
    let inv = c.loop-k.invariant in
    let less : c.loop-k.k < parts_of c.args.changes = let end = c.parts-k-end.ensures in omega arith in
    let there = there_on (g.S.PageStore.facts c.loop-k.store) (g.S.PageStore.facts c.args.store.now) (3 + c.loop-k.k) c.read_page.new.page inv.facts c.in_ok-read_page.ensures.page honest in
    let part = part_on (g.S.PageStore.facts c.args.store.now).pages c.read_page.new.page ns c.args.changes c.loop-k.k (3 + c.loop-k.k) c.min.result has less refl there c.min.ensures in
    let wrong : IsErrOf c.take_numbers.result Damaged → ⊥ = λ t. c.take_numbers.ensures.damaged t _ part.long part.small part.is in
    search (rules, wrong)

pub loop-k-preserved : goal.loop-k-preserved
loop-k-preserved g c =
    let inv = c.loop-k.invariant in
    let less : c.loop-k.k < parts_of c.args.changes = let end = c.parts-k-end.ensures in omega arith in
    let there = there_on (g.S.PageStore.facts c.loop-k.store) (g.S.PageStore.facts c.args.store.now) (3 + c.loop-k.k) c.read_page.new.page inv.facts c.in_ok-read_page.ensures.page in
    record {
      facts = c.in_ok-read_page.ensures.effect.same ∙ inv.facts;
      changes = refl;
      count = count_more c.loop-k.numbers.items c.take_numbers.new.numbers.items c.read_page.new.page c.loop-k.k c.min.result c.args.changes inv.count less c.min.ensures c.in_ok-take_numbers.ensures.taken;
      read = λ honest. parts_more (g.S.PageStore.facts c.args.store.now).pages c.read_page.new.page c.loop-k.numbers.items c.take_numbers.new.numbers.items c.loop-k.k (3 + c.loop-k.k) c.min.result
          (let long = inv.count in omega arith) (let much = c.min.ensures in omega arith) refl (there honest) c.in_ok-take_numbers.ensures.read c.in_ok-take_numbers.ensures.taken (inv.read honest);
      exact = λ honest ns has.
          part_more ns c.read_page.new.page c.loop-k.numbers.items c.take_numbers.new.numbers.items c.loop-k.k c.min.result
          (part_on (g.S.PageStore.facts c.args.store.now).pages c.read_page.new.page ns c.args.changes c.loop-k.k (3 + c.loop-k.k) c.min.result has less refl (there honest) c.min.ensures)
          (inv.exact honest ns has) c.in_ok-take_numbers.ensures.taken;
    }

pub returns-in_default-clause-count : goal.returns-in_default-clause-count
returns-in_default-clause-count g c = tt

pub returns-in_default-clause-read : goal.returns-in_default-clause-read
returns-in_default-clause-read g c = tt

pub returns-in_default-clause-exact : goal.returns-in_default-clause-exact
returns-in_default-clause-exact g c = tt

pub returns-in_default-clause-damaged : goal.returns-in_default-clause-damaged
returns-in_default-clause-damaged g c = λ told honest ns has. memory_isnt_damaged told

pub returns-in_default-clause-effect : goal.returns-in_default-clause-effect
returns-in_default-clause-effect g c = looks_full _ _ refl

pub overflow_cast-k-end : goal.overflow_cast-k-end
overflow_cast-k-end g c = let there = c.requires.there in let few = c.requires.few in let are = c.parts-k-end.ensures in omega arith

pub overflow_add-k : goal.overflow_add-k
overflow_add-k g c = let there = c.requires.there in let few = c.requires.few in let are = c.parts-k-end.ensures in let less = c.loop-k-test.true in omega arith

pub read_page-requires : goal.read_page-requires
read_page-requires g c = record {
  there =
      (let there = c.requires.there in let are = c.parts-k-end.ensures in let less = c.loop-k-test.true in
      let same = count_on (g.S.PageStore.facts c.args.store.now) (g.S.PageStore.facts c.loop-k.store) c.loop-k.invariant.facts in omega arith);
}

pub returns-in_err-read_page-clause-damaged : goal.returns-in_err-read_page-clause-damaged
returns-in_err-read_page-clause-damaged g c = λ told honest ns has. c.in_err-read_page.ensures.damaged (fault_of c.from_residual.result _ Damaged c.from_residual.ensures.1 told)

pub returns-in_err-read_page-clause-effect : goal.returns-in_err-read_page-clause-effect
returns-in_err-read_page-clause-effect g c = refused c.from_residual.result _ _ _ _ c.loop-k.invariant.facts c.from_residual.ensures.1 c.in_err-read_page.ensures.effect

pub returns-in_err-take_numbers-clause-effect : goal.returns-in_err-take_numbers-clause-effect
returns-in_err-take_numbers-clause-effect g c =
    handed_on c.from_residual-in_err-take_numbers.result _ _ _ (c.in_ok-read_page.ensures.effect.same ∙ c.loop-k.invariant.facts) c.from_residual-in_err-take_numbers.ensures.1 c.in_err-take_numbers.ensures.device

pub take_numbers-requires : goal.take_numbers-requires
take_numbers-requires g c = let much = c.min.ensures in omega arith

pub overflow_mul-left : goal.overflow_mul-left
overflow_mul-left g c = let there = c.requires.there in let few = c.requires.few in let are = c.parts-k-end.ensures in let less = c.loop-k-test.true in omega arith

pub overflow_sub-left : goal.overflow_sub-left
overflow_sub-left g c = let are = c.parts-k-end.ensures in let less = c.loop-k-test.true in omega arith

pub returns-clause-count : goal.returns-clause-count
returns-clause-count g c = let past = c.loop-k-test.false in let last = c.loop-k.auto.k-end in let are = c.parts-k-end.ensures in let count = c.loop-k.invariant.count in omega arith

pub returns-clause-read : goal.returns-clause-read
returns-clause-read g c = λ honest.
    let past = c.loop-k-test.false in let last = c.loop-k.auto.k-end in let are = c.parts-k-end.ensures in
    let all : c.loop-k.k ≡ parts_of c.args.changes = omega arith in
    subst (λ (n : ℕ). take n (drop 3 (g.S.PageStore.facts c.args.store.now).pages) ≡ number_pages n c.loop-k.numbers.items) all (c.loop-k.invariant.read honest)

pub returns-clause-exact : goal.returns-clause-exact
returns-clause-exact g c = λ honest ns has.
    let past = c.loop-k-test.false in let last = c.loop-k.auto.k-end in let are = c.parts-k-end.ensures in let long = has.count in
    c.loop-k.invariant.exact honest ns has ∙ take_whole (1024 * c.loop-k.k) ns (omega arith)

pub returns-clause-damaged : goal.returns-clause-damaged
returns-clause-damaged g c = λ told honest ns has. not_ok c.loop-k.numbers Damaged told

pub returns-clause-effect : goal.returns-clause-effect
returns-clause-effect g c = looks_ok _ _ _ c.loop-k.invariant.facts
