use Rattle.std.proofs.Common.{inl, rules, ◌≡◌, ◌∙◌, ℕ, subst, sym, refl, inr, arith}
use Rattle.std.specs.Result.{IsErrOf}
use Rattle.ub_store.specs.Facts.{StoreFacts, IsHonest, page_count}
use Rattle.ub_journal.specs.declared.fault.JournalFault.TheVariants.{Damaged, Memory}
use Rattle.ub_journal_page.specs.inner.Parts.{AreBody, AreSoMany}
use Rattle.ub_journal_page.proofs.ReadFacts.{head_same, same_journal, so_many, spelled, assembled, there_on}
use Rattle.ub_journal_page.proofs.ExitFacts.{fault_of, looks_damaged, looks_ok, not_ok, refused, count_on, three_pages}
use Rattle.ub_journal_page.specs.Reading.{BearsOut}
use Rattle.ub_journal_page.proofs.reading.read_journal.Goals as goal

pub returns-in_err-changes-clause-damaged : goal.returns-in_err-changes-clause-damaged
returns-in_err-changes-clause-damaged g c told honest j spells =
    let old = g.S.PageStore.facts c.args.store.now in
    let one : g.S.PageStore.facts c.read_head.new.store ≡ old = c.in_ok-head.ensures.effect.same in
    let two : g.S.PageStore.facts c.read_page.new.store ≡ old = c.in_ok-read_page.ensures.effect.same ∙ one in
    let three : g.S.PageStore.facts c.read_page-2.new.store ≡ old = c.in_ok-read_page-2.ensures.effect.same ∙ two in
    let s = spelled old.pages j spells in
    let head = c.in_ok-head.head in
    let same = head_same j old.pages head.version head.count head.changes (c.in_ok-head.ensures.head honest) c.in_ok-head.ensures.there c.in_ok-head.ensures.few s in
    let many : AreSoMany head.changes j.changes = subst (λ (n : ℕ). AreSoMany n j.changes) (sym same.2) (so_many j spells.0) in
    let body : AreBody head.version (g.S.PageStore.facts c.read_page-2.new.store).pages j.changes =
    subst (λ (f : StoreFacts). AreBody head.version f.pages j.changes) (sym three) (subst (λ (v : ℕ). AreBody v old.pages j.changes) (sym same.0) s.body) in
    let wrong : IsErrOf c.read_changes.result Damaged → ⊥ = λ t. c.read_changes.ensures.damaged t (subst IsHonest (sym three) honest) j.changes many body in
    search (rules, wrong)

pub returns-then-not-is_journal-clause-damaged : goal.returns-then-not-is_journal-clause-damaged
returns-then-not-is_journal-clause-damaged g c told honest j spells =
    let old = g.S.PageStore.facts c.args.store.now in
    let one : g.S.PageStore.facts c.read_head.new.store ≡ old = c.in_ok-head.ensures.effect.same in
    let two : g.S.PageStore.facts c.read_page.new.store ≡ old = c.in_ok-read_page.ensures.effect.same ∙ one in
    let three : g.S.PageStore.facts c.read_page-2.new.store ≡ old = c.in_ok-read_page-2.ensures.effect.same ∙ two in
    let s = spelled old.pages j spells in
    let head = c.in_ok-head.head in
    let same = head_same j old.pages head.version head.count head.changes (c.in_ok-head.ensures.head honest) c.in_ok-head.ensures.there c.in_ok-head.ensures.few s in
    let many : AreSoMany head.changes j.changes = subst (λ (n : ℕ). AreSoMany n j.changes) (sym same.2) (so_many j spells.0) in
    let body : AreBody head.version (g.S.PageStore.facts c.read_page-2.new.store).pages j.changes =
    subst (λ (f : StoreFacts). AreBody head.version f.pages j.changes) (sym three) (subst (λ (v : ℕ). AreBody v old.pages j.changes) (sym same.0) s.body) in
    let are = c.in_ok-changes.ensures.exact (subst IsHonest (sym three) honest) j.changes many body in
    let yes = c.is_journal.ensures.1 (same_journal j c.read_page.new.page c.read_page-2.new.page head.count c.in_ok-changes.changes.items spells.0 same.1 are) in
    let wrong = c.if-not-is_journal.true in
    cc

pub returns-in_err-head-clause-damaged : goal.returns-in_err-head-clause-damaged
returns-in_err-head-clause-damaged g c = λ told. c.in_err-head.ensures.damaged (fault_of c.from_residual.result _ Damaged c.from_residual.ensures.1 told)

pub returns-in_err-head-clause-memory : goal.returns-in_err-head-clause-memory
returns-in_err-head-clause-memory g c = λ told. inl (c.in_err-head.ensures.memory (fault_of c.from_residual.result _ Memory c.from_residual.ensures.1 told))

pub returns-in_err-head-clause-effect : goal.returns-in_err-head-clause-effect
returns-in_err-head-clause-effect g c = refused c.from_residual.result _ _ _ _ refl c.from_residual.ensures.1 c.in_err-head.ensures.effect

pub returns-in_err-read_page-clause-damaged : goal.returns-in_err-read_page-clause-damaged
returns-in_err-read_page-clause-damaged g c = λ told honest j spells. c.in_err-read_page.ensures.damaged (fault_of c.from_residual-in_err-read_page.result _ Damaged c.from_residual-in_err-read_page.ensures.1 told)

pub returns-in_err-read_page-clause-memory : goal.returns-in_err-read_page-clause-memory
returns-in_err-read_page-clause-memory g c = λ told. inl (c.in_err-read_page.ensures.memory (fault_of c.from_residual-in_err-read_page.result _ Memory c.from_residual-in_err-read_page.ensures.1 told))

pub returns-in_err-read_page-clause-effect : goal.returns-in_err-read_page-clause-effect
returns-in_err-read_page-clause-effect g c = refused c.from_residual-in_err-read_page.result _ _ _ _ c.in_ok-head.ensures.effect.same c.from_residual-in_err-read_page.ensures.1 c.in_err-read_page.ensures.effect

pub returns-in_err-read_page-2-clause-damaged : goal.returns-in_err-read_page-2-clause-damaged
returns-in_err-read_page-2-clause-damaged g c = λ told honest j spells. c.in_err-read_page-2.ensures.damaged (fault_of c.from_residual-in_err-read_page-2.result _ Damaged c.from_residual-in_err-read_page-2.ensures.1 told)

pub returns-in_err-read_page-2-clause-memory : goal.returns-in_err-read_page-2-clause-memory
returns-in_err-read_page-2-clause-memory g c = λ told. inl (c.in_err-read_page-2.ensures.memory (fault_of c.from_residual-in_err-read_page-2.result _ Memory c.from_residual-in_err-read_page-2.ensures.1 told))

pub returns-in_err-read_page-2-clause-effect : goal.returns-in_err-read_page-2-clause-effect
returns-in_err-read_page-2-clause-effect g c = refused c.from_residual-in_err-read_page-2.result _ _ _ _ (c.in_ok-read_page.ensures.effect.same ∙ c.in_ok-head.ensures.effect.same) c.from_residual-in_err-read_page-2.ensures.1 c.in_err-read_page-2.ensures.effect

pub read_page-requires : goal.read_page-requires
read_page-requires g c = record {
  there =
      (let many = three_pages _ _ _ c.in_ok-head.ensures.there in let same = count_on (g.S.PageStore.facts c.args.store.now) (g.S.PageStore.facts c.read_head.new.store) c.in_ok-head.ensures.effect.same in omega arith);
}

pub read_page-requires-2 : goal.read_page-requires-2
read_page-requires-2 g c = record {
  there =
      (let many = three_pages _ _ _ c.in_ok-head.ensures.there in let same = count_on (g.S.PageStore.facts c.args.store.now) (g.S.PageStore.facts c.read_page.new.store) (c.in_ok-read_page.ensures.effect.same ∙ c.in_ok-head.ensures.effect.same) in omega arith);
}

pub read_changes-requires-clause-there : goal.read_changes-requires-clause-there
read_changes-requires-clause-there g c =
    let three : g.S.PageStore.facts c.read_page-2.new.store ≡ (g.S.PageStore.facts c.args.store.now) = (c.in_ok-read_page-2.ensures.effect.same ∙ (c.in_ok-read_page.ensures.effect.same ∙ c.in_ok-head.ensures.effect.same)) in
    subst (λ (f : StoreFacts). BearsOut (page_count f) c.in_ok-head.head.version c.in_ok-head.head.changes) (sym three) c.in_ok-head.ensures.there

pub read_changes-requires-clause-few : goal.read_changes-requires-clause-few
read_changes-requires-clause-few g c =
    let same = count_on (g.S.PageStore.facts c.args.store.now) (g.S.PageStore.facts c.read_page-2.new.store) (c.in_ok-read_page-2.ensures.effect.same ∙ (c.in_ok-read_page.ensures.effect.same ∙ c.in_ok-head.ensures.effect.same)) in let few = c.in_ok-head.ensures.pages in omega arith

pub returns-in_err-changes-clause-memory : goal.returns-in_err-changes-clause-memory
returns-in_err-changes-clause-memory g c = λ told. inr (λ honest. record {
  version = c.in_ok-head.head.version;
  count = c.in_ok-head.head.count;
  changes = c.in_ok-head.head.changes;
  head = c.in_ok-head.ensures.head honest;
  total = c.in_ok-head.ensures.there;
})

pub returns-in_err-changes-clause-effect : goal.returns-in_err-changes-clause-effect
returns-in_err-changes-clause-effect g c = refused c.from_residual-in_err-changes.result _ _ _ _ (c.in_ok-read_page-2.ensures.effect.same ∙ (c.in_ok-read_page.ensures.effect.same ∙ c.in_ok-head.ensures.effect.same)) c.from_residual-in_err-changes.ensures.1 c.in_err-changes.ensures.effect

pub returns-then-not-is_journal-clause-memory : goal.returns-then-not-is_journal-clause-memory
returns-then-not-is_journal-clause-memory g c = λ told. inr (λ honest. record {
  version = c.in_ok-head.head.version;
  count = c.in_ok-head.head.count;
  changes = c.in_ok-head.head.changes;
  head = c.in_ok-head.ensures.head honest;
  total = c.in_ok-head.ensures.there;
})

pub returns-then-not-is_journal-clause-effect : goal.returns-then-not-is_journal-clause-effect
returns-then-not-is_journal-clause-effect g c = looks_damaged _ _ (c.in_ok-changes.ensures.effect.same ∙ (c.in_ok-read_page-2.ensures.effect.same ∙ (c.in_ok-read_page.ensures.effect.same ∙ c.in_ok-head.ensures.effect.same)))

pub returns-clause-read : goal.returns-clause-read
returns-clause-read g c = λ honest.
    let old = g.S.PageStore.facts c.args.store.now in
    let one : g.S.PageStore.facts c.read_head.new.store ≡ old = c.in_ok-head.ensures.effect.same in
    let two : g.S.PageStore.facts c.read_page.new.store ≡ old = c.in_ok-read_page.ensures.effect.same ∙ one in
    let three : g.S.PageStore.facts c.read_page-2.new.store ≡ old = c.in_ok-read_page-2.ensures.effect.same ∙ two in
    let head = c.in_ok-head.head in
    assembled old.pages head.version head.count head.changes c.read_page.new.page c.read_page-2.new.page c.in_ok-changes.changes.items (c.in_ok-head.ensures.head honest)
    (there_on (g.S.PageStore.facts c.read_head.new.store) old 1 c.read_page.new.page one c.in_ok-read_page.ensures.page honest)
    (there_on (g.S.PageStore.facts c.read_page.new.store) old 2 c.read_page-2.new.page two c.in_ok-read_page-2.ensures.page honest) c.in_ok-changes.ensures.count
    (subst (λ (f : StoreFacts). IsHonest f → AreBody head.version f.pages c.in_ok-changes.changes.items) three c.in_ok-changes.ensures.read honest) (c.is_journal.ensures.0 c.if-not-is_journal.false)

pub returns-clause-journal : goal.returns-clause-journal
returns-clause-journal g c = c.is_journal.ensures.0 c.if-not-is_journal.false

pub returns-clause-damaged : goal.returns-clause-damaged
returns-clause-damaged g c = λ told honest j spells. not_ok _ _ told

pub returns-clause-memory : goal.returns-clause-memory
returns-clause-memory g c = λ told. inr (λ honest. record {
  version = c.in_ok-head.head.version;
  count = c.in_ok-head.head.count;
  changes = c.in_ok-head.head.changes;
  head = c.in_ok-head.ensures.head honest;
  total = c.in_ok-head.ensures.there;
})

pub returns-clause-effect : goal.returns-clause-effect
returns-clause-effect g c = looks_ok _ _ _ (c.in_ok-changes.ensures.effect.same ∙ (c.in_ok-read_page-2.ensures.effect.same ∙ (c.in_ok-read_page.ensures.effect.same ∙ c.in_ok-head.ensures.effect.same)))
