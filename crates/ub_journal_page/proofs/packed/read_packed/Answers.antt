use Rattle.std.proofs.Common.{rules, ◌≡◌, ◌≤◌, drop, ◌++◌, sym, subst, arith, ◌∙◌, refl}
use Rattle.std.specs.Result.{IsErrOf}
use Rattle.ub_journal.specs.declared.fault.JournalFault.TheVariants.{Damaged}
use Rattle.ub_store.specs.Facts.{StoreFacts, IsHonest}
use Rattle.ub_journal_page.specs.Pages.{change_bytes}
use Rattle.ub_journal_page.specs.inner.Parts.{IsRead, stream}
use Rattle.ub_journal_page.proofs.PackedFacts.{AreSound, packed_back, sound_more}
use Rattle.ub_journal_page.proofs.StreamFacts.{end_of, one_more, packed_of, stream_more}
use Rattle.ub_journal_page.proofs.ExitFacts.{count_on, looks_damaged, looks_full, looks_ok, memory_isnt_damaged, not_ok, one_longer, read_on, refused}
use Rattle.ub_journal_page.proofs.packed.read_packed.Goals as goal

pub returns-in_err-change-clause-damaged : goal.returns-in_err-change-clause-damaged
returns-in_err-change-clause-damaged g c told honest ds many are =
    let inv = c.loop-n.invariant in
    let old = g.S.PageStore.facts c.args.store.now in
    let less = c.loop-n-test.true in
    let count = inv.count in
    let next = one_more old.pages c.args.changes c.loop-n.cursor.place c.loop-n.read.items ds inv.sound many are (omega arith) (inv.bytes honest) in
    let honest_now = subst IsHonest (sym inv.facts) honest in
    let wrong : IsErrOf c.read_change.result Damaged → ⊥ =
    λ t. c.read_change.ensures.damaged t honest_now next.0 next.1 next.2
    (subst (λ (f : StoreFacts). drop c.loop-n.cursor.place (stream f.pages) ≡ change_bytes next.0 ++ next.1) (sym inv.facts) next.3) in
    search (rules, wrong)

pub returns-then-not-is_end-clause-damaged : goal.returns-then-not-is_end-clause-damaged
returns-then-not-is_end-clause-damaged g c told honest ds many are =
    let inv = c.loop-n.invariant in
    let old = g.S.PageStore.facts c.args.store.now in
    let past = c.loop-n-test.false in
    let last = c.loop-n.auto.n-end in
    let count = inv.count in
    let there = c.requires.there in
    let pages = c.pages-pages.ensures in
    let three : 3 ≤ c.pages-pages.result = omega arith in
    let end = end_of old.pages c.args.changes c.loop-n.cursor.place c.loop-n.read.items ds c.loop-n.cursor.page inv.sound many are (omega arith) (inv.bytes honest) (inv.read honest) (omega arith) in
    let yes = (c.is_end.ensures old.pages inv.pages three (inv.read honest)).1 (sym inv.pages ∙ end.0, end.1) in
    let wrong = c.if-not-is_end.true in
    cc

pub returns-clause-read : goal.returns-clause-read
returns-clause-read g c honest =
    let inv = c.loop-n.invariant in
    let old = g.S.PageStore.facts c.args.store.now in
    let there = c.requires.there in
    let pages = c.pages-pages.ensures in
    let three : 3 ≤ c.pages-pages.result = omega arith in
    let end = (c.is_end.ensures old.pages inv.pages three (inv.read honest)).0 c.if-not-is_end.false in
    packed_of old.pages c.loop-n.cursor.place c.loop-n.read.items c.loop-n.cursor.page inv.sound (inv.bytes honest) (inv.read honest) (omega arith) (inv.pages ∙ end.0) end.1

pub returns-clause-exact : goal.returns-clause-exact
returns-clause-exact g c honest ds many are =
    let inv = c.loop-n.invariant in
    let old = g.S.PageStore.facts c.args.store.now in
    let past = c.loop-n-test.false in
    let last = c.loop-n.auto.n-end in
    let count = inv.count in
    let there = c.requires.there in
    let pages = c.pages-pages.ensures in
    let three : 3 ≤ c.pages-pages.result = omega arith in
    let end = (c.is_end.ensures old.pages inv.pages three (inv.read honest)).0 c.if-not-is_end.false in
    let this = packed_of old.pages c.loop-n.cursor.place c.loop-n.read.items c.loop-n.cursor.page inv.sound (inv.bytes honest) (inv.read honest) (omega arith) (inv.pages ∙ end.0) end.1 in
    packed_back old.pages c.args.changes c.loop-n.read.items ds (omega arith) inv.sound many this are

pub returns-in_default-clause-count : goal.returns-in_default-clause-count
returns-in_default-clause-count g c = tt

pub returns-in_default-clause-read : goal.returns-in_default-clause-read
returns-in_default-clause-read g c = tt

pub returns-in_default-clause-exact : goal.returns-in_default-clause-exact
returns-in_default-clause-exact g c = tt

pub returns-in_default-clause-damaged : goal.returns-in_default-clause-damaged
returns-in_default-clause-damaged g c = λ told honest ds many are. memory_isnt_damaged told

pub returns-in_default-clause-effect : goal.returns-in_default-clause-effect
returns-in_default-clause-effect g c = looks_full _ _ refl

pub read_change-requires-clause-count : goal.read_change-requires-clause-count
read_change-requires-clause-count g c = count_on (g.S.PageStore.facts c.args.store.now) (g.S.PageStore.facts c.loop-n.store) c.loop-n.invariant.facts ∙ c.loop-n.invariant.pages

pub read_change-requires-clause-three : goal.read_change-requires-clause-three
read_change-requires-clause-three g c = let there = c.requires.there in let pages = c.loop-n.invariant.pages in omega arith

pub read_change-requires-clause-few : goal.read_change-requires-clause-few
read_change-requires-clause-few g c = let few = c.loop-n.invariant.few in let less = c.loop-n-test.true in omega arith

pub read_change-requires-clause-read : goal.read_change-requires-clause-read
read_change-requires-clause-read g c = read_on (g.S.PageStore.facts c.args.store.now) (g.S.PageStore.facts c.loop-n.store) c.loop-n.cursor.place c.loop-n.cursor.page c.loop-n.invariant.facts c.loop-n.invariant.read

pub returns-in_err-change-clause-effect : goal.returns-in_err-change-clause-effect
returns-in_err-change-clause-effect g c = refused c.from_residual.result _ _ _ _ c.loop-n.invariant.facts c.from_residual.ensures.1 c.in_err-change.ensures.effect

pub returns-in-Err-clause-count : goal.returns-in-Err-clause-count
returns-in-Err-clause-count g c = tt

pub returns-in-Err-clause-read : goal.returns-in-Err-clause-read
returns-in-Err-clause-read g c = tt

pub returns-in-Err-clause-exact : goal.returns-in-Err-clause-exact
returns-in-Err-clause-exact g c = tt

pub returns-in-Err-clause-damaged : goal.returns-in-Err-clause-damaged
returns-in-Err-clause-damaged g c = λ told honest ds many are. memory_isnt_damaged told

pub returns-in-Err-clause-effect : goal.returns-in-Err-clause-effect
returns-in-Err-clause-effect g c = looks_full _ _ (c.in_ok-change.ensures.effect.same ∙ c.loop-n.invariant.facts)

pub loop-n-preserved : goal.loop-n-preserved
loop-n-preserved g c =
    let inv = c.loop-n.invariant in
    let old = g.S.PageStore.facts c.args.store.now in
    let mid = g.S.PageStore.facts c.loop-n.store in
    let next = c.in_ok-change.ensures in
    record {
      facts = next.effect.same ∙ inv.facts;
      pages = inv.pages;
      count = one_longer c.loop-n.read.items c.push.new.self.items _ c.loop-n.n c.in-Ok-push.ensures.items inv.count;
      few = (let one = next.few in let so_far = inv.few in omega arith);
      sound = subst AreSound (sym c.in-Ok-push.ensures.items) (sound_more c.loop-n.read.items _ inv.sound next.sound);
      read = subst (λ (f : StoreFacts). IsHonest f → IsRead f.pages c.read_change.new.cursor.place c.read_change.new.cursor.page) inv.facts next.read;
      bytes = λ honest. stream_more (stream old.pages) c.loop-n.read.items c.push.new.self.items _ c.loop-n.cursor.place c.read_change.new.cursor.place c.in-Ok-push.ensures.items (inv.bytes honest)
          (subst (λ (f : StoreFacts). IsHonest f → drop c.loop-n.cursor.place (stream f.pages) ≡ change_bytes c.in_ok-change.change ++ drop c.read_change.new.cursor.place (stream f.pages)) inv.facts next.change honest);
    }

pub is_end-requires : goal.is_end-requires
is_end-requires g c = record { few = (let few = c.loop-n.invariant.few in let last = c.loop-n.auto.n-end in omega arith) }

pub returns-then-not-is_end-clause-count : goal.returns-then-not-is_end-clause-count
returns-then-not-is_end-clause-count g c = tt

pub returns-then-not-is_end-clause-read : goal.returns-then-not-is_end-clause-read
returns-then-not-is_end-clause-read g c = tt

pub returns-then-not-is_end-clause-exact : goal.returns-then-not-is_end-clause-exact
returns-then-not-is_end-clause-exact g c = tt

pub returns-then-not-is_end-clause-effect : goal.returns-then-not-is_end-clause-effect
returns-then-not-is_end-clause-effect g c = looks_damaged _ _ c.loop-n.invariant.facts

pub returns-clause-count : goal.returns-clause-count
returns-clause-count g c = let past = c.loop-n-test.false in let last = c.loop-n.auto.n-end in let count = c.loop-n.invariant.count in omega arith

pub returns-clause-damaged : goal.returns-clause-damaged
returns-clause-damaged g c = λ told honest ds many are. not_ok c.loop-n.read Damaged told

pub returns-clause-effect : goal.returns-clause-effect
returns-clause-effect g c = looks_ok _ _ _ c.loop-n.invariant.facts
