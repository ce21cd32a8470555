use Rattle.std.proofs.Common.{inl, inr, refl}
use Rattle.ub_table_file.proofs.Laws.{never_done, not_opened, not_so, store_says}
use Rattle.ub_shell.proofs.LastFacts.{upgraded_lasts}
use Rattle.ub_shell.proofs.CrashFacts.{upgrade_same, upgrade_still, upgraded_safely}
use Rattle.ub_shell.proofs.upgrading.upgrade_file.Goals as goal

pub returns-in-Ok-clause-upgrades : goal.returns-in-Ok-clause-upgrades
returns-in-Ok-clause-upgrades g c = inr (
  not_so c.is_same.result _ c.is_same.ensures.1 c.if-is_same.false,
  inl (record {
    store = g.F.Store.PageStore.facts c.in-Ok.store;
    lent = c.in-Ok.ensures.lent;
    upgrades = rw c.in-Ok.ensures.effect at c.upgrade_store.ensures.upgrades;
  }),
)

pub returns-in-Err-clause-upgrades : goal.returns-in-Err-clause-upgrades
returns-in-Err-clause-upgrades g c = inr (
  not_so c.is_same.result _ c.is_same.ensures.1 c.if-is_same.false,
  inr (not_opened _ _ _ c.in-Err.fault _ _ _ c.in-Err.ensures.faults (λ e. c.in-Err.ensures.torn e) c.in-Err.ensures.effect c.tell_store_fault.ensures),
)

pub returns-then-is_same-clause-upgrades : goal.returns-then-is_same-clause-upgrades
returns-then-is_same-clause-upgrades g c = inl (record { same = c.is_same.ensures.0 c.if-is_same.true; files = refl; tells = c.tell.ensures })

pub returns-in-Ok-clause-crash : goal.returns-in-Ok-clause-crash
returns-in-Ok-clause-crash g c =
    upgraded_safely c.args.asked.old.now c.args.asked.new.now (g.F.Store.PageStore.facts c.in-Ok.store) (g.F.Files.facts c.args.files.now) _ _ _ c.in-Ok.ensures.lent c.in-Ok.ensures.crash
    (rw c.in-Ok.ensures.effect at c.upgrade_store.ensures.crash)

pub returns-in-Err-clause-crash : goal.returns-in-Err-clause-crash
returns-in-Err-clause-crash g c = upgrade_same c.args.asked.old.now c.args.asked.new.now (g.F.Files.facts c.args.files.now) _ _ c.in-Err.ensures.crash

pub returns-then-is_same-clause-crash : goal.returns-then-is_same-clause-crash
returns-then-is_same-clause-crash g c = upgrade_still c.args.asked.old.now c.args.asked.new.now (g.F.Files.facts c.args.files.now) _

pub returns-in-Ok-clause-lasts : goal.returns-in-Ok-clause-lasts
returns-in-Ok-clause-lasts g c = λ done.
    upgraded_lasts c.args.asked.old.now c.args.asked.new.now (g.F.Store.PageStore.facts c.in-Ok.store) (g.F.Files.facts c.args.files.now) (g.F.Files.clock c.upgrade_store.new.files) c.in-Ok.ensures.lent
    (rw c.in-Ok.ensures.effect at (c.upgrade_store.ensures.lasts done))

pub returns-in-Err-clause-lasts : goal.returns-in-Err-clause-lasts
returns-in-Err-clause-lasts g c = λ done. absurd (never_done _ _ _ _ c.tell_store_fault.result c.tell_store_fault.ensures (store_says c.in-Err.fault) (inl done))

pub returns-then-is_same-clause-lasts : goal.returns-then-is_same-clause-lasts
returns-then-is_same-clause-lasts g c = λ done. absurd (never_done _ _ _ _ c.tell.result c.tell.ensures refl (inl done))
