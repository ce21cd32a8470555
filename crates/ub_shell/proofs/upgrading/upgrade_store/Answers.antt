use Rattle.std.proofs.Common.{inl, inr, refl}
use Rattle.ub_table_file.proofs.Laws.{never_done, tree_says}
use Rattle.ub_shell.proofs.CrashFacts.{anew_same, anew_then}
use Rattle.ub_shell.proofs.UpgradeFacts.{afoot}
use Rattle.ub_shell.proofs.upgrading.upgrade_store.Goals as goal

pub keep_tree-requires : goal.keep_tree-requires
keep_tree-requires g c = record { afoot = afoot _ _ _ c.in-Ok.tree c.in-Ok.ensures.begun c.in-Ok.ensures.effect }

pub returns-in-Ok-clause-upgrades : goal.returns-in-Ok-clause-upgrades
returns-in-Ok-clause-upgrades g c = inl (rw c.put_back.ensures.kept at (c.keep_tree.ensures.makes (g.F.Store.PageStore.facts c.args.store) (record {
  upgraded = rw c.new.ensures.pages at c.in-Ok.ensures.begun;
  made = λ version next schema placed honest old. c.in-Ok.ensures.made version next schema placed honest refl old;
})))

pub returns-in-Err-clause-upgrades : goal.returns-in-Err-clause-upgrades
returns-in-Err-clause-upgrades g c = inr (record {
  fault = c.in-Err.refused.fault;
  is = record {
    is = rw c.new.ensures.pages at c.in-Err.ensures.refused;
    passing = λ version next schema placed honest old. c.in-Err.ensures.made version next schema placed honest refl old;
  };
  files = c.put_back-in-Err.ensures.kept;
  tells = c.tell_tree_fault.ensures;
})

pub returns-in-Ok-clause-crash : goal.returns-in-Ok-clause-crash
returns-in-Ok-clause-crash g c =
    anew_then c.args.asked.new.now (g.F.Store.PageStore.facts c.args.store) (g.F.Files.facts c.args.files.now) _ _ _ c.put_back.ensures.crash
    (rw c.put_back.ensures.kept at (c.keep_tree.ensures.crash (g.F.Store.PageStore.facts c.args.store) (record {
      upgraded = rw c.new.ensures.pages at c.in-Ok.ensures.begun;
      made = λ version next schema placed honest old. c.in-Ok.ensures.made version next schema placed honest refl old;
    })))

pub returns-in-Err-clause-crash : goal.returns-in-Err-clause-crash
returns-in-Err-clause-crash g c = anew_same c.args.asked.new.now (g.F.Store.PageStore.facts c.args.store) (g.F.Files.facts c.args.files.now) _ _ c.put_back-in-Err.ensures.crash

pub returns-in-Ok-clause-lasts : goal.returns-in-Ok-clause-lasts
returns-in-Ok-clause-lasts g c = λ done.
    rw c.put_back.ensures.kept at (c.keep_tree.ensures.lasts (g.F.Store.PageStore.facts c.args.store) (record {
      upgraded = rw c.new.ensures.pages at c.in-Ok.ensures.begun;
      made = λ version next schema placed honest old. c.in-Ok.ensures.made version next schema placed honest refl old;
    }) done)

pub returns-in-Err-clause-lasts : goal.returns-in-Err-clause-lasts
returns-in-Err-clause-lasts g c = λ done. absurd (never_done _ _ _ _ c.tell_tree_fault.result c.tell_tree_fault.ensures (tree_says c.in-Err.refused.fault) (inl done))
