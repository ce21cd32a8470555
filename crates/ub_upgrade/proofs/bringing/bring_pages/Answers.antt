use Rattle.std.proofs.Common.{IfErr, ap, arith, subst, rules}
use Rattle.ub_upgrade.proofs.Common.{directory_of, IsBuildFault, PagerView, StoreFacts}
use Rattle.ub_upgrade.proofs.BringFacts.{build_refused}
use Rattle.ub_upgrade.proofs.bringing.bring_pages.Goals as goal

pub returns : goal.returns
returns g c = record {
  brought = search rules;
  exact = search rules;
  plain = search rules;
  root = search rules;
  count = search rules;
  size = search rules;
  refused =
      let from = g.O.PageStore.facts c.args.old.now in
      let mid = c.copy_pages.new.pager.store in
      build_refused c.args.head.now from mid c.args.pager.now.store c.build_index.result c.if-head-ne1.false (omega (arith, c.in_ok-copy_pages.ensures.count, c.requires.some))
      (ap (λ (p : PagerView). p.store.can_fail) c.in_ok-copy_pages.ensures.effect.same)
      (subst (λ (s : StoreFacts). IfErr c.build_index.result (IsBuildFault (directory_of c.args.head.now.header) s mid)) c.in_ok-copy_pages.ensures.effect.read c.build_index.ensures.over.refused);
  effect = search rules;
}
