use Rattle.std.proofs.Common.{◌≡◌, ◌∙◌, ap, subst, sym, rules}
use Rattle.ub_tree.proofs.Common.{IsHonest, IsOpenFault, IsRooted, PagerView, StoreFacts}
use Rattle.ub_tree.proofs.OpenedFacts.{mark_refused, never_clean, opened, opened_sound}
use Rattle.ub_tree.proofs.OpeningFacts.{table_rooted}
use Rattle.ub_tree.proofs.tree.Tree.open.Goals as goal

pub returns-in-Ok-read_table : goal.returns-in-Ok-read_table
returns-in-Ok-read_table g c =
    let t = c.in-Ok-read_table in
    let first = g.S.PageStore.facts c.args.store in
    let store_is : c.in-Ok.pager.store ≡ first = ap (λ (p : PagerView). p.store) c.in-Ok.ensures.made in
    record {
      opened = rw (c.over.ensures, c.due-mark.ensures.due, t.ensures.index)
          (opened (g.S.PageStore.facts c.args.store) t.header c.in-Ok.pager c.read_table.new.pager c.in-Ok.ensures.made t.ensures.rooted
          (ap (λ (p : PagerView). p.store) t.ensures.effect.same) (ap (λ (p : PagerView). p.trace) t.ensures.effect.same));
      exact = search rules;
      sound = λ schema placed next honest s.
          let rooted = subst (λ (x : StoreFacts). IsHonest x → IsRooted x.pages t.header) store_is t.ensures.rooted honest in
          let kept = ap (λ (p : PagerView). p.store) t.ensures.effect.same ∙ store_is in
          rw (c.over.ensures, c.due-mark.ensures.due, t.ensures.index) (opened_sound first honest t.header rooted c.read_table.new.pager kept schema placed next s);
      unclean = λ schema honest mark.
          let rooted = subst (λ (x : StoreFacts). IsHonest x → IsRooted x.pages t.header) store_is t.ensures.rooted honest in
          never_clean first honest schema mark t.header rooted.spelled rooted.in_range rooted.clean;
      kept = search rules;
      refused = search rules;
    }

pub returns-in-Err-read_table : goal.returns-in-Err-read_table
returns-in-Err-read_table g c = record {
  opened = search rules;
  exact = search rules;
  sound = λ schema placed next honest s.
      let first = g.S.PageStore.facts c.args.store in
      let back = sym (ap (λ (p : PagerView). p.store) c.in-Ok.ensures.made) in
      c.in-Err-read_table.ensures.exact s.header (subst IsHonest back honest) (subst (λ (x : StoreFacts). IsRooted x.pages s.header) back (table_rooted first.pages schema placed next s));
  unclean = λ schema honest mark.
      let first = g.S.PageStore.facts c.args.store in
      let fault = c.in-Err-read_table.fault in
      mark_refused first honest schema mark fault (subst (λ (x : StoreFacts). IsOpenFault x fault) (ap (λ (p : PagerView). p.store) c.in-Ok.ensures.made) c.in-Err-read_table.ensures.effect.faults);
  kept = search rules;
  refused = search rules;
}
