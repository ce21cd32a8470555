use Rattle.std.proofs.Common.{◌∙◌, inr, ap, map, subst, sym, refl, rules}
use Rattle.ub_tree.proofs.Common.{entry_of, HasTable, head_of, IsCheckFault, IsHonest, IsLeftBy, IsUnopened, IsUpgraded, IsUpgradeFault, IsUpgradePassing}
use Rattle.ub_tree.proofs.Common.{IsWell, PagerView, StoreFacts, TreeFault, TreeView, upgrade_fault}
use Rattle.ub_tree.proofs.BroughtFacts.{pages_pass, table_fault, table_refused}
use Rattle.ub_tree.proofs.UpgradeFacts.{can_bring, head_is}
use Rattle.ub_tree.proofs.UpgradedFacts.{begun_of, carried_by, check_fault, header_small, made_of, refused_of, sound_made, stands_made, table_over, unopened_of}
use Rattle.ub_tree.proofs.UpgradedFacts.{upgraded}
use Rattle.ub_tree.proofs.tree.Tree.upgrade.Goals as goal

pub returns-in-Ok-bring_table : goal.returns-in-Ok-bring_table
returns-in-Ok-bring_table g c =
    let from = g.O.PageStore.facts c.args.old.now in
    let b = c.in-Ok-bring_table in
    let p = c.bring_table.new.pager in
    let m = b.ensures.made in
    let new = g.S.PageStore.facts c.args.new in
    record {
      made = λ version next schema placed honest new_honest s.
          let begun : IsHonest c.in-Ok.pager.store = ap (λ (q : PagerView). q.store.honest) c.in-Ok.ensures.made ∙ new_honest in
          let here : IsHonest p.store = ap (λ (q : PagerView). q.store.honest) b.ensures.effect.same ∙ begun in
          let of = b.ensures.exact (head_of version s.header) (map entry_of placed) honest begun (head_is version next schema placed from s) (can_bring version next schema placed from s (head_of version s.header) refl) in
          let table = table_over schema placed next b.head b.index p (carried_by from c.in-Ok.pager p b.head b.index m version next schema placed s honest begun of) here
          (header_small from b.head m.header) m.last_is (m.marked begun) in
          let there : HasTable schema placed next c.over.result = subst (λ (v : TreeView). HasTable schema placed next v) (sym c.over.ensures) table in
          made_of (λ refused. refused.fault) (λ refused. g.S.PageStore.facts refused.store) c.checked.result c.over.result (HasTable schema placed next) c.checked.ensures.same there (c.checked.ensures.sound there.sound);
      begun = let begun : IsHonest new → IsHonest c.in-Ok.pager.store = λ new_honest. ap (λ (q : PagerView). q.store.honest) c.in-Ok.ensures.made ∙ new_honest in
          let here : IsHonest new → IsHonest p.store = λ new_honest. ap (λ (q : PagerView). q.store.honest) b.ensures.effect.same ∙ begun new_honest in
          begun_of (λ refused. refused.fault) (λ refused. g.S.PageStore.facts refused.store) c.checked.result c.over.result (IsHonest c.over.result.store) (IsWell c.over.result) (IsUpgraded from new)
          c.checked.ensures.same c.checked.ensures.well
          (λ well. subst (IsUpgraded from new) (sym c.over.ensures)
          (upgraded from new b.head b.index p m.header (λ honest new_honest. stands_made from c.in-Ok.pager p b.head b.index m honest (begun new_honest) (here new_honest))
          (λ new_honest.
          sound_made b.head b.index p (here new_honest) m.root m.level m.last_is (header_small from b.head m.header) (m.marked (begun new_honest))
          (subst (λ (v : TreeView). IsHonest v.store → IsWell v) c.over.ensures well (here new_honest)))
          (λ new_honest. m.marked (begun new_honest)) (ap (λ (q : PagerView). q.trace) b.ensures.effect.same ∙ ap (λ (q : PagerView). q.trace) c.in-Ok.ensures.made)));
      unopened = λ new_honest.
          let begun : IsHonest c.in-Ok.pager.store = ap (λ (q : PagerView). q.store.honest) c.in-Ok.ensures.made ∙ new_honest in
          unopened_of (λ refused. refused.fault) (λ refused. g.S.PageStore.facts refused.store) c.checked.result c.over.result c.checked.ensures.left
          (subst (λ (v : TreeView). IsUnopened v.store) (sym c.over.ensures) (inr (b.head.header.schema, b.ensures.made.marked begun)));
      refused = let begun : IsHonest new → IsHonest c.in-Ok.pager.store = λ new_honest. ap (λ (q : PagerView). q.store.honest) c.in-Ok.ensures.made ∙ new_honest in
          let still : IsHonest new → IsHonest p.store = λ new_honest. ap (λ (q : PagerView). q.store.honest) b.ensures.effect.same ∙ begun new_honest in
          refused_of (λ refused. refused.fault) (λ refused. g.S.PageStore.facts refused.store) c.checked.result c.over.result (IsUpgradeFault from new) c.checked.ensures.refused
          (λ f h. check_fault from new b.head b.index p m.header m.root m.last_is still
          (ap (λ (q : PagerView). q.store.can_fail) b.ensures.effect.same ∙ ap (λ (q : PagerView). q.store.can_fail) c.in-Ok.ensures.made)
          m.count (λ honest new_honest. stands_made from c.in-Ok.pager p b.head b.index m honest (begun new_honest) (still new_honest)) f
          (subst (λ (v : TreeView). IsCheckFault v f) c.over.ensures h));
      effect = search rules;
    }

pub returns-in-Err-bring_table : goal.returns-in-Err-bring_table
returns-in-Err-bring_table g c =
    let from = g.O.PageStore.facts c.args.old.now in
    let e = c.in-Err-bring_table.fault in
    record {
      made = λ version next schema placed honest new_honest s.
          let begun : IsHonest c.in-Ok.pager.store = ap (λ (q : PagerView). q.store.honest) c.in-Ok.ensures.made ∙ new_honest in
          let head = head_of version s.header in
          subst IsUpgradePassing (sym c.from.ensures)
          (pages_pass e (c.in-Err-bring_table.ensures.exact head (map entry_of placed) honest begun (head_is version next schema placed from s) (can_bring version next schema placed from s head refl)));
      begun = search rules;
      unopened = λ new_honest.
          subst IsUnopened (sym c.into_store.ensures) (c.in-Err-bring_table.ensures.unopened (ap (λ (q : PagerView). q.store.honest) c.in-Ok.ensures.made ∙ new_honest));
      refused = let refused = table_fault e from c.in-Ok.pager.store c.in-Err-bring_table.ensures.refused in
          subst (λ (f : TreeFault). IsUpgradeFault from (g.S.PageStore.facts c.args.new) f) (sym c.from.ensures)
          (subst (λ (q : PagerView). IsUpgradeFault from q.store (upgrade_fault e)) c.in-Ok.ensures.made refused);
      effect = let from_now = g.O.PageStore.facts c.bring_table.new.old in
          let left = table_refused e from from_now c.in-Ok.pager c.bring_table.new.pager c.in-Err-bring_table.ensures.effect in
          subst (λ (f : TreeFault). IsLeftBy f from from_now (g.S.PageStore.facts c.args.new) (g.S.PageStore.facts c.into_store.result)) (sym c.from.ensures)
          (subst (λ (s : StoreFacts). IsLeftBy (upgrade_fault e) from from_now (g.S.PageStore.facts c.args.new) s) (sym c.into_store.ensures)
          (subst (λ (q : PagerView). IsLeftBy (upgrade_fault e) from from_now q.store c.bring_table.new.pager.store) c.in-Ok.ensures.made left));
    }
