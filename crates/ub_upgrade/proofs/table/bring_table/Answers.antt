use Rattle.std.proofs.Common.{◌≡◌, ◌≤◌, ◌∙◌, inl, inr, ℕ, List, ap, rules, subst, sym}
use Rattle.ub_upgrade.proofs.Common.{CanBring, HasMark, IndexView, IsBringFault, IsBrought, IsHonest, IsTableFault, OldHeader, page_count, PagerView, root_in}
use Rattle.ub_upgrade.proofs.Common.{StoreFacts}
use Rattle.ub_writing.proofs.MarkFacts.{on_err}
use Rattle.ub_upgrade.proofs.TableFacts.{bring_moved, err_passes, err_refused, mark_before, root_fault, rooted}
use Rattle.ub_upgrade.proofs.table.bring_table.Goals as goal

pub returns-in_err-root-clause-unopened : goal.returns-in_err-root-clause-unopened
returns-in_err-root-clause-unopened g c = λ honest.
    let schema = c.in_ok-head.head.header.schema in
    let marked : IsHonest c.args.pager.now.store → HasMark schema c.write_mark.new.pager.store.pages = search rules in
    let one : page_count c.write_mark.new.pager.store ≡ 1 = search rules in
    let still : IsHonest c.write_mark.new.pager.store = search rules in
    on_err c.from_residual-in_err-root.result _
    (inr (schema, mark_before schema c.write_mark.new.pager.store c.bring_pages.new.pager.store c.in_err-root.ensures.effect.grows one still (marked honest)))

pub returns-in_err-root-clause-refused : goal.returns-in_err-root-clause-refused
returns-in_err-root-clause-refused g c =
    let from = g.O.PageStore.facts c.args.old.now in
    let new = c.args.pager.now.store in
    let mid = c.write_mark.new.pager.store in
    let head = c.in_ok-head.head in
    let fails : mid.can_fail ≡ new.can_fail = search rules in
    let e = c.in_err-root.field-0.0 in
    err_refused c.from_residual-in_err-root.result (IsTableFault from new) e c.from_residual-in_err-root.ensures.1
    (inr (inr (head, c.in_ok-head.ensures.header, inl (bring_moved head from mid new fails e (subst (λ (x : StoreFacts). IsBringFault head x mid e) c.in_ok-head.ensures.effect c.in_err-root.ensures.refused)))))

pub returns-in_err-index-clause-exact : goal.returns-in_err-index-clause-exact
returns-in_err-index-clause-exact g c = λ head entries honest new_honest has can.
    let from = g.O.PageStore.facts c.args.old.now in
    let read = c.in_ok-head.head in
    let mid = c.bring_pages.new.pager.store in
    let root = c.in_ok-root.root in
    let is : read ≡ head = c.in_ok-head.ensures.exact head honest has in
    let still : IsHonest c.write_mark.new.pager.store = search rules in
    let mid_honest : IsHonest mid = ap (λ (p : PagerView). p.store.honest) c.in_ok-root.ensures.effect.same ∙ still in
    let brought = subst (λ (x : StoreFacts). IsHonest x → IsBrought read x mid.pages root) c.in_ok-head.ensures.effect (λ from_honest. c.in_ok-root.ensures.brought from_honest still) honest in
    let fits = rooted read from mid.pages root c.in_ok-root.ensures.root.0 c.in_ok-root.ensures.root.1 brought entries (subst (λ (h : OldHeader). CanBring h from.pages entries) (sym is) can) in
    err_passes c.from_residual-in_err-index.result _ c.in_err-index.field-0.0 c.from_residual-in_err-index.ensures.1 (c.in_err-index.ensures.exact mid_honest fits)

pub returns-in_err-index-clause-unopened : goal.returns-in_err-index-clause-unopened
returns-in_err-index-clause-unopened g c = λ honest.
    let schema = c.in_ok-head.head.header.schema in
    let marked : IsHonest c.args.pager.now.store → HasMark schema c.write_mark.new.pager.store.pages = search rules in
    let one : page_count c.write_mark.new.pager.store ≡ 1 = search rules in
    let still : IsHonest c.write_mark.new.pager.store = search rules in
    on_err c.from_residual-in_err-index.result _
    (inr (
      schema,
      subst (HasMark schema) (sym c.in_err-index.ensures.pages)
          (mark_before schema c.write_mark.new.pager.store c.bring_pages.new.pager.store c.in_ok-root.ensures.effect.grows one still (marked honest)),
    ))

pub returns-in_err-index-clause-refused : goal.returns-in_err-index-clause-refused
returns-in_err-index-clause-refused g c =
    let from = g.O.PageStore.facts c.args.old.now in
    let new = c.args.pager.now.store in
    let begun = c.write_mark.new.pager.store in
    let mid = c.bring_pages.new.pager.store in
    let head = c.in_ok-head.head in
    let root = c.in_ok-root.root in
    let fails : begun.can_fail ≡ new.can_fail = search rules in
    let still : IsHonest new → IsHonest begun = search rules in
    let brought = subst (λ (x : StoreFacts). IsHonest x → IsHonest begun → IsBrought head x mid.pages root) c.in_ok-head.ensures.effect c.in_ok-root.ensures.brought in
    let e = c.in_err-index.field-0.0 in
    err_refused c.from_residual-in_err-index.result (IsTableFault from new) e c.from_residual-in_err-index.ensures.1
    (root_fault from new mid head root c.in_ok-head.ensures.header c.in_ok-root.ensures.root.0 c.in_ok-root.ensures.root.1
    (ap (λ (p : PagerView). p.store.can_fail) c.in_ok-root.ensures.effect.same ∙ fails) (λ honest. ap (λ (p : PagerView). p.store.honest) c.in_ok-root.ensures.effect.same ∙ still honest)
    (λ honest new_honest. brought honest (still new_honest)) e c.in_err-index.ensures.exact c.in_err-index.ensures.refused)

pub returns-clause-made : goal.returns-clause-made
returns-clause-made g c =
    let from = g.O.PageStore.facts c.args.old.now in
    let head = c.in_ok-head.head in
    let schema = head.header.schema in
    let root = c.in_ok-root.ensures.root in
    let index = c.in_ok-index.ensures.index in
    let pages = sym c.in_ok-index.ensures.pages in
    let marked : IsHonest c.args.pager.now.store → HasMark schema c.write_mark.new.pager.store.pages = search rules in
    let one : page_count c.write_mark.new.pager.store ≡ 1 = search rules in
    let still : IsHonest c.args.pager.now.store → IsHonest c.write_mark.new.pager.store = search rules in
    record {
      header = c.in_ok-head.ensures.header;
      last_is = ap (λ (i : IndexView). i.last) index;
      root = subst (λ (i : IndexView). 1 ≤ i.root) (sym index) root.0;
      level = subst (λ (i : IndexView). 1 ≤ i.levels) (sym index) root.1;
      count = search rules;
      size = search rules;
      marked = λ honest. subst (HasMark schema) pages
          (mark_before schema c.write_mark.new.pager.store c.bring_pages.new.pager.store c.in_ok-root.ensures.effect.grows one (still honest) (marked honest));
      brought = λ honest new_honest. subst (λ (i : IndexView). IsBrought head from c.open_root.new.pager.store.pages (root_in i)) (sym index)
          (subst (λ (ps : List (List ℕ)). IsBrought head from ps c.in_ok-root.root) pages
          (subst (λ (x : StoreFacts). IsHonest x → IsBrought head x c.bring_pages.new.pager.store.pages c.in_ok-root.root) c.in_ok-head.ensures.effect
          (λ from_honest. c.in_ok-root.ensures.brought from_honest (still new_honest)) honest));
      checked = search rules;
    }
