use Rattle.std.proofs.Common.{◌≡◌, List, ℕ, ap, arith, inl, rules, subst, sym}
use Rattle.ub_index.proofs.Common.{IndexView, IsAlone, IsIndexPage, root_page, StoreFacts}
use Rattle.ub_index.proofs.StandFacts.{put_checked, root_page_is, made_alone}
use Rattle.ub_index.proofs.index.Index.create.Goals as goal

pub returns : goal.returns
returns g c = record {
  index = search rules;
  stands = λ honest some_root some.
      let page_is : c.page.result.now ≡ root_page c.args.page = search rules in
      subst (λ (index : IndexView). IsAlone index c.args.page c.put.new.self.store) (sym c.new.ensures)
      (made_alone c.args.root c.args.page c.args.last c.page.result.now c.args.pager.now.store c.put.new.self.store (omega arith) (omega arith) honest c.in_ok-put.ensures.there
      c.in_ok-put.ensures.effect page_is some_root some);
  trace = search rules;
  there = search rules;
  checked = λ some.
      let page_is : c.page.result.now ≡ root_page c.args.page = search rules in
      put_checked c.args.last c.args.root c.page.result.now c.args.pager.now c.put.new.self (ap (λ (s : StoreFacts). s.honest) c.in_ok-put.ensures.effect.frame)
      (subst (λ (p : List ℕ). IsIndexPage c.args.last p) (sym page_is) (root_page_is c.args.last c.args.page (omega arith) some (omega arith)))
      (inl c.in_ok-put.ensures.renewed) c.in_ok-put.ensures.others;
  refused = search rules;
  effect = search rules;
}
