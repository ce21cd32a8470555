use Rattle.std.proofs.Common.{arith, ◌≡◌, ◌≤◌, ◌∙◌, ℕ, IfSome, List, Option, ap, subst, sym}
use Rattle.ub_index_change.proofs.Common.{both_on, ChangeView, entries_then, IsHonest, PagerView, Sheet, sole_page, steps_keep, StoreFacts}
use Rattle.ub_index_change.proofs.LowerFacts.{lowers_on}
use Rattle.ub_index_change.proofs.change.Change.lowered.Goals as goal

pub loop-levels-preserved : goal.loop-levels-preserved
loop-levels-preserved g c =
    let stores = c.loop-levels.invariant.store in
    record {
      low = omega (arith, c.loop-levels-test.true);
      high = omega (arith, c.loop-levels.invariant.high);
      store = ap (λ (p : PagerView). p.store) c.in_ok-page.ensures.effect.same ∙ c.loop-levels.invariant.store;
      trace = ap (λ (p : PagerView). p.trace) c.in_ok-page.ensures.effect.same ∙ c.loop-levels.invariant.trace;
      kept = both_on c.args.last c.args.pager.now c.loop-levels.pager c.named_alone.new.pager c.loop-levels.invariant.kept (steps_keep c.in_ok-page.ensures.effect);
      some = subst (λ (o : Option ℕ). IfSome o (λ n. 1 ≤ n)) c.in-Some.is c.in_ok-page.ensures.some;
      lowers = λ honest.
          let sheets = ap (λ (v : ChangeView). v.sheets) c.self.view_is in
          let sole = c.in_ok-page.ensures.sole (subst (λ (s : StoreFacts). IsHonest s) (sym stores) honest) in
          let there = subst (λ (s : StoreFacts). c.in_ok-page.field-0 ≡ sole_page (entries_then c.self.inside.sheets.sheets s.pages c.loop-levels.root)) stores sole in
          let here = subst (λ (xs : List Sheet). c.in_ok-page.field-0 ≡ sole_page (entries_then xs c.args.pager.now.store.pages c.loop-levels.root)) sheets there in
          lowers_on c.args.self.sheets c.args.pager.now.store.pages c.args.self.root c.args.self.levels c.loop-levels.root c.loop-levels.levels c.in-Some.page
          (omega (arith, c.loop-levels-test.true)) (c.loop-levels.invariant.lowers honest) (sym here ∙ c.in-Some.is);
    }
