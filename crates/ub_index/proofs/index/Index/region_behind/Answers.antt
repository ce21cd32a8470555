use Rattle.std.proofs.Common.{◌≡◌, ◌∙◌, ℕ, None, Some, Option, Err, inl, ap, arith, refl, subst, sym, rules}
use Rattle.ub_index.proofs.Common.{Aims, AreChecked, FindsAfter, Gives, GoesDown, index_view, IndexView, IsSought, Key, Leaf, LooksAt, PagerView, Region}
use Rattle.ub_index.proofs.Common.{region_of, StoreFacts}
use Rattle.ub_index.specs.declared.descent.Found.{Found}
use Rattle.ub_index.proofs.BehindFacts.{beyond_found, beyond_sought, here_found, nothing_found}
use Rattle.ub_index.proofs.HeldFacts.{both_on, Keeps}
use Rattle.ub_index.proofs.SearchFacts.{down_keeps, search_refused, step_keeps, step_refused}
use Rattle.ub_index.proofs.index.Index.region_behind.Goals as goal

-- what is looked at on the pages of a store that is the same
looked : (last : ℕ) (old mid : StoreFacts) → mid ≡ old → (To : Key → Option ℕ → Type 0) (key : Key) (leaf : Leaf) (found now : Found) → found ≡ now
    → LooksAt last mid To key leaf found → LooksAt last old To key leaf now
looked last old mid stores To key leaf found now is h = subst (λ (f : Found). LooksAt last old To key leaf f) is (subst (λ (s : StoreFacts). LooksAt last s To key leaf found) stores h)

kept_so : (inside last : ℕ) (old new : PagerView) → inside ≡ last → Keeps inside old new → Keeps last old new
kept_so inside last old new same kept = subst (λ (n : ℕ). Keeps n old new) same kept

pub returns-in-Nothing : goal.returns-in-Nothing
returns-in-Nothing g c = record {
  found = λ sure_now.
      let sure : AreChecked c.self.inside.last c.args.pager.now = subst (λ (v : IndexView). AreChecked v.last c.args.pager.now) (sym c.self.view_is) sure_now in
      let stores = ap (λ (p : PagerView). p.store) c.in_ok-leaf.ensures.effect.same in
      let looks = looked c.self.inside.last c.args.pager.now.store c.leaf_of.new.pager.store stores (Aims c.args.goal.now) c.args.region.now.first c.in_ok-leaf.leaf _ _ c.in-Nothing.is (c.in_ok-look.ensures.looks (c.in_ok-leaf.ensures.effect.checked sure)) in
      subst (λ (v : IndexView). FindsAfter v c.args.pager.now.store (Aims c.args.goal.now) (Some c.args.region.now) None) c.self.view_is
      (nothing_found (index_view c.self.inside.root c.self.inside.levels c.self.inside.last) c.args.pager.now.store (Aims c.args.goal.now)
      c.args.region.now c.in_ok-leaf.leaf c.in_ok-leaf.ensures.holds (λ honest. c.in_ok-leaf.ensures.leads honest sure) looks);
  small = search rules;
  forgotten = search rules;
  effect = search rules;
}

pub returns-in-Here : goal.returns-in-Here
returns-in-Here g c = record {
  found = λ sure_now.
      let sure : AreChecked c.self.inside.last c.args.pager.now = subst (λ (v : IndexView). AreChecked v.last c.args.pager.now) (sym c.self.view_is) sure_now in
      let stores = ap (λ (p : PagerView). p.store) c.in_ok-leaf.ensures.effect.same in
      let looks = looked c.self.inside.last c.args.pager.now.store c.leaf_of.new.pager.store stores (Aims c.args.goal.now) c.args.region.now.first c.in_ok-leaf.leaf _ _ c.in-Here.is (c.in_ok-look.ensures.looks (c.in_ok-leaf.ensures.effect.checked sure)) in
      subst (λ (s : Region). FindsAfter c.args.self.now c.args.pager.now.store (Aims c.args.goal.now) (Some c.args.region.now) (Some (c.in-Here.from, s))) (sym c.region_at.ensures.region)
      (subst (λ (v : IndexView). FindsAfter v c.args.pager.now.store (Aims c.args.goal.now) (Some c.args.region.now)
      (Some (c.in-Here.from, region_of c.self.inside.last c.in-Here.place.entry c.in-Here.place.next))) c.self.view_is
      (here_found (index_view c.self.inside.root c.self.inside.levels c.self.inside.last) c.args.pager.now.store (Aims c.args.goal.now)
      c.args.region.now c.in_ok-leaf.leaf c.in_ok-leaf.ensures.holds (λ honest. c.in_ok-leaf.ensures.leads honest sure) c.in-Here.from c.in-Here.place looks));
  small = search rules;
  forgotten = search rules;
  effect = search rules;
}

pub returns-in_ok-region_holding-in-Beyond : goal.returns-in_ok-region_holding-in-Beyond
returns-in_ok-region_holding-in-Beyond g c = record {
  found = λ sure_now.
      let sure : AreChecked c.self.inside.last c.args.pager.now = subst (λ (v : IndexView). AreChecked v.last c.args.pager.now) (sym c.self.view_is) sure_now in
      let stores = ap (λ (p : PagerView). p.store) c.in_ok-leaf.ensures.effect.same in
      let stores_too = ap (λ (p : PagerView). p.store) c.in_ok-look.ensures.effect.same in
      let looks = looked c.self.inside.last c.args.pager.now.store c.leaf_of.new.pager.store stores (Aims c.args.goal.now) c.args.region.now.first c.in_ok-leaf.leaf _ _ c.in-Beyond.is (c.in_ok-look.ensures.looks (c.in_ok-leaf.ensures.effect.checked sure)) in
      let given = subst (λ (v : IndexView). Gives v c.look.new.pager.store c.in-Beyond.aim c.in_ok-region_holding-in-Beyond.field-0) (sym c.self.view_is) (c.in_ok-region_holding-in-Beyond.ensures.given ((kept_so c.self.inside.last c.args.self.now.last c.args.pager.now c.look.new.pager (ap (λ (v : IndexView). v.last) c.self.view_is)
      (both_on c.self.inside.last c.args.pager.now c.leaf_of.new.pager c.look.new.pager (down_keeps c.in_ok-leaf.ensures.effect) (step_keeps c.in_ok-look.ensures.effect))).0 sure_now)) in
      let before = subst (λ (f : StoreFacts). Gives (index_view c.self.inside.root c.self.inside.levels c.self.inside.last) f c.in-Beyond.aim c.in_ok-region_holding-in-Beyond.field-0)
      (stores_too ∙ stores) given in
      subst (λ (v : IndexView). FindsAfter v c.args.pager.now.store (Aims c.args.goal.now) (Some c.args.region.now) (Some (c.in-Beyond.from, c.in_ok-region_holding-in-Beyond.field-0))) c.self.view_is
      (beyond_found (index_view c.self.inside.root c.self.inside.levels c.self.inside.last) c.args.pager.now.store (Aims c.args.goal.now)
      c.args.region.now c.in_ok-leaf.leaf c.in_ok-leaf.ensures.holds (λ honest. c.in_ok-leaf.ensures.leads honest sure) c.in-Beyond.from c.in-Beyond.aim c.in_ok-region_holding-in-Beyond.field-0 looks before);
  small = search rules;
  forgotten = search rules;
  effect = search rules;
}

pub returns-in_err-look : goal.returns-in_err-look
returns-in_err-look g c = record {
  found = search rules;
  small = search rules;
  forgotten = search rules;
  effect =
      subst (λ (v : IndexView). GoesDown (IsSought v c.args.pager.now.store (Aims c.args.goal.now) (Some c.args.region.now)) v c.args.pager.now c.look.new.pager c.from_residual-in_err-look.result) c.self.view_is
      (step_refused (Option (Key × Region)) Found
      (IsSought (index_view c.self.inside.root c.self.inside.levels c.self.inside.last) c.args.pager.now.store (Aims c.args.goal.now) (Some c.args.region.now))
      (index_view c.self.inside.root c.self.inside.levels c.self.inside.last) c.args.region.now.first (inl (c.args.region.now, refl, refl)) 1 (omega arith) c.in_ok-leaf.leaf.place.entry
      c.in_ok-leaf.leaf.place.next c.args.pager.now c.leaf_of.new.pager c.look.new.pager (ap (λ (p : PagerView). p.store) c.in_ok-leaf.ensures.effect.same)
      (ap (λ (p : PagerView). p.trace) c.in_ok-leaf.ensures.effect.same) (down_keeps c.in_ok-leaf.ensures.effect) (λ honest sure. (c.in_ok-leaf.ensures.leads honest sure).stops)
      c.from_residual-in_err-look.result c.in_err-look.field-0.0 c.from_residual-in_err-look.ensures.1 c.in_err-look.ensures.effect);
}

pub returns-in_err-region_holding-in-Beyond : goal.returns-in_err-region_holding-in-Beyond
returns-in_err-region_holding-in-Beyond g c = record {
  found = search rules;
  small = search rules;
  forgotten = search rules;
  effect =
      let stores = ap (λ (p : PagerView). p.store) c.in_ok-leaf.ensures.effect.same in
      let stores_too = ap (λ (p : PagerView). p.store) c.in_ok-look.ensures.effect.same in
      let traces = ap (λ (p : PagerView). p.trace) c.in_ok-leaf.ensures.effect.same in
      let traces_too = ap (λ (p : PagerView). p.trace) c.in_ok-look.ensures.effect.same in
      let kept = both_on c.self.inside.last c.args.pager.now c.leaf_of.new.pager c.look.new.pager (down_keeps c.in_ok-leaf.ensures.effect) (step_keeps c.in_ok-look.ensures.effect) in
      let sought = λ (sure : AreChecked c.self.inside.last c.args.pager.now).
      let looks = looked c.self.inside.last c.args.pager.now.store c.leaf_of.new.pager.store stores (Aims c.args.goal.now) c.args.region.now.first c.in_ok-leaf.leaf _ _ c.in-Beyond.is (c.in_ok-look.ensures.looks (c.in_ok-leaf.ensures.effect.checked sure)) in
      beyond_sought (index_view c.self.inside.root c.self.inside.levels c.self.inside.last) c.args.pager.now.store (Aims c.args.goal.now)
      c.args.region.now c.in_ok-leaf.leaf c.in_ok-leaf.ensures.holds (λ honest. c.in_ok-leaf.ensures.leads honest sure) c.in-Beyond.from c.in-Beyond.aim looks in
      let effect = subst (λ (v : IndexView). GoesDown {A = Region} (λ (k : Key). k ≡ c.in-Beyond.aim) v c.look.new.pager c.region_holding.new.pager (Err c.in_err-region_holding-in-Beyond.field-0.0)) (sym c.self.view_is)
      c.in_err-region_holding-in-Beyond.ensures.effect in
      subst (λ (v : IndexView). GoesDown (IsSought v c.args.pager.now.store (Aims c.args.goal.now) (Some c.args.region.now)) v c.args.pager.now c.region_holding.new.pager c.from_residual-in_err-region_holding-in-Beyond.result)
      c.self.view_is
      (search_refused (Option (Key × Region)) Region (λ (k : Key). k ≡ c.in-Beyond.aim)
      (IsSought (index_view c.self.inside.root c.self.inside.levels c.self.inside.last) c.args.pager.now.store (Aims c.args.goal.now) (Some c.args.region.now))
      (index_view c.self.inside.root c.self.inside.levels c.self.inside.last) c.args.pager.now c.look.new.pager c.region_holding.new.pager
      (λ sure k is. subst (λ (x : Key). IsSought (index_view c.self.inside.root c.self.inside.levels c.self.inside.last) c.args.pager.now.store (Aims c.args.goal.now) (Some c.args.region.now) x) (sym is) (sought sure))
      (stores_too ∙ stores) (traces_too ∙ traces) kept
      c.from_residual-in_err-region_holding-in-Beyond.result c.in_err-region_holding-in-Beyond.field-0.0 c.from_residual-in_err-region_holding-in-Beyond.ensures.1 effect);
}
