use Rattle.std.proofs.Common.{◌∙◌, [], ap, subst, sym}
use Rattle.ub_store.specs.Cache.{page_at}
use Rattle.ub_store.specs.Facts.{StoreFacts}
use Rattle.ub_store.specs.View.{PagerView}
use Rattle.ub_table.specs.declared.schema.Schema.{Schema}
use Rattle.ub_laying.proofs.BegunFacts.{none_held}
use Rattle.ub_laying.proofs.begun.Begun.begin.Goals as goal
use Rattle.ub_writing.specs.Marks.{HasMark}
use Rattle.ub_writing.specs.Puts.{IsPutPage}

pub invariant_of-result : goal.invariant_of-result
invariant_of-result g c =
    let made = c.in-Ok.ensures.made in
    let marks = c.in-Ok-write_mark.ensures in
    let old = c.in-Ok.pager in
    let new = c.write_mark.new.pager in
    record {
      count = marks.count;
      marked = λ honest. subst (λ (s : Schema). HasMark s new.store.pages) (sym c.copy.ensures) (marks.marked (sym (ap (λ (s : StoreFacts). s.honest) marks.left) ∙ honest));
      held = none_held (IsPutPage []) old.cached new.cached (λ n. ap (λ (p : PagerView). page_at p.cached n) made) marks.held;
      trace = marks.trace ∙ ap (λ (p : PagerView). p.trace) made;
    }
