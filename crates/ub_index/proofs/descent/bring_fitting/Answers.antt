use Rattle.std.proofs.Common.{◌∙◌, refl, sym}
use Rattle.ub_index.proofs.FitFacts.{same_page}
use Rattle.ub_index.proofs.HeldFacts.{keeps_gone, more_gone}
use Rattle.ub_index.proofs.StepFacts.{forgets, honest_back, same_honest}
use Rattle.ub_index.proofs.descent.bring_fitting.Goals as goal

pub returns-in-Err-clause-effect : goal.returns-in-Err-clause-effect
returns-in-Err-clause-effect g c = record {
  same = forgets c.args.pager.now c.bring.new.self c.forget.new.self c.in_ok-bring.ensures.effect.same c.in_ok-bring.ensures.trace c.forget.ensures.same;
  cached = tt;
  fits = tt;
  named = λ honest. tt;
  others = λ m page ne h. c.in_ok-bring.ensures.others m page ne (sym (c.forget.ensures.others m ne) ∙ h);
  checked = keeps_gone c.args.last c.args.pager.now c.forget.new.self c.args.place.now.entry.page
      (λ good. honest_back c.args.pager.now.store c.bring.new.self.store _ c.in_ok-bring.ensures.effect.same (same_honest c.bring.new.self c.forget.new.self c.forget.ensures.same good))
      (λ m page ne h. c.in_ok-bring.ensures.others m page ne (sym (c.forget.ensures.others m ne) ∙ h)) c.forget.ensures.gone;
  more = more_gone c.args.last c.args.pager.now.cached c.forget.new.self.cached c.args.place.now.entry.page
      (λ m page ne h. c.in_ok-bring.ensures.others m page ne (sym (c.forget.ensures.others m ne) ∙ h)) c.forget.ensures.gone;
  forgotten = c.forget.ensures.gone;
  faults = (
    refl,
    c.cached.result.now,
    same_page c.args.pager.now.store c.bring.new.self.store c.args.place.now.entry.page _ c.cached.result.now c.in_ok-bring.ensures.effect.same c.cached.ensures.page,
    c.in-Err.ensures.refused,
  );
}
