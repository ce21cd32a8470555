use Rattle.std.proofs.Common.{◌≡◌, ◌∙◌, Bool, List, ℕ, Ok, inl, inr, ap, refl, subst, sym}
use Rattle.ub_index.proofs.Common.{AreChecked, cases_Bool, FitsAtEnds, head_on, IsHonest, IsIndexPage, true≢false, WasChecked}
use Rattle.ub_index.proofs.FitFacts.{is_refused, same_page}
use Rattle.ub_index.proofs.HeldFacts.{keeps_but, keeps_gone, more_but, more_gone}
use Rattle.ub_index.proofs.StepFacts.{forgets, held_once, honest_back, names_fitting, same_honest, stepped_down}
use Rattle.ub_index.proofs.descent.bring_next.Goals as goal

pub returns-in-Ok : goal.returns-in-Ok
returns-in-Ok g c =
    let was : AreChecked c.args.last c.args.pager.now → IsHonest c.args.pager.now.store → WasChecked c.in_ok-is_read.is_read c.args.last c.cached.result.now = λ sure honest held_so. sure honest c.args.place.now.entry.page c.cached.result.now (sym (c.in_ok-is_read.ensures.kept (c.in_ok-is_read.ensures.hit.1 (ap (λ (b : Bool). Ok b) held_so))) ∙ c.cached.ensures.held) in
    let back : IsHonest c.bring.new.self.store → IsHonest c.args.pager.now.store = honest_back c.args.pager.now.store c.bring.new.self.store _ c.in_ok-is_read.ensures.effect.same in
    record {
      cached = c.in_ok-is_read.ensures.cached;
      ends = λ page held.
          subst (λ (p : List ℕ). (c.in-Ok.head ≡ head_on p) × FitsAtEnds p c.args.level c.args.place.now.entry c.args.place.now.next)
          (held_once c.bring.new.self.cached c.args.place.now.entry.page c.cached.result.now page c.cached.ensures.held held) (c.in-Ok.ensures.head, c.in-Ok.ensures.ends);
      named = λ honest sure.
          names_fitting c.args.pager.now.store.pages c.args.last c.args.level c.args.place.now.entry c.args.place.now.next c.cached.result.now
          (same_page c.args.pager.now.store c.bring.new.self.store c.args.place.now.entry.page _ c.cached.result.now c.in_ok-is_read.ensures.effect.same c.cached.ensures.page honest)
          (c.in-Ok.ensures.found (was sure honest));
      forgotten = tt;
      steps = stepped_down c.args.last c.args.level c.args.place.now.entry c.args.place.now.next c.args.pager.now c.bring.new.self c.in-Ok.head c.in_ok-is_read.ensures.effect.same c.in_ok-is_read.ensures.trace (
        (λ sure. keeps_but c.args.last c.args.pager.now c.bring.new.self c.args.place.now.entry.page back c.in_ok-is_read.ensures.others
            (λ good page held. inl (subst (λ (p : List ℕ). IsIndexPage c.args.last p)
            (held_once c.bring.new.self.cached c.args.place.now.entry.page c.cached.result.now page c.cached.ensures.held held) (c.in-Ok.ensures.found (was sure (back good))).is)) sure),
        more_but c.args.last c.args.pager.now.cached c.bring.new.self.cached c.args.place.now.entry.page c.in_ok-is_read.ensures.others
            (λ page held. elim (cases_Bool c.in_ok-is_read.is_read) [
              | inl read ↦ inr (subst (λ (p : List ℕ). IsIndexPage c.args.last p)
                  (held_once c.bring.new.self.cached c.args.place.now.entry.page c.cached.result.now page c.cached.ensures.held held)
                  (c.in-Ok.ensures.found (λ held_so. absurd (true≢false (sym read ∙ held_so)))).is)
              | inr held_so ↦ inl (sym (c.in_ok-is_read.ensures.kept (c.in_ok-is_read.ensures.hit.1 (ap (λ (b : Bool). Ok b) held_so))) ∙ held)
            ]),
      );
    }

pub returns-in-Err : goal.returns-in-Err
returns-in-Err g c =
    let was : AreChecked c.args.last c.args.pager.now → IsHonest c.args.pager.now.store → WasChecked c.in_ok-is_read.is_read c.args.last c.cached.result.now = λ sure honest held_so. sure honest c.args.place.now.entry.page c.cached.result.now (sym (c.in_ok-is_read.ensures.kept (c.in_ok-is_read.ensures.hit.1 (ap (λ (b : Bool). Ok b) held_so))) ∙ c.cached.ensures.held) in
    record {
      cached = tt;
      ends = tt;
      named = λ honest sure. tt;
      forgotten = c.forget.ensures.gone;
      steps = record {
        same = forgets c.args.pager.now c.bring.new.self c.forget.new.self c.in_ok-is_read.ensures.effect.same c.in_ok-is_read.ensures.trace c.forget.ensures.same;
        checked = keeps_gone c.args.last c.args.pager.now c.forget.new.self c.args.place.now.entry.page
            (λ good. honest_back c.args.pager.now.store c.bring.new.self.store _ c.in_ok-is_read.ensures.effect.same (same_honest c.bring.new.self c.forget.new.self c.forget.ensures.same good))
            (λ m page ne h. c.in_ok-is_read.ensures.others m page ne (sym (c.forget.ensures.others m ne) ∙ h)) c.forget.ensures.gone;
        more = more_gone c.args.last c.args.pager.now.cached c.forget.new.self.cached c.args.place.now.entry.page
            (λ m page ne h. c.in_ok-is_read.ensures.others m page ne (sym (c.forget.ensures.others m ne) ∙ h)) c.forget.ensures.gone;
        faults = λ sure. (
          refl,
          λ honest.
              is_refused c.args.pager.now.store.pages c.args.last c.args.level c.args.place.now.entry c.args.place.now.next c.cached.result.now c.in-Err.fault
              (same_page c.args.pager.now.store c.bring.new.self.store c.args.place.now.entry.page _ c.cached.result.now c.in_ok-is_read.ensures.effect.same c.cached.ensures.page honest)
              (c.in-Err.ensures.refused (was sure honest)),
        );
      };
    }
