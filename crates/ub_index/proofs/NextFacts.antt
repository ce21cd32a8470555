-- The next regions, of one leaf: what was given, and why it is refused.
use Rattle.std.proofs.Common.{◌≡◌, [], ◌∷◌, inl, inr, ℕ, List, Option, Some, None, IfSome, Result, Ok, Err, sym, subst, refl}
use Rattle.ub_index.proofs.Common.{AreChecked, AreGivenNext, begins_at, Corners, Crosses, GivesAfter, GivesAlong, HandsLeaf, HandsNext, IndexFault, IndexView}
use Rattle.ub_index.proofs.Common.{IsAim, IsBefore, IsErrAnd, IsForgotten, IsFrom, IsGivenAny, IsHonest, IsSought, Key, Meeting, NoneMoreBut, not_before_self}
use Rattle.ub_index.proofs.Common.{OutOfRegion, Page, page_at, PagerView, Region, StoreFacts, TakesThese}
use Rattle.ub_index.proofs.BehindFacts.{not_crossed}
use Rattle.ub_index.proofs.SearchFacts.{search_refused}
use Rattle.ub_index.proofs.StepFacts.{refused_after}
use Rattle.ub_index.proofs.WalkingFacts.{given_along, gives_own}

module _ (index : IndexView) (store : StoreFacts) where
  -- the search goes on from where the region ends that was given
  starts : (after : Option Region) → IsGivenAny index store after → (from : Option Key) → begins_at after ≡ from → IsFrom index store after from
  starts None given from is = sym is
  starts (Some region) (key, gives) from is = (region, gives_own index store key region gives, sym is)

  ends : (To : Key → Option ℕ → Type 0) (after : Option Region) → IsGivenAny index store after → begins_at after ≡ None → AreGivenNext index store To after []
  ends To after given is = ((after, refl), λ none. (None, starts after given None is, tt))

  none_given : (To : Key → Option ℕ → Type 0) (after : Option Region) (from : Key) (on : Option Key) (regions : List Region) → IsFrom index store after (Some from) → IfSome on (IsBefore from)
      → GivesAlong index store To (Some from) regions on → regions ≡ [] → GivesAfter index store To after None
  none_given To after from None [] is further gives none = (Some from, is, gives)
  none_given To after from (Some on) [] is further same none =
      let e : from ≡ on = cc in
      absurd (not_before_self from (subst (λ (k : Key). IsBefore from k) (sym e) further))
  none_given To after from on (region ∷ regions) is further gives none = cc

module _ {S : Type 0} (Takes : S → List Region → S → Type 0) (index : IndexView) (boxes : List Corners) (after : Option Region) (before : S) (old : PagerView)
    (given : AreChecked index.last old → IsGivenAny index old.store after) where
  -- the region that was given is the last one
  pub handed_none : TakesThese Takes before before [] → begins_at after ≡ None → HandsNext {A = Unit {0}} Takes index boxes after before before old old (Ok tt)
  handed_none takes is = record {
    met = ([], takes, λ sure. ends index old.store (Meeting boxes) after (given sure) is);
    forgotten = tt;
    effect = record { same = refl; checked = λ sure. sure; more = λ n page held. inl held; faults = λ sure. tt };
  }

  module _ (from : Key) (begins : begins_at after ≡ Some from) (now : S) (new : PagerView) where
    from_there : AreChecked index.last old → IsFrom index old.store after (Some from)
    from_there sure = starts index old.store after (given sure) (Some from) begins

    pub handed : (on : Option Key) → IfSome on (IsBefore from) → HandsLeaf Takes index (Meeting boxes) from before now old new (Ok on) → HandsNext {A = Unit {0}} Takes index boxes after before now old new (Ok tt)
    handed on further h =
        let (regions, takes, gives) = h.taken in
        record {
          met = (
            regions,
            takes,
            λ sure.
                let (last, first, left) = given_along index old.store (Meeting boxes) after (Some from) regions on (from_there sure) (gives sure) in (
                  (last, first),
                  none_given index old.store (Meeting boxes) after from on regions (from_there sure) further (gives sure),
                ),
          );
          forgotten = tt;
          effect = record { same = h.effect.same; checked = h.effect.checked; more = h.effect.more; faults = λ sure. tt };
        }

    -- a page on the way is refused, or memory is
    pub next_refused : {T : Type 0} (r : Result T IndexFault) (e : IndexFault) → IsErrAnd r (λ x. x ≡ e) → HandsLeaf Takes index (Meeting boxes) from before now old new (Err e)
        → HandsNext Takes index boxes after before now old new r
    next_refused {T} (Ok x) e is h = absurd is
    next_refused {T} (Err f) e is h = record {
      met = tt;
      forgotten = subst (λ (x : IndexFault). IsForgotten new x) (sym is) h.forgotten;
      effect = search_refused T (Option Key) (IsAim index.last (Meeting boxes) from) (IsSought index old.store (Meeting boxes) after) index old old new
          (λ sure k is_aim. inr (from, from_there sure, is_aim)) refl refl ((λ sure. sure), λ n page held. inl held) (Err f) e is h.effect;
    }

    -- what is given begins before the key: over an honest store it never does
    own_crossed : {T : Type 0} (last : PagerView) (on : Option Key) → HandsLeaf Takes index (Meeting boxes) from before now old new (Ok on) → ¬ (IfSome on (IsBefore from))
        → last ≡ record new { cached = last.cached } → NoneMoreBut index.root new.cached last.cached → page_at last.cached index.root ≡ None
        → HandsNext {A = T} Takes index boxes after before now old last (Err (Page index.root OutOfRegion))
    own_crossed {T} last on h stuck same others gone =
        let never = λ (sure : AreChecked index.last old) (honest : IsHonest old.store).
        let (aim, is_aim, region, gives, sooner) = crossed on stuck (h.stays sure) in
        not_crossed index old.store (Meeting boxes) after from region (Some from, from_there sure, (refl, aim, is_aim, gives)) honest sooner in
        record {
          met = tt;
          forgotten = gone;
          effect = refused_after (Option Key) T (IsSought index old.store (Meeting boxes) after) index old new last on index.root OutOfRegion
              (record { same = h.effect.same; checked = h.effect.checked; more = h.effect.more; faults = λ sure. tt }) same others gone (λ sure honest. absurd (never sure honest));
        }
      where
        crossed : (on : Option Key) → ¬ (IfSome on (IsBefore from)) → IfSome on (λ k. ¬ (IsBefore from k) → Crosses index old.store (Meeting boxes) from)
            → Crosses index old.store (Meeting boxes) from
        crossed None stuck h = absurd (stuck tt)
        crossed (Some k) stuck h = h stuck

    pub next_crossed : {T : Type 0} (last : PagerView) (on : Option Key) → HandsLeaf Takes index (Meeting boxes) from before now old new (Ok on) → ¬ (IfSome on (IsBefore from))
        → last ≡ record new { cached = last.cached } → (root : ℕ) → root ≡ index.root → NoneMoreBut root new.cached last.cached → page_at last.cached root ≡ None
        → HandsNext {A = T} Takes index boxes after before now old last (Err (Page root OutOfRegion))
    next_crossed {T} last on h stuck same root is =
        subst (λ (n : ℕ). NoneMoreBut n new.cached last.cached → page_at last.cached n ≡ None → HandsNext {A = T} Takes index boxes after before now old last (Err (Page n OutOfRegion))) (sym is)
        (own_crossed last on h stuck same)
