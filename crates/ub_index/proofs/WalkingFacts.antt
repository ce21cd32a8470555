-- What is given along a leaf of an index is given one after the other.
use Rattle.std.proofs.Common.{◌≡◌, ◌∷◌, [], ℕ, List, Option, Some, None, IfSome, ◌∙◌, ap, subst, refl}
use Rattle.ub_index.proofs.Common.{AreGivenFirst, entry_at, Gives, GivesAfter, GivesAlong, index_view, IndexView, IsBefore, IsFrom, Key, le_before}
use Rattle.ub_index.proofs.Common.{not_before_self, Region, StoreFacts, top}
use Rattle.ub_index.proofs.BehindFacts.{is_later}
use Rattle.ub_index.proofs.LeadFacts.{held_way}
use Rattle.ub_index.proofs.WayFacts.{not_true}

-- an index, by what its calls tell of it
pub view_so : (v : IndexView) (root : ℕ × ℕ) (last : ℕ) → root ≡ (v.root, v.levels) → last ≡ v.last → index_view root.0 root.1 last ≡ v
view_so v root last e f = ap (λ (p : ℕ × ℕ). index_view p.0 p.1 last) e ∙ ap (λ (n : ℕ). index_view v.root v.levels n) f

-- what is given for a key is given for its own first key
pub gives_own : (index : IndexView) (store : StoreFacts) (key : Key) (region : Region) → Gives index store key region → Gives index store region.first region
gives_own index store key region h = record {
  holds = record { from = not_before_self region.first; to = own region.next h.holds.to };
  from = h.from;
  to = h.to;
  way = λ honest.
      held_way index.last store.pages key region.first index.levels (top index.root) None (entry_at region) region.next (h.way honest)
      (record { from = not_before_self region.first; to = own region.next h.holds.to });
}
  where
    own : (next : Option Key) → IfSome next (IsBefore key) → IfSome next (IsBefore region.first)
    own None before = tt
    own (Some next) before = le_before region.first key next h.holds.from before

-- after a region the search goes on from this key, or gives none
abbrev pub IsLeftAt : IndexView → StoreFacts → (Key → Option ℕ → Type 0) → Option Region → Option Key → Type 0
IsLeftAt index store To after None = GivesAfter index store To after None
IsLeftAt index store To after (Some key) = IsFrom index store after (Some key)

module _ (index : IndexView) (store : StoreFacts) (To : Key → Option ℕ → Type 0) where
  -- what is given along a leaf is given one after the other
  pub given_along : (after : Option Region) (from : Option Key) (regions : List Region) (on : Option Key) → IsFrom index store after from → GivesAlong index store To from regions on
      → (last : Option Region) × AreGivenFirst index store To after regions last × IsLeftAt index store To last on
  given_along after from [] None is gives = (after, refl, (from, is, gives))
  given_along after from [] (Some on) is gives = (after, refl, subst (λ (o : Option Key). IsFrom index store after o) gives is)
  given_along after None (region ∷ more) on is (one, rest) = absurd one.given
  given_along after (Some key) (region ∷ more) on is (one, rest) =
      let (aim, is_aim, given) = one.given in
      let (last, first, left) = given_along (Some region) region.next more on (region, gives_own index store aim region given, refl) rest in (
        last,
        (
          record {
            given = (Some key, is, one.given);
            later = is_later index store To after key region (Some key, is, (refl, aim, is_aim, given)) (not_true region.first key one.begins);
            small = one.small;
          },
          first,
        ),
        left,
      )
