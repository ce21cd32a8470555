-- What stands ahead of a walk: the regions that it comes to next.
use Rattle.std.proofs.Common.{◌≡◌, ◌∙◌, ◌++◌, ◌∷◌, [], suc, List, Option, Some, None, IfSome, ap, arith, drop, length, option_to_list, refl, subst, sym}
use Rattle.ub_bigmin.specs.Box.{Corners}
use Rattle.ub_exec.specs.Reading.{StandAhead}
use Rattle.ub_tree.proofs.Laws.{IsTraced, traced_gives, traced_told}
use Rattle.ub_tree.specs.Handing.{AreNext}
use Rattle.ub_tree.specs.Spans.{Region}
use Rattle.ub_tree.specs.Told.{AreFirst, GivesNext, IsRegionOf}
use Rattle.ub_tree.specs.View.{TreeView}

-- where nothing is taken from the front nothing stands there
pub none_taken : (old new : List Region) → old ≡ new → new ≡ drop 1 old → old ≡ []
none_taken [] new same dropped = refl
none_taken (x ∷ xs) new same dropped =
    let less : suc (length xs) ≡ length xs = ap (λ (l : List Region). length l) (same ∙ dropped) in
    let never : ⊥ = omega arith in
    absurd never

-- and nothing is left
pub none_left : (old new : List Region) (found : Option Region) → ((x : Region) → found ≡ Some x → ⊥) → old ≡ option_to_list found ++ new → new ≡ drop 1 old → new ≡ []
none_left old new None none same dropped = sym same ∙ none_taken old new same dropped
none_left old new (Some x) none same dropped = absurd (none x refl)

module _ (boxes : List Corners) (t : TreeView) (after : Option Region) where
  -- the first one is what the tree gives next, and the others stand ahead of it
  pub first_ahead : (left : List Region) (found : Region) (rest : List Region) → left ≡ found ∷ rest → StandAhead boxes t after left
      → GivesNext boxes t after (Some found) × StandAhead boxes t (Some found) rest
  first_ahead left found rest same (last, first) =
      let (next, others) = subst (λ (l : List Region). AreFirst boxes t after l last) same first in
      (next, (last, others))

  -- so it is of those that one leaf names
  pub next_taken : (left : List Region) (found : Option Region) (rest : List Region) → left ≡ option_to_list found ++ rest → rest ≡ drop 1 left → AreNext boxes t after left
      → GivesNext boxes t after found × IfSome found (λ span. StandAhead boxes t (Some span) rest)
  next_taken left None rest same dropped (ahead, none) = (none (none_taken left rest same dropped), tt)
  next_taken left (Some span) rest same dropped (ahead, none) = first_ahead left span rest same ahead

  -- where none stood ahead, and these came there
  pub come_next : (before now there left : List Region) (first found : Option Region) (met : List Region) → ((x : Region) → first ≡ Some x → ⊥) → before ≡ option_to_list first ++ now
      → now ≡ drop 1 before → AreNext boxes t after met → there ≡ now ++ met → there ≡ option_to_list found ++ left → left ≡ drop 1 there
      → GivesNext boxes t after found × IfSome found (λ span. StandAhead boxes t (Some span) left)
  come_next before now there left first found met none same dropped are came popped rest =
      let is_met : there ≡ met = came ∙ ap (λ (l : List Region). l ++ met) (none_left before now first none same dropped) in
      next_taken there found left popped rest (subst (λ (l : List Region). AreNext boxes t after l) (sym is_met) are)

-- a tree is as one whose trace has grown
traced_back : (old new : TreeView) → IsTraced old new → IsTraced new old
traced_back old new traced = ap (λ (t : TreeView). record t { trace = old.trace }) (sym traced)

first_before : (boxes : List Corners) (old new : TreeView) → IsTraced old new → (after : Option Region) (left : List Region) (last : Option Region)
    → AreFirst boxes new after left last → AreFirst boxes old after left last
first_before boxes old new traced after [] last ends = ends
first_before boxes old new traced after (x ∷ left) last (next, others) = (traced_gives old new traced boxes after (Some x) next, first_before boxes old new traced (Some x) left last others)

module _ (start now : TreeView) (traced : IsTraced start now) where
  -- the tree tells of a region still
  pub told_still : (after copied : Option Region) → copied ≡ after → IfSome after (IsRegionOf start) → IfSome copied (IsRegionOf now)
  told_still after None same told = tt
  told_still None (Some span) same told = cc
  told_still (Some region) (Some span) same told =
      let alike : region ≡ span = cc in
      traced_told now start (traced_back start now traced) span (subst (IsRegionOf start) alike told)

  -- and the same ones stand ahead
  pub ahead_still : (boxes : List Corners) (after copied : Option Region) (left : List Region) → copied ≡ after → StandAhead boxes start after left → StandAhead boxes now copied left
  ahead_still boxes after copied left same (last, first) =
      subst (λ (o : Option Region). StandAhead boxes now o left) (sym same) (last, first_before boxes now start (traced_back start now traced) after left last first)

  pub ahead_before : (boxes : List Corners) (after : Option Region) (left : List Region) → StandAhead boxes now after left → StandAhead boxes start after left
  ahead_before boxes after left (last, first) = (last, first_before boxes start now traced after left last first)
