-- A journal's pages, held as changes, make the pages that it stands for.
use Rattle.std.proofs.Common.{◌≡◌, ◌≢◌, ◌<◌, ◌+◌, ℕ, zero, suc, List, [], ◌∷◌, length, take, get_or, slice_set, refl, sym, ap, ◌∙◌, arith}
use Rattle.std.proofs.lemmas.List.Elements.{recursion_from_All}
use Rattle.std.specs.List.{AllByRecursion}
use Rattle.ub_store.specs.Facts.{StoreFacts}
use Rattle.ub_journal.specs.Image.{ChangesOthers, IsComplete, IsUntouched, Journal, applied, put_all, resized}
use Rattle.ub_journal.specs.declared.journal.Change.{Change}
use Rattle.ub_overlay.specs.Changes.{change, put_change, put_each, AreBelow, Ascend}
use Rattle.ub_overlay.specs.Overlay.{overlay_view, pages_of, IsOverlay}
use Rattle.ub_overlay.proofs.OverlayFacts.{ascend_put, below_put, put_changed, untouched_before}

each_next : (ds cs : List Change) (i : ℕ) (d : Change) → i < length ds
    → put_change (change (get_or ds i d).number (get_or ds i d).page) (put_each (take i ds) cs) ≡ put_each (take (suc i) ds) cs
each_next [] cs i d within = absurd (omega (arith, within))
each_next (e ∷ ds) cs zero d within = refl
each_next (e ∷ ds) cs (suc i) d within = each_next ds (put_change (change e.number e.page) cs) i d (omega (arith, within))

pub each_more : (ds cs : List Change) (i : ℕ) (d : Change) → i < length ds
    → put_change (change (get_or ds i d).number (get_or ds i d).page) (put_each (take i ds) cs) ≡ put_each (take (i + 1) ds) cs
each_more ds cs i d within = let same : suc i ≡ i + 1 = omega arith in each_next ds cs i d within ∙ ap (λ n. put_each (take n ds) cs) same

each_put : (ds cs : List Change) (t : List (List ℕ)) → Ascend cs → (put_all (put_each ds cs) t ≡ put_all ds (put_all cs t)) × Ascend (put_each ds cs)
each_put [] cs t asc = (refl, asc)
each_put (d ∷ ds) cs t asc =
    let on = each_put ds (put_change (change d.number d.page) cs) t (ascend_put d.number d.page cs asc) in
    (on.0 ∙ ap (put_all ds) (put_changed d.number d.page cs t asc), on.1)

each_below : (count : ℕ) (ds cs : List Change) → AreBelow count ds → AreBelow count cs → AreBelow count (put_each ds cs)
each_below count [] cs new old = old
each_below count (d ∷ ds) cs new old = each_below count ds (put_change (change d.number d.page) cs) new.1 (below_put count d.number d.page cs new.0 old)

each_untouched : (ds cs : List Change) (n : ℕ) → IsUntouched (put_each ds cs) n → IsUntouched ds n × IsUntouched cs n
each_untouched [] cs n h = (tt, h)
each_untouched (d ∷ ds) cs n h =
    let on = each_untouched ds (put_change (change d.number d.page) cs) n h in
    let before = untouched_before d.number n d.page cs on.1 in
    ((before.0, on.0), before.1)

below_of : (count : ℕ) (cs : List Change) → AllByRecursion (λ c. (c.number ≢ 0) × (c.number < count)) cs → AreBelow count cs
below_of count [] all = tt
below_of count (c ∷ cs) all = (all.0.1, below_of count cs all.1)

module _ {S : Type 0} (store : S) (facts : StoreFacts) (j : Journal) where
  pub through_is : 0 < j.count → ChangesOthers j → IsComplete j facts.pages → IsOverlay (overlay_view store facts (put_change (change 0 j.head) (put_each j.changes [])) j.count 0)
  through_is some others complete =
      let within = below_of j.count j.changes (recursion_from_All (λ c. (c.number ≢ 0) × (c.number < j.count)) j.changes others) in
      record {
        ascend = ascend_put 0 j.head (put_each j.changes []) (each_put j.changes [] facts.pages tt).1;
        within = below_put j.count 0 j.head (put_each j.changes []) some (each_below j.count j.changes [] within tt);
        some = λ _. some;
        added = λ n past less h.
            let before = untouched_before 0 n j.head (put_each j.changes []) h in
            let there = complete n less (λ e. before.0 (sym e)) (each_untouched j.changes [] n before.1).0 in
            omega (arith, there, past);
      }

  pub through_pages : pages_of (overlay_view store facts (put_change (change 0 j.head) (put_each j.changes [])) j.count 0) ≡ applied j facts.pages
  through_pages =
      let each = each_put j.changes [] (resized j.count facts.pages) tt in
      put_changed 0 j.head (put_each j.changes []) (resized j.count facts.pages) each.1 ∙ ap (λ t. slice_set t 0 j.head) each.0
