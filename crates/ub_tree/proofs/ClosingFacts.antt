-- What a tree is once it was closed.
use Rattle.std.proofs.Common.{rules, ◌≡◌, ◌≢◌, ◌∙◌, ◌++◌, ℕ, false, List, [], ◌∷◌, map, sym, ap, subst, refl}
use Rattle.ub_tree.proofs.Common.{All-from_recursion, all_left, all_right, AllByRecursion, ArePlaced, AreSoundPages, distinct_first, entry_of, HasIndex}
use Rattle.ub_tree.proofs.Common.{index_of, index_view, IndexView, IsClosed, IsHonest, IsSound, kept_index, kept_pages, kept_under, page_count, pages_under}
use Rattle.ub_tree.proofs.Common.{PagesStay, Placed, recursion_from_All, reserved, StoreFacts, top, TreeView}
use Rattle.ub_tree.proofs.StoredFacts.{IsSpelled}
use Rattle.ub_tree.specs.Closing.{header_of}

-- a tree that wasn't changed has the pages of a closed table
pub unchanged_pages : (t : TreeView) (new : StoreFacts) → new ≡ t.store → t.is_changed ≡ false → IsSound t → IsHonest new × AreSoundPages new.pages t.schema t.placed t.next
unchanged_pages t new same unwritten sound = subst (λ (s : StoreFacts). IsHonest s × AreSoundPages s.pages t.schema t.placed t.next) (sym same) (sound.honest, sound.closed unwritten)

-- and so has one that was written
module _ (t : TreeView) (new : StoreFacts) (honest : new.honest ≡ t.store.honest) (count : page_count new ≡ page_count t.store)
    (closed : IsClosed (header_of t) t.store new) (sound : IsSound t) where
  abbrev index : IndexView
  index = t.inner.index

  abbrev pages : List (List ℕ)
  pages = t.store.pages

  abbrev chain : List ℕ
  chain = pages_under pages index.levels (top index.root)

  abbrev numbers : List ℕ
  numbers = map (λ (p : Placed). p.page) t.placed

  not_first : AllByRecursion (λ n. 0 ≢ n) (chain ++ numbers)
  not_first = distinct_first 0 (chain ++ numbers) sound.placed_are.own

  each_stays : (ns : List ℕ) → AllByRecursion (λ n. 0 ≢ n) ns → PagesStay pages new.pages ns
  each_stays [] h = tt
  each_stays (n ∷ ns) h = (closed.kept n (λ e. h.0 (sym e)), each_stays ns h.1)

  stay : PagesStay pages new.pages chain
  stay = each_stays chain (all_left (λ n. 0 ≢ n) chain numbers not_first)

  each_spelled : (ps : List Placed) → AllByRecursion (λ n. 0 ≢ n) (map (λ (p : Placed). p.page) ps) → AllByRecursion (IsSpelled t.schema pages) ps → AllByRecursion (IsSpelled t.schema new.pages) ps
  each_spelled [] h spelled = tt
  each_spelled (p ∷ ps) h spelled = (closed.kept p.page (λ e. h.0 (sym e)) ∙ spelled.0, each_spelled ps h.1 spelled.1)

  same_reserved : reserved index new.pages ≡ reserved index pages
  same_reserved = ap (λ (ns : List ℕ). 0 ∷ ns) (kept_pages pages new.pages index.levels (top index.root) stay)

  indexed : HasIndex index new.pages (map entry_of t.placed)
  indexed = search (rules, kept_index, kept_under, stay)

  placed_are : ArePlaced t.schema t.placed (reserved index new.pages) new.pages
  placed_are = search (rules, All-from_recursion, IsSpelled, all_right, each_spelled, not_first, recursion_from_All, same_reserved)

  index_is : index_of (header_of t) ≡ index
  index_is = ap (λ (last : ℕ). index_view index.root index.levels last) (sym sound.last_is)

  pub sound_pages : IsHonest new × AreSoundPages new.pages t.schema t.placed t.next
  sound_pages = (
    honest ∙ sound.honest,
    record {
      header = header_of t;
      spelled = closed.spelled;
      in_range = closed.in_range;
      clean = refl;
      schema_is = refl;
      next_is = refl;
      rows_are = sound.rows_are;
      regions_are = sound.count_is;
      indexed = subst (λ (i : IndexView). HasIndex i new.pages (map entry_of t.placed)) (sym index_is) indexed;
      well_formed = sound.regions_are;
      placed_are = subst (λ (i : IndexView). ArePlaced t.schema t.placed (reserved i new.pages) new.pages) (sym index_is) placed_are;
    },
  )

-- a sound tree's store has a first page
pub sound_some : (t : TreeView) → IsSound t → page_count t.store ≢ 0
sound_some t h = search rules
