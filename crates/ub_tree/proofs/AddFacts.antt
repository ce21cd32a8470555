-- What a tree is once a region of it was parted: the store grew, both halves were put, and then what the change of the index spells.
use Rattle.std.proofs.Common.{◌≡◌, ◌<◌, ◌+◌, ◌∙◌, ℕ, suc, List, [], ◌∷◌, Some, length, map, take, drop, ap, sym, subst, refl, arith, slice_get}
use Rattle.ub_tree.proofs.Common.{added_at, AllByRecursion, AreOwnPages, ArePlaced, changed, ChangeView, common_steps, count_replaced, entries_in}
use Rattle.ub_tree.proofs.Common.{entries_under, Entry, entry_at, entry_of, foreign_regions, Grows, HasIndex, IndexView, IsCommitted, IsFilled, IsForeign}
use Rattle.ub_tree.proofs.Common.{IsHonest, IsOutside, IsRegion, IsRegionIn, IsStored, KeepsFilled, KeepsGrown, Key, made_filled, MakesIndex, own_added}
use Rattle.ub_tree.proofs.Common.{page_count, Placed, placed_in, placed_of, placed_with, PutsSheets, PutsTwo, Region, region_page, region_pages, region_parts}
use Rattle.ub_tree.proofs.Common.{Replaces, reserved, Row, Schema, Stand, StayOutside, StoreFacts, TreeView}
use Rattle.ub_tree.proofs.PutFacts.{view_placed}
use Rattle.ub_tree.proofs.SplitFacts.{after_regions, before_regions, committed, is, new_are, new_indexed, new_placed, own, page_foreign, there as there_regions}
use Rattle.ub_tree.proofs.StoredFacts.{IsTold}
use Rattle.ub_tree.proofs.TreeFacts.{length-placed}

-- a region of a stored tree is parted: its first half stands on its page, the other one on the page that the store got first
module _ (t : TreeView) (seen : t.placed ≡ placed_in t.schema t.inner.index t.store) (stored : IsStored t) (i : ℕ) (span : Region) (at : IsRegionIn t i span) (here : span.page < page_count t.store)
    (first : Key) (left right : List Row) (page other : List ℕ) (change : ChangeView) (number : ℕ) (grown filled new : StoreFacts)
    (makes : MakesIndex t.inner.index t.store (page_count t.store + 1) change (Replaces (entry_at span) (entry_at span ∷ added_at first t.store ∷ []) (entries_in t.inner.index t.store)))
    (grows : Grows t.store grown) (honest_grown : IsHonest grown) (honest_filled : IsHonest filled) (honest_new : IsHonest new)
    (number_is : number ≡ page_count t.store) (put : PutsTwo number other span.page page grown filled)
    (puts : PutsSheets change.sheets filled new) (stand : Stand new.pages change.sheets)
    (good_left : IsRegion t.schema (record { first = span.first; rows = left })) (page_is : page ≡ region_page t.schema (record { first = span.first; rows = left }))
    (good_right : IsRegion t.schema (record { first = first; rows = right })) (other_is : other ≡ region_page t.schema (record { first = first; rows = right })) where
  abbrev schema : Schema
  schema = t.schema

  abbrev index : IndexView
  index = t.inner.index

  abbrev a : StoreFacts
  a = t.store

  abbrev numbers : List ℕ
  numbers = 0 ∷ page_count a ∷ span.page ∷ []

  abbrev fs : List Entry
  fs = entry_at span ∷ added_at first a ∷ []

  abbrev news : List Placed
  news = record { page = span.page; region = record { first = span.first; rows = left } } ∷ record { page = page_count a; region = record { first = first; rows = right } } ∷ []

  viewed : t.placed ≡ placed_of schema a.pages (entries_under index a.pages)
  viewed = seen ∙ view_placed schema index a stored.honest

  others : StayOutside numbers grown.pages filled.pages
  others m out = put.others honest_grown m out.0 (λ e. out.1.0 (e ∙ number_is)) out.1.1.0

  all_foreign : AllByRecursion (IsForeign index a (page_count a + 1) change) (0 ∷ region_pages (entries_in index a)) × (page_count a < page_count a + 1 → IsForeign index a (page_count a + 1) change (page_count a))
  all_foreign =
      foreign_regions index a (is schema index a t.placed stored.honest viewed stored.indexed stored.placed_are) (own schema index a t.placed stored.honest viewed stored.indexed stored.placed_are)
      (there_regions schema index a t.placed stored.honest viewed stored.indexed stored.placed_are) (page_count a + 1) change (omega arith)

  foreign_page : IsForeign index a (page_count a + 1) change span.page
  foreign_page = page_foreign schema index a t.placed stored.honest viewed stored.indexed stored.placed_are (page_count a + 1) (omega arith) change i span at

  foreign : AllByRecursion (IsForeign index a (page_count a + 1) change) numbers
  foreign = (all_foreign.0.0, (all_foreign.1 (omega arith), (foreign_page, tt)))

  made : IsCommitted index a (page_count a + 1) change (entry_at span) fs filled new
  made = committed schema index a t.placed stored.honest viewed stored.indexed stored.placed_are (page_count a + 1) (omega arith) change i span at fs makes grown filled new grows honest_filled honest_new
      numbers others foreign puts stand

  told_left : IsTold schema new.pages (record { page = span.page; region = record { first = span.first; rows = left } })
  told_left = (
    made.kept span.page foreign_page ∙ (put.written_other honest_grown ∙ ap (λ (q : List ℕ). Some q) page_is),
    (region_parts schema (record { first = span.first; rows = left }) (region_page schema (record { first = span.first; rows = left })) good_left refl).on,
  )

  told_right : IsTold schema new.pages (record { page = page_count a; region = record { first = first; rows = right } })
  told_right = (
    made.kept (page_count a) (all_foreign.1 (omega arith)) ∙ (ap (slice_get filled.pages) (sym number_is)
        ∙ (put.written honest_grown (λ e. omega arith) (λ e. omega arith) ∙ ap (λ (q : List ℕ). Some q) other_is)),
    (region_parts schema (record { first = first; rows = right }) (region_page schema (record { first = first; rows = right })) good_right refl).on,
  )

  before_apart : AllByRecursion (λ n. IsOutside n numbers) (region_pages (take i (entries_in index a)))
  before_apart = before_regions schema index a t.placed stored.honest viewed stored.indexed stored.placed_are (page_count a + 1) (omega arith) change i span at

  after_apart : AllByRecursion (λ n. IsOutside n numbers) (region_pages (drop (suc i) (entries_in index a)))
  after_apart = after_regions schema index a t.placed stored.honest viewed stored.indexed stored.placed_are (page_count a + 1) (omega arith) change i span at

  own_then : AreOwnPages (changed index change) new
  own_then = own_added index a (is schema index a t.placed stored.honest viewed stored.indexed stored.placed_are) (own schema index a t.placed stored.honest viewed stored.indexed stored.placed_are)
      (there_regions schema index a t.placed stored.honest viewed stored.indexed stored.placed_are) change (entry_at span) first filled new made

  new_is : placed_in schema (changed index change) new ≡ placed_with i news t.placed
  new_is = view_placed schema (changed index change) new honest_new
      ∙ new_placed schema index a t.placed stored.honest viewed stored.indexed stored.placed_are (page_count a + 1) (omega arith) change i span at fs makes grown filled new grows honest_filled honest_new
      numbers others foreign puts stand before_apart after_apart news (told_left, (told_right, tt)) refl own_then

  long : t.inner.count + 1 ≡ length (placed_with i news t.placed)
  long = grind (arith, common_steps, count_replaced, length-placed, made, new_is, view_placed, viewed)

  -- the tree then, if it stands on that store, with the index that the change tells; and where rows were only put in before, that is so still
  pub parts_stored : KeepsFilled index a change → (d : TreeView) → d.placed ≡ placed_in d.schema d.inner.index d.store → d.schema ≡ t.schema → d.inner.index ≡ changed t.inner.index change → d.inner.count ≡ t.inner.count + 1
      → d.is_failed ≡ t.is_failed → d.store ≡ new → IsStored d × (d.placed ≡ placed_with i news t.placed) × KeepsGrown t d
  parts_stored fills d seen_d schema_is index_is count_is works store_is =
      let placed_is : d.placed ≡ placed_with i news t.placed =
      seen_d ∙ (ap (λ (s : Schema). placed_in s d.inner.index d.store) schema_is ∙ (ap (λ (x : IndexView). placed_in t.schema x d.store) index_is
      ∙ (ap (λ (s : StoreFacts). placed_in t.schema (changed t.inner.index change) s) store_is ∙ new_is))) in (
        record {
          working = works ∙ stored.working;
          honest = subst IsHonest (sym store_is) honest_new;
          indexed = subst (λ (ps : List Placed). HasIndex d.inner.index d.store.pages (map entry_of ps)) (sym placed_is)
              (subst (λ (x : IndexView). HasIndex x d.store.pages (map entry_of (placed_with i news t.placed))) (sym index_is)
              (subst (λ (s : StoreFacts). HasIndex (changed t.inner.index change) s.pages (map entry_of (placed_with i news t.placed))) (sym store_is)
              (new_indexed schema index a t.placed stored.honest viewed stored.indexed stored.placed_are (page_count a + 1) (omega arith) change i span at fs makes grown filled new grows honest_filled honest_new
              numbers others foreign puts stand before_apart after_apart news (told_left, (told_right, tt)) refl own_then)));
          placed_are = subst (λ (ps : List Placed). ArePlaced d.schema ps (reserved d.inner.index d.store.pages) d.store.pages) (sym placed_is)
              (subst (λ (s : Schema). ArePlaced s (placed_with i news t.placed) (reserved d.inner.index d.store.pages) d.store.pages) (sym schema_is)
              (subst (λ (x : IndexView). ArePlaced t.schema (placed_with i news t.placed) (reserved x d.store.pages) d.store.pages) (sym index_is)
              (subst (λ (s : StoreFacts). ArePlaced t.schema (placed_with i news t.placed) (reserved (changed t.inner.index change) s.pages) s.pages) (sym store_is)
              (new_are schema index a t.placed stored.honest viewed stored.indexed stored.placed_are (page_count a + 1) (omega arith) change i span at fs makes grown filled new grows honest_filled honest_new
              numbers others foreign puts stand before_apart after_apart news (told_left, (told_right, tt)) refl own_then))));
          count_is = count_is ∙ (long ∙ ap length (sym placed_is));
        },
        placed_is,
        λ was. subst (λ (x : IndexView). IsFilled x d.store.pages) (sym index_is) (subst (λ (s : StoreFacts). IsFilled (changed index change) s.pages) (sym store_is)
            (made_filled index a grown filled new (page_count a + 1) change (entry_at span) fs numbers (is schema index a t.placed stored.honest viewed stored.indexed stored.placed_are)
            makes grows others foreign honest_filled honest_new puts stand fills was)),
      )
