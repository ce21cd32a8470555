-- What becomes of an index where its pages stay, and what stands on pages that tell given entries.
use Rattle.std.proofs.Common.{rules, ◌≡◌, ℕ, zero, suc, List, [], ◌∷◌, Option, slice_get, ◌∙◌, sym, ap, subst, refl}
use Rattle.std.specs.List.{flat_map}
use Rattle.ub_region.specs.declared.entry.Entry.{Entry}
use Rattle.ub_table.specs.declared.row.Key.{Key}
use Rattle.ub_index.specs.Standing.{PagesStay}
use Rattle.ub_index.specs.Index.{IsTold, entries_of, page_in, AscendTo, EachTo, NamesFitting, IsUnder, under, pages_under}
use Rattle.ub_index.proofs.Lists.{IsNotBefore, ascend_later, each_later, each_same, same_each}

-- a page that is as it was is the one that it was
pub same_page : (old new : List (List ℕ)) (n : ℕ) → slice_get new n ≡ slice_get old n → page_in new n ≡ page_in old n
same_page [] [] n h = refl
same_page [] (q ∷ new) (suc n) h = same_page [] new n h
same_page (p ∷ old) [] (suc n) h = same_page old [] n h
same_page (p ∷ old) (q ∷ new) (suc n) h = same_page old new n h
same_page old new n h = cc

pub same_entries : (old new : List (List ℕ)) (n : ℕ) → slice_get new n ≡ slice_get old n → entries_of new n ≡ entries_of old n
same_entries old new n h = ap (λ (page : List ℕ). entries_of (page ∷ []) 0) (same_page old new n h)

pub kept_under : (old new : List (List ℕ)) (level : ℕ) (entry : Entry) → PagesStay old new (pages_under old level entry) → under new level entry ≡ under old level entry
kept_under old new zero entry h = refl
kept_under old new (suc level) entry h =
    ap (λ (entries : List Entry). flat_map (under new level) entries) (same_entries old new entry.page h.0)
    ∙ same_each (λ n. slice_get new n ≡ slice_get old n) (pages_under old level) (under new level) (under old level) (kept_under old new level) (entries_of old entry.page) h.1

pub kept_list : (old new : List (List ℕ)) (level : ℕ) (entries : List Entry) → PagesStay old new (flat_map (pages_under old level) entries)
    → flat_map (under new level) entries ≡ flat_map (under old level) entries
kept_list old new level entries h =
    same_each (λ n. slice_get new n ≡ slice_get old n) (pages_under old level) (under new level) (under old level) (kept_under old new level) entries h

pub kept_named : (last : ℕ) (old new : List (List ℕ)) (level : ℕ) (entry : Entry) (end : Option Key) → slice_get new entry.page ≡ slice_get old entry.page
    → NamesFitting last old level entry end → NamesFitting last new level entry end
kept_named last old new level entry end same h = search (rules, same_page)

pub kept_index : (last : ℕ) (old new : List (List ℕ)) (level : ℕ) (entry : Entry) (end : Option Key) → PagesStay old new (pages_under old level entry) → IsUnder last old level entry end
    → IsUnder last new level entry end
kept_index last old new zero entry end h k = tt
kept_index last old new (suc level) entry end h k = (
  kept_named last old new (suc level) entry end h.0 k.0,
  subst (λ (entries : List Entry). EachTo (IsUnder last new level) entries end) (sym (same_entries old new entry.page h.0))
      (each_same (λ n. slice_get new n ≡ slice_get old n) (pages_under old level) (IsUnder last old level) (IsUnder last new level) (kept_index last old new level)
      (entries_of old entry.page) end h.1 k.1),
)

pub under_later : (last : ℕ) (pages : List (List ℕ)) (level : ℕ) (entry : Entry) (end later : Option Key) → IsUnder last pages level entry end → IsNotBefore end later
    → IsUnder last pages level entry later
under_later last pages zero entry end later h k = tt
under_later last pages (suc level) entry end later h k = (
  record {
    there = h.0.there;
    fits = record {
      is = h.0.fits.is;
      level_is = h.0.fits.level_is;
      begins = h.0.fits.begins;
      ascends = ascend_later (entries_of pages entry.page) end later h.0.fits.ascends k;
    };
  },
  each_later (IsUnder last pages level) (under_later last pages level) (entries_of pages entry.page) end later h.1 k,
)

-- a page that tells these entries fits the entry that names it
pub told_named : (last : ℕ) (pages : List (List ℕ)) (level : ℕ) (entries : List Entry) (entry : Entry) (end : Option Key) → IsTold last pages level entries entry → AscendTo entries end
    → NamesFitting last pages level entry end
told_named last pages level entries entry end h up = search rules

pub told_index : (last : ℕ) (pages : List (List ℕ)) (level : ℕ) (entries : List Entry) (entry : Entry) (end : Option Key) → IsTold last pages (suc level) entries entry → AscendTo entries end
    → EachTo (IsUnder last pages level) entries end → IsUnder last pages (suc level) entry end
told_index last pages level entries entry end h up each =
    (told_named last pages (suc level) entries entry end h up, subst (λ (xs : List Entry). EachTo (IsUnder last pages level) xs end) (sym h.entries_are) each)
