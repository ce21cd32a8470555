-- What becomes of a store's pages where it grows, and where sheets are put.
use Rattle.std.specs.Prelude.{IsTrue}
use Rattle.std.proofs.Common.{Result, Ok, Err, None, option_map, ◌⊎◌, ◌≡◌, ◌≢◌, ◌≤◌, ◌<◌, ◌+◌, inl, inr, ℕ, zero, suc, List, [], ◌∷◌, Some, take, ◌∙◌, sym, ap, subst, refl, arith, slice_get}
use Rattle.ub_index_change.proofs.Common.{AreBelow, AreIndexPages, AreOnce, IsHonest, IsIndexPage, IsPutFault, IsUnspelled, keeps_on, KeepsChecked, page_at}
use Rattle.ub_index_change.proofs.Common.{page_count, PagerView, put_checked, put_get, PutsSheets, SameBut, SameButSheets, Sheet, Stand, StoreFacts, WritesAt}
use Rattle.std.specs.Result.{IsErrOf}
use Rattle.ub_store.specs.Facts.{MayFlush}
use Rattle.ub_store.specs.declared.fault.StoreFault.{StoreFault}
use Rattle.ub_index_change.proofs.BelowFacts.{sheet_at}
use Rattle.ub_store.specs.declared.fault.StoreFault.TheVariants as store

pub then_done : (a b d : StoreFacts) → b ≡ record a { pages = b.pages; synced = b.synced } → d ≡ record b { pages = d.pages; synced = d.synced } → d ≡ record a { pages = d.pages; synced = d.synced }
then_done a b d same more = more ∙ ap (λ (s : StoreFacts). record s { pages = d.pages; synced = d.synced }) same

-- what lasts after a call that may have synced, where what lasted before is known
flushed_but : (sheets : List Sheet) (a b d : StoreFacts) → MayFlush b d → (b.synced ≡ a.synced) ⊎ SameButSheets sheets a.pages b.synced → SameButSheets sheets a.pages d.pages
    → (d.synced ≡ a.synced) ⊎ SameButSheets sheets a.pages d.synced
flushed_but sheets a b d (inl same) (inl e) now = inl (same ∙ e)
flushed_but sheets a b d (inl same) (inr k) now = inr (subst (λ (ps : List (List ℕ)). SameButSheets sheets a.pages ps) (sym same) k)
flushed_but sheets a b d (inr same) was now = inr (subst (λ (ps : List (List ℕ)). SameButSheets sheets a.pages ps) (sym same) now)

-- one of the sheets more
pub puts_more : {A : Type 0} (r : Result A StoreFault) (sheets : List Sheet) (a b d : StoreFacts) (i : ℕ) (sheet : Sheet) → b.honest ≡ a.honest → PutsSheets sheets a b
    → slice_get sheets i ≡ Some sheet → WritesAt sheet.number sheet.page b d r → PutsSheets sheets a d
puts_more r sheets a b d i sheet honesty k at w = record {
  count = w.count ∙ k.count;
  others = others;
  lasting = λ honest. flushed_but sheets a b d w.flushed (k.lasting honest) (record { count = w.count ∙ k.count; others = others honest });
}
  where
    others : IsHonest a → (m : ℕ) → IsUnspelled m sheets → slice_get d.pages m ≡ slice_get a.pages m
    others honest m free = w.others (honesty ∙ honest) m (sheet_at (λ s. m ≢ s.number) sheets i sheet at free) ∙ k.others honest m free

stand_next : (sheets : List Sheet) (i : ℕ) (sheet : Sheet) (b d : List (List ℕ)) → AreOnce sheets → slice_get sheets i ≡ Some sheet
    → ((m : ℕ) → m ≢ sheet.number → slice_get d m ≡ slice_get b m) → slice_get d sheet.number ≡ Some sheet.page → Stand b (take i sheets) → Stand d (take (suc i) sheets)
stand_next [] i sheet b d once at others put stand = cc
stand_next (s ∷ sheets) zero sheet b d once at others put stand = let same : sheet ≡ s = cc in (subst (λ (x : Sheet). slice_get d x.number ≡ Some x.page) same put, tt)
stand_next (s ∷ sheets) (suc i) sheet b d once at others put stand =
    (others s.number (sheet_at (λ x. s.number ≢ x.number) sheets i sheet at once.0) ∙ stand.0, stand_next sheets i sheet b d once.1 at others put stand.1)

pub stands_more : (sheets : List Sheet) (i : ℕ) (sheet : Sheet) (a b d : StoreFacts) → b.honest ≡ a.honest → slice_get sheets i ≡ Some sheet → sheet.number < page_count b
    → WritesAt {A = Unit {0}} sheet.number sheet.page b d (Ok tt) → AreOnce sheets → IsHonest a → Stand b.pages (take i sheets) → Stand d.pages (take (i + 1) sheets)
stands_more sheets i sheet a b d honesty at there w once honest stand =
    let one : suc i ≡ i + 1 = omega arith in
    let pages = w.written (honesty ∙ honest) in
    subst (λ (n : ℕ). Stand d.pages (take n sheets)) one
    (stand_next sheets i sheet b.pages d.pages once at (w.others (honesty ∙ honest)) (ap (λ (ps : List (List ℕ)). slice_get ps sheet.number) pages ∙ put_get b.pages sheet.number sheet.page there) stand)

-- why one of the sheets isn't put after others
pub put_fault : (T : Type 0) (sheets : List Sheet) (i : ℕ) (sheet : Sheet) (a b : StoreFacts) (fault : StoreFault) → slice_get sheets i ≡ Some sheet → b ≡ record a { pages = b.pages; synced = b.synced }
    → page_count b ≡ page_count a → (fault ≡ store.Device) ⊎ (fault ≡ store.NoPage) → (IsErrOf {T = T} (Err fault) store.Device → IsTrue b.can_fail)
    → (IsErrOf {T = T} (Err fault) store.NoPage → page_count b ≤ sheet.number) → (count : ℕ) → AreBelow count sheets → IsPutFault count sheets a fault
put_fault T sheets i sheet a b store.Device at same pages or device missing count all = sym (ap (λ (s : StoreFacts). s.can_fail) same) ∙ device refl
put_fault T sheets i sheet a b store.NoPage at same pages or device missing count all =
    let past = missing refl in
    let below = sheet_at (λ s. s.number < count) sheets i sheet at all in
    (omega arith, i, sheet, at, subst (λ (n : ℕ). n ≤ sheet.number) pages past)
put_fault T sheets i sheet a b fault at same pages (inl e) device missing count all = cc
put_fault T sheets i sheet a b fault at same pages (inr e) device missing count all = cc

-- a page of an index that is put leaves the pages that are held checked: it is held in the place of one, or isn't
pub put_keeps : (last : ℕ) (sheets : List Sheet) (i : ℕ) (sheet : Sheet) (old mid new : PagerView) → new.store.honest ≡ mid.store.honest → slice_get sheets i ≡ Some sheet
    → AreIndexPages last sheets → KeepsChecked last old mid
    → (page_at new.cached sheet.number ≡ option_map (λ _. sheet.page) (page_at mid.cached sheet.number)) ⊎ (page_at new.cached sheet.number ≡ None)
    → SameBut sheet.number mid.cached new.cached → KeepsChecked last old new
put_keeps last sheets i sheet old mid new honest at good kept here others =
    keeps_on last old mid new kept (put_checked last sheet.number sheet.page mid new honest (sheet_at (λ s. IsIndexPage last s.page) sheets i sheet at good) here others)
