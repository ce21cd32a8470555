-- A change that is made: the store grows, the regions' pages are put, and then those that are spelled.
use Rattle.std.proofs.Common.{◌≡◌, ◌<◌, ◌∙◌, ℕ, List, None, slice_get}
use Rattle.ub_index_change.proofs.Common.{all_both, all_more, AllByRecursion, apart_swap, changed, ChangeView, entries_in, Entry, Grows, IndexView, IsCommitted}
use Rattle.ub_index_change.proofs.Common.{IsFilled, IsForeign, IsHonest, IsIndexOn, IsIndexThen, IsOutside, IsUnspelled, KeepsFilled, MakesIndex, page_count}
use Rattle.ub_index_change.proofs.Common.{pages_of_index, PutsSheets, Replaces, Sheet, Stand, StandApart, StayBut, StayOutside, StoreFacts, top, within_store}

-- pages that there were stay, but for those that are spelled, where none of them is put in between
stays : (old grown filled new : StoreFacts) (sheets : List Sheet) (numbers ns : List ℕ) → IsHonest old → IsHonest filled → Grows old grown
    → StayOutside numbers grown.pages filled.pages → PutsSheets sheets filled new → AllByRecursion (λ n. IsOutside n numbers) ns → AllByRecursion (λ n. n < page_count old) ns
    → StayBut old.pages new.pages sheets ns
stays old grown filled new sheets numbers ns honest good grows others puts apart less =
    all_both (λ n. IsOutside n numbers) (λ n. n < page_count old) (λ n. IsUnspelled n sheets → slice_get new.pages n ≡ slice_get old.pages n)
    (λ n away near free. puts.others good n free ∙ (others n away ∙ grows.kept honest n near)) ns apart less

pub made : (index : IndexView) (old grown filled new : StoreFacts) (from : ℕ) (change : ChangeView) (f : Entry) (fs : List Entry) (numbers : List ℕ) → IsIndexOn index old
    → MakesIndex index old from change (Replaces f fs (entries_in index old)) → Grows old grown → StayOutside numbers grown.pages filled.pages
    → AllByRecursion (IsForeign index old from change) numbers → IsHonest filled → IsHonest new → PutsSheets change.sheets filled new → Stand new.pages change.sheets
    → IsCommitted index old from change f fs filled new
made index old grown filled new from change f fs numbers is makes grows others foreign honest honest_new puts stand =
    let apart : StandApart numbers (pages_of_index index old) =
    all_more (IsForeign index old from change) (λ n. IsOutside n (pages_of_index index old)) (λ n h. h.1) numbers foreign in
    let stay : StayBut old.pages new.pages change.sheets (pages_of_index index old) =
    stays old grown filled new change.sheets numbers (pages_of_index index old) is.honest honest grows others puts (apart_swap numbers (pages_of_index index old) apart)
    (within_store index.last old.pages index.levels (top index.root) None is.under_it) in
    let done : IsIndexThen index.last new.pages change.root change.levels (Replaces f fs (entries_in index old)) = makes.makes new.pages stand stay in
    record {
      is = record { honest = honest_new; some = done.low; under_it = done.under_it };
      reached = done.reached;
      entries_are = done.entries_are;
      no_other = makes.no_other new.pages stand stay;
      kept = λ n h. puts.others honest n (makes.own n h);
    }

-- and an index that it keeps filled is filled then
pub made_filled : (index : IndexView) (old grown filled new : StoreFacts) (from : ℕ) (change : ChangeView) (f : Entry) (fs : List Entry) (numbers : List ℕ) → IsIndexOn index old
    → MakesIndex index old from change (Replaces f fs (entries_in index old)) → Grows old grown → StayOutside numbers grown.pages filled.pages
    → AllByRecursion (IsForeign index old from change) numbers → IsHonest filled → IsHonest new → PutsSheets change.sheets filled new → Stand new.pages change.sheets
    → KeepsFilled index old change → IsFilled index old.pages → IsFilled (changed index change) new.pages
made_filled index old grown filled new from change f fs numbers is makes grows others foreign honest honest_new puts stand keeps was =
    let apart : StandApart numbers (pages_of_index index old) =
    all_more (IsForeign index old from change) (λ n. IsOutside n (pages_of_index index old)) (λ n h. h.1) numbers foreign in
    let stay : StayBut old.pages new.pages change.sheets (pages_of_index index old) =
    stays old grown filled new change.sheets numbers (pages_of_index index old) is.honest honest grows others puts (apart_swap numbers (pages_of_index index old) apart)
    (within_store index.last old.pages index.levels (top index.root) None is.under_it) in
    keeps new.pages stand stay was
