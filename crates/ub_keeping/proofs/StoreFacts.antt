-- The pages of a place's table as a store.
use Rattle.std.proofs.Common.{◌≡◌, Bool, true, false, IsTrue, ℕ, List, refl, ◌≢◌, ◌<◌, ◌≤◌, ◌∙◌, [], ◌∷◌, Some, length, slice_get, ap, arith, sym, subst}
use Rattle.std.proofs.lemmas.Bool.{false≢true, true≢false}
use Rattle.std.proofs.lemmas.List.{length-replicate}
use Rattle.ub_store.specs.Facts.{StoreFacts, raised}
use Rattle.ub_journal.specs.Image.{Image, IsComplete, Journal, put_all, resized}
use Rattle.ub_journal.specs.Place.{IsHonest, PlaceFacts}
use Rattle.ub_journal.proofs.Applied.{sized_already}
use Rattle.ub_keeping.specs.Store.{PlaceView, facts_of_view, store_facts, table_pages}
use Rattle.ub_keeping.specs.inner.Fitting.{LeaveFirst}
use Rattle.ub_overlay.specs.Overlay.{OverlayView, pages_of}
use Rattle.ub_journal.specs.declared.journal.Change.{Change}

-- those of an honest place are those of its table
pub pages_honest : (honest : Bool) (count : ℕ) (table : List (List ℕ)) → IsTrue honest → table_pages honest count table ≡ table
pages_honest true count table is = refl
pages_honest false count table is = absurd (false≢true is)

no_changes : {A : Type 0} (xs : List A) → ¬ (xs ≢ []) → xs ≡ []
no_changes [] none = refl
no_changes (x ∷ xs) none = absurd (none (λ e. let wrong = e in cc))

-- the pages of an overlay with no change are those of its table
pub held_of : {S : Type 0} (v : OverlayView S) (facts : PlaceFacts) (count reads writes n : ℕ) → v.below ≡ store_facts facts count reads writes → ¬ (v.changes ≢ []) → n ≡ v.count → n ≡ length facts.seen.table
    → IsHonest facts → facts.seen.table ≡ pages_of v
held_of v facts count reads writes n below none is long honest =
    let same : v.below.pages ≡ facts.seen.table = ap (λ (f : StoreFacts). f.pages) below ∙ pages_honest facts.honest count facts.seen.table honest in
    let sized : resized v.count v.below.pages ≡ facts.seen.table = ap (λ (t : List (List ℕ)). resized v.count t) same ∙ sized_already v.count facts.seen.table (sym long ∙ is) in
    sym (ap (λ (cs : List Change). put_all cs (resized v.count v.below.pages)) (no_changes v.changes none) ∙ sized)

-- the pages of a place's table, as a store
pub table_count : (honest : Bool) (count : ℕ) (table : List (List ℕ)) → (IsTrue honest → count ≡ length table) → length (table_pages honest count table) ≡ count
table_count true count table is = sym (is refl)
table_count false count table is = length-replicate count []

pub whole_through : (j : Journal) (honest : Bool) (count : ℕ) (table : List (List ℕ)) → LeaveFirst count j.count j.changes → (IsTrue honest → count ≡ length table) → IsComplete j (table_pages honest count table)
whole_through j honest count table leave is = subst (λ (n : ℕ). LeaveFirst n j.count j.changes) (sym (table_count honest count table is)) leave

-- a read of the store changes nothing but a count
abbrev facts_with : Bool → List (List ℕ) → ℕ → ℕ → StoreFacts
facts_with honest pages reads writes = record { honest = honest; can_fail = true; pages = pages; synced = pages; failed_reads = reads; failed_writes = writes }

pages_same : (h k : Bool) (count : ℕ) (t u : List (List ℕ)) → h ≡ k → (IsTrue k → t ≡ u) → table_pages h count t ≡ table_pages k count u
pages_same true true count t u same of = of refl
pages_same false false count t u same of = refl
pages_same true false count t u same of = absurd (true≢false same)
pages_same false true count t u same of = absurd (false≢true same)

pub read_store : (a b : PlaceFacts) (count reads more raise writes : ℕ) → b.honest ≡ a.honest → (IsHonest a → b.seen ≡ a.seen) → more ≡ raise
    → store_facts b count more writes ≡ record (store_facts a count reads writes) { failed_reads = raise }
read_store a b count reads more raise writes same seen is =
    ap (λ (h : Bool). facts_with h (table_pages b.honest count b.seen.table) more writes) same
    ∙ ap (λ (p : List (List ℕ)). facts_with a.honest p more writes) (pages_same b.honest a.honest count b.seen.table a.seen.table same (λ honest. ap (λ (i : Image). i.table) (seen honest)))
    ∙ ap (λ (n : ℕ). facts_with a.honest (table_pages a.honest count a.seen.table) n writes) is

pub read_view : {P : Type 0} (facts : P → PlaceFacts) (v u : PlaceView P) → u ≡ record v { place = u.place } → (facts u.place).honest ≡ (facts v.place).honest
    → (IsHonest (facts v.place) → (facts u.place).seen ≡ (facts v.place).seen) → facts_of_view facts u ≡ record (facts_of_view facts v) { failed_reads = v.reads }
read_view facts v u same honest seen =
    ap (λ (w : PlaceView _). facts_of_view facts w) same ∙ read_store (facts v.place) (facts u.place) v.count v.reads v.reads v.reads v.writes honest seen refl

-- and a read that failed is counted
pub failed_view : {P : Type 0} (facts : P → PlaceFacts) (v u w : PlaceView P) (more : ℕ) → w ≡ u → u ≡ record v { place = u.place } → more ≡ raised w.reads 1
    → (facts u.place).honest ≡ (facts v.place).honest → (IsHonest (facts v.place) → (facts u.place).seen ≡ (facts v.place).seen)
    → store_facts (facts w.place) w.count more w.writes ≡ record (facts_of_view facts v) { failed_reads = raised v.reads 1 }
failed_view facts v u w more is same counted honest seen =
    ap (λ (n : ℕ). store_facts (facts w.place) w.count n w.writes) counted
    ∙ ap (λ (x : PlaceView _). store_facts (facts x.place) x.count (raised x.reads 1) x.writes) (is ∙ same)
    ∙ read_store (facts v.place) (facts u.place) v.count v.reads (raised v.reads 1) (raised v.reads 1) v.writes honest seen refl

pub within_count : (honest : Bool) (count n : ℕ) (table : List (List ℕ)) → (IsTrue honest → count ≡ length table) → n < count → length (table_pages honest count table) ≤ n → ⊥
within_count honest count n table is less past = let many = table_count honest count table is in omega (arith, many, less, past)

pub past_count : (honest : Bool) (count n : ℕ) (table : List (List ℕ)) → (IsTrue honest → count ≡ length table) → count ≤ n → length (table_pages honest count table) ≤ n
past_count honest count n table is past = let many = table_count honest count table is in omega (arith, many, past)

pub page_of : (honest : Bool) (count n : ℕ) (table : List (List ℕ)) (page : List ℕ) → (IsTrue honest → slice_get table n ≡ Some page) → IsTrue honest → slice_get (table_pages honest count table) n ≡ Some page
page_of true count n table page at is = at is
page_of false count n table page at is = absurd (false≢true is)

pub write_store : (a : PlaceFacts) (count reads writes more raise : ℕ) → more ≡ raise → store_facts a count reads more ≡ record (store_facts a count reads writes) { failed_writes = raise }
write_store a count reads writes more raise is = ap (λ (n : ℕ). facts_with a.honest (table_pages a.honest count a.seen.table) reads n) is
