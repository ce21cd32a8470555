-- What a call leaves that calls others: a search, a refusal or a write, as a change.
use Rattle.std.proofs.Common.{rules, ◌≡◌, ◌≢◌, ◌<◌, ◌∙◌, ◌++◌, inl, inr, ◌⊎◌, ℕ, true, List, [], ◌∷◌, Ok, Err, Result, IfErr, OnOk, arith, sym, subst, refl}
use Rattle.ub_tree.proofs.Common.{all_left, all_right, AreOthersKept, Changes, ChangesOf, Failed as HasFailed, Full, HasEnded, HasMark, HasNumber, HasStopped}
use Rattle.ub_tree.proofs.Common.{IsErrAnd, IsHonest, IsLeft, IsLeftOf, IsMarkedFirst, IsOutside, IsRegionOf, IsSound, IsStored, IsUnspelled, IsWriteFault}
use Rattle.ub_tree.proofs.Common.{KeepsMark, KeepsOthers, Leaves, MakesReady, Memory, next_free, Page, page_count, PutsSheets, read_store, Region, regions}
use Rattle.ub_tree.proofs.Common.{SameButSheets, Schema, Searches, Sheet, Store, StoreFacts, TreeFault, TreeView, Works, Writes, WritesIndex, WritesOneRegion}
use Rattle.ub_tree.proofs.Common.{WritesPage, written_store}
use Rattle.ub_store.specs.declared.fault.StoreFault.TheVariants as store

-- a sound tree is stored
pub sound_stored : (t : TreeView) → IsSound t → IsStored t
sound_stored t sound = record { working = sound.working; honest = sound.honest; indexed = sound.indexed; placed_are = sound.placed_are; count_is = sound.count_is }

-- of a sound tree, which has its mark where it is changed, the first page marks the table
pub marked_sound : {a b : TreeView} → IsMarkedFirst a b → IsSound a → b.is_changed ≡ true → HasMark a.schema b.store.pages
marked_sound h sound = h.marked sound.honest sound.marked

-- the mark after one call and another one
pub mark_then : (a b c : TreeView) → (IsHonest a.store → IsHonest b.store) → b.schema ≡ a.schema → KeepsMark a b → KeepsMark b c → KeepsMark a c
mark_then a b c honest schema first second is had changed =
    subst (λ (s : Schema). HasMark s c.store.pages) schema
    (second (honest is) (λ was. subst (λ (s : Schema). HasMark s b.store.pages) (sym schema) (first is had was)) changed)

-- the mark of a tree that is as it was
same_marked : (a : TreeView) → IsMarkedFirst a a
same_marked a = record { kept = λ honest unmarked m first lt. refl; marked = λ honest had e. had e }

pub same_leaves : (a : TreeView) → Leaves a a
same_leaves a = search rules

-- a call that changed nothing
pub all_same : {T : Type 0} (x : T) (a : TreeView) → Changes a a (Ok x)
all_same x a = record { frame = refl; marked = same_marked a; done = (refl, refl); left = tt }

-- a refusal after which all is as it was
pub unchanged : {T : Type 0} (e : TreeFault) (a : TreeView) → IsLeft a a e → Changes {A = T} a a (Err e)
unchanged e a left = record { frame = refl; marked = same_marked a; done = tt; left = left }

-- what any change leaves one leaves that puts in a row of this number
left_of : (n : ℕ) (a c : TreeView) (e : TreeFault) → IsLeft a c e → IsLeftOf n a c e
left_of n a c (Page page fault) h = (λ sound free. h.0 sound, inl h.1, h.2)
left_of n a c e h = h

all_left_of : {T : Type 0} (n : ℕ) (a c : TreeView) (r : Result T TreeFault) → IfErr r (IsLeft a c) → IfErr r (IsLeftOf n a c)
all_left_of n a c (Ok x) h = tt
all_left_of n a c (Err e) h = left_of n a c e h

pub changes_of : {T : Type 0} (n : ℕ) (a c : TreeView) (r : Result T TreeFault) → Changes a c r → ChangesOf n a c r
changes_of n a c r h = record { frame = h.frame; marked = h.marked; done = h.done; left = all_left_of n a c r h.left }

-- and the other way round where it is the number that is next
left_next : (n : ℕ) (a c : TreeView) (e : TreeFault) → a.next ≡ n → IsLeftOf n a c e → IsLeft a c e
left_next n a c (Page page fault) is h = (
  λ sound. h.0 sound (next_free a.schema a.next n (regions a) sound.regions_are (omega arith)),
  elim h.1 [
    | inl refused ↦ refused
    | inr taken ↦ inr (inr (inr (taken.0, subst (HasNumber a page) (sym is) taken.1)))
  ],
  h.2,
)
left_next n a c e is h = h

all_left_next : {T : Type 0} (n : ℕ) (a c : TreeView) (r : Result T TreeFault) → a.next ≡ n → IfErr r (IsLeftOf n a c) → IfErr r (IsLeft a c)
all_left_next n a c (Ok x) is h = tt
all_left_next n a c (Err e) is h = left_next n a c e is h

pub changes_next : {T : Type 0} (n : ℕ) (a c : TreeView) (r : Result T TreeFault) → a.next ≡ n → ChangesOf n a c r → Changes a c r
changes_next n a c r is h = record { frame = h.frame; marked = h.marked; done = h.done; left = all_left_next n a c r is h.left }

-- nothing was changed by a call that puts in a row
pub unchanged_of : {T : Type 0} (n : ℕ) (e : TreeFault) (a : TreeView) → IsLeftOf n a a e → ChangesOf n {A = T} a a (Err e)
unchanged_of n e a left = record { frame = refl; marked = same_marked a; done = tt; left = left }

-- the same refusal of another call
pub left_by : {T U : Type 0} (r : Result T TreeFault) (e : TreeFault) (a c : TreeView) → IsErrAnd r (λ x. x ≡ e) → Changes {A = U} a c (Err e) → Changes a c r
left_by (Ok x) e a c is h = absurd is
left_by (Err f) e a c is h = rw is (record { frame = h.frame; marked = h.marked; done = tt; left = h.left })

-- a call that was refused, and left all but the count of failed reads
read_left : {T : Type 0} (r : Result T TreeFault) (e : TreeFault) (a c : TreeView) → IsErrAnd r (λ x. x ≡ e) → c ≡ record a { store = read_store {A = TreeFault} (Err e) a.store } → IsLeft a c e → Changes a c r
read_left r e a c h k j = search rules

-- a search that was refused, as a change
searched_left : (e : TreeFault) (a c : TreeView) → Searches {A = TreeFault} a c (Err e) → IsLeft a c e
searched_left e a c h = search rules

pub searched_by : {T U : Type 0} (r : Result T TreeFault) (e : TreeFault) (a c : TreeView) → IsErrAnd r (λ x. x ≡ e) → Searches {A = U} a c (Err e) → Changes a c r
searched_by r e a c is h = read_left r e a c is h.same (searched_left e a c (record { same = h.same; faults = h.faults }))

-- a change of the index that wasn't made ready
ready_left : (e : TreeFault) (a c : TreeView) → MakesReady {A = TreeFault} a c (Err e) → IsLeft a c e
ready_left Full a c h = (inr h.faults, h.same)
ready_left HasFailed a c h = (h.faults, h.same)
ready_left Memory a c h = subst (λ (v : TreeView). Leaves a v) (sym h.same) (same_leaves a)
ready_left (Store store.Device) a c h = (h.faults, inl h.same)
ready_left (Store store.BadSize) a c h = (h.faults, subst (λ (v : TreeView). Leaves a v) (sym h.same) (same_leaves a))
ready_left (Store store.Memory) a c h = absurd h.faults
ready_left e a c h = (h.faults.0, h.faults.1, h.same)

pub ready_by : {T U : Type 0} (r : Result T TreeFault) (e : TreeFault) (a c : TreeView) → IsErrAnd r (λ x. x ≡ e) → MakesReady {A = U} a c (Err e) → Changes a c r
ready_by r e a c is h = read_left r e a c is h.same (ready_left e a c (record { same = h.same; faults = h.faults }))

-- a change after a search
pub then_changed : {T : Type 0} (r : Result T TreeFault) (a b c : TreeView) → b ≡ a → Changes b c r → Changes a c r
then_changed r a b c same h = subst (λ (v : TreeView). Changes v c r) same h

-- a change after which rows are counted
pub counted_anew : {T U : Type 0} (x : T) (y : U) (a mid d : TreeView) (rows next : ℕ) → d ≡ record mid { rows = rows; next = next } → Changes {A = T} a mid (Ok x) → Changes {A = U} a d (Ok y)
counted_anew x y a mid d rows next h k = search rules

-- where the page of one region was written, it may as well have been those of the index
pub writes_wider : (chain : List ℕ) (page : ℕ) (a c : StoreFacts) → KeepsOthers (0 ∷ page ∷ []) a c → KeepsOthers ((0 ∷ chain) ++ page ∷ []) a c
writes_wider chain page a c h = search (rules, all_right)

-- pages of these numbers were written, and then those of a change of the index, each of which is one of the index
pub writes_both : (chain : List ℕ) (page : ℕ) (sheets : List Sheet) (a mid new : StoreFacts) → KeepsOthers (0 ∷ page ∷ []) a mid → PutsSheets sheets mid new → (IsHonest a → IsHonest mid)
    → (IsHonest a → (m : ℕ) → m < page_count a → IsOutside m (0 ∷ chain) → IsUnspelled m sheets) → KeepsOthers ((0 ∷ chain) ++ page ∷ []) a new
writes_both chain page sheets a mid new h puts honest_mid free = record {
  kept = λ honest m out lt. puts.others (honest_mid honest) m (free honest m lt (all_left (λ n. m ≢ n) (0 ∷ chain) (page ∷ []) out)) ∙ (writes_wider chain page a mid h).kept honest m out lt;
  lasting = λ honest. by_puts honest (puts.lasting (honest_mid honest));
}
  where
    wide : KeepsOthers ((0 ∷ chain) ++ page ∷ []) a mid
    wide = writes_wider chain page a mid h

    by_mid : new.synced ≡ mid.synced → (mid.synced ≡ a.synced) ⊎ AreOthersKept ((0 ∷ chain) ++ page ∷ []) a.pages mid.synced → (new.synced ≡ a.synced) ⊎ AreOthersKept ((0 ∷ chain) ++ page ∷ []) a.pages new.synced
    by_mid same (inl was) = inl (same ∙ was)
    by_mid same (inr kept) = inr (subst (λ (ps : List (List ℕ)). AreOthersKept ((0 ∷ chain) ++ page ∷ []) a.pages ps) (sym same) kept)

    by_puts : IsHonest a → (new.synced ≡ mid.synced) ⊎ SameButSheets sheets mid.pages new.synced → (new.synced ≡ a.synced) ⊎ AreOthersKept ((0 ∷ chain) ++ page ∷ []) a.pages new.synced
    by_puts honest (inl same) = by_mid same (wide.lasting honest)
    by_puts honest (inr put) = inr (λ m out lt. put.others m (free honest m lt (all_left (λ n. m ≢ n) (0 ∷ chain) (page ∷ []) out)) ∙ wide.kept honest m out lt)

-- the page is that of a region of which the tree tells
pub writes_told : (a c : TreeView) (span : Region) → IsRegionOf a span → WritesIndex span.page a c → WritesOneRegion a c
writes_told a c span h k = search rules

-- a call that only writes is a change
module _ (a c : TreeView) (span : Region) (of : IsRegionOf a span) where
  ended : (fault : TreeFault) → HasStopped fault a c → WritesPage span.page a c → HasEnded fault a c
  ended fault h k = search (rules, writes_told, writes_wider)

  wrote_left : (fault : TreeFault) → IsWriteFault a c fault → WritesPage span.page a c → IsLeft a c fault
  wrote_left (Store store.Device) h kept = (h.0, inr (ended (Store store.Device) h.1 kept))
  wrote_left e h kept = absurd h

  all_left_by : {T : Type 0} (r : Result T TreeFault) → IfErr r (IsWriteFault a c) → WritesPage span.page a c → IfErr r (IsLeft a c)
  all_left_by (Ok x) faults kept = tt
  all_left_by (Err e) faults kept = wrote_left e faults kept

  all_done : {T : Type 0} (r : Result T TreeFault) → OnOk r (c.is_failed ≡ a.is_failed) → c.store ≡ written_store r a.store c.store → OnOk r (Works a c)
  all_done (Ok x) done same = (done, same)
  all_done (Err e) done same = tt

  pub changed_by : {T : Type 0} (r : Result T TreeFault) → Writes span a c r → Changes a c r
  changed_by r h = search (rules, all_done, all_left_by)

  pub changes_by : {T U : Type 0} (r : Result T TreeFault) (e : TreeFault) → IsErrAnd r (λ x. x ≡ e) → Writes {A = U} span a c (Err e) → Changes a c r
  changes_by r e is w = left_by r e a c is (changed_by {T = TreeFault} (Err e) (record { frame = w.frame; marked = w.marked; done = tt; faults = w.faults; kept = w.kept; count = w.count }))

-- nothing is told of what a call gives that was refused
pub refused_none : {T : Type 0} (P : Type 0) (r : Result T TreeFault) (e : TreeFault) → IsErrAnd r (λ x. x ≡ e) → OnOk r P
refused_none P (Ok x) e is = absurd is
refused_none P (Err f) e is = tt
