-- Rows taken out of any tree, one after the other.
use Rattle.std.proofs.Common.{◌≡◌, ◌≢◌, ◌+◌, ◌-◌, ◌<◌, ◌≤◌, ◌++◌, ◌∷◌, ◌∙◌, inl, inr, ℕ, zero, suc, Bool, true, false, if◌then◌else◌, IsTrue, List, [], Result, Ok, Err, add-one, append_assoc, drop, get_or, length, take, refl, sym, ap, subst, arith}
use Rattle.std.proofs.Math.Seq.{take-suc}
use Rattle.std.proofs.lemmas.Bool.{true≢false}
use Rattle.std.proofs.lemmas.List.{take-append-drop}
use Rattle.std.specs.Result.{IsErrAnd}
use Rattle.ub_exec.specs.Deleting.{HasMetDevice, IsDeletionFault, StopsAt, TakesOut, TakesOutBy}
use Rattle.ub_store.specs.Facts.{StoreFacts, page_count, raised}
use Rattle.ub_store.specs.declared.fault.StoreFault.TheVariants as store
use Rattle.ub_table.specs.declared.row.Key.{Key}
use Rattle.ub_tree.proofs.Laws.{mark_then, take_all}
use Rattle.ub_tree.specs.Effects.{HasEnded, HasMissed, IsLeft, KeepsMark, Leaves, Works}
use Rattle.ub_tree.specs.Holding.{ShrinksAt}
use Rattle.ub_tree.specs.Reading.{fault_of_tree}
use Rattle.ub_tree.specs.Removal.{IsRemovalFault, Removes}
use Rattle.ub_tree.specs.View.{TreeView, IsSound}
use Rattle.ub_tree.specs.declared.fault.TreeFault.{TreeFault}
use Rattle.ub_tree.specs.declared.fault.TreeFault.TheVariants.{Full, Page, Store, Failed, Memory}
use Rattle.ub_writing.specs.Marks.{KeepsUnless}

-- ---- one more

counted_more : (first found : Bool) (more count : ℕ) → count ≡ (if first then suc more else more)
    → (if found then suc count else count) ≡ (if first then suc (if found then suc more else more) else (if found then suc more else more))
counted_more true true more count is = ap suc is
counted_more true false more count is = is
counted_more false true more count is = ap suc is
counted_more false false more count is = is

-- the row of one key more was asked to be taken out
pub taken_more : (keys : List Key) (a b c : TreeView) (count : ℕ) (key : Key) (found : Bool) → TakesOut keys a b count → Removes key b c (Ok found)
    → TakesOut (keys ++ key ∷ []) a c (if found then suc count else count)
taken_more [] a b c count key found taken removes = (
  found,
  c,
  0,
  subst (λ (t : TreeView). Removes key t c (Ok found)) taken.1 removes,
  (refl, refl),
  ap (λ (n : ℕ). if found then suc n else n) taken.0,
)
taken_more (first ∷ keys) a b c count key found (was, mid, more, one, rest, is) removes =
    (was, mid, if found then suc more else more, one, taken_more keys mid b c more key found rest removes, counted_more was found more count is)

-- where none was there, nothing has changed
pub taken_none : (keys : List Key) (a b : TreeView) (count : ℕ) → TakesOut keys a b count → count ≡ 0 → b ≡ a
taken_none [] a b count taken none = taken.1
taken_none (key ∷ keys) a b count (true, mid, more, one, rest, is) none = absurd (omega arith)
taken_none (key ∷ keys) a b count (false, mid, more, one, rest, is) none = taken_none keys mid b more rest (sym is ∙ none) ∙ one.done.1 refl

-- ---- what that leaves

pub Works-then : (a b c : TreeView) → Works a b → Works b c → Works a c
Works-then a b c first second = (
  second.0 ∙ first.0,
  second.1 ∙ ap (λ (facts : StoreFacts). record facts { pages = c.store.pages; synced = c.store.synced }) first.1,
)

pub Works-same : (a b : TreeView) → b ≡ a → Works a b
Works-same a b same = subst (λ (t : TreeView). Works a t) (sym same) (refl, refl)

-- so many rows were taken out of a tree, which works as it did
pub record HasLost (old new : TreeView) (count : ℕ) : Type 0 where
  pub frame : new ≡ record old { placed = new.placed; rows = new.rows; is_changed = new.is_changed; is_failed = new.is_failed; store = new.store; inner = new.inner }
  pub counted : new.rows + count ≡ old.rows
  pub works : Works old new
  pub stays : old.is_changed ≡ true → new.is_changed ≡ true
  pub marks : count ≢ 0 → new.is_changed ≡ true
  pub kept : KeepsUnless new.is_changed old.store new.store
  pub marked : KeepsMark old new
  pub pages : page_count new.store ≡ page_count old.store
  pub sound : IsSound old → IsSound new

lost_none : (a b : TreeView) → b ≡ a → HasLost a b 0
lost_none a b same = subst (λ (t : TreeView). HasLost a t 0) (sym same) (record {
  frame = refl;
  counted = omega arith;
  works = (refl, refl);
  stays = λ changed. changed;
  marks = λ some. absurd (some refl);
  kept = λ honest unchanged m apart within. refl;
  marked = λ honest had changed. had changed;
  pages = refl;
  sound = λ sound. sound;
})

-- the store has as many pages then
as_many : (key : Key) (a b : TreeView) → ShrinksAt key a b → page_count b.store ≡ page_count a.store
as_many key a b shrinks = elim shrinks.others [
  | inl alone ↦ alone.1.1
  | inr joined ↦ joined.3.1
]

lost_one : (key : Key) (a b : TreeView) (found : Bool) → Removes key a b (Ok found) → HasLost a b (if found then 1 else 0)
lost_one key a b false removes = lost_none a b (removes.done.1 refl)
lost_one key a b true removes =
    let loses = removes.done.0 refl in
    let changes = removes.leaves.changes in
    record {
      frame = changes.frame ∙ ap (λ (n : ℕ). record a { placed = b.placed; rows = b.rows; next = n; is_changed = b.is_changed; is_failed = b.is_failed; store = b.store; inner = b.inner }) loses.next;
      counted = loses.rows;
      works = changes.done;
      stays = removes.leaves.stays;
      marks = λ some. loses.shrunk.changed;
      kept = changes.marked.kept;
      marked = changes.marked.marked;
      pages = as_many key a b loses.shrunk;
      sound = λ sound. (removes.removed sound).sound;
    }

-- what isn't marked in the end wasn't before
unmarked : (before after : Bool) → (before ≡ true → after ≡ true) → after ≡ false → before ≡ false
unmarked true after stays none = absurd (true≢false (sym (stays refl) ∙ none))
unmarked false after stays none = refl

-- where a row is gone in one of two calls
marked_more : (m n : ℕ) (before after : Bool) → (m ≢ 0 → before ≡ true) → (n ≢ 0 → after ≡ true) → (before ≡ true → after ≡ true) → m + n ≢ 0 → after ≡ true
marked_more zero zero before after first second stays some = absurd (some refl)
marked_more zero (suc n) before after first second stays some = second (λ none. cc)
marked_more (suc m) n before after first second stays some = stays (first (λ none. cc))

-- two calls, of which the second one leaves the mark
kept_then : (a b c : TreeView) → Works a b → (b.is_changed ≡ true → c.is_changed ≡ true) → page_count b.store ≡ page_count a.store → KeepsUnless b.is_changed a.store b.store
    → KeepsUnless c.is_changed b.store c.store → KeepsUnless c.is_changed a.store c.store
kept_then a b c works stays pages first second honest unchanged m apart within =
    second (ap (λ (facts : StoreFacts). facts.honest) works.1 ∙ honest) unchanged m apart (subst (λ (n : ℕ). m < n) (sym pages) within)
    ∙ first honest (unmarked b.is_changed c.is_changed stays unchanged) m apart within

lost_more : (a b c : TreeView) (m n : ℕ) → HasLost a b m → HasLost b c n → HasLost a c (m + n)
lost_more a b c m n first second =
    let one = first.counted in
    let other = second.counted in
    record {
      frame = second.frame ∙ ap (λ (t : TreeView). record t { placed = c.placed; rows = c.rows; is_changed = c.is_changed; is_failed = c.is_failed; store = c.store; inner = c.inner }) first.frame;
      counted = omega (arith, one, other);
      works = Works-then a b c first.works second.works;
      stays = λ changed. second.stays (first.stays changed);
      marks = marked_more m n b.is_changed c.is_changed first.marks second.marks second.stays;
      kept = kept_then a b c first.works second.stays first.pages first.kept second.kept;
      marked = mark_then a b c (λ honest. ap (λ (facts : StoreFacts). facts.honest) first.works.1 ∙ honest) (ap (λ (t : TreeView). t.schema) first.frame) first.marked second.marked;
      pages = second.pages ∙ first.pages;
      sound = λ sound. second.sound (first.sound sound);
    }

step_of : (found : Bool) (more count : ℕ) → count ≡ (if found then suc more else more) → (if found then 1 else 0) + more ≡ count
step_of true more count is = omega arith
step_of false more count is = omega arith

pub taken_lost : (keys : List Key) (a b : TreeView) (count : ℕ) → TakesOut keys a b count → HasLost a b count
taken_lost [] a b count taken = subst (λ (n : ℕ). HasLost a b n) (sym taken.0) (lost_none a b taken.1)
taken_lost (key ∷ keys) a b count (found, mid, more, one, rest, is) =
    subst (λ (n : ℕ). HasLost a b n) (step_of found more count is)
    (lost_more a mid b (if found then 1 else 0) more (lost_one key a mid found one) (taken_lost keys mid b more rest))

pub lost_schema : (a b : TreeView) (count : ℕ) → HasLost a b count → b.schema ≡ a.schema
lost_schema a b count lost = ap (λ (t : TreeView). t.schema) lost.frame

-- ---- a removal that was ended by a fault, after some rows were taken out of a tree that hadn't failed

left_next : (a b : TreeView) (fault : TreeFault) → IsLeft a b fault → b.next ≡ a.next
left_next a b Full left = ap (λ (t : TreeView). t.next) left.1
left_next a b Failed left = ap (λ (t : TreeView). t.next) left.1
left_next a b Memory left = ap (λ (t : TreeView). t.next) left.same
left_next a b (Page page fault) left = ap (λ (t : TreeView). t.next) left.2
left_next a b (Store store.Device) (can, inl missed) = ap (λ (t : TreeView). t.next) missed
left_next a b (Store store.Device) (can, inr ended) = ap (λ (t : TreeView). t.next) ended.same
left_next a b (Store store.NoPage) left = ap (λ (t : TreeView). t.next) left.2
left_next a b (Store store.BadSize) left = ap (λ (t : TreeView). t.next) left.1.same
left_next a b (Store store.Memory) left = absurd left

pub left_works : (a b : TreeView) → Leaves a b → Works a b
left_works a b left = (ap (λ (t : TreeView). t.is_failed) left.same, ap (λ (t : TreeView). t.store) left.same)

missed_device : (a b c : TreeView) → Works a b → HasMissed b c → HasMetDevice a c
missed_device a b c works missed =
    let store = ap (λ (t : TreeView). t.store) missed in
    inl (
      ap (λ (t : TreeView). t.is_failed) missed ∙ works.0,
      store ∙ ap (λ (facts : StoreFacts). record facts { failed_reads = raised facts.failed_reads 1 }) works.1
          ∙ ap (λ (facts : StoreFacts). record a.store { pages = facts.pages; synced = facts.synced; failed_reads = raised a.store.failed_reads 1 }) (sym store),
    )

ended_device : (a b c : TreeView) → Works a b → HasEnded (Store store.Device) b c → HasMetDevice a c
ended_device a b c works ended =
    inr (
      ap (λ (t : TreeView). t.is_failed) ended.same,
      ap (λ (t : TreeView). t.store) ended.same
          ∙ ap (λ (facts : StoreFacts). record facts { pages = c.store.pages; synced = c.store.synced; failed_writes = raised facts.failed_writes 1 }) works.1,
    )

deletion_fault : (a b c : TreeView) (count : ℕ) (fault : TreeFault) → a.is_failed ≡ false → HasLost a b count → IsLeft b c fault → IsRemovalFault b fault
    → IsDeletionFault a c (fault_of_tree fault)
deletion_fault a b c count Full working lost left of = absurd of
deletion_fault a b c count Failed working lost left of = let same = lost.works.0 in let failed = left.0 in cc
deletion_fault a b c count Memory working lost left of = Works-then a b c lost.works (left_works b c left)
deletion_fault a b c count (Page page fault) working lost left of =
    ((λ sound. left.0 (lost.sound sound)), Works-then a b c lost.works (Works-same b c left.2))
deletion_fault a b c count (Store store.Device) working lost (can, inl missed) of =
    (subst IsTrue (ap (λ (facts : StoreFacts). facts.can_fail) lost.works.1) can, missed_device a b c lost.works missed)
deletion_fault a b c count (Store store.Device) working lost (can, inr ended) of =
    (subst IsTrue (ap (λ (facts : StoreFacts). facts.can_fail) lost.works.1) can, ended_device a b c lost.works ended)
deletion_fault a b c count (Store store.NoPage) working lost left of =
    ((λ sound. left.0 (lost.sound sound)), Works-then a b c lost.works (Works-same b c left.2))
deletion_fault a b c count (Store store.BadSize) working lost left of = absurd of
deletion_fault a b c count (Store store.Memory) working lost left of = absurd left

-- what it leaves then
pub record HasStopped (old new : TreeView) (fault : TreeFault) : Type 0 where
  pub frame : new ≡ record old { placed = new.placed; rows = new.rows; is_changed = new.is_changed; is_failed = new.is_failed; store = new.store; inner = new.inner }
  pub stays : old.is_changed ≡ true → new.is_changed ≡ true
  pub kept : KeepsUnless new.is_changed old.store new.store
  pub marked : KeepsMark old new
  pub left : IsDeletionFault old new (fault_of_tree fault)

pub stopped_at : (keys : List Key) (a c : TreeView) (fault : TreeFault) → a.is_failed ≡ false → StopsAt keys a c fault → HasStopped a c fault
stopped_at keys a c fault working stops =
    let b = stops.mid in
    let lost = taken_lost stops.front a b stops.count stops.taken in
    let effect = stops.ended.leaves.changes in
    record {
      frame = effect.frame
          ∙ ap (λ (n : ℕ). record b { placed = c.placed; rows = c.rows; next = n; is_changed = c.is_changed; is_failed = c.is_failed; store = c.store; inner = c.inner }) (left_next b c fault effect.left)
          ∙ ap (λ (t : TreeView). record t { placed = c.placed; rows = c.rows; is_changed = c.is_changed; is_failed = c.is_failed; store = c.store; inner = c.inner }) lost.frame;
      stays = λ changed. stops.ended.leaves.stays (lost.stays changed);
      kept = kept_then a b c lost.works stops.ended.leaves.stays lost.pages lost.kept effect.marked.kept;
      marked = mark_then a b c (λ honest. ap (λ (facts : StoreFacts). facts.honest) lost.works.1 ∙ honest) (lost_schema a b stops.count lost) lost.marked effect.marked.marked;
      left = deletion_fault a b c stops.count fault working lost effect.left stops.ended.leaves.faults;
    }

-- ---- the keys one by one

take_next : (keys : List Key) (i : ℕ) (d : Key) → i < length keys → take (i + 1) keys ≡ take i keys ++ get_or keys i d ∷ []
take_next keys i d within = ap (λ (n : ℕ). take n keys) (add-one i) ∙ take-suc keys i d within

pub taken_next : (keys : List Key) (i : ℕ) (d : Key) (a b c : TreeView) (found : Bool) → i < length keys → (count : ℕ) × TakesOut (take i keys) a b count → Removes (get_or keys i d) b c (Ok found)
    → (count : ℕ) × TakesOut (take (i + 1) keys) a c count
taken_next keys i d a b c found within (count, taken) removes = (
  if found then suc count else count,
  subst (λ (ks : List Key). TakesOut ks a c (if found then suc count else count)) (sym (take_next keys i d within)) (taken_more (take i keys) a b c count (get_or keys i d) found taken removes),
)

pub stopped_next : (keys : List Key) (i : ℕ) (d : Key) (a b c : TreeView) (r : Result ℕ TreeFault) (fault : TreeFault) → IsErrAnd r (λ e. e ≡ fault) → i < length keys
    → (count : ℕ) × TakesOut (take i keys) a b count → Removes (get_or keys i d) b c (Err fault) → TakesOutBy keys a c r
stopped_next keys i d a b c (Ok n) fault is within (count, taken) removes = absurd is
stopped_next keys i d a b c (Err e) fault is within (count, taken) removes = subst (λ (f : TreeFault). StopsAt keys a c f) (sym is) (record {
  front = take i keys;
  key = get_or keys i d;
  left = drop (i + 1) keys;
  parts = sym (take-append-drop (i + 1) keys) ∙ ap (λ (ks : List Key). ks ++ drop (i + 1) keys) (take_next keys i d within) ∙ append_assoc (take i keys) (get_or keys i d ∷ []) (drop (i + 1) keys);
  mid = b;
  count = count;
  taken = taken;
  ended = removes;
})

-- all were, and so many rows fewer there are
pub taken_all : (keys : List Key) (i : ℕ) (a b : TreeView) (before now : ℕ) → length keys ≤ i → (count : ℕ) × TakesOut (take i keys) a b count → before ≡ a.rows → now ≡ b.rows
    → (now ≤ before) × TakesOut keys a b (before - now)
taken_all keys i a b before now far (count, taken) was is =
    let all = subst (λ (ks : List Key). TakesOut ks a b count) (take_all i keys far) taken in
    let counted = (taken_lost keys a b count all).counted in
    let fewer : count ≡ before - now = omega arith in
    (omega arith, subst (λ (n : ℕ). TakesOut keys a b n) fewer all)
