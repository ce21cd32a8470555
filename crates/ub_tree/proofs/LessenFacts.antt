-- What a removal does at each of its ends, and what it answers there.
use Rattle.std.proofs.Common.{rules, ◌≡◌, ◌≢◌, ◌≤◌, ◌<◌, ◌/◌, ◌-◌, ◌^◌, ◌++◌, ◌∙◌, inl, inr, ℕ, Bool, true, false, List, IsTrue, Ok, Err, Result, IfErr, OnOk, length, sym, ap, subst, refl, nat_lt, arith}
use Rattle.ub_tree.proofs.Common.{AllByRecursion, AnswersLeft, BadCount, ChangeView, FallsInto, has_key, HasReadAt, HasTakenBefore, HasTakenNext, IsErrAnd}
use Rattle.ub_tree.proofs.Common.{IsHonest, IsIndexFault, IsPassing, IsPut, IsRegion, IsRegionIn, IsRegionOf, IsRemovalFault, IsSound, IsStored, JoinsAt}
use Rattle.ub_tree.proofs.Common.{KeepsTold, Key, last_address, Lessens, ltb-true, Page, put_rows, Region, region_count, RegionRows, regions, RegionView}
use Rattle.ub_tree.proofs.Common.{remove_row, Removes, Row, Searches, settle, Spells, Store, StoreFacts, TakesAt, TreeFault, TreeView, Writes}
use Rattle.ub_tree.proofs.EffectFacts.{all_same, changed_by, counted_anew, left_by, marked_sound, searched_by, unchanged}
use Rattle.ub_tree.proofs.HoldingFacts.{fault_told, no_answer, passing_fault, passing_removal, removal_answers}
use Rattle.ub_tree.proofs.JoinFacts.{first_falls}
use Rattle.ub_tree.proofs.RemovalFacts.{holder, none_removed, searched_removal, shrinks_by, shrunk, some_counted}
use Rattle.ub_tree.proofs.StandFacts.{takes_row}
use Rattle.ub_store.specs.declared.fault.StoreFault.TheVariants as store

-- ---- what each end leaves

pub fault_by : {T : Type 0} (r : Result T TreeFault) (e : TreeFault) (P : TreeFault → Type 0) → IsErrAnd r (λ x. x ≡ e) → P e → IfErr r P
fault_by (Ok x) e P is h = tt
fault_by (Err f) e P is h = subst P (sym is) h

-- no fault of a write is one that a removal doesn't answer
pub device_removal : {T : Type 0} (r : Result T TreeFault) (t : TreeView) → IfErr r (λ x. x ≡ Store store.Device) → IfErr r (IsRemovalFault t)
device_removal (Ok x) t h = tt
device_removal (Err e) t h = subst (IsRemovalFault t) (sym h) tt

pub put_removal : (t : TreeView) (change : ChangeView) (facts : StoreFacts) (e : TreeFault) → IsIndexFault change facts e → IsRemovalFault t e
put_removal t change facts e h = search rules

-- a search that was refused
pub searched_lessens : {T U : Type 0} (r : Result T TreeFault) (e : TreeFault) (a m : TreeView) → IsErrAnd r (λ x. x ≡ e) → Searches {A = U} a m (Err e) → Lessens a m r
searched_lessens r e a m is h = record {
  changes = searched_by r e a m is h;
  faults = searched_removal r e a a is refl h.faults;
  stays = λ was. ap (λ (v : TreeView). v.is_changed) h.same ∙ was;
}

-- a call after one that left all as it was
pub then_lessens : {T : Type 0} (r : Result T TreeFault) (a b c : TreeView) → b ≡ a → Lessens b c r → Lessens a c r
then_lessens r a b c same h = subst (λ (v : TreeView). Lessens v c r) same h

-- one region alone is counted, which can't go
pub alone_lessens : {T : Type 0} (a : TreeView) → ¬ (IsSound a) → region_count a ≡ 1 → Lessens {A = T} a a (Err (Page 0 BadCount))
alone_lessens a broken one = record {
  changes = unchanged (Page 0 BadCount) a (broken, inr (inr (inl (refl, refl, inr (inr one)))), refl);
  faults = inr (inr (refl, refl, inr one));
  stays = λ was. was;
}

-- a region was written alone
pub wrote_lessens : {T : Type 0} (r : Result T TreeFault) (a b c : TreeView) (span : Region) → b ≡ a → IsRegionOf a span → Writes span b c r → IfErr r (λ x. x ≡ Store store.Device)
    → (b.is_changed ≡ true → c.is_changed ≡ true) → Lessens a c r
wrote_lessens r a b c span same of wrote device stays =
    then_lessens r a b c same (record {
      changes = changed_by b c span (subst (λ (v : TreeView). IsRegionOf v span) (sym same) of) r wrote;
      faults = device_removal r b device;
      stays = stays;
    })

-- ---- what is left of a region

-- it stands alone
pub taken_alone : {T : Type 0} (r : Result T TreeFault) (a b c : TreeView) (span : Region) (rows : List Row) → b ≡ a → OnOk r (IsPut b c) → OnOk r (KeepsTold b c) → Writes span b c r
    → OnOk r (IsHonest b.store → Spells c span.page span.first rows) → OnOk r (TakesAt span rows a c)
taken_alone (Err e) a b c span rows same is told wrote put = tt
taken_alone (Ok x) a b c span rows same is told wrote put = subst (λ (v : TreeView). TakesAt span rows v c) same (record {
  same = is ∙ ap (λ (v : TreeView). record b { placed = c.placed; store = c.store; is_changed = true; inner = v.inner }) (sym is);
  shrunk = inl (wrote.kept, (told, wrote.count));
  put = λ honest. inl (told.count, put honest);
})

-- or with the rows of the next region
pub taken_next : {T : Type 0} (r : Result T TreeFault) (a b c : TreeView) (span next : Region) (rows : List Row) (page : RegionView) → b ≡ a → HasTakenNext a span rows page next
    → OnOk r (JoinsAt span page.region.rows b c) → OnOk r (TakesAt span rows a c)
taken_next (Err e) a b c span next rows page same has joins = tt
taken_next (Ok x) a b c span next rows page same has joins = subst (λ (v : TreeView). HasTakenNext v span rows page next → TakesAt span rows v c) same
    (λ (h : HasTakenNext b span rows page next). record {
      same = joins.same;
      shrunk = inr (span, inl refl, joins.others, joins.dropped);
      put = λ honest.
          let (other, on, made) = h.taken in
          let spells = subst (λ (rs : List Row). Spells c span.page span.first rs) made (joins.put honest) in
          let into : FallsInto b next.first next.page other = record { span = next; falls = first_falls b next honest h.pair.told; page_is = refl; taken = on } in
          inr (joins.dropped.0, next.page, other, inl ((next.first, h.pair.ends, into), spells));
    }) has

-- or behind those of the one before
pub taken_before : {T : Type 0} (r : Result T TreeFault) (a b c : TreeView) (span before : Region) (rows : List Row) (page : RegionView) → b ≡ a → HasTakenBefore a span rows page before
    → OnOk r (JoinsAt before page.region.rows b c) → OnOk r (TakesAt span rows a c)
taken_before (Err e) a b c span before rows page same has joins = tt
taken_before (Ok x) a b c span before rows page same has joins = subst (λ (v : TreeView). HasTakenBefore v span rows page before → TakesAt span rows v c) same
    (λ (h : HasTakenBefore b span rows page before). record {
      same = joins.same;
      shrunk = inr (before, inr h.falls, joins.others, joins.dropped);
      put = λ honest.
          let (other, on, made) = h.taken in
          let (key, is, falls) = h.falls in
          let spells = subst (λ (rs : List Row). Spells c before.page before.first rs) made (joins.put honest) in
          let named = subst (λ (k : Key). Spells c before.page k (other.rows ++ rows)) (sym on.1.0) spells in
          let into : FallsInto b key before.page other = record { span = before; falls = falls; page_is = refl; taken = on } in
          inr (joins.dropped.0, before.page, other, inr ((key, is, into), named));
    }) has

-- few rows: no page was spared
pub few_left : {T : Type 0} (r : Result T TreeFault) {rows told size : ℕ} → told ≡ size → nat_lt rows (told / 2) ≡ true → size / 2 ≤ rows → IfErr r (λ x. x ≡ Store store.Device)
few_left r {rows} {told} {size} same few many =
    let less = ltb-true rows (told / 2) few in let alike : told / 2 ≡ size / 2 = ap (λ n. n / 2) same in absurd (omega (arith, less, alike, many))

-- ---- the removal of a row

module _ (a : TreeView) (key : Key) (working : a.is_failed ≡ false) where
  has_failed : {P : Type 0} → IsTrue a.is_failed → P
  has_failed failed = absurd (let works = working in let bad = failed in cc)

  -- its region wasn't read
  pub unread_removes : {U : Type 0} (m : TreeView) (r : Result Bool TreeFault) (e : TreeFault) → IsErrAnd r (λ x. x ≡ e) → Searches {A = U} a m (Err e)
      → ((number : ℕ) (region : RegionRows) → IsHonest a.store → FallsInto a key number region → IsPassing e) → Removes key a m r
  unread_removes m r e is searches led = record {
    removed = λ sound. no_answer r e _ is;
    done = no_answer r e _ is;
    refused = (has_failed, λ _. passing_removal a key r e is led);
    leaves = searched_lessens r e a m is searches;
  }

  module _ (b : TreeView) (span : Region) (page : RegionView) (read : HasReadAt a key span page) (same : b ≡ a) where
    -- it has no such row
    pub none_removes : has_key a.schema.dims key page.region.rows ≡ false → Removes key a b (Ok false)
    none_removes has = subst (λ (v : TreeView). Removes key a v (Ok false)) (sym same) (record {
      removed = none_removed a a key span page.region.rows (holder a key span page read) refl has;
      done = (λ is. absurd (let bad : false ≡ true = is in cc), λ _. refl);
      refused = (
        has_failed,
        λ _. removal_answers a key span page read (Ok false) (λ some zero. absurd (let bad : true ≡ false = sym some ∙ has in cc)) (λ free. tt) (sym has) (λ some many. tt)
            (λ is some one joined honest. absurd (let bad : true ≡ false = sym is ∙ has in cc)),
      );
      leaves = record { changes = all_same false a; faults = tt; stays = λ was. was };
    })

    -- it has one, and none is counted
    pub uncounted_removes : has_key a.schema.dims key page.region.rows ≡ true → a.rows ≡ 0 → Removes key a b (Err (Page 0 BadCount))
    uncounted_removes has none = subst (λ (v : TreeView). Removes key a v (Err (Page 0 BadCount))) (sym same) (record {
      removed = λ sound. tt;
      done = tt;
      refused = (
        has_failed,
        λ _. removal_answers a key span page read (Err (Page 0 BadCount)) (λ has zero. refl) (λ free. absurd (let bad : true ≡ false = sym has ∙ free in cc)) tt
            (λ some many. absurd (some none)) (λ is some one joined honest. absurd (some none)),
      );
      leaves = record {
        changes = unchanged (Page 0 BadCount) a (some_counted a key span page.region.rows (holder a key span page read) has none, inr (inr (inl (refl, refl, inl none))), refl);
        faults = inr (inr (refl, refl, inl none));
        stays = λ was. was;
      };
    })

    module _ (has : has_key a.schema.dims key page.region.rows ≡ true) (some : a.rows ≢ 0) (left : List Row) (left_is : left ≡ remove_row a.schema.dims key page.region.rows) (mid : TreeView) where
      -- what is left of it wasn't put
      pub unsettled_removes : {U : Type 0} (r : Result Bool TreeFault) (e : TreeFault) → IsErrAnd r (λ x. x ≡ e) → AnswersLeft {A = U} b span (length left) (Err e) → Lessens {A = U} b mid (Err e)
          → Removes key a mid r
      unsettled_removes {U} r e is answers lessens =
          let told = subst (λ (v : TreeView). AnswersLeft {A = U} v span (length left) (Err e)) same answers in
          let less = subst (λ (v : TreeView). Lessens {A = U} v mid (Err e)) same lessens in
          let size : length left ≡ length (remove_row a.schema.dims key page.region.rows) = ap (λ (rs : List Row). length rs) left_is in
          record {
            removed = λ sound. no_answer r e _ is;
            done = no_answer r e _ is;
            refused = (
              has_failed,
              λ _. removal_answers a key span page read r (λ has zero. absurd (some zero)) (λ free. absurd (let bad : true ≡ false = sym has ∙ free in cc)) (no_answer r e _ is)
                  (λ some many. passing_fault r e is (inr (told.spare (subst (λ n. a.schema.page_rows / 2 ≤ n) (sym size) many))))
                  (λ is_there some one joined honest. fault_told r e (Page 0 BadCount) is (told.alone honest one (rw size joined))),
            );
            leaves = record { changes = left_by r e a mid is less.changes; faults = fault_by r e (IsRemovalFault a) is less.faults; stays = less.stays };
          }

      -- what is left of it was put, and a row fewer is counted
      pub shrunk_removes : (d : TreeView) → mid.inner.index.last ≡ last_address mid.schema.dims → region_count mid < 2 ^ 32 → d ≡ record mid { rows = mid.rows - 1 }
          → ((i : ℕ) → IsStored b → IsRegionIn b i span → AllByRecursion (IsRegion b.schema) (settle b.schema.page_rows i (put_rows i false left (regions b)))
          → IsStored mid × (regions mid ≡ settle b.schema.page_rows i (put_rows i false left (regions b))))
          → TakesAt span left b mid → AnswersLeft {A = Unit {0}} b span (length left) (Ok tt) → Lessens {A = Unit {0}} b mid (Ok tt) → Removes key a d (Ok true)
      shrunk_removes d last few counted written takes answers lessens =
          let told = subst (λ (v : TreeView). AnswersLeft {A = Unit {0}} v span (length left) (Ok tt)) same answers in
          let less = subst (λ (v : TreeView). Lessens {A = Unit {0}} v mid (Ok tt)) same lessens in
          let size : length left ≡ length (remove_row a.schema.dims key page.region.rows) = ap (λ (rs : List Row). length rs) left_is in
          let by_rows : left ≡ remove_row b.schema.dims key page.region.rows = left_is ∙ ap (λ (v : TreeView). remove_row v.schema.dims key page.region.rows) (sym same) in
          let whole = counted ∙ ap (λ (v : TreeView). record v { rows = v.rows - 1 }) takes.same
          ∙ ap (λ (v : TreeView). record v { placed = mid.placed; store = mid.store; is_changed = true; inner = mid.inner; rows = v.rows - 1 }) same in
          let rows = ap (λ (v : TreeView). v.rows) whole in
          record {
            removed = shrunk a b mid d key span page.region.rows (holder a key span page read) same has takes.same (marked_sound lessens.changes.marked) last few counted (rw by_rows at written);
            done = (
              λ _. record {
                next = ap (λ (v : TreeView). v.next) whole;
                rows = omega arith;
                shrunk = shrinks_by a b mid d key span left (mid.rows - 1) same counted read.falls takes;
                put = takes_row a mid d key span page left (mid.rows - 1) counted read left_is (subst (λ (v : TreeView). TakesAt span left v mid) same takes).put;
              },
              λ is. absurd (let bad : true ≡ false = is in cc),
            );
            refused = (
              has_failed,
              λ _. removal_answers a key span page read (Ok true) (λ has zero. absurd (some zero)) (λ free. tt) (sym has) (λ some many. tt)
                  (λ is some one joined honest. absurd (told.alone honest one (rw size joined))),
            );
            leaves = record {
              changes = counted_anew {T = Unit {0}} {U = Bool} tt true a mid d (mid.rows - 1) mid.next counted less.changes;
              faults = tt;
              stays = λ _. ap (λ (v : TreeView). v.is_changed) whole;
            };
          }
