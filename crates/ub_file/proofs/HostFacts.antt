-- What a call of a file does to the medium on it.
use Rattle.std.proofs.Common.{◌≡◌, ◌≢◌, ◌<◌, ◌≤◌, ◌+◌, ◌*◌, ◌/◌, ◌%◌, ◌⊎◌, ◌++◌, ◌∷◌, [], ◌∙◌, ℕ, zero, suc, Bool, true, false, List, Some, Ok, Err, length, take, drop, replicate, slice_get, slice_set, ap, arith, refl, sym, subst, inl, inr, IsTrue, Result, min, max}
use Rattle.std.proofs.lemmas.List.{drop_all, length-replicate}
use Rattle.std.specs.Prelude.{MatchResult, IfErr, OnErr, OnOk, is_ok}
use Rattle.ub_file.specs.Host.{facts_on, host_pages, host_synced, pages_of, unknown_pages, HostView, IsBlank, IsTold}
use Rattle.ub_file.specs.Medium.{Empties}
use Rattle.ub_file.specs.Raw.{RawFacts, put_at, with_length, with_refusal, ReadsBytes, SetsLength, SyncsBytes, WritesBytes, IsUntouched}
use Rattle.ub_file.proofs.BytesFacts.{blank_end, blank_none, blank_with, count_pages, drop_past, length_put, length_with, one_more, page_of, put_page, same_pages, with_front_of, with_take}
use Rattle.ub_file.proofs.MemoryFacts.{put_other}
use Rattle.ub_store.specs.Facts.{StoreFacts, Extends, Reads, Syncs, WritesAt, counted, page_count, raised, zero_page}
use Rattle.ub_store.specs.declared.fault.StoreFault.{StoreFault}
use Rattle.ub_store.specs.declared.fault.StoreFault.TheVariants.{Device}

-- a call of a file came to this, with so many refusals counted before and after
abbrev pub Told : {E : Type 0} → Result (Unit {0}) E → Result (Unit {0}) StoreFault → ℕ → ℕ → Type 0
Told done result before after = MatchResult done
    (λ _. (result ≡ Ok tt) × (after ≡ before))
    (λ _. (result ≡ Err Device) × (after ≡ raised before 1))

-- the facts of a medium, by their parts
abbrev pub on : Bool → ℕ → List ℕ → List ℕ → ℕ → ℕ → StoreFacts
on honest kept bytes synced reads writes = record {
  honest = honest;
  can_fail = true;
  pages = host_pages honest kept bytes;
  synced = host_synced honest kept synced;
  failed_reads = reads;
  failed_writes = writes;
}

-- ---- pages

pub host_count : (h : Bool) (kept : ℕ) (bytes : List ℕ) → length (host_pages h kept bytes) ≡ kept / 4096
unfolding host_pages unknown_pages
host_count true kept bytes = count_pages 4096 (kept / 4096) bytes
host_count false kept bytes = length-replicate (kept / 4096) []

same_count : (h : Bool) (kept : ℕ) (bytes new : List ℕ) → length (host_pages h kept new) ≡ length (host_pages h kept bytes)
same_count h kept bytes new = host_count h kept new ∙ sym (host_count h kept bytes)

false_is : {A : Type 0} → IsTrue false → A
false_is e = cc

same_host : (h : Bool) (kept : ℕ) (bytes new : List ℕ) → (IsTrue h → new ≡ bytes) → host_pages h kept new ≡ host_pages h kept bytes
unfolding host_pages
same_host true kept bytes new same = ap (λ bs. pages_of 4096 (kept / 4096) bs) (same refl)
same_host false kept bytes new same = refl

same_synced : (h : Bool) (kept : ℕ) (bytes new : List ℕ) → (IsTrue h → new ≡ bytes) → host_synced h kept new ≡ host_synced h kept bytes
unfolding host_synced
same_synced true kept bytes new same = ap (λ bs. pages_of 4096 (length bs / 4096) bs) (same refl)
same_synced false kept bytes new same = refl

page_read : (h : Bool) (kept n : ℕ) (bytes lent page : List ℕ) → n < kept / 4096 → length lent ≡ 4096 → length page ≡ 4096
    → (IsTrue h → page ≡ take (length lent) (drop (4096 * n) bytes)) → IsTrue h → slice_get (host_pages h kept bytes) n ≡ Some page
unfolding host_pages
page_read true kept n bytes lent page less all whole is t =
    let taken : page ≡ take 4096 (drop (4096 * n) bytes) = is refl ∙ ap (λ k. take k (drop (4096 * n) bytes)) all in
    page_of 4096 (kept / 4096) n (4096 * n) bytes less refl
    ∙ ap (λ p. Some p) (with_take 4096 (drop (4096 * n) bytes) (sym (ap (λ (p : List ℕ). length p) taken) ∙ whole) ∙ sym taken)
page_read false kept n bytes lent page less all whole is t = false_is t

page_put : (h : Bool) (kept n : ℕ) (bytes new page : List ℕ) → n < kept / 4096 → length page ≡ 4096
    → (IsTrue h → new ≡ put_at (4096 * n) page bytes) → IsTrue h → host_pages h kept new ≡ slice_set (host_pages h kept bytes) n page
unfolding host_pages
page_put true kept n bytes new page less whole is t =
    ap (λ bs. pages_of 4096 (kept / 4096) bs) (is refl)
    ∙ put_page 4096 (kept / 4096) n (4096 * n) page bytes less refl (omega arith)
    ∙ ap (λ p. slice_set (pages_of 4096 (kept / 4096) bytes) n p) (with_front_of 4096 page (drop (4096 * n) bytes) whole)
page_put false kept n bytes new page less whole is t = false_is t

-- what may stand at the place of a write that was refused
abbrev IsTorn : ℕ → List ℕ → List ℕ → List ℕ → Type 0
IsTorn place page bytes new = (new ≡ bytes) ⊎ ((part : List ℕ) × (length part ≤ length page) × (new ≡ put_at place part bytes))

others_stay : (h : Bool) (kept n : ℕ) (bytes new page : List ℕ) → n < kept / 4096 → length page ≡ 4096
    → (IsTrue h → IsTorn (4096 * n) page bytes new) → IsTrue h → (m : ℕ) → m ≢ n
    → slice_get (host_pages h kept new) m ≡ slice_get (host_pages h kept bytes) m
unfolding host_pages
others_stay true kept n bytes new page less whole torn t m other = elim (torn refl) [
  | inl same ↦ ap (λ bs. slice_get (pages_of 4096 (kept / 4096) bs) m) same
  | inr put ↦ let within = put.1 in
      ap (λ bs. slice_get (pages_of 4096 (kept / 4096) bs) m) put.2
      ∙ ap (λ ps. slice_get ps m) (put_page 4096 (kept / 4096) n (4096 * n) put.0 bytes less refl (omega arith))
      ∙ put_other (pages_of 4096 (kept / 4096) bytes) n m _ other
]
others_stay false kept n bytes new page less whole torn t m other = false_is t

-- a length that has as many whole pages
page_kept : (h : Bool) (kept size : ℕ) (bytes new : List ℕ) → size / 4096 ≡ kept / 4096
    → (IsTrue h → (part : ℕ) × (min (4096 * (kept / 4096)) (length bytes) ≤ part) × (new ≡ with_length part bytes))
    → host_pages h size new ≡ host_pages h kept bytes
unfolding host_pages unknown_pages
page_kept true kept size bytes new as_many is =
    let part = is refl in
    ap (λ bs. pages_of 4096 (size / 4096) bs) part.2 ∙ ap (λ k. pages_of 4096 k (with_length part.0 bytes)) as_many
    ∙ same_pages 4096 (kept / 4096) part.0 bytes part.1
page_kept false kept size bytes new as_many is = ap (λ k. replicate k []) as_many

page_grown : (h : Bool) (kept size : ℕ) (bytes new : List ℕ) → size / 4096 ≡ suc (kept / 4096) → size ≡ 4096 * suc (kept / 4096) → kept ≡ 4096 * (kept / 4096)
    → (IsTrue h → IsBlank (drop kept bytes)) → (IsTrue h → new ≡ with_length size bytes) → IsTrue h
    → host_pages h size new ≡ host_pages h kept bytes ++ zero_page ∷ []
unfolding host_pages
page_grown true kept size bytes new more size_is whole blank is t =
    ap (λ bs. pages_of 4096 (size / 4096) bs) (is refl) ∙ ap (λ k. pages_of 4096 k (with_length size bytes)) more
    ∙ same_pages 4096 (suc (kept / 4096)) size bytes (omega arith) ∙ one_more 4096 (kept / 4096) bytes
    ∙ ap (λ p. pages_of 4096 (kept / 4096) bytes ++ p ∷ []) (ap (λ k. with_length 4096 (drop k bytes)) (sym whole) ∙ blank refl 4096)
page_grown false kept size bytes new more size_is whole blank is t = false_is t

-- the pages that last are those of before, or those that stand there
host_flush : (h : Bool) (kept size : ℕ) (synced new bytes : List ℕ) → (IsTrue h → new ≡ synced)
    → (host_synced h size new ≡ host_synced h kept synced) ⊎ (host_synced h size new ≡ host_pages h size bytes)
unfolding host_pages host_synced
host_flush true kept size synced new bytes same = inl (ap (λ bs. pages_of 4096 (length bs / 4096) bs) (same refl))
host_flush false kept size synced new bytes same = inr refl

none_left : (h : Bool) (bytes : List ℕ) → host_pages h 0 bytes ≡ []
unfolding host_pages pages_of unknown_pages
none_left true bytes = refl
none_left false bytes = refl

synced_kept : (h : Bool) (kept size : ℕ) (bytes new : List ℕ) → size / 4096 ≡ kept / 4096
    → (IsTrue h → new ≡ bytes) → host_synced h size new ≡ host_synced h kept bytes
unfolding host_synced unknown_pages
synced_kept true kept size bytes new as_many same = ap (λ bs. pages_of 4096 (length bs / 4096) bs) (same refl)
synced_kept false kept size bytes new as_many same = ap (λ k. replicate k []) as_many

-- ---- calls

pub has_page : {E : Type 0} (n kept reads after : ℕ) (lent page : List ℕ) (raw new : RawFacts) (done : Result (Unit {0}) E) (result : Result (Unit {0}) StoreFault)
    → n < kept / 4096 → length lent ≡ 4096 → length page ≡ 4096
    → (IsTrue raw.honest → ReadsBytes (4096 * n) lent page raw new done) → Told done result reads after
    → OnOk result (IsTrue raw.honest → slice_get (host_pages raw.honest kept raw.bytes) n ≡ Some page)
has_page n kept reads after lent page raw new (Ok u) result less all whole does told =
    rw told.0 (λ t. page_read raw.honest kept n raw.bytes lent page less all whole (λ t. (does t).read_are) t)
has_page n kept reads after lent page raw new (Err e) result less all whole does told = rw told.0 tt

pub has_read : {E : Type 0} (n kept reads writes after : ℕ) (lent page : List ℕ) (raw new : RawFacts) (done : Result (Unit {0}) E) (result : Result (Unit {0}) StoreFault)
    → new.honest ≡ raw.honest → (IsTrue raw.honest → ReadsBytes (4096 * n) lent page raw new done) → Told done result reads after
    → Reads (facts_on raw kept reads writes) (facts_on new kept after writes) result
has_read {E = E} n kept reads writes after lent page raw new done result stays does told =
    subst (λ h. Reads (facts_on raw kept reads writes) (on h kept new.bytes new.synced after writes) result) (sym stays) (parts done told)
  where
    bytes_stay : IsTrue raw.honest → new.bytes ≡ raw.bytes
    bytes_stay t = ap (λ (f : RawFacts). f.bytes) (does t).same

    lasts : IsTrue raw.honest → new.synced ≡ raw.synced
    lasts t = ap (λ (f : RawFacts). f.synced) (does t).same

    parts : (d : Result (Unit {0}) E) → Told d result reads after → Reads (facts_on raw kept reads writes) (on raw.honest kept new.bytes new.synced after writes) result
    parts (Ok u) is = rw (is.0, is.1, same_host raw.honest kept raw.bytes new.bytes bytes_stay, same_synced raw.honest kept raw.synced new.synced lasts)
        (record { same = refl; device = λ e. refl })
    parts (Err e) is = rw (is.0, is.1, same_host raw.honest kept raw.bytes new.bytes bytes_stay, same_synced raw.honest kept raw.synced new.synced lasts)
        (record { same = refl; device = λ e. refl })

pub has_written : {E : Type 0} (n kept reads writes after : ℕ) (page : List ℕ) (raw new : RawFacts) (done : Result (Unit {0}) E) (result : Result (Unit {0}) StoreFault)
    → n < kept / 4096 → length page ≡ 4096 → new.honest ≡ raw.honest → (IsTrue raw.honest → WritesBytes (4096 * n) page raw new done)
    → Told done result writes after → WritesAt n page (facts_on raw kept reads writes) (facts_on new kept reads after) result
has_written {E = E} n kept reads writes after page raw new done result less whole stays does told =
    subst (λ h. WritesAt n page (facts_on raw kept reads writes) (on h kept new.bytes new.synced reads after) result) (sym stays) (parts done does told)
  where
    parts : (d : Result (Unit {0}) E) → (IsTrue raw.honest → WritesBytes (4096 * n) page raw new d) → Told d result writes after
        → WritesAt n page (facts_on raw kept reads writes) (on raw.honest kept new.bytes new.synced reads after) result
    parts (Ok u) does is =
        let lasts = same_synced raw.honest kept raw.synced new.synced (λ t. ap (λ (f : RawFacts). f.synced) (does t).frame) in
        rw (is.0, is.1) (record {
          frame = refl;
          count = same_count raw.honest kept raw.bytes new.bytes;
          flushed = inl lasts;
          written = λ t. page_put raw.honest kept n raw.bytes new.bytes page less whole (λ t. (does t).written) t;
          others = λ t m other. others_stay raw.honest kept n raw.bytes new.bytes page less whole (λ t. inr (page, omega arith, (does t).written)) t m other;
          device = λ e. refl;
        })
    parts (Err e) does is =
        let lasts = same_synced raw.honest kept raw.synced new.synced (λ t. ap (λ (f : RawFacts). f.synced) (does t).frame) in
        rw (is.0, is.1) (record {
          frame = refl;
          count = same_count raw.honest kept raw.bytes new.bytes;
          flushed = inl lasts;
          written = tt;
          others = λ t m other. others_stay raw.honest kept n raw.bytes new.bytes page less whole (λ t. (does t).torn) t m other;
          device = λ e. refl;
        })

-- what is told of an honest file after a read, and after a write within what is counted
pub told_after_read : {E : Type 0} (place kept reads writes after changes : ℕ) (sure : Bool) (lent page : List ℕ) (raw new : RawFacts) (done : Result (Unit {0}) E) (result : Result (Unit {0}) StoreFault)
    → IsTold raw kept sure reads writes changes → ReadsBytes place lent page raw new done → Told done result reads after
    → IsTold new kept sure after writes changes
told_after_read place kept reads writes after changes sure lent page raw new (Ok u) result was does told = rw (does.same, told.1) was
told_after_read place kept reads writes after changes sure lent page raw new (Err e) result was does told = rw (does.same, told.1) (record {
  length_is = was.length_is;
  blank = was.blank;
  reads_are = ap (λ n. raised n 1) was.reads_are;
  writes_are = was.writes_are;
  changes_are = was.changes_are;
})

torn_length : (place kept : ℕ) (page bytes new : List ℕ) → place + length page ≤ kept → IsTorn place page bytes new → kept ≡ length bytes → kept ≡ length new
torn_length place kept page bytes new within (inl same) is = is ∙ ap (λ (bs : List ℕ). length bs) (sym same)
torn_length place kept page bytes new within (inr put) is =
    let less = put.1 in
    is ∙ sym (ap (λ (bs : List ℕ). length bs) put.2 ∙ length_put place put.0 bytes (omega arith))

torn_blank : (place kept : ℕ) (page bytes new : List ℕ) → place + length page ≤ kept → IsTorn place page bytes new → IsBlank (drop kept bytes) → IsBlank (drop kept new)
torn_blank place kept page bytes new within (inl same) blank = rw same blank
torn_blank place kept page bytes new within (inr put) blank =
    let less = put.1 in
    rw (put.2, drop_past kept place put.0 bytes (omega arith)) blank

pub told_after_write : {E : Type 0} (n kept reads writes after changes : ℕ) (sure : Bool) (page : List ℕ) (raw new : RawFacts) (done : Result (Unit {0}) E) (result : Result (Unit {0}) StoreFault)
    → n < kept / 4096 → length page ≡ 4096 → IsTold raw kept sure reads writes changes → WritesBytes (4096 * n) page raw new done
    → Told done result writes after → IsTold new kept sure reads after (raised changes 1)
told_after_write n kept reads writes after changes sure page raw new (Ok u) result less whole was does told =
    let within : 4096 * n + length page ≤ kept = omega arith in
    let torn : IsTorn (4096 * n) page raw.bytes new.bytes = inr (page, omega arith, does.written) in
    record {
      length_is = λ t. torn_length (4096 * n) kept page raw.bytes new.bytes within torn (was.length_is t);
      blank = torn_blank (4096 * n) kept page raw.bytes new.bytes within torn was.blank;
      reads_are = was.reads_are ∙ sym (ap (λ (f : RawFacts). f.failed_reads) does.frame);
      writes_are = told.1 ∙ was.writes_are ∙ sym (ap (λ (f : RawFacts). f.failed_writes) does.frame);
      changes_are = ap (λ k. raised k 1) was.changes_are ∙ sym (ap (λ (f : RawFacts). f.changes) does.frame);
    }
told_after_write n kept reads writes after changes sure page raw new (Err e) result less whole was does told =
    let within : 4096 * n + length page ≤ kept = omega arith in
    record {
      length_is = λ t. torn_length (4096 * n) kept page raw.bytes new.bytes within does.torn (was.length_is t);
      blank = torn_blank (4096 * n) kept page raw.bytes new.bytes within does.torn was.blank;
      reads_are = was.reads_are ∙ sym (ap (λ (f : RawFacts). f.failed_reads) does.frame);
      writes_are = told.1 ∙ ap (λ k. raised k 1) was.writes_are ∙ sym (ap (λ (f : RawFacts). f.failed_writes) does.frame);
      changes_are = ap (λ k. raised k 1) was.changes_are ∙ sym (ap (λ (f : RawFacts). f.changes) does.frame);
    }

-- after its length was set, or refused to be
pub told_after_length : {E : Type 0} (size kept reads writes after changes : ℕ) (was_sure sure : Bool) (raw new : RawFacts) (done : Result (Unit {0}) E) (result : Result (Unit {0}) StoreFault)
    → IsTrue sure → sure ≡ is_ok result → IsTold raw kept was_sure reads writes changes → SetsLength size raw new done → Told done result writes after
    → IsTold new size sure reads after (raised changes 1)
told_after_length size kept reads writes after changes was_sure sure raw new (Ok u) result t is was does told = record {
  length_is = λ _. sym (ap (λ (bs : List ℕ). length bs) does.set ∙ length_with size raw.bytes);
  blank = rw does.set (blank_end size raw.bytes);
  reads_are = was.reads_are ∙ sym (ap (λ (f : RawFacts). f.failed_reads) does.frame);
  writes_are = told.1 ∙ was.writes_are ∙ sym (ap (λ (f : RawFacts). f.failed_writes) does.frame);
  changes_are = ap (λ k. raised k 1) was.changes_are ∙ sym (ap (λ (f : RawFacts). f.changes) does.frame);
}
told_after_length size kept reads writes after changes was_sure sure raw new (Err e) result t is was does told =
    let bad = told.0 in let not = is in let yes = t in cc

pub told_after_refusal : {E : Type 0} (size kept reads writes after changes : ℕ) (was_sure sure : Bool) (raw new : RawFacts) (done : Result (Unit {0}) E) (result : Result (Unit {0}) StoreFault)
    → sure ≡ false → sure ≡ is_ok result → IsTold raw kept was_sure reads writes changes → SetsLength size raw new done → Told done result writes after
    → IsTold new kept sure reads after (raised changes 1)
told_after_refusal size kept reads writes after changes was_sure sure raw new (Ok u) result f is was does told =
    let bad = told.0 in let not = is in let yes = f in cc
told_after_refusal size kept reads writes after changes was_sure sure raw new (Err e) result f is was does told = record {
  length_is = λ t. let clash = t in cc;
  blank = rw does.between.3 (blank_with kept does.between.0 raw.bytes was.blank);
  reads_are = was.reads_are ∙ sym (ap (λ (f : RawFacts). f.failed_reads) does.frame);
  writes_are = told.1 ∙ ap (λ k. raised k 1) was.writes_are ∙ sym (ap (λ (f : RawFacts). f.failed_writes) does.frame);
  changes_are = ap (λ k. raised k 1) was.changes_are ∙ sym (ap (λ (f : RawFacts). f.changes) does.frame);
}

-- ---- the length set

-- what setting a length does to the numbers that are kept
pub record IsSet (size kept kept_now writes writes_now : ℕ) (result : Result (Unit {0}) StoreFault) : Type 0 where
  pub fault : IfErr result (λ fault. fault ≡ Device)
  pub writes_are : writes_now ≡ with_refusal result writes
  pub set : OnOk result (kept_now ≡ size)
  pub same : OnErr result (kept_now ≡ kept)

part_of : (size kept : ℕ) (raw new : RawFacts) (result : Result (Unit {0}) StoreFault) → 4096 * (kept / 4096) ≤ size → SetsLength size raw new result
    → (part : ℕ) × (min (4096 * (kept / 4096)) (length raw.bytes) ≤ part) × (new.bytes ≡ with_length part raw.bytes)
part_of size kept raw new (Ok u) below does = (size, omega arith, does.set)
part_of size kept raw new (Err e) below does = let least = does.between.1 in (does.between.0, omega arith, does.between.3)

synced_stays : {E : Type 0} (size : ℕ) (raw new : RawFacts) (done : Result (Unit {0}) E) → (IsTrue raw.honest → SetsLength size raw new done) → IsTrue raw.honest → new.synced ≡ raw.synced
synced_stays size raw new done does t = ap (λ (f : RawFacts). f.synced) (does t).frame

-- where as many whole pages are left, they stay
pub pages_kept : (size kept kept_now reads writes writes_now : ℕ) (raw new : RawFacts) (result : Result (Unit {0}) StoreFault)
    → size / 4096 ≡ kept / 4096 → new.honest ≡ raw.honest → (IsTrue raw.honest → SetsLength size raw new result)
    → IsSet size kept kept_now writes writes_now result
    → facts_on new kept_now reads writes_now ≡ record (facts_on raw kept reads writes) { failed_writes = counted result writes }
pages_kept size kept kept_now reads writes writes_now raw new (Ok u) as_many stays does is =
    rw (
      is.set,
      is.writes_are,
      stays,
      page_kept raw.honest kept size raw.bytes new.bytes as_many (λ t. part_of size kept raw new (Ok u) (omega arith) (does t)),
      synced_kept raw.honest kept size raw.synced new.synced as_many (synced_stays size raw new (Ok u) does),
    ) refl
pages_kept size kept kept_now reads writes writes_now raw new (Err e) as_many stays does is =
    rw (
      is.same,
      is.writes_are,
      is.fault,
      stays,
      page_kept raw.honest kept kept raw.bytes new.bytes refl (λ t. part_of size kept raw new (Err e) (omega arith) (does t)),
      synced_kept raw.honest kept kept raw.synced new.synced refl (synced_stays size raw new (Err e) does),
    ) refl

pub extended : (size kept kept_now reads writes writes_now : ℕ) (raw new : RawFacts) (result : Result (Unit {0}) StoreFault)
    → size ≡ kept + 4096 → kept % 4096 ≡ 0 → (IsTrue raw.honest → IsBlank (drop kept raw.bytes))
    → new.honest ≡ raw.honest → (IsTrue raw.honest → SetsLength size raw new result) → IsSet size kept kept_now writes writes_now result
    → Extends (facts_on raw kept reads writes) (facts_on new kept_now reads writes_now) result
extended size kept kept_now reads writes writes_now raw new (Ok u) size_is whole blank stays does is =
    subst (λ h. Extends {A = Unit {0}} (facts_on raw kept reads writes) (on h kept_now new.bytes new.synced reads writes_now) (Ok u)) (sym stays) (
    rw (is.set, is.writes_are) (record {
      frame = refl;
      flushed = host_flush raw.honest kept size raw.synced new.synced new.bytes (synced_stays size raw new (Ok u) does);
      added = (
        host_count raw.honest size new.bytes ∙ (let was = host_count raw.honest kept raw.bytes in omega arith),
        λ t. page_grown raw.honest kept size raw.bytes new.bytes (omega arith) (omega arith) (omega arith) blank (λ t. (does t).set) t,
      );
      failed = tt;
      device = λ e. refl;
    }))
extended size kept kept_now reads writes writes_now raw new (Err e) size_is whole blank stays does is =
    subst (λ h. Extends {A = Unit {0}} (facts_on raw kept reads writes) (on h kept_now new.bytes new.synced reads writes_now) (Err e)) (sym stays) (
    rw (is.same, is.writes_are, is.fault) (record {
      frame = refl;
      flushed = host_flush raw.honest kept kept raw.synced new.synced new.bytes (synced_stays size raw new (Err e) does);
      added = tt;
      failed = inl (page_kept raw.honest kept kept raw.bytes new.bytes refl (λ t. part_of size kept raw new (Err e) (omega arith) (does t)));
      device = λ e. refl;
    }))

pub emptied : (kept kept_now reads writes writes_now : ℕ) (raw new : RawFacts) (result : Result (Unit {0}) StoreFault)
    → new.honest ≡ raw.honest → (IsTrue raw.honest → SetsLength 0 raw new result) → IsSet 0 kept kept_now writes writes_now result
    → Empties (facts_on raw kept reads writes) (facts_on new kept_now reads writes_now) result
emptied kept kept_now reads writes writes_now raw new (Ok u) stays does is =
    subst (λ h. Empties {A = Unit {0}} (facts_on raw kept reads writes) (on h kept_now new.bytes new.synced reads writes_now) (Ok u)) (sym stays) (
    rw (is.set, is.writes_are) (record {
      frame = refl;
      flushed = host_flush raw.honest kept 0 raw.synced new.synced new.bytes (synced_stays 0 raw new (Ok u) does);
      done = none_left raw.honest new.bytes;
      device = λ e. refl;
    }))
emptied kept kept_now reads writes writes_now raw new (Err e) stays does is =
    subst (λ h. Empties {A = Unit {0}} (facts_on raw kept reads writes) (on h kept_now new.bytes new.synced reads writes_now) (Err e)) (sym stays) (
    rw (is.same, is.writes_are, is.fault) (record {
      frame = refl;
      flushed = host_flush raw.honest kept kept raw.synced new.synced new.bytes (synced_stays 0 raw new (Err e) does);
      done = tt;
      device = λ e. refl;
    }))

-- ---- syncs

all_last : (h : Bool) (kept : ℕ) (bytes old synced new : List ℕ) → (IsTrue h → kept ≡ length old) → (IsTrue h → bytes ≡ old) → (IsTrue h → new ≡ bytes)
    → host_synced h kept new ≡ host_pages h kept bytes
unfolding host_pages host_synced
all_last true kept bytes old synced new sure stay is =
    ap (λ bs. pages_of 4096 (length bs / 4096) bs) (is refl)
    ∙ ap (λ k. pages_of 4096 (k / 4096) bytes) (ap (λ (bs : List ℕ). length bs) (stay refl) ∙ sym (sure refl))
all_last false kept bytes old synced new sure stay is = refl

may_last : (h : Bool) (kept : ℕ) (bytes old synced new : List ℕ) → (IsTrue h → kept ≡ length old) → (IsTrue h → bytes ≡ old)
    → (IsTrue h → (new ≡ synced) ⊎ (new ≡ bytes))
    → (host_synced h kept new ≡ host_synced h kept synced) ⊎ (host_synced h kept new ≡ host_pages h kept bytes)
may_last true kept bytes old synced new sure stay lasts = elim (lasts refl) [
  | inl same ↦ inl (same_synced true kept synced new (λ t. same))
  | inr all ↦ inr (all_last true kept bytes old synced new sure stay (λ t. all))
]
may_last false kept bytes old synced new sure stay lasts = inl (same_synced false kept synced new (λ t. false_is t))

pub has_synced : {E : Type 0} (kept reads writes after : ℕ) (raw new : RawFacts) (done : Result (Unit {0}) E) (result : Result (Unit {0}) StoreFault)
    → (IsTrue raw.honest → kept ≡ length raw.bytes) → new.honest ≡ raw.honest → (IsTrue raw.honest → SyncsBytes raw new done) → Told done result writes after
    → Syncs (facts_on raw kept reads writes) (facts_on new kept reads after) result
has_synced {E = E} kept reads writes after raw new done result sure stays does told =
    subst (λ h. Syncs (facts_on raw kept reads writes) (on h kept new.bytes new.synced reads after) result) (sym stays) (parts done does told)
  where
    parts : (d : Result (Unit {0}) E) → (IsTrue raw.honest → SyncsBytes raw new d) → Told d result writes after
        → Syncs (facts_on raw kept reads writes) (on raw.honest kept new.bytes new.synced reads after) result
    parts (Ok u) does is =
        let stay : IsTrue raw.honest → new.bytes ≡ raw.bytes = λ t. ap (λ (f : RawFacts). f.bytes) (does t).frame in
        let all = all_last raw.honest kept new.bytes raw.bytes raw.synced new.synced sure stay (λ t. (does t).done) in
        let pages = same_host raw.honest kept raw.bytes new.bytes stay in
        rw (is.0, is.1, all, pages) (record { frame = refl; flushed = inr refl; done = refl; device = λ e. refl })
    parts (Err e) does is =
        let stay : IsTrue raw.honest → new.bytes ≡ raw.bytes = λ t. ap (λ (f : RawFacts). f.bytes) (does t).frame in
        let may = may_last raw.honest kept new.bytes raw.bytes raw.synced new.synced sure stay (λ t. (does t).lasts) in
        let pages = same_host raw.honest kept raw.bytes new.bytes stay in
        rw (is.0, is.1, pages) (record { frame = refl; flushed = rw pages at may; done = tt; device = λ e. refl })

pub told_after_sync : {E : Type 0} (kept reads writes after changes : ℕ) (sure : Bool) (raw new : RawFacts) (done : Result (Unit {0}) E) (result : Result (Unit {0}) StoreFault)
    → IsTold raw kept sure reads writes changes → SyncsBytes raw new done → Told done result writes after
    → IsTold new kept sure reads after changes
told_after_sync kept reads writes after changes sure raw new (Ok u) result was does told = rw (does.frame, told.1) (record {
  length_is = was.length_is;
  blank = was.blank;
  reads_are = was.reads_are;
  writes_are = was.writes_are;
  changes_are = was.changes_are;
})
told_after_sync kept reads writes after changes sure raw new (Err e) result was does told = rw (does.frame, told.1) (record {
  length_is = was.length_is;
  blank = was.blank;
  reads_are = was.reads_are;
  writes_are = ap (λ n. raised n 1) was.writes_are;
  changes_are = was.changes_are;
})

-- ---- the numbers that are kept

pub told_untouched : (size : ℕ) (raw : RawFacts) → IsUntouched raw size → IsTold raw size true 0 0 0
told_untouched size raw is = record {
  length_is = λ t. is.length_is;
  blank = λ n. ap (with_length n) (drop_all size raw.bytes (let same = is.length_is in omega arith)) ∙ blank_none n;
  reads_are = sym is.read;
  writes_are = sym is.written;
  changes_are = sym is.unchanged;
}

module _ {R : Type 0} where
  -- the view after a length was set
  abbrev pub AfterLength : HostView R → HostView R → Result (Unit {0}) StoreFault → Type 0
  AfterLength old new result = new ≡ record old {
    file = new.file;
    length = new.length;
    sure = new.sure;
    writes = with_refusal result old.writes;
    changes = raised old.changes 1;
  }

  pub reads_of : (old new : HostView R) (result : Result (Unit {0}) StoreFault) → AfterLength old new result → new.reads ≡ old.reads
  reads_of old new result is = ap (λ (v : HostView R). v.reads) is

  pub set_of : (size : ℕ) (old new : HostView R) (result : Result (Unit {0}) StoreFault) → IfErr result (λ fault. fault ≡ Device) → AfterLength old new result
      → OnOk result ((new.length ≡ size) × (new.sure ≡ true)) → OnErr result ((new.length ≡ old.length) × (new.sure ≡ false))
      → IsSet size old.length new.length old.writes new.writes result
  set_of size old new (Ok u) fault is set kept = record {
    fault = fault;
    writes_are = ap (λ (v : HostView R). v.writes) is;
    set = set.0;
    same = tt;
  }
  set_of size old new (Err e) fault is set kept = record {
    fault = fault;
    writes_are = ap (λ (v : HostView R). v.writes) is;
    set = tt;
    same = kept.0;
  }

pub ok_or_err : {A E : Type 0} (r : Result A E) (a : A) (e : E) → r ≡ Ok a → r ≡ Err e → ⊥
ok_or_err r a e is was = cc
