-- What a call of a medium in memory does to its view, is what a medium may do.
use Rattle.std.proofs.Common.{◌≡◌, ◌≢◌, ◌-◌, ℕ, zero, suc, List, [], ◌∷◌, ◌++◌, Ok, Err, refl, ap, inl, inr}
use Rattle.std.specs.List.{slice_get, slice_set}
use Rattle.std.proofs.lemmas.List.{length-append, length-set}
use Rattle.ub_file.specs.Memory.{MemView, mem_facts}
use Rattle.ub_store.specs.Facts.{Extends, WritesAt, raised, zero_page}
use Rattle.ub_store.specs.declared.fault.StoreFault.{StoreFault}
use Rattle.ub_store.specs.declared.fault.StoreFault.TheVariants.{Device, Memory}

pub put_other : (pages : List (List ℕ)) (n m : ℕ) (page : List ℕ) → m ≢ n → slice_get (slice_set pages n page) m ≡ slice_get pages m
put_other [] n m page other = refl
put_other (p ∷ ps) zero zero page other = absurd (other refl)
put_other (p ∷ ps) zero (suc m) page other = refl
put_other (p ∷ ps) (suc n) zero page other = refl
put_other (p ∷ ps) (suc n) (suc m) page other = put_other ps n m page (λ same. other (ap (λ (k : ℕ). suc k) same))

-- the page is put in its place
pub written_at : (n : ℕ) (page : List ℕ) (old mid : MemView) → mid ≡ record old { due = old.due - 1 }
    → WritesAt {A = Unit {0}} n page (mem_facts old) (mem_facts (record mid { pages = slice_set mid.pages n page })) (Ok tt)
written_at n page old mid same = rw same (record {
  frame = refl;
  count = length-set old.pages n page;
  flushed = inr refl;
  written = λ _. refl;
  others = λ _ m other. put_other old.pages n m page other;
  device = λ _. refl;
})

-- a failed write changes no page
pub not_written : (n : ℕ) (page : List ℕ) (old mid new : MemView) (fault : StoreFault) → mid ≡ record old { due = old.due - 1 }
    → new ≡ record mid { writes = raised mid.writes 1 } → fault ≡ Device → WritesAt {A = Unit {0}} n page (mem_facts old) (mem_facts new) (Err fault)
not_written n page old mid new fault same failed is = rw (failed, same, is) (record {
  frame = refl;
  count = refl;
  flushed = inl refl;
  written = tt;
  others = λ _ m other. refl;
  device = λ _. refl;
})

-- a page of zeros is added
pub grown : (old mid : MemView) (pages : List (List ℕ)) → mid ≡ record old { due = old.due - 1 } → pages ≡ mid.pages ++ zero_page ∷ []
    → Extends {A = Unit {0}} (mem_facts old) (mem_facts (record mid { pages = pages; rest = 0 })) (Ok tt)
grown old mid pages same more = rw (more, same) (record {
  frame = refl;
  flushed = inr refl;
  added = (length-append old.pages (zero_page ∷ []), λ _. refl);
  failed = tt;
  device = λ _. refl;
})

-- a failed growth adds no page, and may leave a part of one
pub not_grown : (old mid new : MemView) (fault : StoreFault) → mid ≡ record old { due = old.due - 1 }
    → new ≡ record mid { rest = 2048; writes = raised mid.writes 1 } → fault ≡ Device → Extends {A = Unit {0}} (mem_facts old) (mem_facts new) (Err fault)
not_grown old mid new fault same failed is = rw (failed, same, is) (record {
  frame = refl;
  flushed = inl refl;
  added = tt;
  failed = inl refl;
  device = λ _. refl;
})

-- where memory is refused, all stands as it was
pub no_room : (old mid : MemView) (pages : List (List ℕ)) → mid ≡ record old { due = old.due - 1 } → pages ≡ mid.pages
    → Extends {A = Unit {0}} (mem_facts old) (mem_facts (record mid { pages = pages })) (Err Memory)
no_room old mid pages same is = rw (is, same) (record {
  frame = refl;
  flushed = inl refl;
  added = tt;
  failed = inl refl;
  device = λ _. refl;
})
