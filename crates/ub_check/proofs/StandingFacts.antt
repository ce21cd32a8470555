-- Whether a region stands where one is due.
use Rattle.std.proofs.Common.{rules, ◌≡◌, ◌≢◌, ◌-◌, ◌↔◌, ℕ, zero, suc, Bool, true, List, [], ◌∷◌, Some, Result, length, subst, arith, slice_get}
use Rattle.ub_check.proofs.Common.{AllByRecursion, before_of, before_trans, IsBefore, IsPage, Key, keys_of, length-map, precedes, precedes_of, Reads, Row}
use Rattle.ub_check.proofs.Common.{StoreFacts, StoreFault}
use Rattle.ub_table.specs.Keys.{AreKeysAscending}

-- a page of a store that was read is one of the store before
pub page_still : {A : Type 0} (result : Result A StoreFault) (old new : StoreFacts) (n : ℕ) (page : List ℕ) → Reads old new result → IsPage new n page → IsPage old n page
page_still result old new n page reads is = subst (λ (s : StoreFacts). IsPage s n page) reads.same is

module _ {X : Type 0} (P : X → Type 0) where
  pub each_get : (xs : List X) (i : ℕ) (x : X) → AllByRecursion P xs → slice_get xs i ≡ Some x → P x
  each_get [] i x all at = cc
  each_get (y ∷ xs) zero x all at = let same : y ≡ x = cc in subst P same all.0
  each_get (y ∷ xs) (suc i) x all at = each_get xs i x all.1 at

-- before a key is each of ascending keys, where the last is
pub before_last : (key : Key) (keys : List Key) (i : ℕ) (end : Key) → AreKeysAscending keys → length keys ≡ suc i → slice_get keys i ≡ Some end → IsBefore end key
    → AllByRecursion (λ k. IsBefore k key) keys
before_last key [] i end up long at before = tt
before_last key (k ∷ []) (suc i) end up long at before = cc
before_last key (k ∷ j ∷ keys) (suc i) end up long at before = search (rules, (before_last key (j ∷ keys) i end up.1 (omega arith) at before), before_trans)
before_last key keys i end up long at before = search (rules, before_trans)

pub all_before : (key : Key) (keys : List Key) (i : ℕ) (end : Key) → AreKeysAscending keys → length keys ≡ suc i → slice_get keys i ≡ Some end
    → IsBefore end key ↔ AllByRecursion (λ k. IsBefore k key) keys
all_before key keys i end up long at = (before_last key keys i end up long at, λ all. each_get (λ k. IsBefore k key) keys i end all at)

pub last_tells : (key end : Key) (dims len : ℕ) (rows : List Row) (b : Bool) → AreKeysAscending (keys_of dims rows) → len ≡ length rows → len ≢ 0
    → slice_get (keys_of dims rows) (len - 1) ≡ Some end → b ≡ precedes end key → (b ≡ true) ↔ AllByRecursion (λ k. IsBefore k key) (keys_of dims rows)
last_tells key end dims len rows b h k j l m = search (rules, all_before, before_of, length-map, precedes_of)
