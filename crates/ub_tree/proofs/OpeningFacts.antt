-- Why the root of a table's index is refused, as opening the table is.
use Rattle.std.proofs.Common.{rules, ◌≡◌, ◌∙◌, inr, ℕ, List, Result, Ok, Err, IfErr, ap, subst, refl}
use Rattle.ub_tree.proofs.Common.{AreSoundPages, HasHeader, Header, index_fault, index_of, IndexFault, IsErrAnd, IsHonest, IsOpenFault, IsPassing, IsRooted}
use Rattle.ub_tree.proofs.Common.{Opens as OpensIndex, PagerView, Placed, Schema, store_after, StoreFacts, TreeFault}
use Rattle.ub_index.specs.Opening.{IsOpenFault as IsRootFault, IsPassing as IsPassingIndex, IsRooted as HasRoot}
use Rattle.ub_tree.proofs.OpenedFacts.{one_index}
use Rattle.ub_tree.proofs.SearchFacts.{stores_alike}
use Rattle.ub_tree.specs.inner.Opening.{Opens}
use Rattle.ub_index.specs.declared.fault.IndexFault.TheVariants as index
use Rattle.ub_store.specs.declared.fault.StoreFault.TheVariants as store

-- a fault of the root of which a header tells is one of opening
root_fault : (old : StoreFacts) (header : Header) → HasHeader old header → (e : IndexFault) → IsRootFault (index_of header) old e → IsOpenFault old (index_fault e)
root_fault old header has (index.Page n fault) h = (h.1, h.2, inr (header, has, h.0, h.3))
root_fault old header has (index.Store store.Memory) h = tt
root_fault old header has (index.Store store.Device) h = h
root_fault old header has (index.Store store.NoPage) h = (header.root, inr (header, has, refl), h)
root_fault old header has e h = absurd h

passing : (e : IndexFault) → IsPassingIndex e → IsPassing (index_fault e)
passing e h = search rules

-- the header was read, and then the root of which it tells was refused
module _ (old mid new : PagerView) (header : Header) (first : Opens {A = Header} old mid (Ok header)) (has : HasHeader old.store header) (e : IndexFault) where
  stores : mid.store ≡ old.store
  stores = ap (λ (p : PagerView). p.store) first.same

  pub root_refused : {T : Type 0} (U : Type 0) (r : Result T TreeFault) → IsErrAnd r (λ x. x ≡ index_fault e) → OpensIndex {A = U} (index_of header) mid new (Err e) → Opens {A = T} old new r
  root_refused U (Ok x) is h = absurd is
  root_refused {T} U (Err f) is h = rw is (record {
    same = h.same ∙ ap (λ (p : PagerView). record p { store = store_after {A = U} (Err e) p.store; cached = new.cached }) first.same
        ∙ ap (λ (s : StoreFacts). record old { store = s; cached = new.cached }) (stores_alike T U e old.store);
    faults = root_fault old.store header has e (subst (λ (s : StoreFacts). IsRootFault (index_of header) s e) stores h.faults);
  })

  -- of a closed table that comes for want of memory alone, or as the store failed
  pub root_passes : {T : Type 0} (r : Result T TreeFault) → IsErrAnd r (λ x. x ≡ index_fault e) → (IsHonest mid.store → HasRoot (index_of header) mid.store → IsPassingIndex e)
      → (h : Header) → IsHonest old.store → IsRooted old.store.pages h → IfErr r IsPassing
  root_passes r k j h l m = search (rules, one_index, passing, stores)

-- the pages of a closed table tell of the root of its index
pub table_rooted : (pages : List (List ℕ)) (schema : Schema) (placed : List Placed) (next : ℕ) (s : AreSoundPages pages schema placed next) → IsRooted pages s.header
table_rooted pages schema placed next s = search rules
