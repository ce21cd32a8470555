-- A table of an older format, over a new store: its mark stays, the root of its index stands where it stood, and why that isn't taken.
use Rattle.std.proofs.Common.{rules, ◌≡◌, ◌≤◌, ◌∙◌, ◌⊎◌, inl, inr, ℕ, List, [], None, Some, Result, IfErr, MatchResult, length, ap, slice_get, sym, subst, arith}
use Rattle.ub_upgrade.proofs.Common.{CanBring, Entry, get_or_from_slice_get, HasMark, HasOldHeader, IsBringFault, IsBrought, IsErrAnd, IsHonest, IsNotTaken}
use Rattle.ub_upgrade.proofs.Common.{IsOldHeader, IsPassing, IsTableFault, IsUnder, IsUnfit, last_address, NamesFitting, New, Old, OldHeader, Page, page_count}
use Rattle.ub_upgrade.proofs.Common.{page_in, PageFault, Root, Schema, StoreFacts, top, UpgradeFault}
use Rattle.ub_store.specs.Writing.{Grows}
use Rattle.ub_upgrade.specs.inner.Table.{IsRootFault}
use Rattle.ub_store.specs.declared.fault.StoreFault.TheVariants as store

-- what a refusal answers
pub err_passes : {T : Type 0} (r : Result T UpgradeFault) (Q : T → Type 0) (e : UpgradeFault) → IsErrAnd r (λ x. x ≡ e) → IsPassing e → MatchResult r Q IsPassing
err_passes r Q e h k = search rules

pub err_refused : {T : Type 0} (r : Result T UpgradeFault) (Q : UpgradeFault → Type 0) (e : UpgradeFault) → IsErrAnd r (λ x. x ≡ e) → Q e → IfErr r Q
err_refused r Q e h k = search rules

-- the mark on the only page there was stays where pages come after it
pub mark_before : (schema : Schema) (old new : StoreFacts) → Grows old new → page_count old ≡ 1 → IsHonest old → HasMark schema old.pages → HasMark schema new.pages
mark_before schema old new grows one honest mark = (mark.0, mark.1, grows.kept honest 0 (omega arith) ∙ mark.2)

-- a refusal is told of the stores alone, not of what was done before
pub bring_moved : (head : OldHeader) (from a b : StoreFacts) → a.can_fail ≡ b.can_fail → (e : UpgradeFault) → IsBringFault head from a e → IsBringFault head from b e
bring_moved head from a b h e k = search rules

-- a header of an old version is of version 1 or 2
pub versions : (head : OldHeader) → IsOldHeader head → (head.version ≡ 1) ⊎ (head.version ≡ 2)
versions head h = search rules

-- the root of an index fits
pub root_fits : (last : ℕ) (pages : List (List ℕ)) (n root : ℕ) → 1 ≤ n → IsUnder last pages n (top root) None → NamesFitting last pages n (top root) None
root_fits last pages n root h k = search rules

module _ (head : OldHeader) (from : StoreFacts) (new : List (List ℕ)) (root : Root) (some : 1 ≤ root.page) (level : 1 ≤ root.level) (brought : IsBrought head from new root) where
  abbrev last : ℕ
  last = last_address head.header.schema.dims

  -- in version 1 that of the index that was built
  pub built_root : head.version ≡ 1 → NamesFitting last new root.level (top root.page) None
  built_root first = root_fits last new root.level root.page level (brought.directory first).4.under_it

  module _ (second : head.version ≡ 2) where
    root_is : root ≡ record { page = head.header.root; level = head.header.levels }
    root_is = (brought.index second).2

    -- in version 2 its page is the one that there was
    root_page : slice_get new head.header.root ≡ slice_get from.pages head.header.root
    root_page = (brought.index second).0 head.header.root (subst (λ (r : Root). 1 ≤ r.page) root_is some)

    pub fits_still : NamesFitting last from.pages head.header.levels (top head.header.root) None → NamesFitting last new root.level (top root.page) None
    fits_still h = search (rules, get_or_from_slice_get, root_is, root_page)

    missing_still : length new ≤ root.page → IsNotTaken last from.pages head.header.levels (top head.header.root) None None
    missing_still h = search rules

    refused_still : (page : List ℕ) (fault : PageFault) → slice_get new root.page ≡ Some page → IsUnfit last page root.level (top root.page) None fault
        → IsNotTaken last from.pages head.header.levels (top head.header.root) None (Some fault)
    refused_still page fault at h =
        let old_at : slice_get from.pages head.header.root ≡ Some page = sym root_page ∙ subst (λ (r : Root). slice_get new r.page ≡ Some page) root_is at in
        let is : page_in from.pages head.header.root ≡ page = get_or_from_slice_get from.pages head.header.root page [] old_at in (
          old_at ∙ ap (λ (x : List ℕ). Some x) (sym is),
          subst (λ (x : List ℕ). IsUnfit last x head.header.levels (top head.header.root) None fault) (sym is)
              (subst (λ (r : Root). IsUnfit last page r.level (top r.page) None fault) root_is h),
        )

-- where the pages can be brought over, the root fits
pub rooted : (head : OldHeader) (from : StoreFacts) (new : List (List ℕ)) (root : Root) → 1 ≤ root.page → 1 ≤ root.level → IsBrought head from new root → (entries : List Entry)
    → CanBring head from.pages entries → NamesFitting (last_address head.header.schema.dims) new root.level (top root.page) None
rooted head from new root h k j entries l = search (rules, built_root, fits_still)

-- why the root isn't taken
module _ (from new mid : StoreFacts) (head : OldHeader) (root : Root) (has : HasOldHeader from head) (some : 1 ≤ root.page) (level : 1 ≤ root.level) (fails : mid.can_fail ≡ new.can_fail)
    (still : IsHonest new → IsHonest mid) (brought : IsHonest from → IsHonest new → IsBrought head from mid.pages root) where
  abbrev end : ℕ
  end = last_address head.header.schema.dims

  -- over honest stores that comes in version 2 alone
  second_of : (e : UpgradeFault) → (IsHonest mid → NamesFitting end mid.pages root.level (top root.page) None → IsPassing e) → (¬ (IsPassing e)) → IsHonest from → IsHonest new → head.version ≡ 2
  second_of e h k j l = search (rules, built_root, versions)

  pub root_fault : (e : UpgradeFault) → (IsHonest mid → NamesFitting end mid.pages root.level (top root.page) None → IsPassing e) → IsRootFault end root mid e → IsTableFault from new e
  root_fault (Old fault) exact h = absurd h
  root_fault (New store.Memory) exact h = inr (inl tt)
  root_fault (New store.Device) exact h = inr (inl (sym fails ∙ h))
  root_fault (New store.BadSize) exact h = absurd h
  root_fault (New store.NoPage) exact h = inr (inr (
    head,
    has,
    inr (λ honest new_honest.
        let second = second_of (New store.NoPage) exact (λ never. never) honest new_honest in
        (second, missing_still head from mid.pages root some level (brought honest new_honest) second h)),
  ))
  root_fault (Page n fault) exact h = inr (inr (
    head,
    has,
    inr (λ honest new_honest.
        let second = second_of (Page n fault) exact (λ never. never) honest new_honest in
        let b = brought honest new_honest in (
          second,
          h.0 ∙ ap (λ (r : Root). r.page) (b.index second).2,
          refused_still head from mid.pages root some level b second h.1 fault (ap (slice_get mid.pages) (sym h.0) ∙ h.2 (still new_honest)) h.3,
        )),
  ))
