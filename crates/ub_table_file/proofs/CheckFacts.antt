-- What checking a table file tells, step by step.
use Rattle.std.proofs.Common.{◌≡◌, ◌⊎◌, ◌∙◌, ℕ, List, Result, Ok, Err, IfOk, inl, inr, ap, subst, sym}
use Rattle.std.specs.Prelude.{IfErr, IsOkAnd, OnOk}
use Rattle.ub_table_file.specs.Checked.{IsCountOf, IsIllFault, PassesSound}
use Rattle.ub_table_file.specs.Commands.{IsTreeOf, loaded_line}
use Rattle.ub_table_file.specs.declared.making.Counts.{Counts}
use Rattle.ub_table_file.specs.inner.Checking.{ChecksTree, TellsCounts}
use Rattle.ub_store.specs.Facts.{StoreFacts}
use Rattle.ub_tree.specs.Opened.{IsOpenFault}
use Rattle.ub_tree.specs.View.{TreeView}
use Rattle.ub_tree.specs.declared.fault.TreeFault.{TreeFault}
use Rattle.ub_tree.specs.declared.fault.TreeFault.TheVariants.{Memory}

-- ---- an opened tree that was checked

module _ {T : Type 0} (items : T → List ℕ) (from : StoreFacts) (t : TreeView) (of : IsTreeOf from t) (counted : Result Counts TreeFault) (checks : ChecksTree t counted) where
  pub tree_text : (r : Result T TreeFault) → TellsCounts items counted r → IfOk r (λ text. IsCountOf from (items text))
  tree_text (Ok text) told = counts_of counted checks told
    where
      counts_of : (q : Result Counts TreeFault) → ChecksTree t q → TellsCounts items q (Ok text) → IsCountOf from (items text)
      counts_of (Ok c) checks is = record {
        tree = t;
        tree_is = of;
        well = checks.well;
        text_is = is ∙ ap (λ (n : ℕ). loaded_line n c.regions) checks.counts.0 ∙ ap (λ (n : ℕ). loaded_line t.rows n) checks.counts.1;
      }
      counts_of (Err fault) checks is = absurd is
  tree_text (Err fault) told = tt

  pub tree_ill : (r : Result T TreeFault) → TellsCounts items counted r → IfErr r (λ fault. IsIllFault from fault × PassesSound from fault)
  tree_ill (Ok text) told = tt
  tree_ill (Err fault) (inl memory) =
      (inl (subst (λ (f : TreeFault). IsOpenFault from f) (sym memory) tt), λ schema placed next honest pages. inl memory)
  tree_ill (Err fault) (inr is) =
      let stopped : ChecksTree t (Err fault) = subst (λ (q : Result Counts TreeFault). ChecksTree t q) is checks in (
        inr (record { tree = t; tree_is = of; is = stopped.refused; exact = stopped.exact }),
        λ schema placed next honest pages. stopped.sound (of.sound schema placed next honest pages).0,
      )

-- what was counted is told
pub counts_told : {T : Type 0} (items : T → List ℕ) (counted : Result Counts TreeFault) (counts : Counts) (line : List ℕ) (r : Result T TreeFault) → counted ≡ Ok counts
    → line ≡ loaded_line counts.rows counts.regions → IfOk r (λ text. items text ≡ line) → IfErr r (λ fault. fault ≡ Memory) → TellsCounts items counted r
counts_told items counted counts line (Ok text) is line_is told refused =
    subst (λ (q : Result Counts TreeFault). IsOkAnd q (λ c. items text ≡ loaded_line c.rows c.regions)) (sym is) (told ∙ line_is)
counts_told items counted counts line (Err fault) is line_is told refused = inl refused

-- ---- how a check of a tree has ended

-- with the counts where it ended well, and else with its fault
abbrev pub IsCounted : {A : Type 0} → Result A TreeFault → Counts → Result Counts TreeFault → Type 0
IsCounted {A} r counts told =
    ((a : A) × (r ≡ Ok a) × (told ≡ Ok counts)) ⊎ ((fault : TreeFault) × (r ≡ Err fault) × (told ≡ Err fault))

pub counted_well : {A : Type 0} (X : Type 0) (r : Result A TreeFault) (counts : Counts) (told : Result Counts TreeFault) → IsCounted r counts told → OnOk r X → OnOk told X
counted_well {A} X r counts told (inl (a, of, is)) h =
    subst (λ (q : Result Counts TreeFault). OnOk q X) (sym is) (subst (λ (q : Result A TreeFault). OnOk q X) of h)
counted_well {A} X r counts told (inr (fault, of, is)) h = subst (λ (q : Result Counts TreeFault). OnOk q X) (sym is) tt

pub counted_fault : {A : Type 0} (Q : TreeFault → Type 0) (r : Result A TreeFault) (counts : Counts) (told : Result Counts TreeFault) → IsCounted r counts told
    → IfErr r Q → IfErr told Q
counted_fault {A} Q r counts told (inl (a, of, is)) h = subst (λ (q : Result Counts TreeFault). IfErr q Q) (sym is) tt
counted_fault {A} Q r counts told (inr (fault, of, is)) h =
    subst (λ (q : Result Counts TreeFault). IfErr q Q) (sym is) (subst (λ (q : Result A TreeFault). IfErr q Q) of h)

pub counted_counts : {A : Type 0} (r : Result A TreeFault) (counts : Counts) (told : Result Counts TreeFault) (rows regions : ℕ) → IsCounted r counts told
    → counts.rows ≡ rows → counts.regions ≡ regions → IfOk told (λ c. (c.rows ≡ rows) × (c.regions ≡ regions))
counted_counts r counts told rows regions (inl (a, of, is)) h k =
    subst (λ (q : Result Counts TreeFault). IfOk q (λ c. (c.rows ≡ rows) × (c.regions ≡ regions))) (sym is) (h, k)
counted_counts r counts told rows regions (inr (fault, of, is)) h k =
    subst (λ (q : Result Counts TreeFault). IfOk q (λ c. (c.rows ≡ rows) × (c.regions ≡ regions))) (sym is) tt
