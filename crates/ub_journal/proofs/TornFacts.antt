-- What a place in memory that keeps its calls tells of what a crash may leave.
use Rattle.std.proofs.Common.{Bool, ◌≡◌, ◌≤◌, ◌<◌, ◌+◌, ◌++◌, ◌∷◌, [], ◌∙◌, ℕ, List, Option, Some, Result, Ok, Err, OnOk, length, take, get_or, slice_set, inl, inr, ap, arith, refl, sym, subst, length-append}
use Rattle.std.proofs.lemmas.Bool.{cases_lt}
use Rattle.std.proofs.lemmas.List.{set-get_or, take_all, take_more, take-append-le}
use Rattle.std.proofs.lemmas.Result.{on_ok_weaker}
use Rattle.ub_store.specs.Facts.{zero_page}
use Rattle.ub_journal.specs.Crash.{IsPublished, Resizes, TearsMark, TearsPage}
use Rattle.ub_journal.specs.Image.{Image, Journal, first_page}
use Rattle.ub_journal.specs.Place.{IsHonest, Lasts, PlaceFacts, Shows, Steps, counted}
use Rattle.ub_journal.specs.Torn.{Notes, StandsAtFirst, done, facts_after, first_image, left_after, noted, seen_after, torn, torn_facts}
use Rattle.ub_journal.specs.declared.place.Failed.{Failed}
use Rattle.ub_journal.specs.declared.torn.Deed.{Deed}
use Rattle.ub_journal.specs.declared.torn.Deed.TheVariants as deed
use Rattle.ub_journal.specs.declared.torn.TornPlace.{TornPlace}

-- one call more
pub seen_more : (i : Image) (ds : List Deed) (d : Deed) → seen_after i (ds ++ d ∷ []) ≡ done d (seen_after i ds)
seen_more i [] d = refl
seen_more i (e ∷ ds) d = seen_more (done e i) ds d

pub left_more : (P : Image → Type 0) (i : Image) (ds : List Deed) (d : Deed) (c : Image) → left_after P i (ds ++ d ∷ []) c → (old : Image) × left_after P i ds old × torn d (seen_after i ds) old c
left_more P i [] d c left = left
left_more P i (e ∷ ds) d c left = left_more (λ new. (old : Image) × P old × torn e i old new) (done e i) ds d c left

-- a call that was noted, or failed
module _ (is_honest : Bool) (first : Image) (ds : List Deed) (failures : ℕ) (d : Deed) (Step : Image → Image → Type 0) (same : (c : Image) → Step c c) (so : (i c : Image) → torn d (seen_after first ds) i c → Step i c) where
  note_steps : (result : Result (Unit {0}) Failed) → Steps Step (facts_after is_honest first ds failures) (facts_after is_honest first (noted d result ds) (counted result failures)) result
  note_steps (Ok x) = record {
    counts = record { honest = refl; failures = refl };
    leaves = λ honest c left. let from = left_more (λ i. i ≡ first) first ds d c left in (from.0, from.1, so from.0 c from.2);
    time = λ honest. record {
      later = longer;
      nothing_else = λ t c le left. elim (cases_lt left.0 (length ds + 1)) [
        | inl less ↦ inl (left.0, left.1, omega (arith, less), subst (λ l. left_after (λ i. i ≡ first) first l c) (take-append-le left.0 ds (d ∷ []) (omega (arith, less))) left.3)
        | inr past ↦ inr (subst (λ l. left_after (λ i. i ≡ first) first l c) (take_all left.0 (ds ++ d ∷ []) (omega (arith, past, left.2, length-append ds (d ∷ [])))) left.3)
      ];
      keeps = λ t c le left. (left.0, left.1, omega (arith, left.2, longer), subst (λ l. left_after (λ i. i ≡ first) first l c) (sym (take-append-le left.0 ds (d ∷ []) left.2)) left.3);
    };
  }
    where
      longer : length ds ≤ length (ds ++ d ∷ [])
      longer = omega (arith, length-append ds (d ∷ []))
  note_steps (Err e) = record {
    counts = record { honest = refl; failures = refl };
    leaves = λ honest c left. (c, left, same c);
    time = λ honest. record { later = omega arith; nothing_else = λ t c le left. inl left; keeps = λ t c le left. left };
  }

module _ {d : Deed} {old new : TornPlace} {result : Result (Unit {0}) Failed} (notes : Notes d old new result) where
  seen_then : OnOk result ((torn_facts new).seen ≡ done d (torn_facts old).seen)
  seen_then = subst (λ i. OnOk result (seen_after i new.deeds.items ≡ done d (torn_facts old).seen)) (sym notes.first)
      (subst (λ l. OnOk result (seen_after (first_image old) l ≡ done d (torn_facts old).seen)) (sym notes.deeds) (by_result result))
    where
      by_result : (r : Result (Unit {0}) Failed) → OnOk r (seen_after (first_image old) (noted d r old.deeds.items) ≡ done d (torn_facts old).seen)
      by_result (Ok x) = seen_more (first_image old) old.deeds.items d
      by_result (Err e) = tt

  -- what the call may leave, and that it counts
  pub torn_steps : (Step : Image → Image → Type 0) → ((c : Image) → Step c c) → ((i c : Image) → torn d (torn_facts old).seen i c → Step i c) → Steps Step (torn_facts old) (torn_facts new) result
  torn_steps Step same so =
      subst (λ h. Steps Step (torn_facts old) (facts_after h (first_image new) new.deeds.items new.failures) result) (sym notes.honest)
      (subst (λ i. Steps Step (torn_facts old) (facts_after old.honest i new.deeds.items new.failures) result) (sym notes.first)
      (subst (λ l. Steps Step (torn_facts old) (facts_after old.honest (first_image old) l new.failures) result) (sym notes.deeds)
      (subst (λ n. Steps Step (torn_facts old) (facts_after old.honest (first_image old) (noted d result old.deeds.items) n) result) (sym notes.failures)
      (note_steps old.honest (first_image old) old.deeds.items old.failures d Step same so result))))

  -- what is seen then
  pub torn_shows : (change : Image → Image) → ((i : Image) → done d i ≡ change i) → OnOk result (Shows change (torn_facts old) (torn_facts new))
  torn_shows change is = on_ok_weaker result (λ now honest. now ∙ is (torn_facts old).seen) seen_then

  -- what lasts then
  pub torn_lasts : (what : Image → Image → Type 0) → ((i : Image) → done d i ≡ i) → ((i c : Image) → torn d (torn_facts old).seen i c → what (torn_facts old).seen c)
      → OnOk result (IsHonest (torn_facts old) → Lasts what (torn_facts old) (torn_facts new))
  torn_lasts what is so = subst (λ i. OnOk result (IsHonest (torn_facts old) → Lasts what (torn_facts old) (facts_after new.honest i new.deeds.items new.failures))) (sym notes.first)
      (subst (λ l. OnOk result (IsHonest (torn_facts old) → Lasts what (torn_facts old) (facts_after new.honest (first_image old) l new.failures))) (sym notes.deeds) (by_result result))
    where
      by_result : (r : Result (Unit {0}) Failed) → OnOk r (IsHonest (torn_facts old) → Lasts what (torn_facts old) (facts_after new.honest (first_image old) (noted d r old.deeds.items) new.failures))
      by_result (Ok x) = λ honest. record {
        seen = seen_more (first_image old) old.deeds.items d ∙ is (torn_facts old).seen;
        durable = λ c left. let from = left_more (λ i. i ≡ first_image old) (first_image old) old.deeds.items d c left in so from.0 c from.2;
      }
      by_result (Err e) = tt

-- each step may be none
pub no_page : (n : ℕ) (c : Image) → TearsPage n c c
no_page n c = record { same = refl; no_shorter = omega arith; no_longer = omega arith; others = λ m ne less. refl; rest = λ less. refl }

pub no_mark : (c : Image) → TearsMark c c
no_mark c = record {
  same = refl;
  byte = get_or (first_page c.table) 5 0;
  table = sym (ap (slice_set c.table 0) (set-get_or (first_page c.table) 5 0) ∙ set-get_or c.table 0 zero_page);
  rest = λ some. refl;
}

pub no_size : (count : ℕ) (c : Image) → Resizes count c c
no_size count c = record { same = refl; no_longer = omega arith; kept = λ m in_count in_table. refl }

-- the draft has become the journal
pub torn_publishes : {old new : TornPlace} {result : Result (Unit {0}) Failed} → Notes deed.Publish old new result
    → OnOk result (IsHonest (torn_facts old) → IsPublished (torn_facts old).seen (torn_facts new).seen)
torn_publishes {old = old} {result = result} notes =
    on_ok_weaker result (λ shows honest.
    let is = shows honest in
    is ∙ ap (λ (d : Journal). record (torn_facts old).seen { journal = Some (torn_facts old).seen.draft; draft = d }) (sym (ap (λ (i : Image). i.draft) is)))
    (torn_shows notes (λ i. record i { journal = Some i.draft }) (λ i. refl))

-- after one call more of those that were done
pub seen_at : (first : Image) (ds : List Deed) (i : ℕ) (d : Deed) → i < length ds → d ≡ get_or ds i d → seen_after first (take (i + 1) ds) ≡ done d (seen_after first (take i ds))
seen_at first ds i d within is =
    ap (seen_after first) (take_more ds i d within) ∙ seen_more first (take i ds) (get_or ds i d) ∙ ap (λ (e : Deed). done e (seen_after first (take i ds))) (sym is)

-- what stands at first, told in other words
pub stands_so : {p q : List (List ℕ)} {a b : ℕ} {j k : Option Journal} {h : Bool} {facts : PlaceFacts} → p ≡ q → a ≡ b → j ≡ k → StandsAtFirst p a j h facts → StandsAtFirst q b k h facts
stands_so pages rest beside at = record {
  honest = at.honest;
  table = at.table ∙ pages;
  rest = at.rest ∙ rest;
  journal = at.journal ∙ beside;
  lasts = at.lasts;
  unfailed = at.unfailed;
}
