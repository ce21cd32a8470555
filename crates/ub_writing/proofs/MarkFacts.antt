-- Pages put one after the other, and the mark of the table before the first.
use Rattle.std.proofs.Common.{rules, arith, ◌≡◌, ◌≤◌, ◌++◌, ℕ, List, [], ◌∷◌, Some, Result, Ok, Err, OnOk, OnErr, ◌∙◌, ap, refl, length, slice_get, slice_set}
use Rattle.ub_page.specs.Header.{header_page}
use Rattle.ub_page.specs.declared.header.Header.{Header}
use Rattle.ub_store.specs.Facts.{StoreFacts, Appends, Extends, IsHonest, WritesAt, page_count, zero_page}
use Rattle.ub_store.specs.declared.fault.StoreFault.{StoreFault}
use Rattle.ub_table.specs.declared.schema.Schema.{Schema}
use Rattle.ub_writing.specs.Marks.{HasMark, IsMark}

-- what holds holds of an error too
pub on_err : {T E : Type 0} (r : Result T E) (P : Type 0) → P → OnErr r P
on_err r P h = search rules

first_is_set : {A : Type 0} (xs : List A) (x : A) → 1 ≤ length xs → slice_get (slice_set xs 0 x) 0 ≡ Some x
first_is_set [] x some = absurd (omega arith)
first_is_set (y ∷ ys) x some = refl

-- the page of a mark that was put first
pub marked_first : {A : Type 0} (schema : Schema) (header : Header) (s t : StoreFacts) (r : Result A StoreFault) (P : Type 0) → IsMark schema header → WritesAt 0 (header_page header) s t r
    → 1 ≤ page_count s → (P → IsHonest s) → OnOk r (P → HasMark schema t.pages)
marked_first schema header s t (Err fault) P is writes some honest = tt
marked_first schema header s t (Ok x) P is writes some honest = λ p.
    (header_page header, (header, is, refl), ap (λ (pages : List (List ℕ)). slice_get pages 0) (writes.written (honest p)) ∙ first_is_set s.pages (header_page header) some)

-- the first page is as it was
pub mark_kept : (schema : Schema) (old new : List (List ℕ)) → slice_get new 0 ≡ slice_get old 0 → HasMark schema old → HasMark schema new
mark_kept schema old new e (page, is, there) = (page, is, e ∙ there)

-- a page more stands after the first
first_stays : {A : Type 0} (xs : List A) (x : A) → 1 ≤ length xs → slice_get (xs ++ x ∷ []) 0 ≡ slice_get xs 0
first_stays [] x some = absurd (omega arith)
first_stays (y ∷ ys) x some = refl

-- a page more stands after the mark, or none
pub mark_extended : {A : Type 0} (schema : Schema) (s t : StoreFacts) (r : Result A StoreFault) → Extends s t r → IsHonest s → 1 ≤ page_count s → HasMark schema s.pages → HasMark schema t.pages
mark_extended schema s t r h k j l = search (rules, first_stays, mark_kept)

second_is_set : {A : Type 0} (xs : List A) (x : A) → 2 ≤ length xs → slice_get (slice_set xs 1 x) 1 ≡ Some x
second_is_set [] x some = absurd (omega arith)
second_is_set (a ∷ []) x some = absurd (omega arith)
second_is_set (a ∷ b ∷ ys) x some = refl

module _ (s t u v : StoreFacts) (one : page_count s ≡ 1) (more : Appends zero_page s t) (last : Appends zero_page t u) (honest : IsHonest s) (first_same : t.honest ≡ s.honest) where
  mark_stays : slice_get u.pages 0 ≡ slice_get s.pages 0
  mark_stays = search (rules, first_stays)

  -- two pages more, and one of them put
  pub laid_first : {A : Type 0} (page : List ℕ) (r : Result A StoreFault) → WritesAt 1 page u v r → u.honest ≡ t.honest → slice_get v.pages 0 ≡ slice_get s.pages 0
  laid_first page r writes same = writes.others (same ∙ first_same ∙ honest) 0 (λ e. absurd (omega arith)) ∙ mark_stays

  pub laid_second : (page : List ℕ) → v.pages ≡ slice_set u.pages 1 page → slice_get v.pages 1 ≡ Some page
  laid_second page e = ap (λ (pages : List (List ℕ)). slice_get pages 1) e ∙ second_is_set u.pages page (omega (arith, more.0, last.0))
