-- The pages that are held after puts.
use Rattle.std.proofs.Common.{rules, ◌≡◌, inl, inr, ℕ, suc, List, [], ◌∷◌, None, Result, OnOk, OnErr, refl, arith}
use Rattle.std.specs.Prelude.{option_map}
use Rattle.ub_page.specs.Header.{IsHeader, header_page}
use Rattle.ub_page.specs.declared.header.Header.{Header}
use Rattle.ub_store.specs.Cache.{Renews, SameBut, page_at}
use Rattle.ub_store.specs.declared.fault.StoreFault.{StoreFault}
use Rattle.ub_writing.specs.Puts.{IsPutPage}

pub put_held : {A : Type 0} (P : List ℕ → Type 0) (n : ℕ) (put : List ℕ) (old new : List (ℕ × List ℕ)) (r : Result A StoreFault) → P put
    → OnOk r (page_at new n ≡ option_map (λ _. put) (page_at old n)) → OnErr r (page_at new n ≡ None) → SameBut n old new → Renews P old new
put_held P n put old new r h k j l = search rules

-- one call after the other, or none
pub renews_then : (P : List ℕ → Type 0) (old mid new : List (ℕ × List ℕ)) → Renews P old mid → Renews P mid new → Renews P old new
renews_then P old mid new h k = search rules

pub renews_none : (P : List ℕ → Type 0) (old : List (ℕ × List ℕ)) → Renews P old old
renews_none P old m page at = (page, at, inl refl)

pub renews_more : (P Q : List ℕ → Type 0) (old new : List (ℕ × List ℕ)) → ((page : List ℕ) → P page → Q page) → Renews P old new → Renews Q old new
renews_more P Q old new h k = search rules

-- which pages are put
pub put_header_of : (pages : List (List ℕ)) (header : Header) → IsHeader header → IsPutPage pages (header_page header)
put_header_of pages header is = inr (header, is, refl)

pub put_first : (page : List ℕ) (pages : List (List ℕ)) → IsPutPage (page ∷ pages) page
put_first page pages = inl (0, omega arith, refl)

pub put_none : (pages : List (List ℕ)) (page : List ℕ) → IsPutPage [] page → IsPutPage pages page
put_none pages page h = search rules

pub put_one : (first : List ℕ) (pages : List (List ℕ)) (page : List ℕ) → IsPutPage (first ∷ []) page → IsPutPage (first ∷ pages) page
put_one first pages page h = search rules

pub put_later : (first : List ℕ) (pages : List (List ℕ)) (page : List ℕ) → IsPutPage pages page → IsPutPage (first ∷ pages) page
put_later first pages page (inl (k, within, is)) = inl (suc k, omega arith, is)
put_later first pages page (inr header) = inr header
