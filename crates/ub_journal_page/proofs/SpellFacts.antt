-- What is written of a journal.
use Rattle.std.proofs.Common.{◌≡◌, ◌<◌, ◌+◌, ◌-◌, ◌*◌, ◌%◌, ℕ, zero, suc, List, [], ◌∷◌, ◌++◌, Option, Some, None, Result, Ok, Err, length, take, drop, replicate, slice_get, sym, ap, subst, arith, ◌∙◌, append_assoc}
use Rattle.std.proofs.lemmas.List.{append-nil, length-append, length-replicate, take_all}
use Rattle.std.specs.Io.KnownBytes.{Appends}
use Rattle.std.specs.Result.{OnOk}
use Rattle.ub_journal.specs.Image.{Journal}
use Rattle.ub_journal.specs.declared.journal.Change.{Change}
use Rattle.ub_journal_page.specs.Pages.{byte_pages, byte_parts, change_bytes, changes_bytes, head_of, held_of, joined, number_bytes, number_page, pages_of}
use Rattle.ub_journal_page.proofs.Lists.{drop-replicate}
use Rattle.ub_journal_page.proofs.PackedFacts.{joined_pages}

-- nothing was written
pub appends_none : (a : Option (List ℕ)) → Appends a a []
appends_none None = tt
appends_none (Some xs) = sym (append-nil xs)

-- and then more
pub appends_more : (a b c : Option (List ℕ)) (xs ys : List ℕ) → Appends a b xs → Appends b c ys → Appends a c (xs ++ ys)
appends_more None b c xs ys h k = tt
appends_more (Some zs) None c xs ys h k = absurd h
appends_more (Some zs) (Some bs) None xs ys h k = k
appends_more (Some zs) (Some bs) (Some cs) xs ys h k = k ∙ ap (λ (s : List ℕ). s ++ ys) h ∙ append_assoc zs xs ys

-- the front of a change, and then its bytes
pub change_written : (a b d : Option (List ℕ)) (number held : ℕ) (front page : List ℕ) → held ≡ held_of page → front ≡ number_bytes number ++ number_bytes held → Appends a b front
    → Appends b d (take held page) → Appends a d (change_bytes (record { number = number; page = page }))
change_written a b d number held front page same is one two =
    subst (λ (s : List ℕ). Appends a d s) (ap (λ (s : List ℕ). s ++ take held page) is ∙ append_assoc (number_bytes number) (number_bytes held) (take held page)
    ∙ ap (λ (n : ℕ). number_bytes number ++ (number_bytes n ++ take n page)) same) (appends_more a b d front (take held page) one two)

-- the zeros behind so many bytes of a page
pub zeros_part : (within : ℕ) → within < 4096 → (within ≡ 0 → ⊥) → take {A = ℕ} (4096 - within) (drop within (replicate 4096 0)) ≡ replicate ((4096 - within) % 4096) 0
zeros_part within less some =
    let much : (4096 - within) % 4096 ≡ 4096 - within = omega (arith, some) in
    let blank : List ℕ = replicate (4096 - within) 0 in
    let count : length blank ≡ 4096 - within = length-replicate (4096 - within) 0 in
    let left : drop within (replicate 4096 0) ≡ blank = drop-replicate within 4096 0 in
    ap (λ (s : List ℕ). take (4096 - within) s) left ∙ take_all (4096 - within) blank (omega (arith, count)) ∙ ap (λ (n : ℕ). replicate n 0) (sym much)

changes_next : (cs : List Change) (n : ℕ) (c : Change) → slice_get cs n ≡ Some c → changes_bytes (take (suc n) cs) ≡ changes_bytes (take n cs) ++ change_bytes c
changes_next [] n c is = absurd (let wrong = is in cc)
changes_next (d ∷ cs) zero c is = let same : d ≡ c = cc in ap (λ (e : Change). change_bytes e ++ []) same ∙ append-nil (change_bytes c)
changes_next (d ∷ cs) (suc n) c is =
    ap (λ (s : List ℕ). change_bytes d ++ s) (changes_next cs n c is) ∙ sym (append_assoc (change_bytes d) (changes_bytes (take n cs)) (change_bytes c))

-- one change more is written
pub written_more : (a b d : Option (List ℕ)) (cs : List Change) (n : ℕ) (c : Change) → slice_get cs n ≡ Some c → Appends a b (changes_bytes (take n cs)) → Appends b d (change_bytes c)
    → Appends a d (changes_bytes (take (n + 1) cs))
written_more a b d cs n c is so_far more =
    let next : suc n ≡ n + 1 = omega arith in
    subst (λ (s : List ℕ). Appends a d s) (sym (changes_next cs n c is) ∙ ap (λ (k : ℕ). changes_bytes (take k cs)) next) (appends_more a b d (changes_bytes (take n cs)) (change_bytes c) so_far more)

-- and so many bytes stand on the last page
pub within_more : (cs : List Change) (n : ℕ) (c : Change) (within count next : ℕ) → slice_get cs n ≡ Some c → within ≡ length (changes_bytes (take n cs)) % 4096 → count ≡ length (change_bytes c)
    → next ≡ (within + count) % 4096 → next ≡ length (changes_bytes (take (n + 1) cs)) % 4096
within_more cs n c within count next is so_far more at =
    let step : suc n ≡ n + 1 = omega arith in
    let all : length (changes_bytes (take (n + 1) cs)) ≡ length (changes_bytes (take n cs)) + length (change_bytes c) =
    ap (λ (k : ℕ). length (changes_bytes (take k cs))) (sym step) ∙ ap length (changes_next cs n c is) ∙ length-append (changes_bytes (take n cs)) (change_bytes c) in
    omega (arith, all, so_far, more, at)

-- what is written before the zeros
abbrev pub front_bytes : Journal → List ℕ
front_bytes j = number_page (head_of 2 j.count (length j.changes)) ++ (j.before ++ (j.head ++ changes_bytes j.changes))

pub written_front : (j : Journal) (a b c d e : Option (List ℕ)) (before head : List ℕ) → Appends a b (number_page (head_of 2 j.count (length j.changes))) → before ≡ j.before → Appends b c before
    → head ≡ j.head → Appends c d head → Appends d e (changes_bytes j.changes) → Appends a e (front_bytes j)
written_front j a b c d e before head one is_before two is_head three four =
    appends_more a b e (number_page (head_of 2 j.count (length j.changes))) (j.before ++ (j.head ++ changes_bytes j.changes)) one
    (appends_more b c e j.before (j.head ++ changes_bytes j.changes) (subst (λ (s : List ℕ). Appends b c s) is_before two)
    (appends_more c d e j.head (changes_bytes j.changes) (subst (λ (s : List ℕ). Appends c d s) is_head three) four))

all_bytes : (j : Journal) (within : ℕ) → within ≡ length (changes_bytes j.changes) % 4096 → front_bytes j ++ replicate ((4096 - within) % 4096) 0 ≡ joined (pages_of j)
all_bytes j within at =
    let head : List ℕ = number_page (head_of 2 j.count (length j.changes)) in
    let bytes : List ℕ = changes_bytes j.changes in
    let blank : List ℕ = replicate ((4096 - within) % 4096) 0 in
    let much : (4096 - within) % 4096 ≡ 4096 * byte_parts (length bytes) - length bytes = omega (arith, at) in
    let rest : bytes ++ blank ≡ joined (byte_pages bytes) = ap (λ (n : ℕ). bytes ++ replicate n 0) much ∙ sym (joined_pages bytes) in
    append_assoc head (j.before ++ (j.head ++ bytes)) blank
    ∙ ap (λ (s : List ℕ). head ++ s) (append_assoc j.before (j.head ++ bytes) blank ∙ ap (λ (s : List ℕ). j.before ++ s) (append_assoc j.head bytes blank ∙ ap (λ (s : List ℕ). j.head ++ s) rest))

-- with the zeros they are the pages of a journal
pub ends_written : {E : Type 0} (j : Journal) (a b c : Option (List ℕ)) (within : ℕ) (result : Result Unit E) → Appends a b (front_bytes j) → within ≡ length (changes_bytes j.changes) % 4096
    → OnOk result (Appends b c (replicate ((4096 - within) % 4096) 0)) → OnOk result (Appends a c (joined (pages_of j)))
ends_written j a b c within (Ok u) front at ends = subst (λ (s : List ℕ). Appends a c s) (all_bytes j within at) (appends_more a b c (front_bytes j) (replicate ((4096 - within) % 4096) 0) front ends)
ends_written j a b c within (Err e) front at ends = ends
