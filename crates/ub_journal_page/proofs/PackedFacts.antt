-- What changes of version 2 read as.
use Rattle.std.proofs.Common.{◌≡◌, ◌≤◌, ◌<◌, ◌+◌, ◌-◌, ◌*◌, ◌^◌, ℕ, zero, suc, List, [], ◌∷◌, ◌++◌, length, take, drop, replicate, refl, sym, ap, arith, ◌∙◌, append_assoc}
use Rattle.std.proofs.lemmas.List.{append-nil, drop_at, length-append, length-replicate, length-take, take_all, take_at}
use Rattle.std.specs.List.{AllByRecursion}
use Rattle.byteorder.specs.Endian.{big_number}
use Rattle.ub_journal.specs.Image.{numbers_of}
use Rattle.ub_journal.specs.declared.journal.Change.{Change}
use Rattle.ub_journal_page.specs.Pages.{HasPages, byte_pages, byte_parts, change_bytes, changes_bytes, cut, held_of, joined, number_bytes}
use Rattle.ub_journal_page.specs.inner.Numbers.{number_at}
use Rattle.ub_journal_page.specs.inner.Parts.{AreFull, AreSmall, ArePacked, AreSoMany, IsSound}
use Rattle.ub_journal_page.proofs.HeldFacts.{held_few, held_whole}
use Rattle.ub_journal_page.proofs.Lists.{both_counts, of_front, take_both, take_counts}
use Rattle.ub_journal_page.proofs.NumberFacts.{length-number_bytes, reads_back}

-- numbers and then bytes
pub two_bytes : (number held : ℕ) → length (number_bytes number ++ number_bytes held) ≡ 8
two_bytes number held = omega (arith, length-append (number_bytes number) (number_bytes held), length-number_bytes number, length-number_bytes held)

pub length_change : (c : Change) → length c.page ≡ 4096 → (length (change_bytes c) ≡ 8 + held_of c.page) × (held_of c.page ≤ 4096)
length_change c full =
    let few = held_few c.page in
    let held : List ℕ = take (held_of c.page) c.page in (
      omega (
        arith,
        length-append (number_bytes c.number) (number_bytes (held_of c.page) ++ held),
        length-append (number_bytes (held_of c.page)) held,
        length-number_bytes c.number,
        length-number_bytes (held_of c.page),
        length-take (held_of c.page) c.page,
      ),
      omega arith,
    )

-- so many changes take eight bytes each, at least
pub length_changes : (cs : List Change) → HasPages cs → 8 * length cs ≤ length (changes_bytes cs)
length_changes [] full = omega arith
length_changes (c ∷ cs) full =
    let here = (length_change c full.0).0 in
    omega (arith, here, length_changes cs full.1, length-append (change_bytes c) (changes_bytes cs))

-- what the two numbers read as
pub fronts_back : (front : List ℕ) (number held : ℕ) → number < 2 ^ 32 → held < 2 ^ 32 → front ≡ number_bytes number ++ number_bytes held
    → (number_at 0 front ≡ number) × (number_at 4 front ≡ held)
unfolding number_at
fronts_back front number held small few is =
    let first : big_number 4 front ≡ number = ap (big_number 4) is ∙ reads_back number (number_bytes held) small in
    let behind : drop 4 front ≡ number_bytes held = (of_front (number_bytes number) (number_bytes held) front 4 (sym (length-number_bytes number)) is).0 in
    let second : big_number 4 (drop 4 front) ≡ held = ap (big_number 4) (behind ∙ sym (append-nil (number_bytes held))) ∙ reads_back held [] few in
    (first, second)

-- two spellings that go on are equal part by part
pub seam : (a b x y : List ℕ) → length a ≡ length b → a ++ x ≡ b ++ y → (a ≡ b) × (x ≡ y)
seam a b x y long is = (
  sym (take_at a x (length a) refl) ∙ ap (take (length a)) is ∙ take_at b y (length a) (sym long),
  sym (drop_at a x (length a) refl) ∙ ap (drop (length a)) is ∙ drop_at b y (length a) (sym long),
)

-- a change's bytes, with the two numbers first
pub by_front : (c : Change) (x : List ℕ) → change_bytes c ++ x ≡ (number_bytes c.number ++ number_bytes (held_of c.page)) ++ (take (held_of c.page) c.page ++ x)
by_front c x =
    let a : List ℕ = number_bytes c.number in
    let b : List ℕ = number_bytes (held_of c.page) in
    let held : List ℕ = take (held_of c.page) c.page in
    append_assoc a (b ++ held) x ∙ ap (λ (s : List ℕ). a ++ s) (append_assoc b held x) ∙ sym (append_assoc a b (held ++ x))

same_change : (c d : Change) → c.number ≡ d.number → c.page ≡ d.page → c ≡ d
same_change c d number page = rw (number, page) refl

-- the same bytes spell no two changes
pub change_back : (c d : Change) (x y : List ℕ) → IsSound c → IsSound d → change_bytes c ++ x ≡ change_bytes d ++ y → (c ≡ d) × (x ≡ y)
change_back c d x y good_c good_d is =
    let few_c = held_few c.page in let few_d = held_few d.page in
    let full_c = good_c.full in let full_d = good_d.full in
    let first = seam (number_bytes c.number ++ number_bytes (held_of c.page)) (number_bytes d.number ++ number_bytes (held_of d.page))
    (take (held_of c.page) c.page ++ x) (take (held_of d.page) d.page ++ y) (two_bytes c.number (held_of c.page) ∙ sym (two_bytes d.number (held_of d.page))) (sym (by_front c x) ∙ is ∙ by_front d y) in
    let told_c = fronts_back (number_bytes c.number ++ number_bytes (held_of c.page)) c.number (held_of c.page) good_c.small (omega arith) refl in
    let told_d = fronts_back (number_bytes c.number ++ number_bytes (held_of c.page)) d.number (held_of d.page) good_d.small (omega arith) first.0 in
    let number : c.number ≡ d.number = sym told_c.0 ∙ told_d.0 in
    let held : held_of c.page ≡ held_of d.page = sym told_c.1 ∙ told_d.1 in
    let rest = seam (take (held_of c.page) c.page) (take (held_of d.page) d.page) x y (omega (arith, held, length-take (held_of c.page) c.page, length-take (held_of d.page) d.page)) first.1 in
    let left : length c.page - held_of c.page ≡ length d.page - held_of d.page = omega (arith, held) in
    let page : c.page ≡ d.page = sym (held_whole c.page) ∙ ap (λ (s : List ℕ). s ++ replicate (length c.page - held_of c.page) 0) rest.0
    ∙ ap (λ (n : ℕ). take (held_of d.page) d.page ++ replicate n 0) left ∙ held_whole d.page in
    (same_change c d number page, rest.1)

-- changes that are sound
abbrev pub AreSound : List Change → Type 0
AreSound cs = AllByRecursion (λ c. IsSound c) cs

pub sound_more : (cs : List Change) (c : Change) → AreSound cs → IsSound c → AreSound (cs ++ c ∷ [])
sound_more [] c are is = (is, tt)
sound_more (d ∷ cs) c are is = (are.0, sound_more cs c are.1 is)

pub sound_of : (cs : List Change) → AreSmall (numbers_of cs) → HasPages cs → AreSound cs
sound_of [] small full = tt
sound_of (c ∷ cs) small full = (record { small = small.0; full = full.0 }, sound_of cs small.1 full.1)

pub sound_full : (cs : List Change) → AreSound cs → HasPages cs
sound_full [] are = tt
sound_full (c ∷ cs) are = (are.0.full, sound_full cs are.1)

pub sound_drop : (n : ℕ) (cs : List Change) → AreSound cs → AreSound (drop n cs)
sound_drop zero cs are = are
sound_drop (suc n) [] are = tt
sound_drop (suc n) (c ∷ cs) are = sound_drop n cs are.1

-- what begins with changes of one list and of another is the same in both as far as the shorter goes
pub prefix_back : (cs ds : List Change) (x y : List ℕ) → AreSound cs → AreSound ds → length cs ≤ length ds → changes_bytes cs ++ x ≡ changes_bytes ds ++ y
    → (cs ≡ take (length cs) ds) × (x ≡ changes_bytes (drop (length cs) ds) ++ y)
prefix_back [] ds x y good_c good_d few is = (refl, is)
prefix_back (c ∷ cs) [] x y good_c good_d few is = absurd (omega arith)
prefix_back (c ∷ cs) (d ∷ ds) x y good_c good_d few is =
    let one = change_back c d (changes_bytes cs ++ x) (changes_bytes ds ++ y) good_c.0 good_d.0
    (sym (append_assoc (change_bytes c) (changes_bytes cs) x) ∙ is ∙ append_assoc (change_bytes d) (changes_bytes ds) y) in
    let more = prefix_back cs ds x y good_c.1 good_d.1 (omega arith) one.1 in
    (ap (λ (e : Change). e ∷ cs) one.0 ∙ ap (λ (es : List Change). d ∷ es) more.0, more.1)

-- pages cut of bytes are these bytes
pub joined_cut : (n : ℕ) (bytes : List ℕ) → joined (cut n bytes) ≡ take (4096 * n) bytes
joined_cut zero bytes = let none : 0 ≡ 4096 * 0 = omega arith in ap (λ (m : ℕ). take m bytes) none
joined_cut (suc n) bytes =
    let all : 4096 + 4096 * n ≡ 4096 * suc n = omega arith in
    ap (λ (s : List ℕ). take 4096 bytes ++ s) (joined_cut n (drop 4096 bytes)) ∙ take_both 4096 (4096 * n) bytes ∙ ap (λ (m : ℕ). take m bytes) all

-- the pages of bytes are these bytes, and zeros behind them
pub joined_pages : (bytes : List ℕ) → joined (byte_pages bytes) ≡ bytes ++ replicate (4096 * byte_parts (length bytes) - length bytes) 0
joined_pages bytes =
    joined_cut (byte_parts (length bytes)) (bytes ++ replicate 4096 0)
    ∙ take_counts (4096 * byte_parts (length bytes)) 4096 (4096 * byte_parts (length bytes) - length bytes) 0 bytes (omega arith) (omega arith)

pub length_cut : (n : ℕ) (bytes : List ℕ) → length (cut n bytes) ≡ n
length_cut zero bytes = refl
length_cut (suc n) bytes = ap suc (length_cut n (drop 4096 bytes))

-- full pages are cut of their bytes, whatever stands behind these
pub cut_joined : (pages : List (List ℕ)) (more : List ℕ) → AreFull pages → cut (length pages) (joined pages ++ more) ≡ pages
cut_joined [] more full = refl
cut_joined (p ∷ pages) more full =
    let whole : joined (p ∷ pages) ++ more ≡ p ++ (joined pages ++ more) = append_assoc p (joined pages) more in
    let first : take 4096 (joined (p ∷ pages) ++ more) ≡ p = ap (take 4096) whole ∙ take_at p (joined pages ++ more) 4096 full.0 in
    let rest : drop 4096 (joined (p ∷ pages) ++ more) ≡ joined pages ++ more = ap (drop 4096) whole ∙ drop_at p (joined pages ++ more) 4096 full.0 in
    ap (λ (s : List ℕ). s ∷ cut (length pages) (drop 4096 (joined (p ∷ pages) ++ more))) first
    ∙ ap (λ (s : List ℕ). p ∷ cut (length pages) s) rest ∙ ap (λ (ps : List (List ℕ)). p ∷ ps) (cut_joined pages more full.1)

pub length_joined : (pages : List (List ℕ)) → AreFull pages → length (joined pages) ≡ 4096 * length pages
length_joined [] full = refl
length_joined (p ∷ pages) full = let here = full.0 in omega (arith, length-append p (joined pages), length_joined pages full.1)

-- full pages of which bytes are read, and zeros behind them on the last one, are the pages of these bytes
pub pages_back : (pages : List (List ℕ)) (bytes : List ℕ) (zeros : ℕ) → AreFull pages → length pages ≡ byte_parts (length bytes) → joined pages ≡ bytes ++ replicate zeros 0 → pages ≡ byte_pages bytes
pages_back pages bytes zeros full count is =
    let blank : List ℕ = replicate zeros 0 in
    let length_zeros : length blank ≡ zeros = length-replicate zeros 0 in
    let long = ap length is in
    let much : zeros + (4096 - zeros) ≡ 4096 = omega (arith, long, length-append bytes blank, length_zeros, length_joined pages full) in
    let whole : joined pages ++ replicate (4096 - zeros) 0 ≡ bytes ++ replicate 4096 0 =
    ap (λ (s : List ℕ). s ++ replicate (4096 - zeros) 0) is ∙ append_assoc bytes (replicate zeros 0) (replicate (4096 - zeros) 0)
    ∙ ap (λ (s : List ℕ). bytes ++ s) (both_counts zeros (4096 - zeros) 0) ∙ ap (λ (n : ℕ). bytes ++ replicate n 0) much in
    sym (cut_joined pages (replicate (4096 - zeros) 0) full) ∙ ap (cut (length pages)) whole ∙ ap (λ (n : ℕ). cut n (bytes ++ replicate 4096 0)) count

-- the same pages are those of no two lists of changes
pub packed_back : (pages : List (List ℕ)) (changes : ℕ) (cs ds : List Change) → length cs ≡ changes → AreSound cs → AreSoMany changes ds → ArePacked pages cs → ArePacked pages ds → cs ≡ ds
packed_back pages changes cs ds long sound so_many are_c are_d =
    let bytes_c : List ℕ = changes_bytes cs in
    let bytes_d : List ℕ = changes_bytes ds in
    let both = sym (joined_pages bytes_c) ∙ ap joined (sym are_c.1) ∙ ap joined are_d.1 ∙ joined_pages bytes_d in
    let count = so_many.count in
    let same = prefix_back cs ds (replicate (4096 * byte_parts (length bytes_c) - length bytes_c) 0) (replicate (4096 * byte_parts (length bytes_d) - length bytes_d) 0)
    sound (sound_of ds so_many.small are_d.0) (omega arith) both in
    same.0 ∙ take_all (length cs) ds (omega arith)
