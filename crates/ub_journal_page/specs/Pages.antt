-- A journal as pages.
use Rattle.std.specs.Prelude.{◌≡◌, ◌+◌, ◌-◌, ◌*◌, ◌/◌, ◌++◌, ℕ, zero, suc, List, [], ◌∷◌, length, take, drop, replicate}
use Rattle.std.specs.List.{AllByRecursion, flat_map}
use Rattle.byteorder.specs.Endian.{big_bytes}
use Rattle.ub_journal.specs.Image.{Journal}
use Rattle.ub_journal.specs.declared.journal.Change.{Change}

-- the four bytes of a number, the highest of them first
unfoldable pub number_bytes : ℕ → List ℕ
number_bytes x = big_bytes 4 x

-- numbers on a page, one after the other, and zeros behind them
unfoldable pub number_page : List ℕ → List ℕ
number_page numbers = flat_map number_bytes numbers ++ replicate (4096 - 4 * length numbers) 0

-- what the head page tells: 'UBTJ', the version, how many pages the table is to have, and how many of them change besides the first
abbrev pub head_of : ℕ → ℕ → ℕ → List ℕ
head_of version count changes = 0x5542544A ∷ version ∷ count ∷ changes ∷ []

-- one byte more before so many that are held: a zero is held where another byte is behind it, and any other byte always
abbrev pub held_behind : ℕ → ℕ → ℕ
held_behind x (suc n) = suc (suc n)
held_behind zero zero = 0
held_behind (suc x) zero = 1

-- how many bytes come before the zeros with which these end
abbrev pub held_of : List ℕ → ℕ
held_of [] = 0
held_of (x ∷ bytes) = held_behind x (held_of bytes)

-- a change: the number of its page, how many of the page's bytes come before the zeros with which it ends, and these bytes
abbrev pub change_bytes : Change → List ℕ
change_bytes change =
    number_bytes change.number ++ (number_bytes (held_of change.page) ++ take (held_of change.page) change.page)

-- changes, one behind the other
abbrev pub changes_bytes : List Change → List ℕ
changes_bytes changes = flat_map change_bytes changes

-- on how many pages so many bytes stand
abbrev pub byte_parts : ℕ → ℕ
byte_parts bytes = (bytes + 4095) / 4096

-- the first so many pages of bytes
abbrev pub cut : ℕ → List ℕ → List (List ℕ)
cut zero bytes = []
cut (suc n) bytes = take 4096 bytes ∷ cut n (drop 4096 bytes)

-- bytes on as many pages as they take, with zeros behind them on the last one
abbrev pub byte_pages : List ℕ → List (List ℕ)
byte_pages bytes = cut (byte_parts (length bytes)) (bytes ++ replicate 4096 0)

-- pages as bytes, one page behind the other
abbrev pub joined : List (List ℕ) → List ℕ
joined pages = flat_map (λ page. page) pages

-- the one spelling of a journal: the head, the table's first page from before, the one that it is to have, and the other pages that change
abbrev pub pages_of : Journal → List (List ℕ)
pages_of j =
    number_page (head_of 2 j.count (length j.changes)) ∷ j.before ∷ j.head
    ∷ byte_pages (changes_bytes j.changes)

-- each page that changes has 4096 bytes
abbrev pub HasPages : List Change → Type 0
HasPages changes = AllByRecursion (λ change. length change.page ≡ 4096) changes
