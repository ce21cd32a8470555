-- What `ubq next` is asked, and what it answers.
use Rattle.std.specs.Prelude.{◌≡◌, ℕ, ◌==◌, ◌<◌, ◌≤◌, ◌^◌, ◌&&◌, nat_lt, if◌then◌else◌, List, ◌++◌, length, map, Option, Some, None, Result, Ok, Err, codes, decimal}
use Rattle.std.specs.List.{slice_split, list_all}
use Rattle.std.specs.Char.{is_ascii_digit}
use Rattle.std.specs.Str.Parse.{digits_value}
use Rattle.ub_zaddr.specs.Address.{IsAtMost, last_address}
use Rattle.ub_bigmin.specs.Box.{Corners, Holds}
use Rattle.ub_bigmin.specs.Extremes.{LeastFrom, GreatestUpTo}
use Rattle.ub_next.specs.declared.next.Neighbours.{Neighbours}
use Rattle.ub_next.specs.declared.next.NextFault.{NextFault}
use Rattle.ub_next.specs.declared.next.NextFault.TheVariants.{BadPoint, EmptyBox, TooLarge, Memory}

-- the number of so many bits that a text of one ASCII digit or more writes
unfoldable pub number_in : ℕ → List ℕ → Option ℕ
number_in bits text =
    if nat_lt 0 (length text) && list_all is_ascii_digit text && nat_lt (digits_value 10 text) (2 ^ bits)
    then Some (digits_value 10 text) else None

-- the text is one to four coordinates, each a number of 32 bits, joined by commas
abbrev pub IsPointText : List ℕ → List ℕ → Type 0
IsPointText text point = (map (number_in 32) (slice_split (λ c. c == 44) text) ≡ map Some point) × (length point ≤ 4)

-- the words are the corners of a box in one space, and a number of 128 bits
pub record IsAsked (lo hi z : List ℕ) (box : Corners) (from : ℕ) : Type 0 where
  pub low : IsPointText lo box.lo
  pub high : IsPointText hi box.hi
  pub same : length box.lo ≡ length box.hi
  pub number : number_in 128 z ≡ Some from

-- these are the addresses of the box that are nearest to an address
unfoldable pub AreNearest : Corners → ℕ → Neighbours → Type 0
AreNearest box from n = LeastFrom (Holds box) from n.next × GreatestUpTo (Holds box) from n.prev

-- what is told of a box and an address: the nearest addresses of the box, or the first thing that is wrong
abbrev pub IsNearest : Corners → ℕ → Result Neighbours NextFault → Type 0
IsNearest box from (Ok n) = IsAtMost box.lo box.hi × (from ≤ last_address (length box.lo))
    × AreNearest box from n
IsNearest box from (Err EmptyBox) = ¬ (IsAtMost box.lo box.hi)
IsNearest box from (Err TooLarge) = IsAtMost box.lo box.hi × (last_address (length box.lo) < from)
IsNearest box from (Err BadPoint) = ⊥
IsNearest box from (Err Memory) = ⊥

-- what the words are told: `BadPoint` where they ask for no box and address, else what those are told
abbrev pub IsNextAnswer : List ℕ → List ℕ → List ℕ → Result Neighbours NextFault → Type 0
IsNextAnswer lo hi z (Err BadPoint) = (box : Corners) → (from : ℕ) → ¬ (IsAsked lo hi z box from)
IsNextAnswer lo hi z (Err Memory) = Unit {0}
IsNextAnswer lo hi z answer = (box : Corners) × (from : ℕ) × IsAsked lo hi z box from × IsNearest box from answer

-- a word, and then a number or `none`, on a line
abbrev pub neighbour_line : List ℕ → Option ℕ → List ℕ
neighbour_line word None = word ++ codes " none\n"
neighbour_line word (Some n) = word ++ (codes " " ++ (decimal n ++ codes "\n"))

abbrev pub next_fault_text : NextFault → List ℕ
next_fault_text BadPoint = codes "! BadPoint\n"
next_fault_text EmptyBox = codes "! EmptyBox\n"
next_fault_text TooLarge = codes "! TooLarge\n"
next_fault_text Memory = codes "! Memory\n"

-- what the program writes for an answer
unfoldable pub answer_text : Result Neighbours NextFault → List ℕ
answer_text (Ok n) = neighbour_line (codes "next") n.next ++ neighbour_line (codes "prev") n.prev
answer_text (Err fault) = next_fault_text fault
