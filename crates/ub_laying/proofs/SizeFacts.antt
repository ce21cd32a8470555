-- How many pages a level has, and how many levels there are.
use Rattle.std.proofs.Common.{rules, ◌≡◌, ◌≤◌, ◌+◌, ◌-◌, inl, inr, ℕ, zero, suc, arith, refl}
use Rattle.std.proofs.lemmas.Bool.{cases_lt, lt-leb}
use Rattle.ub_laying.specs.Levels.{most_leaves, most_pages, pages_above, pages_for}

-- a level of two pages or more is the fourth at most, and the one above it has so few as it must
pub low_level : (level count : ℕ) → 2 ≤ count → count ≤ most_pages level → level ≤ 4
low_level level count h k = search rules

pub fewer_pages : (level count : ℕ) → 2 ≤ count → count ≤ most_pages level → pages_for count ≤ most_pages (level + 1)
fewer_pages level count h k = search rules

pub above_none : (levels count : ℕ) → count ≤ 1 → pages_above levels count ≡ 0
unfolding pages_above
above_none levels count h = search rules

pub above_more : (levels count : ℕ) → 2 ≤ count → pages_above (suc levels) count ≡ pages_for count + pages_above levels (pages_for count)
unfolding pages_above
above_more levels count some = rw (lt-leb count 1 some) refl

-- one level more: what stands above the one and above the next
pub above_next : (level count : ℕ) → level ≤ 4 → 2 ≤ count → pages_above (5 - level) count ≡ pages_for count + pages_above (5 - (level + 1)) (pages_for count)
above_next level count low some =
    let e : 5 - level ≡ suc (5 - (level + 1)) = omega arith in
    rw e (above_more (5 - (level + 1)) count some)

-- fewer pages stand above a level than it has
fewer_above : (levels count : ℕ) → 1 ≤ count → pages_above levels count + 1 ≤ count
unfolding pages_above
fewer_above zero count some = omega arith
fewer_above (suc levels) count some = elim (cases_lt 1 count) [
  | inl more ↦
      let next = above_more levels count (omega arith) in
      let fewer = fewer_above levels (pages_for count) (omega arith) in
      omega arith
  | inr one ↦
      let none = above_none (suc levels) count (omega arith) in
      omega arith
]

-- leaves that are half full, but the last one, and all pages above them are no more than their regions
pub leaves_few : (regions leaves : ℕ) → 1 ≤ regions → pages_for regions ≤ leaves → leaves ≤ most_leaves regions → leaves + pages_above 4 leaves ≤ regions
leaves_few regions leaves some fewest most = elim (cases_lt 1 leaves) [
  | inl more ↦ let fewer = fewer_above 4 leaves (omega arith) in omega arith
  | inr one ↦ let none = above_none 4 leaves (omega arith) in omega arith
]
