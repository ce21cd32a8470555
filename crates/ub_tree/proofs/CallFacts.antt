-- What the searches of the index answer, as answers of the tree.
use Rattle.std.proofs.Common.{rules, ◌≡◌, ◌<◌, ◌≤◌, ◌*◌, ◌^◌, map, inl, inr, Result, Ok, Err, MatchResult, ℕ, List, Option, Some, None, IfSome, arith}
use Rattle.ub_tree.proofs.Common.{at_least, before_parts, cases_lt, Corners, end_before, entry_of, FallsTo, Gives, GivesAfter, GivesNext, HoldsAny, index_fault}
use Rattle.ub_tree.proofs.Common.{IndexFault, IndexView, IsBefore, IsErrAnd, IsHonest, IsIndexOn, IsLater, IsPassing, IsRegionOf, IsStored, IsWayFault, Key}
use Rattle.ub_tree.proofs.Common.{last_address, LeastFrom, one_given, PageFault, Region, Stops, StoreFacts, TreeFault, TreeView}
use Rattle.std.proofs.Math.Pow.{pow-lt}
use Rattle.ub_tree.proofs.AnswerFacts.{at_least_z, begins_up_to, up_to}
use Rattle.ub_tree.proofs.IndexedFacts.{index_on}
use Rattle.ub_tree.proofs.WayFacts.{led_not_stopped}

-- the last address of a space of at most four dimensions has 128 bits
pub last_small : (dims : ℕ) → dims ≤ 4 → last_address dims < 2 ^ 128
last_small dims few = elim (cases_lt dims 4) [
  | inl lt ↦ let room : 2 ^ (32 * dims) < 2 ^ 128 = pow-lt {i = 32 * dims} {j = 128} (let less : 32 * dims < 128 = omega arith in less) in omega arith
  | inr ge ↦ let four : dims ≡ 4 = omega arith in rw four (omega arith)
]

-- a stored tree's index stands on its store
pub stored_on : (t : TreeView) → IsStored t → IsIndexOn t.inner.index t.store
stored_on t stored = index_on t.inner.index t.store (map entry_of t.placed) stored.honest stored.indexed

-- the later of a key and the least one of an address has no lower address
at_least_up : (from : Key) (z : ℕ) → z ≤ (at_least from z).z
at_least_up from z = search rules

ends_after : (last z : ℕ) (key : Key) (next : Option Key) → IfSome next (IsBefore key) → z ≤ key.z → z ≤ last → z ≤ end_before last next
ends_after last z key None before up le = le
ends_after last z key (Some next) before up le = let more = up_to key.z key.number next.z next.number (before_parts key next before) in omega arith

-- what is sought after a region, up from an address, is a region that the tree tells of, which ends there or later
pub seek_told : (t : TreeView) (z : ℕ) (after found : Option Region) → GivesAfter t.inner.index t.store (λ _ to. to ≡ Some z) after found
    → IfSome found (IsLater after) → IfSome found (λ r. IsRegionOf t r × IsLater after r × (z ≤ r.to))
seek_told t z after None given later = tt
seek_told t z after (Some r) (None, from, h) later = absurd h
seek_told t z after (Some r) (Some key, from, (aim, (to, is, le, aim_is), given)) later = search (rules, at_least_up, ends_after)

-- what is given after a region, as the tree tells it
pub gives_next : (boxes : List Corners) (t : TreeView) (after found : Option Region)
    → GivesAfter t.inner.index t.store (λ from. LeastFrom (HoldsAny boxes) from.z) after found
    → IfSome found (IsLater after) → IfSome found (λ r. r.first.number < 2 ^ 32) → GivesNext boxes t after found
gives_next boxes t after found h k j = search (rules, at_least_z, begins_up_to)

-- where a way leads to a span, it stops nowhere
not_stopped : (i : IndexView) (facts : StoreFacts) (key sought : Key) (span : Region) (n : ℕ) (fault : Option PageFault) → i.last < 2 ^ 128 → IsHonest facts
    → Gives i facts key span → sought ≡ key → ¬ (Stops i facts sought n fault)
not_stopped i facts key sought span n fault h k j l = search (rules, led_not_stopped)

-- and a search to that key fails in passing alone
pub way_passing : (i : IndexView) (facts : StoreFacts) (key : Key) (span : Region) → i.last < 2 ^ 128 → IsHonest facts → Gives i facts key span
    → (e : IndexFault) → IsWayFault i facts (λ k. k ≡ key) e → IsPassing (index_fault e)
way_passing i facts key span h k j e l = search (rules, not_stopped)

-- what it gives is the region to which that way leads
pub one_falls : (t : TreeView) (key : Key) (found span : Region) → IsHonest t.store → FallsTo t key found → FallsTo t key span → found ≡ span
one_falls t key found span honest a b = one_given t.inner.index t.store key found span honest a b

-- a search to a key that leads to a span, which is refused
pub holding_refused : (i : IndexView) (facts : StoreFacts) (key : Key) (span : Region) (r : Result Region TreeFault) (e : IndexFault) → i.last < 2 ^ 128 → IsHonest facts
    → Gives i facts key span → IsErrAnd r (λ x. x ≡ index_fault e) → IsWayFault i facts (λ k. k ≡ key) e → MatchResult r (λ found. found ≡ span) IsPassing
holding_refused i facts key span (Ok x) e small honest given is h = absurd is
holding_refused i facts key span (Err f) e small honest given is h = rw is (way_passing i facts key span small honest given e h)
