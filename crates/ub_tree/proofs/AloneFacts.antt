-- Where a region would be joined with one beside it: what the regions beside one answer, over an honest store.
use Rattle.std.proofs.Common.{rules, ◌≡◌, ◌<◌, ◌≤◌, ◌+◌, ◌/◌, ◌^◌, inl, ℕ, true, false, Option, Some, None, Result, Ok, Err, IfSome, MatchResult, length, nat_le, nat_lt, sym, ap, subst, refl, arith}
use Rattle.ub_tree.proofs.Common.{Answers, AnswersBeside, CanFallInto, GivesAny, HasRoomAt, index_fault, IndexFault, IndexView, IsErrAnd, IsHonest, IsJoined}
use Rattle.ub_tree.proofs.Common.{IsPassing, IsTakenIn, IsWayFault, Key, key_before, leb-false, ltb-false, one_given, Region, RegionRows, RegionView}
use Rattle.ub_tree.proofs.Common.{StoreFacts, TreeFault, TreeView}
use Rattle.ub_tree.proofs.CallFacts.{way_passing}
use Rattle.ub_tree.proofs.HoldingFacts.{no_answer, passing_by, passing_fault}

-- one region is given for a key, and none for none
pub any_given : (i : IndexView) (facts : StoreFacts) (sought : Option Key) (a b : Option Region) → IsHonest facts → GivesAny i facts sought a → GivesAny i facts sought b → a ≡ b
any_given i facts sought a b h k j = search (rules, one_given)

some_key : (a b : Key) → Some a ≡ Some b → b ≡ a
some_key a b h = cc

same_way : (i : IndexView) (facts : StoreFacts) (key : Key) (e : IndexFault) → IsWayFault i facts (λ k. Some key ≡ Some k) e → IsWayFault i facts (λ k. k ≡ key) e
same_way i facts key e h = search rules

no_way : (i : IndexView) (facts : StoreFacts) → IsHonest facts → (e : IndexFault) → IsWayFault i facts (λ k. None ≡ Some k) e → IsPassing (index_fault e)
no_way i facts h e k = search rules

-- a search to a key that there may be fails in passing alone, where its way leads somewhere
pub any_passing : (i : IndexView) (facts : StoreFacts) (sought : Option Key) (told : Option Region) → i.last < 2 ^ 128 → IsHonest facts → GivesAny i facts sought told
    → (e : IndexFault) → IsWayFault i facts (λ k. sought ≡ Some k) e → IsPassing (index_fault e)
any_passing i facts sought told h k j e l = search (rules, no_way, same_way, way_passing)

pub any_refused : (i : IndexView) (facts : StoreFacts) (sought : Option Key) (told : Option Region) (r : Result (Option Region) TreeFault) (e : IndexFault) → i.last < 2 ^ 128 → IsHonest facts
    → GivesAny i facts sought told → IsErrAnd r (λ x. x ≡ index_fault e) → IsWayFault i facts (λ k. sought ≡ Some k) e → MatchResult r (λ found. found ≡ told) IsPassing
any_refused i facts sought told r e small honest given is h = passing_by r (index_fault e) (λ found. found ≡ told) is (any_passing i facts sought told small honest given e h)

-- a region that may be given is taken in, if it is
abbrev pub IsTold : TreeView → Option Key → Option Region → Type 0
IsTold t sought told = GivesAny t.inner.index t.store sought told × IfSome told (λ span. (region : RegionRows) × IsTakenIn t span region)

told_any : (t : TreeView) (sought : Option Key) → CanFallInto t sought → (told : Option Region) × IsTold t sought told
told_any t None can = (None, (refl, tt))
told_any t (Some key) can = let into = can.2 in (Some into.span, (into.falls, (can.1, into.taken)))

pub room_any : (t : TreeView) (sought : Option Key) (count : ℕ) → HasRoomAt t sought count → CanFallInto t sought
room_any t sought count room = subst (CanFallInto t) (sym room.1) (room.2, room.3, room.4)

-- the region where there is room, which was told otherwise
room_taken : (t : TreeView) (sought : Option Key) (count : ℕ) (span : Region) → IsHonest t.store → HasRoomAt t sought count
    → ((told : Option Region) → GivesAny t.inner.index t.store sought told → Some span ≡ told) → (region : RegionRows) × IsTakenIn t span region × (count + length region.rows ≤ t.schema.page_rows)
room_taken t sought count span honest room found =
    let into = room.4 in
    let same : Some span ≡ Some into.span = found (Some into.span) (subst (λ (o : Option Key). GivesAny t.inner.index t.store o (Some into.span)) (sym room.1) into.falls) in
    (room.3, subst (λ (s : Region). IsTakenIn t s room.3) (some_span into.span span (sym same)) into.taken, room.5)
  where
    some_span : (a b : Region) → Some a ≡ Some b → a ≡ b
    some_span a b h = cc

-- there is a region where there is room
room_some : (t : TreeView) (sought : Option Key) (count : ℕ) → HasRoomAt t sought count → ((told : Option Region) → GivesAny t.inner.index t.store sought told → None ≡ told) → ⊥
room_some t sought count room found =
    let into = room.4 in
    none_span into.span (found (Some into.span) (subst (λ (o : Option Key). GivesAny t.inner.index t.store o (Some into.span)) (sym room.1) into.falls))
  where
    none_span : (s : Region) → None ≡ Some s → ⊥
    none_span s h = cc

-- a region is read that may be given
told_taken : (t : TreeView) (sought : Option Key) (span : Region) → CanFallInto t sought → ((told : Option Region) → GivesAny t.inner.index t.store sought told → Some span ≡ told)
    → (region : RegionRows) × IsTakenIn t span region
told_taken t sought span h k = search (rules, told_any)

-- rows that fit are joined
pub no_fit : (a b : ℕ) {told size : ℕ} → told ≡ size → nat_le (a + b) told ≡ false → a + b ≤ size → ⊥
no_fit a b {told} {size} same over fit = let more = leb-false (a + b) told over in omega arith

pub are_few : {rows told size : ℕ} → told ≡ size → nat_lt rows (told / 2) ≡ false → rows < size / 2 → ⊥
are_few {rows} {told} {size} same large few = let more = ltb-false rows (told / 2) large in let alike : told / 2 ≡ size / 2 = ap (λ n. n / 2) same in omega (arith, more, alike, few)

pub told_answers : {A : Type 0} (r : Result A TreeFault) (told : TreeFault) → r ≡ Err told → Answers r told
told_answers r told is = subst (λ (x : Result _ TreeFault). Answers x told) (sym is) (inl refl)

pub none_some : false ≡ true → ⊥
none_some h = cc

-- what is left of a region is joined: the next one is read, and where that isn't joined the one before has room
module _ (t : TreeView) (span : Region) (left : ℕ) (joined : IsJoined t span left) where
  pub next_can : CanFallInto t span.next
  next_can = search rules

  pub before_room : (HasRoomAt t span.next left → ⊥) → HasRoomAt t (key_before span.first.z span.first.number) left
  before_room h = search rules

-- a neighbour that is sought is joined with rows, or isn't
module _ (t : TreeView) (sought : Option Key) (count : ℕ) where
  -- it isn't found
  pub unfound_beside : (r : Result (Option Region) TreeFault) (e : TreeFault) → IsErrAnd r (λ x. x ≡ e)
      → ((told : Option Region) → IsHonest t.store → GivesAny t.inner.index t.store sought told → IsPassing e) → AnswersBeside t sought count r
  unfound_beside r e is led = record {
    led = λ honest can. (let any = told_any t sought can in passing_fault r e is (led any.0 honest any.1.0));
    fits = λ honest room. no_answer r e _ is;
  }

  -- there is none
  pub none_beside : ((told : Option Region) → IsHonest t.store → GivesAny t.inner.index t.store sought told → None ≡ told) → AnswersBeside t sought count (Ok None)
  none_beside led = record { led = λ honest can. tt; fits = λ honest room. absurd (room_some t sought count room (λ told given. led told honest given)) }

  module _ (m : TreeView) (beside : Region) (same : m ≡ t) (led : (told : Option Region) → IsHonest t.store → GivesAny t.inner.index t.store sought told → Some beside ≡ told) where
    -- it isn't read
    pub unread_beside : (r : Result (Option Region) TreeFault) (e : TreeFault) → IsErrAnd r (λ x. x ≡ e)
        → (IsHonest m.store → (region : RegionRows) → IsTakenIn m beside region → IsPassing e) → AnswersBeside t sought count r
    unread_beside r e is taken = record {
      led = λ honest can.
          let on = told_taken t sought beside can (λ told given. led told honest given) in
          passing_fault r e is (taken (subst (λ (v : TreeView). IsHonest v.store) (sym same) honest) on.0 (subst (λ (v : TreeView). IsTakenIn v beside on.0) (sym same) on.1));
      fits = λ honest room. no_answer r e _ is;
    }

    -- it was read, and where it has room the rows fit
    pub room_fits : (page : RegionView) → (IsHonest m.store → (region : RegionRows) → IsTakenIn m beside region → page.region ≡ region) → IsHonest t.store → HasRoomAt t sought count
        → count + length page.region.rows ≤ t.schema.page_rows
    room_fits page taken honest room =
        let on = room_taken t sought count beside honest room (λ told given. led told honest given) in
        let read = taken (subst (λ (v : TreeView). IsHonest v.store) (sym same) honest) on.0 (subst (λ (v : TreeView). IsTakenIn v beside on.0) (sym same) on.1) in
        rw read on.2
