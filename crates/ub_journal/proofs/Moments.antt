-- How a run of calls goes on: what a crash may leave now, and what it might have left at any moment since the run began.
use Rattle.std.proofs.Common.{◌≡◌, inl, inr, ⊎_elim, Result, IsTrue, arith, subst, sym}
use Rattle.ub_journal.specs.Place.{Counts, IsClock, IsHonest, LeavesOnly, PlaceFacts, Steps}
use Rattle.ub_journal.specs.declared.place.Failed.{Failed}
use Rattle.ub_journal.specs.Crash.{Stays}
use Rattle.ub_journal.specs.Image.{Image}

-- a run has come so far: a crash leaves what is so now, and might have left what has P
pub record At (P Now : Image → Type 0) (start now : PlaceFacts) : Type 0 where
  pub honest : IsHonest now
  pub run : LeavesOnly P start now
  pub now_is : (c : Image) → now.may_leave c → Now c

-- an honest place stays honest
pub still : {a b : PlaceFacts} {A : Type 0} {result : Result A Failed} → Counts a b result → IsHonest a → IsHonest b
still counts honest = subst IsTrue (sym counts.honest) honest

-- before the first call
pub begins : (P Now : Image → Type 0) {start : PlaceFacts} → IsHonest start → IsClock start → ((c : Image) → start.may_leave c → Now c)
    → ((c : Image) → Now c → P c) → At P Now start start
begins P Now honest clock here so = record {
  honest = honest;
  run = record { later = omega arith; each = λ c left. so c (here c (clock.only_now c left)); before = λ t c le left. inl left };
  now_is = here;
}

-- one call more, which changes what a crash may leave
pub steps : {P Now : Image → Type 0} (Then : Image → Type 0) {Step : Image → Image → Type 0} {A : Type 0} {start a b : PlaceFacts} {result : Result A Failed}
    → At P Now start a → Steps Step a b result → ((d c : Image) → Now d → Step d c → Then c) → ((c : Image) → Then c → P c) → At P Then start b
steps Then {start = start} {b = b} at call follows so =
    let time = call.time at.honest in
    let here : (c : Image) → b.may_leave c → Then c = λ c left. let from = call.leaves at.honest c left in follows from.0 c (at.now_is from.0 from.1) from.2 in
    record {
      honest = still call.counts at.honest;
      run = record {
        later = omega (arith, at.run.later, time.later);
        each = λ c left. ⊎_elim (at.run.each c) (λ now. so c (here c now)) (time.nothing_else start.moment c at.run.later left);
        before = λ t c le left. ⊎_elim (at.run.before t c le) (λ now. inr (so c (here c now))) (time.nothing_else t c (omega (arith, le, at.run.later)) left);
      };
      now_is = here;
    }

-- one call more, which changes nothing of that
pub stays : {P Now : Image → Type 0} {A : Type 0} {start a b : PlaceFacts} {result : Result A Failed}
    → At P Now start a → Steps Stays a b result → ((c : Image) → Now c → P c) → At P Now start b
stays {Now = Now} at call so = steps Now at call (λ d c is same. subst Now same is) so

-- and it made something last
pub lasts : {P Now : Image → Type 0} (More : Image → Type 0) {start b : PlaceFacts} → At P Now start b → ((c : Image) → b.may_leave c → More c)
    → At P (λ c. Now c × More c) start b
lasts More at more = record { honest = at.honest; run = at.run; now_is = λ c left. (at.now_is c left, more c left) }

-- a run of its own
pub runs : {P Now : Image → Type 0} (Then : Image → Type 0) {Q : Image → Type 0} {start a b : PlaceFacts} → At P Now start a → b.honest ≡ a.honest → LeavesOnly Q a b
    → ((c : Image) → Q c → P c) → ((c : Image) → b.may_leave c → Then c) → At P Then start b
runs Then {start = start} at same run so here = record {
  honest = subst IsTrue (sym same) at.honest;
  run = record {
    later = omega (arith, at.run.later, run.later);
    each = λ c left. ⊎_elim (at.run.each c) (so c) (run.before start.moment c at.run.later left);
    before = λ t c le left. ⊎_elim (at.run.before t c le) (λ now. inr (so c now)) (run.before t c (omega (arith, le, at.run.later)) left);
  };
  now_is = here;
}

-- one run, and another one after it
pub joined : {P Q R : Image → Type 0} {a b c : PlaceFacts} → LeavesOnly P a b → LeavesOnly Q b c → ((i : Image) → P i → R i) → ((i : Image) → Q i → R i) → LeavesOnly R a c
joined {a = a} one two from_one from_two = record {
  later = omega (arith, one.later, two.later);
  each = λ i left. ⊎_elim (λ before. from_one i (one.each i before)) (from_two i) (two.before a.moment i one.later left);
  before = λ t i le left. ⊎_elim (λ before. ⊎_elim inl (λ is. inr (from_one i is)) (one.before t i le before)) (λ is. inr (from_two i is)) (two.before t i (omega (arith, le, one.later)) left);
}

-- what is left has less
pub weaker : {P R : Image → Type 0} {a b : PlaceFacts} → LeavesOnly P a b → ((i : Image) → P i → R i) → LeavesOnly R a b
weaker run so = record {
  later = run.later;
  each = λ i left. so i (run.each i left);
  before = λ t i le left. ⊎_elim inl (λ is. inr (so i is)) (run.before t i le left);
}
