-- Steps of time that are put together: what a crash leaves of files after several calls.
use Rattle.std.proofs.Common.{◌∙◌, List, ℕ, arith, inl, inr, refl}
use Rattle.std.specs.Prelude.{IsTrue}
use Rattle.ub_files.specs.Clock.{Folder, FolderClock, Goes, IsSameBut, IsSameFolder, Runs}
use Rattle.ub_files.specs.Files.{FilesFacts, Held}

-- no call
goes_still : (clock : FolderClock) → Goes IsSameFolder clock clock
goes_still clock = record {
  later = omega arith;
  now = λ c left. (c, left, λ path told. refl);
  since = λ t c early left. inl left;
}

-- what a step does is such as another one does
goes_as : (step more : Folder → Folder → Type 0) (old new : FolderClock) → ((d c : Folder) → step d c → more d c) → Goes step old new → Goes more old new
goes_as step more old new so goes = record {
  later = goes.later;
  now = λ c left. let before = goes.now c left in (before.0, before.1, so before.0 c before.2);
  since = λ t c early left. elim (goes.since t c early left) [
    | inl before ↦ inl before
    | inr here ↦ inr (here.0, here.1, so here.0 c here.2)
  ];
}

-- one step after another
goes_two : (first second both : Folder → Folder → Type 0) (old mid new : FolderClock) → ((d c : Folder) → first d c → both d c)
    → ((e d c : Folder) → first e d → second d c → both e c) → Goes first old mid → Goes second mid new → Goes both old new
goes_two first second both old mid new alone after one two = record {
  later = (let a = one.later in let b = two.later in omega arith);
  now = λ c left.
      let before = two.now c left in
      let begun = one.now before.0 before.1 in
      (begun.0, begun.1, after begun.0 before.0 c begun.2 before.2);
  since = λ t c early left. elim (two.since t c (let a = one.later in omega arith) left) [
    | inl before ↦ elim (one.since t c early before) [
      | inl earlier ↦ inl earlier
      | inr here ↦ inr (here.0, here.1, alone here.0 c here.2)
    ]
    | inr here ↦
        let begun = one.now here.0 here.1 in
        inr (begun.0, begun.1, after begun.0 here.0 c begun.2 here.2)
  ];
}

-- ---- of honest files, at one path

module _ (path : List ℕ) (Is : Held → Type 0) where
  as_same : (d c : Folder) → IsSameFolder d c → IsSameBut path Is d c
  as_same d c same = λ other told. inl (same other told)

  after_same : (e d c : Folder) → IsSameFolder e d → IsSameBut path Is d c → IsSameBut path Is e c
  after_same e d c same is = λ other told. elim (is other told) [
    | inl still ↦ inl (still ∙ same other told)
    | inr here ↦ inr here
  ]

  -- where nothing was changed
  pub runs_same : (files : FilesFacts) (old new : FolderClock) → Runs IsSameFolder files old new → Runs (IsSameBut path Is) files old new
  runs_same files old new runs = λ honest. goes_as IsSameFolder (IsSameBut path Is) old new as_same (runs honest)

  -- where no call was made
  pub runs_still : (files : FilesFacts) (clock : FolderClock) → Runs (IsSameBut path Is) files clock clock
  runs_still files clock = runs_same files clock clock (λ honest. goes_still clock)

  -- what is so of what the path may hold is so of something else
  pub runs_as : (Other : Held → Type 0) (files : FilesFacts) (old new : FolderClock) → ((held : Held) → Other held → Is held)
      → Runs (IsSameBut path Other) files old new → Runs (IsSameBut path Is) files old new
  runs_as Other files old new so runs = λ honest. goes_as (IsSameBut path Other) (IsSameBut path Is) old new
      (λ d c is other told. elim (is other told) [
        | inl still ↦ inl still
        | inr here ↦ inr (here.0, so (c other) here.1)
      ]) (runs honest)

  -- after a call that changes nothing, and leaves the files as honest as they were
  pub runs_then : (files later : FilesFacts) (old mid new : FolderClock) → (IsTrue files.honest → IsTrue later.honest) → Runs IsSameFolder files old mid
      → Runs (IsSameBut path Is) later mid new → Runs (IsSameBut path Is) files old new
  runs_then files later old mid new still one two = λ honest.
      goes_two IsSameFolder (IsSameBut path Is) (IsSameBut path Is) old mid new as_same after_same (one honest) (two (still honest))

-- two calls that change nothing
pub runs_both : (files later : FilesFacts) (old mid new : FolderClock) → (IsTrue files.honest → IsTrue later.honest) → Runs IsSameFolder files old mid
    → Runs IsSameFolder later mid new → Runs IsSameFolder files old new
runs_both files later old mid new still one two = λ honest.
    goes_two IsSameFolder IsSameFolder IsSameFolder old mid new (λ d c same. same) (λ e d c before after other told. after other told ∙ before other told) (one honest) (two (still honest))

-- no call at all
pub runs_none : (files : FilesFacts) (clock : FolderClock) → Runs IsSameFolder files clock clock
runs_none files clock = λ honest. goes_still clock

-- a step at one path, as one of a command
pub runs_of : (path : List ℕ) (Is : Held → Type 0) (step : Folder → Folder → Type 0) (files : FilesFacts) (old new : FolderClock)
    → ((d c : Folder) → IsSameBut path Is d c → step d c) → Runs (IsSameBut path Is) files old new → Runs step files old new
runs_of path Is step files old new so runs = λ honest. goes_as (IsSameBut path Is) step old new so (runs honest)

pub runs_of_same : (step : Folder → Folder → Type 0) (files : FilesFacts) (old new : FolderClock)
    → ((d c : Folder) → IsSameFolder d c → step d c) → Runs IsSameFolder files old new → Runs step files old new
runs_of_same step files old new so runs = λ honest. goes_as IsSameFolder step old new so (runs honest)
