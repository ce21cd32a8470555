-- Files that are left as they were by each of two calls are left so by both.
use Rattle.std.proofs.Common.{◌∙◌, arith, inl, inr, subst, sym}
use Rattle.std.specs.Prelude.{IsTrue}
use Rattle.ub_files.specs.Clock.{FolderClock, Goes, IsSameFolder}
use Rattle.ub_files.specs.Files.{FilesFacts}
use Rattle.ub_shell.specs.Unchanged.{AreLeft}

-- one step after another
goes_both : (old mid new : FolderClock) → Goes IsSameFolder old mid → Goes IsSameFolder mid new → Goes IsSameFolder old new
goes_both old mid new one two = record {
  later = (let a = one.later in let b = two.later in omega arith);
  now = λ c left.
      let before = two.now c left in
      let begun = one.now before.0 before.1 in
      (begun.0, begun.1, λ path told. before.2 path told ∙ begun.2 path told);
  since = λ t c early left. elim (two.since t c (let a = one.later in omega arith) left) [
    | inl before ↦ elim (one.since t c early before) [
      | inl earlier ↦ inl earlier
      | inr here ↦ inr here
    ]
    | inr here ↦
        let begun = one.now here.0 here.1 in
        inr (begun.0, begun.1, λ path told. here.2 path told ∙ begun.2 path told)
  ];
}

-- one after another
pub left_both : (old mid new : FilesFacts) (was then now : FolderClock) → AreLeft old mid was then → AreLeft mid new then now → AreLeft old new was now
left_both old mid new was then now one two = record {
  holds = two.holds ∙ one.holds;
  lasts = two.lasts ∙ one.lasts;
  honest = two.honest ∙ one.honest;
  crash = λ honest. goes_both was then now (one.crash honest) (two.crash (subst IsTrue (sym one.honest) honest));
}
