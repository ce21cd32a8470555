-- What a change of one entry does to the whole.
use Rattle.std.proofs.Common.{◌≡◌, ◌++◌, inl, inr, ℕ, zero, suc, List, [], ◌∷◌, Option, Some, None, IfSome, take, drop, slice_get, ◌∙◌, sym, ap, subst, refl, append_assoc, take-append-drop}
use Rattle.ub_index_change.proofs.Common.{append-nil, ascend_first, ascend_join, ascend_later, ascend_left, ascend_right, AscendTo, Becomes, BeginFrom}
use Rattle.ub_index_change.proofs.Common.{each_join, each_later, each_left, each_right, each_same, EachTo, entries_of, Entry, first_or, flat_map}
use Rattle.ub_index_change.proofs.Common.{flat_map-append, IsBefore, IsNotBefore, IsUnder, kept_index, kept_list, Key, not_before_self, not_both_before}
use Rattle.ub_index_change.proofs.Common.{pages_under, Replaces, StandOn, Stays, told_index, under, under_later}

-- what stands on pages leads where its entries do
told_under : (last : ℕ) (pages : List (List ℕ)) (level n : ℕ) (entries told : List Entry) → StandOn last pages (suc level) n entries told
    → flat_map (under pages (suc level)) told ≡ flat_map (under pages level) entries
told_under last pages level n entries told h = elim h [
  | inl none ↦ rw (none.0, none.1) refl
  | inr more ↦ elim more [
    | inl one ↦
        rw one.1 (append-nil (flat_map (under pages level) (entries_of pages one.0.page))
        ∙ ap (λ (xs : List Entry). flat_map (under pages level) xs) one.3.entries_are)
    | inr two ↦
        rw two.3
        (ap (λ (rest : List Entry). flat_map (under pages level) (entries_of pages two.0.page) ++ rest) (append-nil (flat_map (under pages level) (entries_of pages two.1.page)))
        ∙ (ap (λ (xs : List Entry). flat_map (under pages level) xs ++ flat_map (under pages level) (entries_of pages two.1.page)) two.5.entries_are
        ∙ (ap (λ (xs : List Entry). flat_map (under pages level) (take 86 entries) ++ flat_map (under pages level) xs) two.6.entries_are
        ∙ (sym (flat_map-append (under pages level) (take 86 entries) (drop 86 entries))
        ∙ ap (λ (xs : List Entry). flat_map (under pages level) xs) (take-append-drop 86 entries)))))
  ]
]

single : (xs : List Entry) (pages : List (List ℕ)) → flat_map (under pages zero) xs ≡ xs
single [] pages = refl
single (x ∷ xs) pages = ap (λ (rest : List Entry). x ∷ rest) (single xs pages)

-- the parts of a list put together in two ways
wider : (b a f' g' fs c : List Entry) → b ++ ((a ++ (f' ++ g')) ++ c) ≡ (b ++ a) ++ (f' ++ (g' ++ c))
wider b a f' g' fs c =
    ap (λ (x : List Entry). b ++ x) (append_assoc a (f' ++ g') c ∙ ap (λ (x : List Entry). a ++ x) (append_assoc f' g' c))
    ∙ sym (append_assoc b a (f' ++ (g' ++ c)))

pub replaced : (last : ℕ) (old new : List (List ℕ)) (f : Entry) (fs : List Entry) (next : Option Key) (level : ℕ) (entry : Entry) (end : Option Key) (told : List Entry)
    → Becomes last old new f fs next level entry end told → Replaces f fs (under old level entry) (flat_map (under new level) told)
replaced last old new f fs next zero entry end told h = record {
  before = [];
  after = [];
  was = ap (λ (e : Entry). e ∷ []) h.0;
  is = ap (λ (xs : List Entry). flat_map (under new zero) xs) h.2 ∙ (single fs new ∙ sym (append-nil fs));
}
replaced last old new f fs next (suc level) entry end told (before, after, below, news, parts, becomes, kept_before, kept_after, stand) =
    let in_it = replaced last old new f fs next level below (first_or after end) news becomes in
    record {
      before = flat_map (under old level) before ++ in_it.before;
      after = in_it.after ++ flat_map (under old level) after;
      was = ap (λ (xs : List Entry). flat_map (under old level) xs) parts ∙ (flat_map-append (under old level) before (below ∷ after)
          ∙ (ap (λ (xs : List Entry). flat_map (under old level) before ++ (xs ++ flat_map (under old level) after)) in_it.was
          ∙ wider (flat_map (under old level) before) in_it.before (f ∷ []) in_it.after fs (flat_map (under old level) after)));
      is = told_under last new level entry.page (before ++ (news ++ after)) told stand ∙ (flat_map-append (under new level) before (news ++ after)
          ∙ (ap (λ (xs : List Entry). flat_map (under new level) before ++ xs) (flat_map-append (under new level) news after)
          ∙ (ap (λ (xs : List Entry). xs ++ (flat_map (under new level) news ++ flat_map (under new level) after)) (kept_list old new level before kept_before)
          ∙ (ap (λ (xs : List Entry). flat_map (under old level) before ++ (flat_map (under new level) news ++ xs)) (kept_list old new level after kept_after)
          ∙ (ap (λ (xs : List Entry). flat_map (under old level) before ++ (xs ++ flat_map (under old level) after)) in_it.is
          ∙ wider (flat_map (under old level) before) in_it.before fs in_it.after fs (flat_map (under old level) after))))));
    }

-- where an entry became others that begin not before it, what follows begins not before it either
pub not_before : (g : Entry) (news after : List Entry) (end : Option Key) → BeginFrom g.first news → IfSome (first_or after end) (IsBefore g.first)
    → IsNotBefore (Some g.first) (first_or (news ++ after) end)
not_before g [] [] None h k = tt
not_before g [] [] (Some key) h k = λ yes. not_both_before g.first key k yes
not_before g [] (a ∷ after) end h k = λ yes. not_both_before g.first a.first k yes
not_before g (n ∷ news) after end h k = h

-- where an entry became others, the entries of its page are in order still
pub ascend_mended : (before : List Entry) (below : Entry) (after news : List Entry) (end : Option Key) → AscendTo (before ++ (below ∷ after)) end → BeginFrom below.first news
    → AscendTo news (first_or after end) → AscendTo (before ++ (news ++ after)) end
ascend_mended before below after news end up later in_it =
    let from_below = ascend_right before (below ∷ after) end up in
    let no_sooner = not_before below news after end later from_below.0 in
    ascend_join before (news ++ after) end (ascend_later before (Some below.first) (first_or (news ++ after) end) (ascend_left before (below ∷ after) end up) no_sooner)
    (ascend_join news after end in_it from_below.1)

pub first_of : (g : Entry) (before news after : List Entry) (first : Key) → first_or (before ++ (g ∷ after)) None ≡ Some first
    → BeginFrom g.first news → AscendTo (g ∷ after) None → BeginFrom first (before ++ (news ++ after))
first_of g (b ∷ before) news after first e h k =
    let same : b.first ≡ first = cc in subst (λ (key : Key). ¬ (IsBefore b.first key)) same (not_before_self b.first)
first_of g [] [] [] first e h k = tt
first_of g [] [] (a ∷ after) first e h k =
    let same : g.first ≡ first = cc in subst (λ (key : Key). ¬ (IsBefore a.first key)) same (λ yes. not_both_before g.first a.first k.0 yes)
first_of g [] (n ∷ news) after first e h k = let same : g.first ≡ first = cc in subst (λ (key : Key). ¬ (IsBefore n.first key)) same h

pub no_end : (end : Option Key) → IsNotBefore end None
no_end None = tt
no_end (Some key) = tt

-- the key with which entries in order begin is before their end
pub begun_before : (entries : List Entry) (first : Key) (end : Option Key) → first_or entries None ≡ Some first → AscendTo entries end → IfSome end (IsBefore first)
begun_before [] first end begins up = cc
begun_before (x ∷ xs) first end begins up =
    let is : x.first ≡ first = cc in
    subst (λ (key : Key). IfSome end (IsBefore key)) is (ascend_first x xs end up)

pub begun_joined : (entries rest : List Entry) (first : Key) (end : Option Key) → first_or entries None ≡ Some first → first_or (entries ++ rest) end ≡ Some first
begun_joined [] rest first end begins = cc
begun_joined (x ∷ xs) rest first end begins = begins

stood : (last : ℕ) (pages : List (List ℕ)) (level n : ℕ) (entry : Entry) (end : Option Key) (entries told : List Entry) → AscendTo entries end
    → EachTo (IsUnder last pages level) entries end → BeginFrom entry.first entries → StandOn last pages (suc level) n entries told → Stays last pages (suc level) entry end told
stood last pages level n entry end entries told up each later h = elim h [
  | inl none ↦ rw none.1 (record { ascends = tt; later = tt; each = tt })
  | inr more ↦ elim more [
    | inl one ↦
        rw one.1 (record {
          ascends = (begun_before entries one.0.first end one.3.begins up, tt);
          later = subst (λ (o : Option Key). IfSome o (λ key. ¬ (IsBefore key entry.first))) one.3.begins later;
          each = (told_index last pages level entries one.0 end one.3 up each, tt);
        })
    | inr two ↦
        let l = take 86 entries in
        let r = drop 86 entries in
        let parts : entries ≡ l ++ r = sym (take-append-drop 86 entries) in
        let up_all : AscendTo (l ++ r) end = subst (λ (xs : List Entry). AscendTo xs end) parts up in
        let each_all : EachTo (IsUnder last pages level) (l ++ r) end = subst (λ (xs : List Entry). EachTo (IsUnder last pages level) xs end) parts each in
        let later_all : BeginFrom entry.first (l ++ r) = subst (λ (xs : List Entry). BeginFrom entry.first xs) parts later in
        let middle : first_or r end ≡ Some two.1.first = ap (λ (xs : List Entry). first_or xs end) (sym (append-nil r)) ∙ begun_joined r [] two.1.first end two.6.begins in
        let up_left : AscendTo l (Some two.1.first) = subst (λ (o : Option Key). AscendTo l o) middle (ascend_left l r end up_all) in
        let each_l : EachTo (IsUnder last pages level) l (Some two.1.first) =
        subst (λ (o : Option Key). EachTo (IsUnder last pages level) l o) middle (each_left (IsUnder last pages level) l r end each_all) in
        let up_right = ascend_right l r end up_all in
        rw two.3 (record {
          ascends = (begun_before l two.0.first (Some two.1.first) two.5.begins up_left, (begun_before r two.1.first end two.6.begins up_right, tt));
          later = subst (λ (o : Option Key). IfSome o (λ key. ¬ (IsBefore key entry.first))) (begun_joined l r two.0.first None two.5.begins) later_all;
          each = (
            told_index last pages level l two.0 (Some two.1.first) two.5 up_left each_l,
            (told_index last pages level r two.1 end two.6 up_right (each_right (IsUnder last pages level) l r end each_all), tt),
          );
        })
  ]
]

each_zero : (last : ℕ) (pages : List (List ℕ)) (xs : List Entry) (end : Option Key) → EachTo (IsUnder last pages zero) xs end
each_zero last pages [] end = tt
each_zero last pages (x ∷ xs) end = (tt, each_zero last pages xs end)

pub stays : (last : ℕ) (old new : List (List ℕ)) (f : Entry) (fs : List Entry) (next : Option Key) (level : ℕ) (entry : Entry) (end : Option Key) (told : List Entry)
    → AscendTo fs next → BeginFrom f.first fs → IfSome end (IsBefore entry.first) → IsUnder last old level entry end
    → Becomes last old new f fs next level entry end told → Stays last new level entry end told
stays last old new f fs next zero entry end told up later ends is h =
    rw (h.0, h.1, h.2) (record { ascends = up; later = later; each = each_zero last new fs next })
stays last old new f fs next (suc level) entry end told up later ends is (before, after, below, news, parts, becomes, kept_before, kept_after, stand) =
    let up_all : AscendTo (before ++ (below ∷ after)) end = subst (λ (xs : List Entry). AscendTo xs end) parts is.0.fits.ascends in
    let each_all : EachTo (IsUnder last old level) (before ++ (below ∷ after)) end = subst (λ (xs : List Entry). EachTo (IsUnder last old level) xs end) parts is.1 in
    let begins : first_or (before ++ (below ∷ after)) None ≡ Some entry.first = subst (λ (xs : List Entry). first_or xs None ≡ Some entry.first) parts is.0.fits.begins in
    let from_below = ascend_right before (below ∷ after) end up_all in
    let each_below = each_right (IsUnder last old level) before (below ∷ after) end each_all in
    let in_it = stays last old new f fs next level below (first_or after end) news up later from_below.0 each_below.0 becomes in
    let no_sooner = not_before below news after end in_it.later from_below.0 in
    let each_before = each_same (λ n. slice_get new n ≡ slice_get old n) (pages_under old level) (IsUnder last old level) (IsUnder last new level) (kept_index last old new level)
    before (first_or (news ++ after) end) kept_before
    (each_later (IsUnder last old level) (under_later last old level) before (Some below.first) (first_or (news ++ after) end)
    (each_left (IsUnder last old level) before (below ∷ after) end each_all) no_sooner) in
    let each_after = each_join (IsUnder last new level) news after end in_it.each
    (each_same (λ n. slice_get new n ≡ slice_get old n) (pages_under old level) (IsUnder last old level) (IsUnder last new level) (kept_index last old new level)
    after end kept_after each_below.1) in
    stood last new level entry.page entry end (before ++ (news ++ after)) told
    (ascend_mended before below after news end up_all in_it.later in_it.ascends)
    (each_join (IsUnder last new level) before (news ++ after) end each_before each_after)
    (first_of below before news after entry.first begins in_it.later (ascend_later (below ∷ after) end None from_below (no_end end)))
    stand
