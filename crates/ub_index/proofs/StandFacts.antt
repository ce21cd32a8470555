-- What an index is to those who keep regions on other pages of its store.
use Rattle.std.proofs.Common.{rules, Ok, ◌≡◌, ◌≤◌, ◌<◌, ◌∙◌, ◌^◌, ℕ, zero, List, [], ◌∷◌, Some, None, length, nat_eq, ap, sym, subst, refl, arith, slice_get, suc, option_map, ◌⊎◌, slice_set}
use Rattle.ub_index.proofs.Common.{all_more, AllByRecursion, AreOwnPages, ArePlaces, entries_in, Entry, first_or, flat_map, index_page, index_view, IndexView}
use Rattle.ub_index.proofs.Common.{IsAlone, IsDistinct, IsEntry, IsHonest, IsIndexOn, IsIndexPage, IsNode, IsOutside, IsReachedOnce, IsTold, KeepsChecked}
use Rattle.ub_index.proofs.Common.{kept_index, kept_under, Key, Node, node_parts, OldStayOutside, page_at, page_count, page_in, PagerView, pages_of_index}
use Rattle.ub_index.proofs.Common.{pages_under, PagesStay, region_pages, root_page, SameBut, StandsAsOn, StoreFacts, told_index, top, under, WritesAt}
use Rattle.ub_index.proofs.FitFacts.{page_is}
use Rattle.ub_index.proofs.Numbers.{StandApart, apart_swap, distinct_cons, kept_pages, within_store, distinct_apart, distinct_first, distinct_left}
use Rattle.ub_index.proofs.OrderFacts.{under_first}
use Rattle.ub_index.proofs.PlaceFacts.{begins, each_entry, up, within}

abbrev pub node : ℕ → List Entry → Node
node level entries = record { level = level; entries = entries }

-- the page of a node is one of an index
pub node_is : (last : ℕ) → last < 2 ^ 128 → (n : Node) → IsNode last n → IsIndexPage last (index_page n)
node_is last small n is =
    let on = (node_parts n (index_page n) last small is refl).on in
    record { spelled = ap (λ (m : Node). index_page m) (sym on); is = subst (λ (m : Node). IsNode last m) (sym on) is }

-- entries stand on the page of an entry that begins as they do
pub told_there : (last : ℕ) → last < 2 ^ 128 → (pages : List (List ℕ)) (level : ℕ) (entries : List Entry) (entry : Entry) → slice_get pages entry.page ≡ Some (index_page (node level entries))
    → IsNode last (node level entries) → first_or entries None ≡ Some entry.first → IsTold last pages level entries entry
told_there last small pages level entries entry at is begins =
    let page = page_is pages entry.page (index_page (node level entries)) at in
    let on = (node_parts (node level entries) (page_in pages entry.page) last small is page).on in
    record {
      there = at ∙ ap (λ (p : List ℕ). Some p) (sym page);
      is = record { spelled = page ∙ ap (λ (m : Node). index_page m) (sym on); is = subst (λ (m : Node). IsNode last m) (sym on) is };
      level_is = ap (λ (m : Node). m.level) on;
      entries_are = ap (λ (m : Node). m.entries) on;
      begins = begins;
    }

-- a root that names one region is one
root_node : (last page : ℕ) → 1 ≤ page → page < 4294967296 → IsNode last (node 1 (top page ∷ []))
root_node last page some less = search rules

pub root_page_is : (last page : ℕ) → last < 2 ^ 128 → 1 ≤ page → page < 4294967296 → IsIndexPage last (root_page page)
root_page_is last page small some less = node_is last small (node 1 (top page ∷ [])) (root_node last page some less)

pub some_entries : (xs : List Entry) (key : Key) → first_or xs None ≡ Some key → 1 ≤ length xs
some_entries [] key h = cc
some_entries (x ∷ xs) key h = omega arith

-- the entries of an index are those of a table's regions
pub are_places : (index : IndexView) (store : StoreFacts) → IsIndexOn index store
    → ArePlaces index.last (entries_in index store) × (1 ≤ length (entries_in index store)) × AllByRecursion (IsEntry index.last) (entries_in index store)
are_places index store is = search (rules, begins, within, up, some_entries, under_first, each_entry)

-- pages that are none of those put anew stay
pub stay_apart : (old new : List (List ℕ)) (numbers ns : List ℕ) → OldStayOutside numbers old new → AllByRecursion (λ n. n < length old) ns → StandApart ns numbers → PagesStay old new ns
stay_apart old new numbers [] keeps less apart = tt
stay_apart old new numbers (n ∷ ns) keeps less apart = (keeps n less.0 apart.0, stay_apart old new numbers ns keeps less.1 apart.1)

-- where other pages change, an index stands as it stood
pub stands_as : (index : IndexView) (old new : StoreFacts) (numbers : List ℕ) → IsIndexOn index old → IsReachedOnce index old → IsHonest new → OldStayOutside numbers old.pages new.pages
    → AllByRecursion (λ n. IsOutside n (pages_of_index index old)) numbers → StandsAsOn index old new
stands_as index old new numbers is own honest keeps outside =
    let stay : PagesStay old.pages new.pages (pages_of_index index old) =
    stay_apart old.pages new.pages numbers (pages_of_index index old) keeps (within_store index.last old.pages index.levels (top index.root) None is.under_it)
    (apart_swap numbers (pages_of_index index old) outside) in
    let same = kept_pages old.pages new.pages index.levels (top index.root) stay in
    record {
      is = record { honest = honest; some = is.some; under_it = kept_index index.last old.pages new.pages index.levels (top index.root) None stay is.under_it };
      reached = subst (λ (ns : List ℕ). IsDistinct nat_eq (0 ∷ ns)) (sym same) own;
      entries_are = kept_under old.pages new.pages index.levels (top index.root) stay;
      pages_are = same;
    }

-- the first page and those of the regions are none of the index, where no page serves twice
pub own_apart : (index : IndexView) (store : StoreFacts) → AreOwnPages index store
    → AllByRecursion (λ n. IsOutside n (pages_of_index index store)) (0 ∷ region_pages (entries_in index store))
own_apart index store own = (
  distinct_first 0 (pages_of_index index store) (distinct_left (0 ∷ pages_of_index index store) (region_pages (entries_in index store)) own),
  all_more (λ n. IsOutside n (0 ∷ pages_of_index index store)) (λ n. IsOutside n (pages_of_index index store)) (λ n out. out.1) (region_pages (entries_in index store))
      (apart_swap (0 ∷ pages_of_index index store) (region_pages (entries_in index store))
      (distinct_apart (0 ∷ pages_of_index index store) (region_pages (entries_in index store)) own)),
)

pub put_get : (pages : List (List ℕ)) (n : ℕ) (page : List ℕ) → n < length pages → slice_get (slice_set pages n page) n ≡ Some page
put_get [] n page lt = absurd (omega arith)
put_get (p ∷ pages) zero page lt = refl
put_get (p ∷ pages) (suc n) page lt = put_get pages n page (omega arith)

pub put_checked : (last n : ℕ) (put : List ℕ) (old new : PagerView) → new.store.honest ≡ old.store.honest → IsIndexPage last put
    → (page_at new.cached n ≡ option_map (λ _. put) (page_at old.cached n)) ⊎ (page_at new.cached n ≡ None) → SameBut n old.cached new.cached → KeepsChecked last old new
put_checked last n put old new honest is here others was good m page held = search (rules, option_map)

-- where the page of a root stands that names one region, there is an index of one region
is_alone : (root page last : ℕ) (store : StoreFacts) → last < 2 ^ 128 → IsHonest store → 1 ≤ root → 1 ≤ page → page < 2 ^ 32
    → slice_get store.pages root ≡ Some (root_page page) → IsAlone (index_view root 1 last) page store
unfolding IsDistinct
is_alone root page last store small honest some_root some few at =
    let told = told_there last small store.pages 1 (top page ∷ []) (top root) at (root_node last page some (omega arith)) refl in
    let pages : pages_under store.pages 1 (top root) ≡ root ∷ [] =
    ap (λ (xs : List Entry). root ∷ flat_map (pages_under store.pages zero) xs) told.entries_are in
    record {
      is = record { honest = honest; some = omega arith; under_it = told_index last store.pages zero (top page ∷ []) (top root) None told (tt, tt) (tt, tt) };
      reached = subst (λ (ns : List ℕ). IsDistinct nat_eq (0 ∷ ns)) (sym pages) (distinct_cons 0 (root ∷ []) ((λ e. omega arith), tt) (tt, tt));
      entries_are = ap (λ (xs : List Entry). flat_map (under store.pages zero) xs) told.entries_are;
      pages_are = pages;
    }

-- and it stands there once it was put
pub made_alone : (root page last : ℕ) (bytes : List ℕ) (old new : StoreFacts) → last < 2 ^ 128 → page < 2 ^ 32 → IsHonest old → root < page_count old
    → WritesAt {A = Unit {0}} root bytes old new (Ok tt) → bytes ≡ root_page page → 1 ≤ root → 1 ≤ page → IsAlone (index_view root 1 last) page new
made_alone root page last bytes old new small few honest there puts is some_root some =
    let at : slice_get new.pages root ≡ Some (root_page page) =
    ap (λ (ps : List (List ℕ)). slice_get ps root) (puts.written honest) ∙ (put_get old.pages root bytes there ∙ ap (λ (p : List ℕ). Some p) is) in
    is_alone root page last new small (ap (λ (s : StoreFacts). s.honest) puts.frame ∙ honest) some_root some few at
