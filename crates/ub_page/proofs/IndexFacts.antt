-- What a page of an index reads as, and which page is spelled by what stands on it.
use Rattle.std.proofs.Common.{rules, ◌≡◌, ◌&&◌, Bool, IsTrue, ◌≤◌, ◌<◌, ◌+◌, ◌-◌, ◌*◌, ◌^◌, ℕ, zero, suc, List, ◌++◌, length, take, drop, get_or, replicate, ◌↔◌, refl, sym, ap, arith, ◌∙◌}
use Rattle.std.proofs.lemmas.List.{length-take-le, take-append-drop}
use Rattle.std.specs.List.{flat_map, AllByRecursion}
use Rattle.ub_bytes.specs.Bytes.{number_at, layout, padded}
use Rattle.ub_page.specs.Entries.{AreAscending, IsEntry, entry_fields, entry_bytes, page_fields, entries_page, key_on, entry_on, entries_on}
use Rattle.ub_region.specs.declared.entry.Entry.{Entry}
use Rattle.ub_page.proofs.PageLaws.{fields_read, length-entries_on, entries_next, layout_back, joined}
use Rattle.ub_page.specs.Named.{IsNamed}
use Rattle.ub_table.specs.Keys.{IsBefore}
use Rattle.ub_table.specs.declared.fault.PageFault.TheVariants.{WrongKind, OldFormat, Unclean, BadCount, BadName, BadRow, BadOrder, OutOfRegion, BadPadding}
use Rattle.ub_table.specs.declared.fault.PageFault.{PageFault}
use Rattle.ub_page.specs.Index.{Node, IsNode, index_page, head_on, node_on, IsIndexKind, HasHead, HasNodeEntries, HasNodeOrder, IsBlankBehind, IsHeadFault, IsIndexFault}
use Rattle.ub_page.specs.declared.index.Head.{Head}

-- the page of a level's entries is the spelling of the node
pub index_spelled : (level : ℕ) (entries : List Entry) → entries_page 0x49 level 0 entries ≡ index_page (record { level = level; entries = entries })
unfolding index_page
index_spelled level entries = refl

pub record HasNode (node : Node) (page : List ℕ) : Type 0 where
  pub kind : IsIndexKind page
  pub on : node_on page ≡ node
  pub blank : IsBlankBehind (number_at 2 2 page) page

-- what a page was written of is what stands on it
pub parts : (node : Node) (page : List ℕ) (last : ℕ) → last < 256 ^ 16 → IsNode last node → page ≡ index_page node → HasNode node page
unfolding index_page
parts node page last small is e =
    let high = is.high in
    let has = fields_read 0x49 node.level 0 node.entries page last (omega arith) (omega arith) (omega arith) is.few small is.entries e in
    let level = has.level_is in
    let count = has.count_is in
    let entries = has.entries_are in
    record {
      kind = has.kind_is;
      on = rw (level, count, entries) refl;
      blank = rw count (record { free = (has.next_is, has.zeros); behind = has.behind });
    }

abbrev node_of : ℕ → List Entry → Node
node_of level entries = record { level = level; entries = entries }

-- a page's level and entries are the node that it tells
pub node_same : (head : Head) (entries : List Entry) (page : List ℕ) → head ≡ head_on page → entries ≡ entries_on 16 head.count page
    → node_of head.level entries ≡ node_on page
node_same head entries page head_is is = rw (is, head_is) refl

-- the page of a node is not refused
pub not_refused : (node : Node) (page : List ℕ) (last : ℕ) → last < 256 ^ 16 → IsNode last node → page ≡ index_page node → (e : PageFault) → IsIndexFault last page e → ⊥
not_refused node page last small is same WrongKind fault = fault (parts node page last small is same).kind
not_refused node page last small is same BadCount fault =
    let on = (parts node page last small is same).on in
    let level : number_at 1 1 page ≡ node.level = ap (λ (n : Node). n.level) on in
    let count : number_at 2 2 page ≡ length node.entries = sym (length-entries_on 16 (number_at 2 2 page) page) ∙ ap (λ (n : Node). length n.entries) on in
    fault.1 (rw (level, count) ((is.low, is.high), is.some, is.few))
not_refused node page last small is same BadRow fault = fault.2 (rw (ap (λ (n : Node). n.entries) (parts node page last small is same).on) is.entries)
not_refused node page last small is same BadOrder fault = fault.3 (rw (ap (λ (n : Node). n.entries) (parts node page last small is same).on) is.ascending)
not_refused node page last small is same BadPadding fault = fault.4 node is same
not_refused node page last small is same OldFormat fault = fault
not_refused node page last small is same Unclean fault = fault
not_refused node page last small is same BadName fault = fault
not_refused node page last small is same OutOfRegion fault = fault

-- a refusal of the first bytes is one of the page
pub head_fault : (last : ℕ) (page : List ℕ) (e : PageFault) → IsHeadFault page e → IsIndexFault last page e
head_fault last page e h = search rules

-- a page whose unused bytes aren't zero is written of nothing
pub padding_fault : (page : List ℕ) (last : ℕ) → last < 256 ^ 16 → IsIndexKind page → HasHead page → HasNodeEntries last page → HasNodeOrder page
    → ((IsBlankBehind (number_at 2 2 page) page) → ⊥) → IsIndexFault last page BadPadding
padding_fault page last small kind head entries order other = (kind, head, entries, order, λ node is e. other (parts node page last small is e).blank)

-- what stands on a page that is in range and in order is a node
pub is_node : (page : List ℕ) (last : ℕ) → HasHead page → HasNodeEntries last page → HasNodeOrder page → IsNode last (node_on page)
is_node page last h k j = search (rules, length-entries_on)

-- entries that stand in some bytes are spelled by them
entries_back : (offset n : ℕ) (page : List ℕ) → ((k : ℕ) → get_or page k 0 < 256) → offset + 24 * n ≤ length page → flat_map entry_bytes (entries_on offset n page) ≡ take (24 * n) (drop offset page)
entries_back offset zero page small within = let none : 24 * 0 ≡ 0 = omega arith in ap (λ (k : ℕ). take k (drop offset page)) (sym none)
entries_back offset (suc n) page small within =
    let all : 24 + 24 * n ≡ 24 * suc n = omega arith in
    let at : number_at 4 (offset + 16 + 4) page ≡ number_at 4 (offset + 20) page = ap (λ (k : ℕ). number_at 4 k page) (omega arith) in
    joined offset 24 (24 * n) (offset + 24) page (entry_bytes (entry_on offset page)) (flat_map entry_bytes (entries_on (offset + 24) n page)) refl
    (layout_back (entry_fields (entry_on offset page)) offset page small (omega arith) (refl, (refl, (at, tt))))
    (entries_back (offset + 24) n page small (omega arith))
    ∙ ap (λ (k : ℕ). take k (drop offset page)) all

-- a page whose unused bytes are zero is spelled by what stands on it
pub spelled : (page : List ℕ) → length page ≡ 4096 → ((k : ℕ) → get_or page k 0 < 256) → IsIndexKind page → HasHead page → IsBlankBehind (number_at 2 2 page) page
    → page ≡ index_page (node_on page)
unfolding index_page
spelled page long small kind head blank =
    let count : ℕ = number_at 2 2 page in
    let level : ℕ = number_at 1 1 page in
    let entries : List Entry = entries_on 16 count page in
    let few = head.2 in
    let end : ℕ = 16 + 24 * count in
    let counted : count ≡ length entries = sym (length-entries_on 16 count page) in
    let heads : layout (page_fields 0x49 level (length entries) 0) ≡ take 16 (drop 0 page) =
    layout_back (page_fields 0x49 level (length entries) 0) 0 page small (omega arith) (kind, (refl, (counted, (blank.free.0, (blank.free.1, tt))))) in
    let body : flat_map entry_bytes entries ≡ take (24 * count) (drop 16 page) = entries_back 16 count page small (omega arith) in
    let both : layout (page_fields 0x49 level (length entries) 0) ++ flat_map entry_bytes entries ≡ take end page = joined 0 16 (24 * count) 16 page _ _ refl heads body in
    let used = length-take-le end page (omega arith) in
    sym (ap padded both ∙ ap (λ (k : ℕ). take end page ++ replicate (4096 - k) 0) used ∙ ap (λ (s : List ℕ). take end page ++ s) (sym blank.behind) ∙ take-append-drop end page)

-- one entry more is in range, or not
pub range_step : (last i count : ℕ) (page : List ℕ) → i < count
    → AllByRecursion (IsEntry last) (entries_on (16 + 24 * i) (count - i) page)
    ↔ (IsEntry last (entry_on (16 + 24 * i) page) × AllByRecursion (IsEntry last) (entries_on (16 + 24 * (i + 1)) (count - (i + 1)) page))
range_step last i count page h = search (rules, entries_next)

ascending_on : (offset n less : ℕ) (page : List ℕ) → 1 ≤ less → n ≡ less + 1
    → AreAscending (entries_on offset n page) ↔ (IsBefore (key_on offset page) (key_on (offset + 24) page) × AreAscending (entries_on (offset + 24) less page))
ascending_on offset n zero page some is = absurd (omega arith)
ascending_on offset zero (suc less) page some is = absurd (omega arith)
ascending_on offset (suc zero) (suc less) page some is = absurd (omega arith)
ascending_on offset (suc (suc n)) (suc less) page some is = let same : less ≡ n = omega arith in rw same (λ all. all, λ all. all)

-- one entry more begins after the one before it, or not
pub order_step : (i count : ℕ) (page : List ℕ) → 1 ≤ i → i < count
    → AreAscending (entries_on (16 + 24 * (i - 1)) (count - (i - 1)) page)
    ↔ (IsBefore (key_on (16 + 24 * (i - 1)) page) (key_on (16 + 24 * i) page) × AreAscending (entries_on (16 + 24 * (i + 1 - 1)) (count - (i + 1 - 1)) page))
order_step i count page some more =
    let step = ascending_on (16 + 24 * (i - 1)) (count - (i - 1)) (count - i) page (omega arith) (omega arith) in
    let a : 16 + 24 * (i - 1) + 24 ≡ 16 + 24 * i = omega arith in
    let b : i + 1 - 1 ≡ i = omega arith in
    rw b (rw a at step)

-- the entries from a slot on are in range and begin one after the other
abbrev pub AreWellFrom : ℕ → ℕ → ℕ → List ℕ → Type 0
AreWellFrom last i count page =
    AllByRecursion (IsEntry last) (entries_on (16 + 24 * i) (count - i) page) × AreAscending (entries_on (16 + 24 * i) (count - i) page)

-- so are those from the next one on, and the first one is before that
pub well_rest : (last i count : ℕ) (page : List ℕ) → 1 ≤ i → i < count → AreWellFrom last (i - 1) count page
    → IsBefore (key_on (16 + 24 * (i - 1)) page) (key_on (16 + 24 * i) page) × AreWellFrom last (i + 1 - 1) count page
well_rest last i count page some more all =
    let range = (range_step last (i - 1) count page (omega arith)).0 all.0 in
    let order = (order_step i count page some more).0 all.1 in
    let same : i - 1 + 1 ≡ i + 1 - 1 = omega arith in
    (order.0, (rw same at range.1, order.1))

-- one more is, which is named and before them, since its address is no higher than theirs
pub well_more : (last i count : ℕ) (page : List ℕ) → 1 ≤ i → i < count → IsNamed (entry_on (16 + 24 * (i - 1)) page)
    → number_at 4 (16 + 24 * (i - 1) + 20) page < 2 ^ 32 → IsBefore (key_on (16 + 24 * (i - 1)) page) (key_on (16 + 24 * i) page)
    → AreWellFrom last (i + 1 - 1) count page → AreWellFrom last (i - 1) count page
well_more last i count page h k j l m o = grind arith

-- two tests that both pass
pub both_pass : (a b : Bool) → IsTrue (a && b) ↔ (IsTrue a × IsTrue b)
both_pass a b = search rules

-- the last one is where its address is in the space
pub well_last : (last i count : ℕ) (page : List ℕ) → 1 ≤ i → i ≡ count → IsNamed (entry_on (16 + 24 * (i - 1)) page)
    → number_at 4 (16 + 24 * (i - 1) + 20) page < 2 ^ 32 → AreWellFrom last (i - 1) count page ↔ (number_at 16 (16 + 24 * (i - 1)) page ≤ last)
well_last last i count page h k j l = search rules
