-- What the page of a header reads as.
use Rattle.std.proofs.lemmas.Grind.{common_steps}
use Rattle.std.proofs.Common.{rules, ◌≡◌, ◌≢◌, ◌≤◌, ◌<◌, ◌+◌, ◌-◌, ◌*◌, ◌^◌, ◌↔◌, ℕ, zero, suc, List, [], ◌∷◌, ◌++◌, true, false, Result, IsOk, IfErr, length, take, drop, replicate, if◌then◌else◌, refl, sym, ap, arith, ◌∙◌, append_assoc, length-take-le}
use Rattle.std.specs.Prelude.{IsErrOf, nat_lt}
use Rattle.std.proofs.lemmas.Bool.{lt-ltb}
use Rattle.std.proofs.lemmas.List.{length-append, length-replicate, length-drop}
use Rattle.std.specs.List.{flat_map, AllByRecursion}
use Rattle.std.specs.Result.{IfOk, IsErrAnd}
use Rattle.ub_bytes.specs.Bytes.{number_bytes, number_at, layout, padded}
use Rattle.ub_page.specs.Header.{numbers_of, names_of, number_fields, name_bytes, page_of, header_page, header_page_of, IsHeader, IsHeaderOf, IsOldHeader, IsOldVersion, AreInRangeOf, AreLevels, AreSame, IsOfVersion, IsHeaderKind, IsFaultOf, IsHeaderFault, IsOldHeaderFault, version_on, HasNames, columns_on, numbers_on, name_on, names_on, IsNameOn, AreNamesOn}
use Rattle.ub_page.specs.declared.header.Header.{Header}
use Rattle.ub_page.specs.declared.header.Numbers.{Numbers}
use Rattle.ub_page.specs.declared.header.OldHeader.{OldHeader}
use Rattle.ub_page.specs.declared.header.TheConstants.{FIRST_SIGNED, MAX_LEVEL, VERSION}
use Rattle.ub_bytes.proofs.BytesFacts.{length-number_bytes, read_at, layout_read, length-layout, AllFit}
use Rattle.ub_bytes.proofs.DraftFacts.{of_front}
use Rattle.ub_table.proofs.Laws.{name_block, length-name, few}
use Rattle.ub_table.specs.Name.{IsName}
use Rattle.ub_table.specs.declared.fault.PageFault.TheVariants.{WrongKind, OldFormat, Unclean, BadCount, BadName, BadRow, BadOrder, OutOfRegion, BadPadding}
use Rattle.ub_table.specs.declared.fault.PageFault.{PageFault}
use Rattle.ub_table.specs.declared.schema.Schema.{Schema}

-- the name that stands after some bytes of a page
pub name_read : (name page front rest : List ℕ) (offset : ℕ) → offset ≡ length front → IsName name → page ≡ front ++ (name_bytes name ++ rest)
    → IsNameOn offset page × (name_on offset page ≡ name)
name_read name page front rest offset is good e =
    let zeros : List ℕ = replicate (32 - length name) 0 in
    let len = number_bytes 1 (length name) in
    let short = length-name name good in
    let whole : page ≡ front ++ (len ++ ((name ++ zeros) ++ rest)) = e ∙ ap (λ (s : List ℕ). front ++ s) (append_assoc len (name ++ zeros) rest) in
    let number : number_at 1 offset page ≡ length name = read_at page front ((name ++ zeros) ++ rest) offset 1 (length name) is (omega arith) whole in
    let behind : page ≡ (front ++ len) ++ ((name ++ zeros) ++ rest) = whole ∙ sym (append_assoc front len _) in
    let next : offset + 1 ≡ length (front ++ len) = omega (arith, length-append front len, length-number_bytes 1 (length name)) in
    let after : drop (offset + 1) page ≡ (name ++ zeros) ++ rest = (of_front (front ++ len) ((name ++ zeros) ++ rest) page (offset + 1) next behind).0 in
    let long : 32 ≡ length (name ++ zeros) = omega (arith, length-append name zeros, length-replicate {A = ℕ} (32 - length name) 0) in
    let block : take 32 (drop (offset + 1) page) ≡ name ++ zeros = (of_front (name ++ zeros) rest _ 32 long after).1 in
    let text : take (length name) (drop (offset + 1) page) ≡ name = (of_front name (zeros ++ rest) _ (length name) refl (after ∙ append_assoc name zeros rest)).1 in
    (rw (number, block) (name_block name good), rw number text)

-- the names that stand after some bytes of a page
pub names_read : (names : List (List ℕ)) (page front rest : List ℕ) (offset : ℕ) → offset ≡ length front → AllByRecursion IsName names
    → page ≡ front ++ (flat_map name_bytes names ++ rest)
    → AreNamesOn offset (length names) page × (names_on offset (length names) page ≡ names)
names_read [] page front rest offset is good e = (tt, refl)
names_read (name ∷ names) page front rest offset is good e =
    let zeros : List ℕ = replicate (32 - length name) 0 in
    let len = number_bytes 1 (length name) in
    let short = length-name name good.0 in
    let whole : page ≡ front ++ (name_bytes name ++ (flat_map name_bytes names ++ rest)) = e ∙ ap (λ (s : List ℕ). front ++ s) (append_assoc (name_bytes name) (flat_map name_bytes names) rest) in
    let behind : page ≡ (front ++ name_bytes name) ++ (flat_map name_bytes names ++ rest) = whole ∙ sym (append_assoc front (name_bytes name) _) in
    let next : offset + 33 ≡ length (front ++ name_bytes name)
    = omega (arith, length-append front (name_bytes name), length-append len (name ++ zeros), length-append name zeros, length-replicate {A = ℕ} (32 - length name) 0, length-number_bytes 1 (length name)) in
    let first = name_read name page front _ offset is good.0 whole in
    let others = names_read names page (front ++ name_bytes name) rest (offset + 33) next good.1 behind in
    ((first.0, others.0), rw (first.1, others.1) refl)

take_short : (n m : ℕ) (xs : List ℕ) → n ≤ m → take n (take m xs) ≡ take n xs
take_short n m xs h = grind (arith, common_steps)

-- a name that stands on a page is a name
name_valid : (offset : ℕ) (page : List ℕ) → IsNameOn offset page → IsName (name_on offset page)
name_valid offset page h = rw (take_short (number_at 1 offset page) 32 (drop (offset + 1) page) h.short) at h.name

-- names that stand on a page are names
names_valid : (offset n : ℕ) (page : List ℕ) → AreNamesOn offset n page → AllByRecursion IsName (names_on offset n page)
names_valid offset zero page h = tt
names_valid offset (suc n) page h = (name_valid offset page h.0, names_valid (offset + 33) n page h.1)

-- what the tests of a name tell
pub named : (page name : List ℕ) (offset len m : ℕ) → m ≡ 32 → length page ≡ 4096 → offset + 33 ≤ 4096 → len ≡ number_at 1 offset page → len ≤ 32
    → name ≡ take len (take m (drop (offset + 1) page)) → IsName (take len (take m (drop (offset + 1) page)))
    → name ++ replicate (32 - length name) 0 ≡ take m (drop (offset + 1) page)
    → (name ≡ name_on offset page) × IsNameOn offset page
named page name offset len m h k j l o p q r = search (rules, length-drop, length-take-le, take_short)

pub names_next : (offset n after less : ℕ) (page : List ℕ) → 0 < n → after ≡ offset + 33 → less ≡ n - 1
    → names_on offset n page ≡ name_on offset page ∷ names_on after less page
names_next offset n after less page h k j = search rules

pub valid_next : (offset n after less : ℕ) (page : List ℕ) → 0 < n → after ≡ offset + 33 → less ≡ n - 1
    → AreNamesOn offset n page ↔ (IsNameOn offset page × AreNamesOn after less page)
valid_next offset zero after less page some a b = absurd (omega arith)
valid_next offset (suc n) after less page some a b = let m : less ≡ n = omega arith in rw (a, m) (λ h. h, λ h. h)

pub names_step : (columns all : List (List ℕ)) (page : List ℕ) (i count : ℕ) → i < count
    → columns ++ names_on (65 + 33 * i) (count - i) page ≡ all
    → (columns ++ name_on (65 + 33 * i) page ∷ []) ++ names_on (65 + 33 * (i + 1)) (count - (i + 1)) page ≡ all
names_step columns all page i count h k = search (rules, append_assoc, names_next)

pub length-names_on : (offset n : ℕ) (page : List ℕ) → length (names_on offset n page) ≡ n
length-names_on offset zero page = refl
length-names_on offset (suc n) page = omega (arith, length-names_on (offset + 33) n page)

-- where the counts are right, a schema is refused for its names alone
pub refused_schema : (r : Result Schema PageFault) (P Q : Type 0) → (IsOk r ↔ (P × Q)) → (IsErrOf r BadName ↔ (P × (¬ Q))) → P → IfErr r (λ e. (e ≡ BadName) × (¬ Q))
refused_schema r P Q h k j = search rules

-- the columns of one that is made have different names
pub made_schema : (r : Result Schema PageFault) (P Q : Type 0) → (IsOk r ↔ (P × Q)) → IfOk r (λ s. Q)
made_schema r P Q h = search rules

-- what holds of a fault holds of what is refused by it
pub refused_by : {T : Type 0} (P : PageFault → Type 0) (r : Result T PageFault) (e : PageFault) → IsErrAnd r (λ x. x ≡ e) → P e → IfErr r P
refused_by P r e h k = search rules

pub same_numbers : (version : ℕ) (n : Numbers) (s : Schema) → s.dims ≡ n.dims → length s.columns ≡ n.dims + n.measures → s.page_rows ≡ n.page_rows → s.signed ≡ n.signed → n.state ≢ 1 → AreInRangeOf version n
    → numbers_of (record { schema = s; next = n.next; rows = n.rows; regions = n.regions; root = n.root; levels = n.levels; unclean = false }) ≡ n
same_numbers version n s h k j l m o = search rules

-- the byte of the mask is the mask, where none is signed before the first version that tells of it
mask_read : (version signed byte : ℕ) → byte ≡ signed → (version < FIRST_SIGNED → signed ≡ 0) → (if nat_lt version FIRST_SIGNED then 0 else byte) ≡ signed
mask_read version signed byte h k = search rules

-- before the first version that tells of signed dimensions, the mask on a page is zero
no_mask : (version byte : ℕ) → version < FIRST_SIGNED → (if nat_lt version FIRST_SIGNED then 0 else byte) ≡ 0
no_mask version byte older = rw (lt-ltb version FIRST_SIGNED older) refl

-- a page has room for the levels: a directory has no more pages than regions
pub levels_fit : (version : ℕ) (n : Numbers) → AreLevels version n → 1 ≤ n.regions → n.regions < 2 ^ 32 → n.levels < 2 ^ 32
levels_fit version n h k j = search rules

-- the parts of a header that stand on a page of a version make a header of it
pub is_header : (version : ℕ) (h : Header) (page : List ℕ) → numbers_of h ≡ numbers_on version page → AreInRangeOf version (numbers_on version page) → h.regions < 2 ^ 32 → h.root < 2 ^ 32
    → h.schema.name ≡ name_on 32 page → h.schema.columns ≡ names_on 65 (columns_on page) page → HasNames (columns_on page) page → IsHeaderOf version h
is_header version h page numbers range regions root name columns names = record {
  numbers = rw numbers range;
  regions = regions;
  root = root;
  names = rw (name, columns) (name_valid 32 page names.0, names_valid 65 (columns_on page) page names.1);
  unsigned = λ older. ap (λ (n : Numbers). n.signed) numbers ∙ no_mask version (number_at 1 9 page) older;
}

-- the parts of a header in this version stand on the page
pub record HasPartsOf (version : ℕ) (h : Header) (page : List ℕ) : Type 0 where
  pub kind : IsOfVersion version page
  pub numbers : numbers_on version page ≡ numbers_of h
  pub name : name_on 32 page ≡ h.schema.name
  pub columns : names_on 65 (columns_on page) page ≡ h.schema.columns
  pub names : HasNames (columns_on page) page

-- and in the version that is written
abbrev pub HasParts : Header → List ℕ → Type 0
HasParts h page = HasPartsOf VERSION h page

-- the parts of a header are read from its page
pub parts : (version : ℕ) (h : Header) (page : List ℕ) → version < 256 → IsHeaderOf version h → page ≡ header_page_of version h → HasPartsOf version h page
unfolding page_of
parts version h page byte is e =
    let n = numbers_of h in
    let fields = number_fields version n in
    let names = flat_map name_bytes (names_of h) in
    let zeros : List ℕ = replicate (4096 - length (layout fields ++ names)) 0 in
    let whole : page ≡ layout fields ++ (names ++ zeros) = e ∙ append_assoc (layout fields) names zeros in
    let state = is.numbers.state in
    let counts = is.numbers.counts.counts in
    let flag : (if h.unclean then 1 else 0) < 256 = omega (arith, state) in
    let mask = few h.schema.dims h.schema.signed counts.few_dims is.numbers.counts.mask in
    let next = is.numbers.last_next in
    let rows = is.numbers.rows in
    let levels = levels_fit version n is.numbers.levels is.numbers.regions is.regions in
    let regions = is.regions in
    let root = is.root in
    let fit : AllFit fields = (omega arith, (omega arith, (omega arith, (omega arith, (omega arith, (omega arith, (omega arith, (omega arith, (omega arith, (omega arith, (omega arith, (omega arith, (omega arith, tt))))))))))))) in
    let ats = layout_read fields page [] (names ++ zeros) 0 refl fit whole in
    let at5 = ats.1.1 in
    let at9 = at5.1.1.1.1 in
    let at12 = at9.1.1 in
    let dims = at5.1.0 in
    let measures = at5.1.1.0 in
    let read = names_read (names_of h) page (layout fields) zeros 32 (sym (length-layout fields)) is.names whole in
    let covers = h.schema.counts.covers_dims in
    let count : number_at 1 6 page + number_at 1 7 page ≡ length h.schema.columns = omega arith in
    let all = read.1 in
    let columns : names_on 65 (length h.schema.columns) page ≡ h.schema.columns = cc in
    record {
      kind = (ats.0, ats.1.0);
      numbers = rw (at5.0, dims, measures, at5.1.1.1.0, mask_read version h.schema.signed (number_at 1 9 page) at9.0 is.unsigned, at12.0, at12.1.0, at12.1.1.0, at12.1.1.1.0, at12.1.1.1.1.0) refl;
      name = cc;
      columns = rw count columns;
      names = rw count (read.0.0, read.0.1, rw columns h.schema.distinct);
    }

-- headers of one page agree
pub same : (a b : Header) → numbers_of a ≡ numbers_of b → a.schema.name ≡ b.schema.name → a.schema.columns ≡ b.schema.columns → a.unclean ≡ b.unclean → AreSame a b
same a b h k j l = search rules

-- where the numbers and the names are the same, so is the page
pub same_page : (version : ℕ) (a b : Header) → numbers_of a ≡ numbers_of b → a.schema.name ≡ b.schema.name → a.schema.columns ≡ b.schema.columns
    → header_page_of version a ≡ header_page_of version b
same_page version a b numbers name columns = rw (numbers, name, columns) refl

-- a page that holds a clean header's parts and is not its page has another byte that is not zero
pub padding_fault : (version : ℕ) (h : Header) (page : List ℕ) → version < 256 → numbers_of h ≡ numbers_on version page → AreInRangeOf version (numbers_on version page)
    → h.schema.name ≡ name_on 32 page → h.schema.columns ≡ names_on 65 (columns_on page) page → IsOfVersion version page → h.unclean ≡ false
    → HasNames (columns_on page) page → header_page_of version h ≢ page → IsFaultOf version page BadPadding
padding_fault version h page byte numbers range name columns kind clean names other =
    let state = ap (λ (n : Numbers). n.state) numbers in
    let zero_state = rw clean at state in (
      kind,
      (λ one. omega arith),
      range,
      names,
      (λ k is e. let read = parts version k page byte is e in
          other (same_page version h k (numbers ∙ read.numbers) (name ∙ read.name) (columns ∙ read.columns) ∙ sym e)),
    )

-- the page of a clean header is not refused by a reader of its version
pub not_fault_of : (version : ℕ) (h : Header) (page : List ℕ) → version < 256 → IsHeaderOf version h → h.unclean ≡ false → page ≡ header_page_of version h
    → (e : PageFault) → IsFaultOf version page e → ⊥
not_fault_of version h page byte is clean same WrongKind fault = fault (parts version h page byte is same).kind
not_fault_of version h page byte is clean same Unclean fault =
    let state = ap (λ (n : Numbers). n.state) (parts version h page byte is same).numbers in
    let zero_state = rw clean at state in
    let one = fault.1 in
    omega arith
not_fault_of version h page byte is clean same BadCount fault = fault.2 (rw (parts version h page byte is same).numbers is.numbers)
not_fault_of version h page byte is clean same BadName fault = fault.3 (parts version h page byte is same).names
not_fault_of version h page byte is clean same BadPadding fault = fault.4 h is same
not_fault_of version h page byte is clean same OldFormat fault = fault
not_fault_of version h page byte is clean same BadRow fault = fault
not_fault_of version h page byte is clean same BadOrder fault = fault
not_fault_of version h page byte is clean same OutOfRegion fault = fault

-- a page of the version that is written is one of a version that there has been
pub kind_of : (page : List ℕ) → IsOfVersion VERSION page → IsHeaderKind page
kind_of page kind = let version = kind.1 in (kind.0, omega arith, omega arith)

-- the page of a clean header is not refused
pub not_refused : (h : Header) (page : List ℕ) → IsHeader h → h.unclean ≡ false → page ≡ header_page h → (e : PageFault) → IsHeaderFault page e → ⊥
not_refused h page is clean same WrongKind fault = fault (kind_of page (parts VERSION h page (omega arith) is same).kind)
not_refused h page is clean same OldFormat fault =
    let version = (parts VERSION h page (omega arith) is same).kind.1 in
    let older = fault.1 in
    omega arith
not_refused h page is clean same Unclean fault = not_fault_of VERSION h page (omega arith) is clean same Unclean fault
not_refused h page is clean same BadCount fault = not_fault_of VERSION h page (omega arith) is clean same BadCount fault
not_refused h page is clean same BadName fault = not_fault_of VERSION h page (omega arith) is clean same BadName fault
not_refused h page is clean same BadPadding fault = not_fault_of VERSION h page (omega arith) is clean same BadPadding fault
not_refused h page is clean same BadRow fault = fault
not_refused h page is clean same BadOrder fault = fault
not_refused h page is clean same OutOfRegion fault = fault

-- the page of an unclean header is refused as Unclean alone
pub unclean_refused : (h : Header) (page : List ℕ) → IsHeader h → h.unclean ≡ true → page ≡ header_page h → (e : PageFault) → IsHeaderFault page e → e ≡ Unclean
unclean_refused h page is unclean same e fault = refused e fault
  where
    on : HasParts h page
    on = parts VERSION h page (omega arith) is same

    marked : number_at 1 5 page ≡ 1
    marked = ap (λ (n : Numbers). n.state) on.numbers ∙ rw unclean refl

    refused : (e : PageFault) → IsHeaderFault page e → e ≡ Unclean
    refused WrongKind f = absurd (f (kind_of page on.kind))
    refused OldFormat f = let version = on.kind.1 in let older = f.1 in absurd (omega arith)
    refused Unclean f = refl
    refused BadCount f = absurd (f.1 marked)
    refused BadName f = absurd (f.1 marked)
    refused BadPadding f = absurd (f.1 marked)
    refused BadRow f = absurd f
    refused BadOrder f = absurd f
    refused OutOfRegion f = absurd f

-- an old version stands on one byte
pub old_byte : (version : ℕ) → IsOldVersion version → version < 256
old_byte version is = let older = is.1 in omega arith

-- where an old header tells of an index, its levels are the level of the root
pub old_level : (old : OldHeader) → IsOldHeader old → old.version ≢ 1 → (1 ≤ old.header.levels) × (old.header.levels ≤ MAX_LEVEL)
old_level old h k = search rules

-- the parts of an old header are read from its page
pub old_parts : (old : OldHeader) (page : List ℕ) → IsOldHeader old → page ≡ header_page_of old.version old.header → HasPartsOf old.version old.header page
old_parts old page is e = parts old.version old.header page (old_byte old.version is.version) is.header e

-- the page of a clean old header is not refused
pub old_not_refused : (old : OldHeader) (page : List ℕ) → IsOldHeader old → old.header.unclean ≡ false → page ≡ header_page_of old.version old.header
    → (e : PageFault) → IsOldHeaderFault page e → ⊥
old_not_refused old page is clean same e fault = no e fault
  where
    kind : IsOfVersion old.version page
    kind = (old_parts old page is same).kind

    none : (e : PageFault) → IsFaultOf (version_on page) page e → ⊥
    none e f = not_fault_of old.version old.header page (old_byte old.version is.version) is.header clean same e (rw kind.1 at f)

    no : (e : PageFault) → IsOldHeaderFault page e → ⊥
    no WrongKind f = f (kind.0, rw kind.1 is.version)
    no OldFormat f = none OldFormat f.1
    no Unclean f = none Unclean f.1
    no BadCount f = none BadCount f.1
    no BadName f = none BadName f.1
    no BadPadding f = none BadPadding f.1
    no BadRow f = none BadRow f.1
    no BadOrder f = none BadOrder f.1
    no OutOfRegion f = none OutOfRegion f.1

-- what is written one after the other is the page of all
regrouped : (a1 a2 a3 a4 a5 a6 a7 a8 a9 a10 a11 a12 a13 b c : List ℕ) → padded (((((((((((((((a1 ++ a2) ++ a3) ++ a4) ++ a5) ++ a6) ++ a7) ++ a8) ++ a9) ++ a10) ++ a11) ++ a12) ++ a13) ++ b) ++ c)) ≡ padded ((a1 ++ (a2 ++ (a3 ++ (a4 ++ (a5 ++ (a6 ++ (a7 ++ (a8 ++ (a9 ++ (a10 ++ (a11 ++ (a12 ++ (a13 ++ []))))))))))))) ++ (b ++ c))
regrouped a1 a2 a3 a4 a5 a6 a7 a8 a9 a10 a11 a12 a13 b c =
    let e : ((((((((((((((a1 ++ a2) ++ a3) ++ a4) ++ a5) ++ a6) ++ a7) ++ a8) ++ a9) ++ a10) ++ a11) ++ a12) ++ a13) ++ b) ++ c) ≡ (a1 ++ (a2 ++ (a3 ++ (a4 ++ (a5 ++ (a6 ++ (a7 ++ (a8 ++ (a9 ++ (a10 ++ (a11 ++ (a12 ++ (a13 ++ []))))))))))))) ++ (b ++ c) = simp append_assoc in
    ap padded e

-- the writer's bytes are those of the spelling
pub written : (version : ℕ) (n : Numbers) (name : List ℕ) (columns : List (List ℕ))
    → padded (((((((((((((((number_bytes 4 0x55425452 ++ number_bytes 1 version) ++ number_bytes 1 n.state) ++ number_bytes 1 n.dims) ++ number_bytes 1 n.measures) ++ number_bytes 1 n.page_rows) ++ number_bytes 1 n.signed) ++ number_bytes 2 0) ++ number_bytes 4 n.next) ++ number_bytes 4 n.rows) ++ number_bytes 4 n.regions) ++ number_bytes 4 n.root) ++ number_bytes 4 n.levels) ++ name_bytes name) ++ flat_map name_bytes columns)) ≡ page_of version n (name ∷ columns)
unfolding page_of
written version n name columns = search (rules, regrouped)
