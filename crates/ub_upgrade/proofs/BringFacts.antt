-- The header that was read, and why pages aren't brought over.
use Rattle.std.proofs.Common.{rules, ◌≡◌, ◌∙◌, ℕ, Bool, Option, Some, Result, IfErr, ap, refl}
use Rattle.ub_upgrade.proofs.Common.{AreSame, directory_of, IsBringFault, IsBuildFault, OldHeader, page_count, Schema, StoreFacts, UpgradeFault}
use Rattle.ub_page.specs.declared.header.Header.{Header}
use Rattle.ub_table.proofs.Laws.{same_schema}

abbrev header_with : Schema → ℕ → ℕ → ℕ → ℕ → ℕ → Bool → Header
header_with schema next rows regions root levels unclean = record { schema = schema; next = next; rows = rows; regions = regions; root = root; levels = levels; unclean = unclean }

-- two headers that agree in each part are one
same_header : (a b : Header) → AreSame a b → a ≡ b
same_header a b s =
    let schema = same_schema a.schema b.schema s.name s.columns s.dims s.page_rows s.signed in
    let whole : header_with a.schema a.next a.rows a.regions a.root a.levels a.unclean ≡ b = rw (schema, s.next, s.rows, s.regions, s.root, s.levels, s.unclean) refl in
    whole

abbrev old_with : ℕ → Header → OldHeader
old_with version header = record { version = version; header = header }

pub same_head : (a b : OldHeader) → a.version ≡ b.version → AreSame a.header b.header → a ≡ b
same_head a b version same = ap (λ (n : ℕ). old_with n a.header) version ∙ ap (old_with b.version) (same_header a.header b.header same)

pub some_same : {X : Type 0} (o : Option X) (x y : X) → o ≡ Some x → o ≡ Some y → x ≡ y
some_same o x y a b = cc

-- no index was built
pub build_refused : {T : Type 0} (head : OldHeader) (from mid new : StoreFacts) (r : Result T UpgradeFault) → head.version ≡ 1 → page_count mid ≡ page_count from → mid.can_fail ≡ new.can_fail
    → IfErr r (IsBuildFault (directory_of head.header) from mid) → IfErr r (IsBringFault head from new)
build_refused head from mid new r h k j l = search rules
