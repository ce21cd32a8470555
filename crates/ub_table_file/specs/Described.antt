-- What a table file tells by its header, as `ubq describe` writes it; and what is told where it can't be opened.
use Rattle.std.specs.Prelude.{◌≡◌, ◌≢◌, ◌⊎◌, ◌==◌, ◌++◌, ℕ, nat_lt, if◌then◌else◌, List, [], codes, decimal, length}
use Rattle.std.specs.List.{flat_map, range_with_len, slice_index_or}
use Rattle.ub_page.specs.declared.header.Header.{Header}
use Rattle.ub_page.specs.declared.header.OldHeader.{OldHeader}
use Rattle.ub_page.specs.declared.header.TheConstants.{VERSION}
use Rattle.ub_table_file.specs.declared.description.Numbers.{Numbers}
use Rattle.ub_store.specs.Facts.{StoreFacts, IsHonest}
use Rattle.ub_table.specs.Value.{is_signed}
use Rattle.ub_table.specs.declared.fault.PageFault.TheVariants.{OldFormat}
use Rattle.ub_table.specs.declared.schema.Schema.{Schema}
use Rattle.ub_tree.specs.Faults.{upgrade_fault}
use Rattle.ub_tree.specs.Opened.{IsOpened, IsOpenFault, IsPassing, IsRooted}
use Rattle.ub_tree.specs.View.{TreeView, level_count, region_count}
use Rattle.ub_tree.specs.declared.fault.TreeFault.{TreeFault}
use Rattle.ub_tree.specs.declared.fault.TreeFault.TheVariants.{Page}
use Rattle.ub_upgrade.specs.Bringing.{HasOldHeader, IsHeadFault}
use Rattle.ub_upgrade.specs.declared.fault.UpgradeFault.{UpgradeFault}

-- ---- what a header tells

-- what a table is made of; how many rows it has, the number that the next one gets, and how many regions it has; how many levels its
-- index has, or in version 1 how many pages its directory; and the version of its pages
pub record Description : Type 0 where
  pub schema : Schema
  pub rows : ℕ
  pub next : ℕ
  pub regions : ℕ
  pub levels : ℕ
  pub version : ℕ

-- of these numbers
abbrev pub description : Schema → Numbers → Description
description schema n = record { schema = schema; rows = n.rows; next = n.next; regions = n.regions; levels = n.levels; version = n.version }

-- that of a tree, whose pages are of the version that is written now
abbrev pub described : TreeView → Description
described t = record { schema = t.schema; rows = t.rows; next = t.next; regions = region_count t; levels = level_count t; version = VERSION }

-- and that of a header of an older version
abbrev pub described_old : OldHeader → Description
described_old old = record {
  schema = old.header.schema;
  rows = old.header.rows;
  next = old.header.next;
  regions = old.header.regions;
  levels = old.header.levels;
  version = old.version;
}

-- ---- its text

-- a line: a word, a space, and what is told
abbrev pub fact_line : List ℕ → List ℕ → List ℕ
fact_line word told = word ++ (codes " " ++ (told ++ codes "\n"))

-- the name of a column; after it stands whether it is a signed dimension
abbrev pub column_name : Schema → ℕ → List ℕ
column_name schema column = slice_index_or schema.columns column []

abbrev pub sign_text : ℕ → ℕ → List ℕ
sign_text mask dim = if is_signed mask dim then codes " signed" else []

-- a column of a table: a dimension, or a measure
abbrev pub column_line : Schema → ℕ → List ℕ
column_line schema column =
    if nat_lt column schema.dims
    then fact_line (codes "dimension") (column_name schema column ++ sign_text schema.signed column)
    else fact_line (codes "measure") (column_name schema column)

-- the columns in their order, the dimensions first
abbrev pub column_lines : Schema → List ℕ
column_lines schema = flat_map (column_line schema) (range_with_len 0 (length schema.columns))

-- a line with a number
abbrev pub number_line : List ℕ → ℕ → List ℕ
number_line word number = fact_line word (decimal number)

-- what is counted by the levels of a header of a version
abbrev pub levels_word : ℕ → List ℕ
levels_word version = if version == 1 then codes "directory-pages" else codes "levels"

-- the counts of a table, and its version
abbrev pub count_lines : Description → List ℕ
count_lines d =
    number_line (codes "rows") d.rows ++ (number_line (codes "next") d.next ++ (number_line (codes "regions") d.regions
    ++ (number_line (codes "page-rows") d.schema.page_rows ++ (number_line (levels_word d.version) d.levels
    ++ number_line (codes "format") d.version))))

-- an option of a command line, with a number
abbrev pub option_text : List ℕ → ℕ → List ℕ
option_text option number = option ++ decimal number

-- the options with which a CSV file of a table's rows is loaded as the same table
abbrev pub options_line : Schema → List ℕ
options_line schema =
    option_text (codes "load-with --dims ") schema.dims ++ (option_text (codes " --signed ") schema.signed
    ++ (option_text (codes " --page-rows ") schema.page_rows ++ fact_line (codes " --name") schema.name))

-- a line for each fact: the table's name, its columns, and its counts; and one for the options that load it
unfoldable pub description_text : Description → List ℕ
description_text d = fact_line (codes "table") d.schema.name ++ (column_lines d.schema ++ (count_lines d ++ options_line d.schema))

-- ---- which store tells what

-- the store tells this: by the tree that is opened in it; or by its header, which is one of an older version
abbrev pub IsToldBy : StoreFacts → Description → Type 0
IsToldBy store d =
    ((t : TreeView) × IsOpened store t × (d ≡ described t))
    ⊎ ((head : OldHeader) × HasOldHeader store head × (d ≡ described_old head))

-- the text is that of what the store tells; or of what its header tells, which is one of an older version
abbrev pub IsTextOf : StoreFacts → List ℕ → Type 0
IsTextOf store text = (d : Description) × IsToldBy store d × (text ≡ description_text d)

abbrev pub IsOldText : StoreFacts → List ℕ → Type 0
IsOldText store text = (head : OldHeader) × HasOldHeader store head × (text ≡ description_text (described_old head))

-- the fault of opening a store whose table is of an older version
abbrev pub of_old_format : TreeFault
of_old_format = Page 0 OldFormat

-- the store's header of an older version can't be read, for this reason
abbrev pub IsOldFault : StoreFacts → TreeFault → Type 0
IsOldFault store fault = (head : UpgradeFault) × IsHeadFault store head × (fault ≡ upgrade_fault head)

-- why a store tells nothing: it can't be opened, for another reason than that its table is of an older version; or it is for that, and
-- its header of an older version can't be read
abbrev pub IsDescribeFault : StoreFacts → TreeFault → Type 0
IsDescribeFault store fault =
    ((fault ≢ of_old_format) × IsOpenFault store fault)
    ⊎ (IsOpenFault store of_old_format × IsOldFault store fault)

-- a table that can be opened tells nothing for want of memory alone, or as the store failed
abbrev pub PassesRooted : StoreFacts → TreeFault → Type 0
PassesRooted store fault = (header : Header) → IsHonest store → IsRooted store.pages header → IsPassing fault
