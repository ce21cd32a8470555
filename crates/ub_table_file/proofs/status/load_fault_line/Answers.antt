use Rattle.ub_table_file.proofs.status.load_fault_line.Goals as goal

pub returns-in-BadNumber : goal.returns-in-BadNumber
returns-in-BadNumber c = rw c.in-BadNumber.is c.twice_numbered_line.ensures

pub returns-in-OutOfRange : goal.returns-in-OutOfRange
returns-in-OutOfRange c = rw c.in-OutOfRange.is c.twice_numbered_line-in-OutOfRange.ensures

pub returns-in-NoHeader : goal.returns-in-NoHeader
returns-in-NoHeader c = rw c.in-NoHeader.is c.line-in-NoHeader.ensures

pub returns-in-ColumnCount : goal.returns-in-ColumnCount
returns-in-ColumnCount c = rw c.in-ColumnCount.is c.line-in-ColumnCount.ensures

pub returns-in-Csv : goal.returns-in-Csv
returns-in-Csv c = rw c.in-Csv.is c.line-in-Csv.ensures

pub returns-in-Tree : goal.returns-in-Tree
returns-in-Tree c = rw c.in-Tree.is c.tree_fault_line.ensures

pub returns-in-Memory : goal.returns-in-Memory
returns-in-Memory c = rw c.in-Memory.is c.line-in-Memory.ensures
