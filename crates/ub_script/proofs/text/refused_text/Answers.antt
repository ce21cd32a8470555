use Rattle.ub_script.proofs.text.refused_text.Goals as goal

pub returns-in-BadByte : goal.returns-in-BadByte
returns-in-BadByte c = rw c.in-BadByte.is c.refusal_text.ensures

pub returns-in-Syntax : goal.returns-in-Syntax
returns-in-Syntax c = rw c.in-Syntax.is c.refusal_text-in-Syntax.ensures

pub returns-in-NumberTooLarge : goal.returns-in-NumberTooLarge
returns-in-NumberTooLarge c = rw c.in-NumberTooLarge.is c.refusal_text-in-NumberTooLarge.ensures

pub returns-in-TooDeep : goal.returns-in-TooDeep
returns-in-TooDeep c = rw c.in-TooDeep.is c.refusal_text-in-TooDeep.ensures

pub returns-in-TooMany : goal.returns-in-TooMany
returns-in-TooMany c = rw c.in-TooMany.is c.refusal_text-in-TooMany.ensures

pub returns-in-UnknownTable : goal.returns-in-UnknownTable
returns-in-UnknownTable c = rw c.in-UnknownTable.is c.refusal_text-in-UnknownTable.ensures

pub returns-in-UnknownColumn : goal.returns-in-UnknownColumn
returns-in-UnknownColumn c = rw c.in-UnknownColumn.is c.refusal_text-in-UnknownColumn.ensures

pub returns-in-NotGrouped : goal.returns-in-NotGrouped
returns-in-NotGrouped c = rw c.in-NotGrouped.is c.refusal_text-in-NotGrouped.ensures

pub returns-in-NotSelected : goal.returns-in-NotSelected
returns-in-NotSelected c = rw c.in-NotSelected.is c.refusal_text-in-NotSelected.ensures

pub returns-in-ValueCount : goal.returns-in-ValueCount
returns-in-ValueCount c = rw c.in-ValueCount.is c.refusal_text-in-ValueCount.ensures

pub returns-in-ValueRange : goal.returns-in-ValueRange
returns-in-ValueRange c = rw c.in-ValueRange.is c.refusal_text-in-ValueRange.ensures
