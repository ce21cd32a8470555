mod AskFacts
mod SortedFacts
