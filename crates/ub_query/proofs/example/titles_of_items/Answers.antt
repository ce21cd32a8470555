use Rattle.ub_query.proofs.Examples.{titles_of_items}
use Rattle.ub_query.proofs.example.titles_of_items.Goals as goal

pub returns : goal.returns
returns c = titles_of_items
