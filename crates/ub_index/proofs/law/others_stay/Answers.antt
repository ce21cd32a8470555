use Rattle.ub_index.proofs.Common.{kept_index, kept_under}
use Rattle.ub_index.proofs.law.others_stay.Goals as goal

pub returns : goal.returns
returns c = λ last old new level entry end kept is. (kept_index last old new level entry end kept is, kept_under old new level entry kept)
