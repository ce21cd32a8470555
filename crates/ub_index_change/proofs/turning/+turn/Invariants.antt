use Rattle.ub_index_change.proofs.turning.+turn.Given as goal

abbrev pub decreases-turn : goal.decreases-turn
decreases-turn g l = l.level
