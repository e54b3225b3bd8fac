use Rattle.match_walks.proofs.Filled.+pick.Given as goal

abbrev pub decreases-pick : goal.decreases-pick
decreases-pick l = l.x
