use Rattle.match_lone.proofs.+settle.Given as goal

abbrev pub decreases-settle : goal.decreases-settle
decreases-settle l = l.x
