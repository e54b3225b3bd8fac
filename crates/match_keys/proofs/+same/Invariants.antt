use Rattle.match_keys.proofs.+same.Given as goal

abbrev pub decreases-same : goal.decreases-same
decreases-same l = l.x
