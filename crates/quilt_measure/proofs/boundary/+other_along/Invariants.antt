use Rattle.quilt_measure.proofs.boundary.+other_along.Given as goal

abbrev pub decreases-other_along : goal.decreases-other_along
decreases-other_along l = l.b.side
