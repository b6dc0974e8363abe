-- `lesser` is the smaller of the two.
use Rattle.std.proofs.Common.{rules}
use Rattle.resistance.specs.Fractions.{smaller}
use Rattle.resistance.proofs.ratio.Ratio.lesser.Goals as goal

pub returns-then-at_most : goal.returns-then-at_most
unfolding smaller
returns-then-at_most c = search rules

pub returns-else-at_most : goal.returns-else-at_most
unfolding smaller
returns-else-at_most c = search rules
