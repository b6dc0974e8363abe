use Rattle.day.proofs.Goes.{both_go_on}
use Rattle.day.proofs.desks.Desks.work.Goals as goal

pub loop-taken-preserved : goal.loop-taken-preserved
loop-taken-preserved c = search (both_go_on, c.loop-taken.invariant, c.in_ok-taken.ensures.stretch)

pub returns : goal.returns
returns c = search (both_go_on, c.loop-taken.invariant, c.in_ok-taken.ensures.stretch)
