use Rattle.std.proofs.Common.{length}
use Rattle.day.specs.DayRails.{BothWent}
use Rattle.day.proofs.desks.Desks.work.Given as goal

abbrev pub invariant-loop-taken : goal.invariant-loop-taken
invariant-loop-taken l = BothWent l.initial.self l.self

abbrev pub decreases-loop-taken : goal.decreases-loop-taken
decreases-loop-taken l = length l.rest
