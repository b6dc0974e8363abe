use Rattle.std.proofs.Common.{vec_len}
use Rattle.std.specs.Prelude.{OnOk}
use Rattle.day.specs.Desks.{Went}
use Rattle.day.proofs.desk.Desk.settle_all.Given as goal

abbrev pub invariant-loop-slip : goal.invariant-loop-slip
invariant-loop-slip g l = OnOk l.noted (Went g.K.Kind l.initial.self l.self)

abbrev pub decreases-loop-slip : goal.decreases-loop-slip
decreases-loop-slip g l = vec_len l.self.kept
