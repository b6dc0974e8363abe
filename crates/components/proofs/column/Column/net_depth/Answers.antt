-- `net_depth`: the holes leave something of the depth.
use Rattle.std.proofs.Common.{arith}
use Rattle.components.proofs.Plates.{holes_fit}
use Rattle.components.proofs.column.Column.net_depth.Goals as goal

pub overflow_sub-result : goal.overflow_sub-result
overflow_sub-result c = let s = c.args.self.now in omega (arith, holes_fit s.rows s.hole s.e1 s.p1 s.some s.end_spaced s.pitch_spaced)
