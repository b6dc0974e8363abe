-- `torn_length`: the holes leave something of a torn block's sides.
use Rattle.std.proofs.Common.{arith}
use Rattle.components.proofs.Plates.{torn_fit}
use Rattle.components.proofs.column.Column.torn_length.Goals as goal

pub overflow_sub-result-3 : goal.overflow_sub-result-3
overflow_sub-result-3 c = let s = c.args.self.now in omega (arith, torn_fit s.rows s.hole s.e1 s.p1 s.some s.end_spaced s.pitch_spaced)
