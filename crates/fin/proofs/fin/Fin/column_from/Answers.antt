-- `column_from`: the bolts of an admitted joint are spaced as a column asks.
use Rattle.std.proofs.Common.{◌*◌, ◌≤◌, arith}
use Rattle.fin.specs.Ranges.{ranges}
use Rattle.fin.proofs.fin.Fin.column_from.Goals as goal

pub invariant_of-result : goal.invariant_of-result
invariant_of-result c =
    let a = ranges c.args.self.now.joint c.args.self.now.ok in
    let end : 12 * c.hole.result ≤ 10 * c.args.e1 = omega arith in
    let pitch : 22 * c.hole.result ≤ 10 * c.args.self.now.joint.layout.p1 = omega arith in
    record { some = a.rows_low; few = a.rows_high; end = c.requires.near; pitch = a.p1_high; end_spaced = end; pitch_spaced = pitch }
