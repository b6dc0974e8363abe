-- `turning_length`: at most eleven pitches of 200 mm.
use Rattle.std.proofs.Common.{◌+◌, ◌≤◌, mul-le-mul, arith}
use Rattle.fin.specs.Ranges.{ranges}
use Rattle.fin.proofs.fin.Fin.turning_length.Goals as goal

pub returns-clause-bound : goal.returns-clause-bound
returns-clause-bound c =
    let a = ranges c.args.self.now.joint c.args.self.now.ok in
    let n : c.args.self.now.joint.bolts.rows + 1 ≤ 11 = omega arith in
    omega (arith, mul-le-mul n a.p1_high)
