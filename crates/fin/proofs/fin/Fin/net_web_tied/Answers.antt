-- `net_web_tied`: the holes leave something of the depth.
use Rattle.std.proofs.Common.{◌*◌, ap, mul-le-mul, arith}
use Rattle.fin.specs.Ranges.{ranges}
use Rattle.fin.proofs.fin.Fin.net_web_tied.Goals as goal

pub overflow_mul-net : goal.overflow_mul-net
overflow_mul-net c = let a = ranges c.args.self.now.joint c.args.self.now.ok in omega (arith, mul-le-mul a.rows_high c.hole.ensures.bound)

pub overflow_sub-net : goal.overflow_sub-net
overflow_sub-net c =
    let a = ranges c.args.self.now.joint c.args.self.now.ok in
    let e = ap (λ n. c.args.self.now.joint.bolts.rows * n) c.hole.ensures.value in
    omega arith

pub overflow_mul-net-2 : goal.overflow_mul-net-2
overflow_mul-net-2 c = let a = ranges c.args.self.now.joint c.args.self.now.ok in omega arith
