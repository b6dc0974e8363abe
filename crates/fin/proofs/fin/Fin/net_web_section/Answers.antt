-- `net_web_section`: the holes leave something of the shear area, and the products fit.
use Rattle.std.proofs.Common.{◌-◌, ◌*◌, ◌≤◌, ap, mul-le-mul, arith}
use Rattle.fin.specs.Ranges.{ranges}
use Rattle.fin.proofs.fin.Fin.net_web_section.Goals as goal

pub overflow_mul-holes-2 : goal.overflow_mul-holes-2
overflow_mul-holes-2 c =
    let a = ranges c.args.self.now.joint c.args.self.now.ok in
    omega (arith, mul-le-mul (mul-le-mul a.rows_high c.hole.ensures.bound) a.tw_high)

pub overflow_sub-result : goal.overflow_sub-result
overflow_sub-result c =
    let a = ranges c.args.self.now.joint c.args.self.now.ok in
    let e = ap (λ n. c.args.self.now.joint.bolts.rows * n * c.args.self.now.joint.parts.tw) c.hole.ensures.value in
    omega arith

pub overflow_mul-result-3 : goal.overflow_mul-result-3
overflow_mul-result-3 c =
    let a = ranges c.args.self.now.joint c.args.self.now.ok in
    let left : 10 * c.args.self.now.joint.parts.av - c.args.self.now.joint.bolts.rows * c.hole.result * c.args.self.now.joint.parts.tw ≤ 1000000 = omega arith in
    omega (arith, mul-le-mul left c.ultimate_strength-fu.ensures.bound)
