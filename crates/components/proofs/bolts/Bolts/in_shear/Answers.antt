-- `in_shear`: the products fit.
use Rattle.std.proofs.Common.{mul-le-mul, arith}
use Rattle.components.proofs.bolts.Bolts.in_shear.Goals as goal

pub overflow_mul-result-3 : goal.overflow_mul-result-3
overflow_mul-result-3 c =
    let m = mul-le-mul c.ranges.factor.fits c.ranges.count.fits in
    omega (arith, mul-le-mul (mul-le-mul m c.shear_factor-s.ensures.bound) c.bolt_strength-fub.ensures.bound)

pub overflow_mul-result-4 : goal.overflow_mul-result-4
overflow_mul-result-4 c =
    let m = mul-le-mul c.ranges.factor.fits c.ranges.count.fits in
    omega (arith, mul-le-mul (mul-le-mul (mul-le-mul m c.shear_factor-s.ensures.bound) c.bolt_strength-fub.ensures.bound) c.shear_area-area.ensures.bound)
