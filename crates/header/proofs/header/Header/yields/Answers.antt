-- `yields`: the products fit.
use Rattle.std.proofs.Common.{mul-le-mul, arith}
use Rattle.header.specs.Ranges.{ranges}
use Rattle.header.proofs.header.Header.yields.Goals as goal

pub overflow_mul-result-5 : goal.overflow_mul-result-5
overflow_mul-result-5 c = let a = ranges c.args.self.now.joint c.args.self.now.ok in omega (arith, mul-le-mul a.bolt.high a.bolt.high)

pub overflow_mul-result-6 : goal.overflow_mul-result-6
overflow_mul-result-6 c = let a = ranges c.args.self.now.joint c.args.self.now.ok in omega (arith, mul-le-mul (mul-le-mul a.bolt.high a.bolt.high) c.bolt_strength.ensures.bound)
