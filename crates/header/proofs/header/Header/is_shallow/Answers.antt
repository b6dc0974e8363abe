-- `is_shallow`: the product fits.
use Rattle.std.proofs.Common.{arith}
use Rattle.header.specs.Ranges.{ranges}
use Rattle.header.proofs.header.Header.is_shallow.Goals as goal

pub overflow_mul-result-2 : goal.overflow_mul-result-2
overflow_mul-result-2 c = let a = ranges c.args.self.now.joint c.args.self.now.ok in omega arith
