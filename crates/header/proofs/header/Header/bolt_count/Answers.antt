-- `bolt_count`: at most ten rows of two.
use Rattle.std.proofs.Common.{arith}
use Rattle.header.specs.Ranges.{ranges}
use Rattle.header.proofs.header.Header.bolt_count.Goals as goal

pub overflow_mul-result : goal.overflow_mul-result
overflow_mul-result c = let a = ranges c.args.self.now.joint c.args.self.now.ok in omega arith

pub returns-clause-bound : goal.returns-clause-bound
returns-clause-bound c = let a = ranges c.args.self.now.joint c.args.self.now.ok in omega arith
