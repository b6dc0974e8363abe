-- `web`: the web of an admitted joint is no thicker and no stronger than a part may be.
use Rattle.std.proofs.Common.{arith}
use Rattle.header.specs.Ranges.{ranges}
use Rattle.header.proofs.header.Header.web.Goals as goal

pub invariant_of-result : goal.invariant_of-result
invariant_of-result c = let a = ranges c.args.self.now.joint c.args.self.now.ok in record { thickest = omega arith; strongest = omega arith }
