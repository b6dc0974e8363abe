-- `web_column`: the beam web ends far enough from the bolts.
use Rattle.std.proofs.Common.{arith}
use Rattle.fin.specs.Ranges.{ranges}
use Rattle.fin.proofs.fin.Fin.web_column.Goals as goal

pub column_from-requires : goal.column_from-requires
column_from-requires c = let a = ranges c.args.self.now.joint c.args.self.now.ok in record { spaced = omega arith; near = omega arith }
