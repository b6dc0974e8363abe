-- `tearing_web_block`: the beam web is wide enough past the bolts.
use Rattle.std.proofs.Common.{arith}
use Rattle.fin.specs.Ranges.{ranges}
use Rattle.fin.proofs.fin.Fin.tearing_web_block.Goals as goal

pub torn_block-requires : goal.torn_block-requires
torn_block-requires c = let a = ranges c.args.self.now.joint c.args.self.now.ok in record { spaced = omega arith; near = omega arith }
