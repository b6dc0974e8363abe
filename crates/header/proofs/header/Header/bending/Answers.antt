-- `bending`: the products fit, and the gauge is wider than the beam web is thick.
use Rattle.std.proofs.Common.{◌-◌, ◌*◌, arith}
use Rattle.components.proofs.Parts.{bent}
use Rattle.header.specs.HeaderModes.{depth_of}
use Rattle.header.specs.Ranges.{ranges}
use Rattle.header.proofs.header.Header.bending.Goals as goal

pub overflow_mul-gap : goal.overflow_mul-gap
overflow_mul-gap c = let a = ranges c.args.self.now.joint c.args.self.now.ok in omega arith

pub overflow_sub-gap : goal.overflow_sub-gap
overflow_sub-gap c = let a = ranges c.args.self.now.joint c.args.self.now.ok in omega arith

pub returns : goal.returns
returns c = let j = c.args.self.now.joint in cc (bent j.parts.tp (depth_of j) j.steels.plate (3 * (10 * j.layout.p2 - j.parts.tw)))
