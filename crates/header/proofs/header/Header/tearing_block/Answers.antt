-- `tearing_block`: the products fit, and the edge is wider than half a hole.
use Rattle.std.proofs.Common.{◌-◌, ◌*◌, ◌≤◌, mul-le-mul, arith}
use Rattle.components.proofs.Parts.{along, times_across}
use Rattle.components.specs.Tabled.{fu, hole_of}
use Rattle.header.specs.HeaderModes.{sides_of, torn_of}
use Rattle.header.specs.Ranges.{ranges}
use Rattle.header.proofs.header.Header.tearing_block.Goals as goal

pub overflow_mul-torn : goal.overflow_mul-torn
overflow_mul-torn c = let a = ranges c.args.self.now.joint c.args.self.now.ok in omega arith

pub overflow_sub-torn : goal.overflow_sub-torn
overflow_sub-torn c = let a = ranges c.args.self.now.joint c.args.self.now.ok in omega arith

pub overflow_mul-torn_sides : goal.overflow_mul-torn_sides
overflow_mul-torn_sides c =
    let a = ranges c.args.self.now.joint c.args.self.now.ok in
    let torn : 2 * c.args.self.now.joint.layout.e2 - c.hole.result ≤ 300 = omega arith in
    omega (arith, mul-le-mul c.torn_sides.ensures.bound torn)

pub returns : goal.returns
returns c =
    let j = c.args.self.now.joint in
    cc (times_across (sides_of j) j.parts.tp (2 * j.layout.e2 - hole_of j.bolts.bolt) (fu j.steels.plate) 25, along j.parts.tp (torn_of j) j.steels.plate 10)
