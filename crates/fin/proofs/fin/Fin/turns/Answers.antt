-- `turns`: the products fit.
use Rattle.std.proofs.Common.{◌+◌, ◌*◌, ◌≤◌, mul-le-mul, arith}
use Rattle.fin.specs.Ranges.{ranges}
use Rattle.fin.proofs.fin.Fin.turns.Goals as goal

pub overflow_mul-reach-3 : goal.overflow_mul-reach-3
overflow_mul-reach-3 c =
    let a = ranges c.args.self.now.joint c.args.self.now.ok in
    let s : c.depth.result + 2 * c.args.self.now.joint.demands.he ≤ 3100 = omega arith in
    let turn = mul-le-mul s a.phi_high in
    omega arith

pub overflow_add-reach-2 : goal.overflow_add-reach-2
overflow_add-reach-2 c =
    let a = ranges c.args.self.now.joint c.args.self.now.ok in
    let s : c.depth.result + 2 * c.args.self.now.joint.demands.he ≤ 3100 = omega arith in
    let turn = mul-le-mul s a.phi_high in
    omega arith

pub overflow_mul-result : goal.overflow_mul-result
overflow_mul-result c =
    let a = ranges c.args.self.now.joint c.args.self.now.ok in
    let s : c.depth.result + 2 * c.args.self.now.joint.demands.he ≤ 3100 = omega arith in
    let turn = mul-le-mul s a.phi_high in
    let r : 2000000 * c.args.self.now.joint.parts.e2b + (c.depth.result + 2 * c.args.self.now.joint.demands.he) * c.args.self.now.joint.demands.phi ≤ 610000000 = omega arith in
    omega (arith, mul-le-mul r r)

pub overflow_mul-result-3 : goal.overflow_mul-result-3
overflow_mul-result-3 c =
    let a = ranges c.args.self.now.joint c.args.self.now.ok in
    let square = mul-le-mul a.z_high a.z_high in
    let turned = mul-le-mul a.phi_high a.phi_high in
    omega arith

pub overflow_add-result : goal.overflow_add-result
overflow_add-result c =
    let a = ranges c.args.self.now.joint c.args.self.now.ok in
    let square = mul-le-mul a.z_high a.z_high in
    let turned = mul-le-mul a.phi_high a.phi_high in
    omega arith

pub overflow_mul-result-5 : goal.overflow_mul-result-5
overflow_mul-result-5 c =
    let a = ranges c.args.self.now.joint c.args.self.now.ok in
    let square = mul-le-mul a.z_high a.z_high in
    let turned = mul-le-mul a.phi_high a.phi_high in
    let j = c.args.self.now.joint in
    let x : 4 * (j.layout.z * j.layout.z) ≤ 110224 = omega arith in
    let y : 1000000000000 + j.demands.phi * j.demands.phi ≤ 1010000000000 = omega arith in
    omega (arith, mul-le-mul x y)
