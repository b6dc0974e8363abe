-- `figure` of a bolt group: every product fits 128 bits, the root is not 0, and the figure fits 64.
use Rattle.std.proofs.Common.{◌*◌, ◌/◌, mul-le-mul, mul-le-mul_left, div-mul-le_self, arith, rules}
use Rattle.resistance.proofs.GroupBounds.{group_most}
use Rattle.resistance.proofs.GroupLimits.{limits, w_most, leg_most, root_least}
use Rattle.resistance.proofs.Held.{group_given}
use Rattle.resistance.proofs.group.BoltGroup.figure.Goals as goal

pub overflow_mul-w : goal.overflow_mul-w
overflow_mul-w c =
    let g = c.args.self in
    let p = c.floor-p.result in
    let q = c.floor-q.result in
    let l = limits p q g.scale g.shear g.down g.across c.if-not-is_within.ensures in
    let w = w_most p q g.scale g.shear g.down g.across c.quotient_up-w.result l c.quotient_up-w.ensures.smallest in
    omega (arith, mul-le-mul w w)

pub overflow_add-a : goal.overflow_add-a
overflow_add-a c =
    let g = c.args.self in
    let p = c.floor-p.result in
    let q = c.floor-q.result in
    let l = limits p q g.scale g.shear g.down g.across c.if-not-is_within.ensures in
    let w = w_most p q g.scale g.shear g.down g.across c.quotient_up-w.result l c.quotient_up-w.ensures.smallest in
    let a = leg_most p q g.scale g.shear g.down g.across l in
    omega (arith, mul-le-mul w w, mul-le-mul a a)

pub overflow_cast-result-3 : goal.overflow_cast-result-3
overflow_cast-result-3 c =
    let g = c.args.self in
    let p = c.floor-p.result in
    let l = limits p c.floor-q.result g.scale g.shear g.down g.across c.if-not-is_within.ensures in
    let s = root_least (g.scale * g.down) c.quotient_up-w.result c.root_up-s.result c.root_up-s.ensures.smallest in
    let f = group_most (g.scale * g.shear) (g.scale * g.down) c.root_up-s.result p (g.scale * g.shear * p / c.root_up-s.result)
    (omega arith) (mul-le-mul_left g.scale l.shear) s (div-mul-le_self (g.scale * g.shear * p) c.root_up-s.result) in
    omega arith

pub returns : goal.returns
returns c = record { value = search rules; close = group_given c.args.self _ (search rules) }
