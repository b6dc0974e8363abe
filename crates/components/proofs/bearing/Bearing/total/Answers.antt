-- `total`: every product fits, and the answer is the bearing total.
use Rattle.std.proofs.Common.{◌≤◌, sym, ap, ◌∙◌, subst, mul-le-mul, arith}
use Rattle.resistance.specs.Fractions.{smaller}
use Rattle.resistance.specs.declared.ratio.Ratio.{Ratio}
use Rattle.components.proofs.BearParts.{limits, whole_part, k_over, k_under, α_over, α_under}
use Rattle.components.proofs.bearing.Bearing.total.Goals as goal

pub overflow_mul-all-4 : goal.overflow_mul-all-4
overflow_mul-all-4 c =
    let l = limits c.args.self.now c.args.factors.k c.args.factors.alpha (sym c.if-not-is_workable.ensures) in
    let n = whole_part c.args.self.now.bolts c.ultimate_strength-fu.result c.args.self.now.bolt c.args.self.now.thickness l.bolts c.ultimate_strength-fu.ensures.bound l.bolt l.thickness in
    omega arith

pub times-requires : goal.times-requires
times-requires c =
    let l = limits c.args.self.now c.args.factors.k c.args.factors.alpha (sym c.if-not-is_workable.ensures) in
    let n = whole_part c.args.self.now.bolts c.ultimate_strength-fu.result c.args.self.now.bolt c.args.self.now.thickness l.bolts c.ultimate_strength-fu.ensures.bound l.bolt l.thickness in
    let over : c.lesser-k.result.over ≤ 10000 = subst (λ (r : Ratio). r.over ≤ 10000) (sym c.lesser-k.ensures) (k_over c.args.factors.k l.x_over) in
    let under : c.lesser-k.result.under ≤ 10000 = subst (λ (r : Ratio). r.under ≤ 10000) (sym c.lesser-k.ensures) (k_under c.args.factors.k l.x_under) in
    record { over = omega (arith, mul-le-mul n over); under = omega arith }

pub times-requires-2 : goal.times-requires-2
times-requires-2 c =
    let l = limits c.args.self.now c.args.factors.k c.args.factors.alpha (sym c.if-not-is_workable.ensures) in
    let n = whole_part c.args.self.now.bolts c.ultimate_strength-fu.result c.args.self.now.bolt c.args.self.now.thickness l.bolts c.ultimate_strength-fu.ensures.bound l.bolt l.thickness in
    let over : c.lesser-k.result.over ≤ 10000 = subst (λ (r : Ratio). r.over ≤ 10000) (sym c.lesser-k.ensures) (k_over c.args.factors.k l.x_over) in
    let under : c.lesser-k.result.under ≤ 10000 = subst (λ (r : Ratio). r.under ≤ 10000) (sym c.lesser-k.ensures) (k_under c.args.factors.k l.x_under) in
    let a = c.args.factors.alpha in
    let is = c.lesser.ensures ∙ ap (smaller a) c.lesser-cap.ensures in
    let a-over : c.lesser.result.over ≤ 10000 =
    subst (λ (r : Ratio). r.over ≤ 10000) (sym is) (α_over a c.bolt_strength-fub.result c.ultimate_strength-fu.result c.bolt_strength-fub.ensures.bound c.ultimate_strength-fu.ensures.bound l.α_over) in
    let a-under : c.lesser.result.under ≤ 10000 =
    subst (λ (r : Ratio). r.under ≤ 10000) (sym is) (α_under a c.bolt_strength-fub.result c.ultimate_strength-fu.result c.bolt_strength-fub.ensures.bound c.ultimate_strength-fu.ensures.bound l.α_under) in
    let t-over = ap (λ (r : Ratio). r.over) c.times.ensures in
    let t-under = ap (λ (r : Ratio). r.under) c.times.ensures in
    let most = mul-le-mul n over in
    let first : c.times.result.over ≤ 2592000000000 = omega arith in
    let second : c.times.result.under ≤ 250000 = omega arith in
    record { over = omega (arith, mul-le-mul first a-over); under = omega (arith, mul-le-mul second a-under) }
