-- `is_full_strength`: the products fit, and the squares are those of the rule.
use Rattle.std.proofs.Common.{ℕ, ◌*◌, ◌≤◌, ltb, sym, ◌∙◌, subst, ap₂, mul-le-mul, arith}
use Rattle.components.proofs.Listed.{weld_most}
use Rattle.components.proofs.Plates.{weld_squares}
use Rattle.components.proofs.weld.is_full_strength.Goals as goal

pub overflow_mul-result-2 : goal.overflow_mul-result-2
overflow_mul-result-2 c =
    let f : c.weld_correlation.result * c.args.steel ≤ 46000 = subst (λ (n : ℕ). n * c.args.steel ≤ 46000) (sym c.weld_correlation.ensures.value) (weld_most c.args.steel) in
    let t : c.args.thickness ≤ 4294967295 = omega arith in
    let m = mul-le-mul t f in
    omega (arith, mul-le-mul m m)

pub overflow_mul-result-3 : goal.overflow_mul-result-3
overflow_mul-result-3 c =
    let a : c.args.throat ≤ 4294967295 = omega arith in
    let m = mul-le-mul a c.ultimate_strength.ensures.bound in
    omega (arith, mul-le-mul m m)

pub returns : goal.returns
returns c =
    weld_squares c.args.thickness c.weld_correlation.result c.args.steel c.args.throat c.ultimate_strength.result
    ∙ ap₂ (λ (b fu : ℕ). ltb (3 * c.args.thickness * c.args.thickness * b * b * c.args.steel * c.args.steel) (40000 * c.args.throat * c.args.throat * fu * fu))
    c.weld_correlation.ensures.value c.ultimate_strength.ensures.value
