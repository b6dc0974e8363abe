-- `ultimate`: 5/4 of a total still fits.
use Rattle.std.proofs.Common.{◌≤◌, sym, subst, arith}
use Rattle.resistance.specs.declared.ratio.Ratio.{Ratio}
use Rattle.components.proofs.BearParts.{total_some, bear_most}
use Rattle.components.proofs.bearing.Bearing.ultimate.Goals as goal

pub times-requires : goal.times-requires
times-requires c =
    let b = c.args.self.now in
    let s = total_some b c.args.factors.k c.args.factors.alpha c.in_ok-total.total (sym c.in_ok-total.ensures) in
    let m = bear_most b c.args.factors.k c.args.factors.alpha s.0 in
    let over : c.in_ok-total.total.over ≤ 25920000000000000 = subst (λ (r : Ratio). r.over ≤ 25920000000000000) (sym s.1) m.0 in
    let under : c.in_ok-total.total.under ≤ 2500000000 = subst (λ (r : Ratio). r.under ≤ 2500000000) (sym s.1) m.1 in
    record { over = omega arith; under = omega arith }
