-- Of every expression: 0 is at or below the exact resistance, and with a number every smaller one;
-- of every sound one: the printed figure is, and that figure plus the margin is not.
use Rattle.std.proofs.Common.{◌≡◌, ℕ, zero, suc, ◌+◌, ◌-◌, ◌*◌, ◌/◌, ◌<◌, ◌≤◌, subst, inl, inr, le_of_lt, mul-le-mul_right, mul-le-mul_left, mul-pos, div-mul-le_self, arith}
use native.Mathlib.Nat.{lt-div-mul-add}
use Rattle.resistance.specs.Exact.{sq}
use Rattle.resistance.specs.Fractions.{dropped}
use Rattle.resistance.specs.Groups.{W, group_figure}
use Rattle.resistance.specs.Roots.{R, root_up}
use Rattle.resistance.specs.Expressions.{printed, Allows, Sound, Close, Stands}
use Rattle.resistance.specs.declared.expression.Expression.{Expression}
use Rattle.resistance.specs.declared.expression.Expression.TheVariants.{Whole, Root, Sum, Group}
use Rattle.resistance.specs.declared.group.BoltGroup.{BoltGroup}
use Rattle.resistance.proofs.Squares.{sq_mono}
use Rattle.resistance.proofs.Bounds.{whole_low, whole_high, root_low, root_high, sum_low, sum_high}
use Rattle.resistance.proofs.GroupBounds.{scaled, unscaled, group_low, group_high}
use Rattle.resistance.proofs.GroupLimits.{up_low, up_high}
use Rattle.resistance.proofs.RootWords.{R_is, root_up_is}

pub zero_allowed : (e : Expression) → Allows e 0
zero_allowed (Whole x) = omega arith
zero_allowed (Root x) = omega arith
zero_allowed (Sum x y) = inl (omega arith)
zero_allowed (Group g) = omega arith

pub smaller_allowed : (e : Expression) (u v : ℕ) → u ≤ v → Allows e v → Allows e u
smaller_allowed (Whole x) u v h a = let k = mul-le-mul_right x.under h in omega arith
smaller_allowed (Root x) u v h a = let k = sq_mono (mul-le-mul_right x.under h) in omega arith
smaller_allowed (Sum x y) u v h (inl a) = inl (let k = mul-le-mul_right x.under h in omega arith)
smaller_allowed (Sum x y) u v h (inr a) =
    let i = mul-le-mul_right x.under h in
    let j : u * x.under - x.over ≤ v * x.under - x.over = omega arith in
    let k = sq_mono (mul-le-mul_right y.under j) in
    inr (omega arith)
smaller_allowed (Group g) u v h a =
    let P = g.vertical in
    let Q = g.horizontal in
    let k = mul-le-mul_right (sq g.down * sq (Q.over * P.under) + sq g.across * sq (P.over * Q.under)) (sq_mono h) in
    omega arith

-- N/D lies between its whole part and one more
next : (N D : ℕ) → 0 < D → N < (N / D + 1) * D
next N D h = omega (arith, lt-div-mul-add {a = N} {b = D} h)

-- what is not under 1 is no fraction over 0
proper : (N D : ℕ) → 1 ≤ N / D → 0 < D
proper N D h = omega arith

factor_pos : (s d : ℕ) → 0 < s * d → 0 < s
factor_pos zero d h = omega arith
factor_pos (suc s) d h = omega arith

group_close : (g : BoltGroup) → Sound (Group g) → Close (Group g) (printed (Group g))
group_close g h = by_root (root_up_is sum sum₀)
  where
    p : ℕ
    p = dropped g.vertical

    q : ℕ
    q = dropped g.horizontal

    K : ℕ
    K = g.scale * g.shear

    J : ℕ
    J = g.scale * g.down

    B : ℕ
    B = g.scale * g.across

    w : ℕ
    w = W p q g.scale g.across

    f : ℕ
    f = group_figure p q g.scale g.shear g.down g.across

    sum : ℕ
    sum = sq J + sq w

    J₀ : 0 < J
    J₀ = omega (arith, h.scale)

    scale₀ : 0 < g.scale
    scale₀ = factor_pos g.scale g.down J₀

    sum₀ : 0 < sum
    sum₀ = omega (arith, mul-pos J₀ J₀)

    P₀ : 0 < g.vertical.under
    P₀ = proper g.vertical.over g.vertical.under h.vertical

    Q₀ : 0 < g.horizontal.under
    Q₀ = proper g.horizontal.over g.horizontal.under h.horizontal

    by_root : (s : ℕ) × (root_up sum ≡ s + 1) × (sum ≤ sq (s + 1)) × (sq s < sum) → Close (Group g) f
    by_root (t, is, high, low) =
        let f≤ : f * (t + 1) ≤ K * p = subst (λ (x : ℕ). f * x ≤ K * p) is (div-mul-le_self (K * p) (root_up sum)) in
        let f> : K * p < (f + 1) * (t + 1) = subst (λ (x : ℕ). K * p < (f + 1) * x) is (next (K * p) (root_up sum) (omega arith)) in
        let Pn = g.vertical.over in
        let Pd = g.vertical.under in
        let Qn = g.horizontal.over in
        let Qd = g.horizontal.under in
        record {
          below = unscaled g.scale f g.shear g.down g.across Pn Pd Qn Qd scale₀
              (group_low K J B Pn Pd Qn Qd p q w (t + 1) f h.vertical h.horizontal
              (div-mul-le_self Pn Pd) (div-mul-le_self Qn Qd) (up_low (B * p) q h.horizontal) high f≤);
          above = λ a. group_high K J B Pn Pd Qn Qd p q w (B * p / q) t f h.vertical h.horizontal
              (mul-le-mul_left g.scale h.shear) h.scale h.ratio
              (div-mul-le_self Pn Pd) (le_of_lt (next Pn Pd P₀)) (div-mul-le_self Qn Qd) (le_of_lt (next Qn Qd Q₀)) P₀ Q₀
              (div-mul-le_self (B * p) q) (up_high (B * p) q) high low f≤ f>
              (scaled g.scale (f + 10) g.shear g.down g.across Pn Pd Qn Qd a);
        }

pub close : (e : Expression) → Sound e → Close e (printed e)
close (Whole x) h = record {
  below = whole_low x.over x.under;
  above = λ a. whole_high x.over x.under h (smaller_allowed (Whole x) (dropped x + 1) (dropped x + 10) (omega arith) a);
}
close (Root x) h =
    let k = R_is (dropped x) in
    record {
      below = root_low x.over x.under (R (dropped x)) k.0;
      above = λ a. root_high x.over x.under (R (dropped x)) h k.1 (smaller_allowed (Root x) (R (dropped x) + 2) (R (dropped x) + 10) (omega arith) a);
    }
close (Sum x y) (h, j) =
    let k = R_is (dropped y) in
    record {
      below = sum_low x.over x.under y.over y.under (R (dropped y)) k.0;
      above = λ a. sum_high x.over x.under y.over y.under (R (dropped y)) h j k.1
          (smaller_allowed (Sum x y) (dropped x + R (dropped y) + 3) (dropped x + R (dropped y) + 10) (omega arith) a);
    }
close (Group g) h = group_close g h

pub stands : (e : Expression) → Stands e
stands e = record { nought = zero_allowed e; down = smaller_allowed e; close = close e }
