-- The printed figure is at or below the exact resistance, and a few newtons more are not: by the shape of the expression.
use Rattle.std.proofs.Common.{ℕ, ◌+◌, ◌-◌, ◌*◌, ◌/◌, ◌<◌, ◌≤◌, inl, inr, le_of_lt, mul-le-mul_right, mul-lt-mul_of_pos_right, mul-pos, lt_of_not-le, div-mul-le_self, arith}
use native.Mathlib.Nat.{lt-div-mul-add}
use Rattle.resistance.specs.Exact.{sq, AtOrBelow, AtOrBelowRoot, AtOrBelowSum}
use Rattle.resistance.proofs.Squares.{sq_mono, sq_mono_lt, lt_of_sq}

-- A: [N/D]
pub whole_low : (N D : ℕ) → AtOrBelow (N / D) N D
whole_low N D = div-mul-le_self N D

pub whole_high : (N D : ℕ) → 0 < D → AtOrBelow (N / D + 1) N D → ⊥
whole_high N D h k = omega (arith, lt-div-mul-add {a = N} {b = D} h)

-- B: r = R(q), q = [N/D]
pub root_low : (N D r : ℕ) → 3 * sq r ≤ sq (N / D) → AtOrBelowRoot r N D
root_low N D r h =
    let a = mul-le-mul_right (sq D) h in
    let b = sq_mono (div-mul-le_self N D) in
    omega arith

-- q + 1 ≤ √3·(r + 2)
next_root : (q r : ℕ) → sq q < 3 * sq (r + 1) → sq (q + 1) ≤ 3 * sq (r + 2)
next_root q r h =
    let a : q < 2 * (r + 1) = lt_of_sq {a = q} {b = 2 * (r + 1)} (omega arith) in
    omega arith

pub root_high : (N D r : ℕ) → 0 < D → sq (N / D) < 3 * sq (r + 1) → AtOrBelowRoot (r + 2) N D → ⊥
root_high N D r p h k =
    let a = mul-le-mul_right (sq D) (next_root (N / D) r h) in
    let b = sq_mono_lt (lt-div-mul-add {a = N} {b = D} p) in
    omega arith

-- C: c + r, c = [N₁/D₁], r = R([N₂/D₂])
pub sum_low : (N₁ D₁ N₂ D₂ r : ℕ) → 3 * sq r ≤ sq (N₂ / D₂) → AtOrBelowSum (N₁ / D₁ + r) N₁ D₁ N₂ D₂
sum_low N₁ D₁ N₂ D₂ r h =
    let over : (N₁ / D₁ + r) * D₁ - N₁ ≤ r * D₁ = omega (arith, div-mul-le_self N₁ D₁) in
    let root : 3 * sq (r * D₂) ≤ sq N₂ = root_low N₂ D₂ r h in
    let a = sq_mono (mul-le-mul_right D₂ over) in
    let b = mul-le-mul_right (sq D₁) root in
    inr (omega arith)

pub sum_high : (N₁ D₁ N₂ D₂ r : ℕ) → 0 < D₁ → 0 < D₂ → sq (N₂ / D₂) < 3 * sq (r + 1) →
    AtOrBelowSum (N₁ / D₁ + r + 3) N₁ D₁ N₂ D₂ → ⊥
sum_high N₁ D₁ N₂ D₂ r p₁ p₂ h k =
    let over : (r + 2) * D₁ < (N₁ / D₁ + r + 3) * D₁ - N₁ = omega (arith, lt-div-mul-add {a = N₁} {b = D₁} p₁) in
    elim k [
      | inl j ↦ omega arith
      | inr j ↦
          let a = sq_mono (mul-le-mul_right D₂ (le_of_lt over)) in
          let root : sq N₂ < 3 * sq ((r + 2) * D₂) = lt_of_not-le (root_high N₂ D₂ r p₂ h) in
          let b = mul-lt-mul_of_pos_right root (mul-pos p₁ p₁) in
          omega arith
    ]
