-- The bolt group in eccentric shear: the printed figure is at or below the exact resistance, and the figure plus ten is not.
use Rattle.std.proofs.Common.{◌≡◌, ℕ, zero, suc, ◌+◌, ◌*◌, ◌<◌, ◌≤◌, le_of_lt, mul-le-mul_right, mul-le-mul_left, mul-pos, lt_of_not-le, arith}
use native.Mathlib.Nat.{le_of_mul-le-mul_left}
use Rattle.resistance.specs.Exact.{sq, AtOrBelowGroup}
use Rattle.resistance.proofs.Squares.{sq_mono, le_of_sq}

-- the scale stands on both sides alike
scale_core : (s v J B X Y : ℕ) → sq s * (sq v * (sq J * X + sq B * Y)) ≡ sq v * (sq (s * J) * X + sq (s * B) * Y)
scale_core s v J B X Y = omega arith

pub scaled : (s v K J B Pn Pd Qn Qd : ℕ) → AtOrBelowGroup v K J B Pn Pd Qn Qd → AtOrBelowGroup v (s * K) (s * J) (s * B) Pn Pd Qn Qd
scaled s v K J B Pn Pd Qn Qd h =
    let e = scale_core s v J B (sq (Qn * Pd)) (sq (Pn * Qd)) in
    let k = mul-le-mul_left (sq s) h in
    omega arith

pub unscaled : (s v K J B Pn Pd Qn Qd : ℕ) → 0 < s → AtOrBelowGroup v (s * K) (s * J) (s * B) Pn Pd Qn Qd → AtOrBelowGroup v K J B Pn Pd Qn Qd
unscaled s v K J B Pn Pd Qn Qd hs h =
    let e = scale_core s v J B (sq (Qn * Pd)) (sq (Pn * Qd)) in
    le_of_mul-le-mul_left {k = sq s} (omega arith) (mul-pos hs hs)

-- larger P and Q allow whatever smaller ones do, with a letter for each square
mono_core : (X Y M a b c d a' b' c' d' : ℕ) → 0 < a → 0 < c → a * b' ≤ a' * b → c * d' ≤ c' * d →
    X * (c * b) + Y * (a * d) ≤ a * c * M → X * (c' * b') + Y * (a' * d') ≤ a' * c' * M
mono_core X Y M a b c d a' b' c' d' ha hc p q h =
    let all = mul-le-mul_right (a' * c') h in
    let one = mul-le-mul_left (X * c * c') p in
    let two = mul-le-mul_left (Y * a * a') q in
    le_of_mul-le-mul_left {k = a * c} (omega arith) (mul-pos ha hc)

group_mono : (v K J B Pn Pd Qn Qd Pn' Pd' Qn' Qd' : ℕ) → 0 < Pn → 0 < Qn →
    Pn * Pd' ≤ Pn' * Pd → Qn * Qd' ≤ Qn' * Qd →
    AtOrBelowGroup v K J B Pn Pd Qn Qd → AtOrBelowGroup v K J B Pn' Pd' Qn' Qd'
group_mono v K J B Pn Pd Qn Qd Pn' Pd' Qn' Qd' hp hq p q h =
    let k = mono_core (sq v * sq J) (sq v * sq B) (sq K) (sq Pn) (sq Pd) (sq Qn) (sq Qd) (sq Pn') (sq Pd') (sq Qn') (sq Qd')
    (mul-pos hp hp) (mul-pos hq hq) (let e = sq_mono p in omega arith) (let e = sq_mono q in omega arith) (omega arith) in
    omega arith

-- at whole p and q
low_whole : (K J B p q W S f : ℕ) → B * p ≤ W * q → sq J + sq W ≤ sq S → f * S ≤ K * p → AtOrBelowGroup f K J B p 1 q 1
low_whole K J B p q W S f hW hS hf =
    let one = mul-le-mul_right (sq q) (sq_mono hf) in
    let two = mul-le-mul_left (sq (f * q)) hS in
    let three = mul-le-mul_left (sq f) (sq_mono hW) in
    omega arith

pub group_low : (K J B Pn Pd Qn Qd p q W S f : ℕ) → 0 < p → 0 < q → p * Pd ≤ Pn → q * Qd ≤ Qn →
    B * p ≤ W * q → sq J + sq W ≤ sq S → f * S ≤ K * p → AtOrBelowGroup f K J B Pn Pd Qn Qd
group_low K J B Pn Pd Qn Qd p q W S f hp hq p≤ q≤ hW hS hf =
    group_mono f K J B p 1 q 1 Pn Pd Qn Qd hp hq (omega arith) (omega arith) (low_whole K J B p q W S f hW hS hf)

-- P < p + 1 and Q < q + 1, so both are at most (p + 5)/p times p and q where p ≤ 5·q
widen : (V K J B Pn Pd Qn Qd p q : ℕ) → 0 < Pn → 0 < Qn → p ≤ 5 * q → Pn ≤ (p + 1) * Pd → Qn ≤ (q + 1) * Qd →
    AtOrBelowGroup V K J B Pn Pd Qn Qd →
    sq V * (sq J * sq q + sq B * sq p) ≤ sq ((p + 5) * q * K)
widen V K J B Pn Pd Qn Qd p q hp hq ratio p≤ q≤ h =
    let e : (q + 1) * p ≤ q * (p + 5) = omega arith in
    let b : Qn * p ≤ q * (p + 5) * Qd = (let e₁ = mul-le-mul_right p q≤ in let e₂ = mul-le-mul_right Qd e in omega arith) in
    let g = group_mono V K J B Pn Pd Qn Qd (p + 5) 1 (q * (p + 5)) p hp hq (omega arith) b h in
    le_of_mul-le-mul_left {k = sq (p + 5)} (shrink V K J B p q (p + 5) g) (omega arith)
  where
    shrink : (V K J B p q r : ℕ) → sq V * (sq J * sq (q * r * 1) + sq B * sq (r * p)) ≤ sq (r * (q * r) * K) →
        sq r * (sq V * (sq J * sq q + sq B * sq p)) ≤ sq r * sq (r * q * K)
    shrink V K J B p q r h = omega arith

-- one off both the hypotenuse and one leg leaves it below
legs : (J w s : ℕ) → sq (s + 1) < sq J + sq (w + 1) → sq s < sq J + sq w
legs J w s h = lt_of_not-le (λ k. let g : w ≤ s = le_of_sq {a = w} {b = s} (omega arith) in omega arith)

-- the figure times the hypotenuse, less two, is at most (p + 5)·K
squeeze : (V K J B p q w s : ℕ) → 0 < q → w * q ≤ B * p → sq s < sq J + sq w →
    sq V * (sq J * sq q + sq B * sq p) ≤ sq ((p + 5) * q * K) → V * s ≤ (p + 5) * K
squeeze V K J B p q w s hq hw hs h =
    let one = mul-le-mul_left (sq V) (sq_mono hw) in
    let two : sq V * (sq J + sq w) ≤ sq ((p + 5) * K) = le_of_mul-le-mul_left {k = sq q} (omega arith) (mul-pos hq hq) in
    let three = mul-le-mul_left (sq V) (le_of_lt hs) in
    le_of_sq {a = V * s} {b = (p + 5) * K} (omega arith)

-- what the hypotenuse S, no smaller than the leg J, leaves of p·K is no more than p
pub group_most : (K J S p f : ℕ) → 0 < J → K ≤ J → J ≤ S → f * S ≤ K * p → f ≤ p
group_most K J S p f hJ K≤ S≥ f≤ =
    let e = mul-le-mul_left f S≥ in
    let k = mul-le-mul_right p K≤ in
    le_of_mul-le-mul_left {k = J} (omega arith) hJ

-- W = w + 1 and S = s + 2 in whole numbers
high_whole : (K J B p q w s f : ℕ) → 0 < q → K ≤ J → p + 10 ≤ 2 * J →
    w * q ≤ B * p → sq J ≤ sq (s + 2) → sq (s + 1) < sq J + sq (w + 1) →
    f * (s + 2) ≤ K * p → K * p < (f + 1) * (s + 2) →
    sq (f + 10) * (sq J * sq q + sq B * sq p) ≤ sq ((p + 5) * q * K) → ⊥
high_whole K J B p q w s f hq K≤ small hw S≥ hs f≤ f> h =
    let k : (f + 10) * s ≤ (p + 5) * K = squeeze (f + 10) K J B p q w s hq hw (legs J w s hs) h in
    let S≥J : J ≤ s + 2 = le_of_sq {a = J} {b = s + 2} S≥ in
    let f≤p : f ≤ p = group_most K J (s + 2) p f (omega arith) K≤ S≥J f≤ in
    omega arith

-- S = t + 1 is the smallest whole number with J² + W² ≤ S², and W ≤ w + 1
pub group_high : (K J B Pn Pd Qn Qd p q W w t f : ℕ) → 0 < p → 0 < q → K ≤ J → p + 10 ≤ 2 * J → p ≤ 5 * q →
    p * Pd ≤ Pn → Pn ≤ (p + 1) * Pd → q * Qd ≤ Qn → Qn ≤ (q + 1) * Qd → 0 < Pd → 0 < Qd →
    w * q ≤ B * p → W ≤ w + 1 → sq J + sq W ≤ sq (t + 1) → sq t < sq J + sq W →
    f * (t + 1) ≤ K * p → K * p < (f + 1) * (t + 1) →
    AtOrBelowGroup (f + 10) K J B Pn Pd Qn Qd → ⊥
group_high K J B Pn Pd Qn Qd p q W w zero f hp hq K≤ small ratio p≤ p> q≤ q> hPd hQd hw W≤ S≥ S< f≤ f> h =
    let g : J ≤ 1 = le_of_sq {a = J} {b = 1} (omega arith) in
    omega arith
group_high K J B Pn Pd Qn Qd p q W w (suc s) f hp hq K≤ small ratio p≤ p> q≤ q> hPd hQd hw W≤ S≥ S< f≤ f> h =
    let m = sq_mono W≤ in
    high_whole K J B p q w s f hq K≤ small hw (omega arith) (omega arith) (omega arith) (omega arith)
    (widen (f + 10) K J B Pn Pd Qn Qd p q (omega (arith, mul-pos hp hPd)) (omega (arith, mul-pos hq hQd)) ratio p> q> h)
