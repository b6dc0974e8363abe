-- What two bearing totals of one part come to where k is at least 1.38 and α at least 0.4 in both: neither is small, and one is at most five times the other.
use Rattle.std.proofs.Common.{ℕ, ◌+◌, ◌*◌, ◌<◌, ◌≤◌, mul-le-mul_right, mul-le-mul, lt_of_mul-lt-mul_right, mul-pos, div-mul-le_self, le_of_mul-le-mul_right, arith}
use native.Mathlib.Nat.{le_of_mul-le-mul_left, lt-div-mul-add}
use Rattle.resistance.specs.Fractions.{◌÷◌, ◌⊗◌, ◌≼◌, smaller, dropped}
use Rattle.resistance.specs.declared.ratio.Ratio.{Ratio}
use Rattle.resistance.proofs.Ratios.{Proper, smaller_proper, smaller_right, smaller_both, times_mono}
use Rattle.components.specs.Bears.{most, c, bear}

-- at most 2.5·c·n/25, with c = a/b
above : (n a b : ℕ) (P : Ratio) → 0 < P.under → P ≼ ((n ÷ 25) ⊗ most ⊗ (a ÷ b)) → 50 * (dropped P * b) ≤ 5 * (n * a)
above n a b P h p =
    let e = mul-le-mul_right (50 * b) (div-mul-le_self P.over P.under) in
    le_of_mul-le-mul_left {k = P.under} (omega arith) h

-- at least 1.38·0.4·c·n/25
below : (n a b : ℕ) (Q : Ratio) → 0 < b → 0 < Q.under → ((n ÷ 25) ⊗ (69 ÷ 50) ⊗ ((2 ÷ 5) ⊗ (a ÷ b))) ≼ Q → 138 * (n * a) < 6250 * ((dropped Q + 1) * b)
below n a b Q b₀ h q =
    let e : Q.over < (dropped Q + 1) * Q.under = omega (arith, lt-div-mul-add {a = Q.over} {b = Q.under} h) in
    let f = mul-le-mul_right b e in
    lt_of_mul-lt-mul_right Q.under (omega arith)

-- what the two bounds come to, with c between 1/2 and 1
ranges : (n a b p q : ℕ) → 0 < b → b ≤ 2 * a → a ≤ b → 518400 ≤ n → n ≤ 81000000 →
    50 * (p * b) ≤ 5 * (n * a) → 138 * (n * a) < 6250 * ((q + 1) * b) → (20 ≤ q) × (p ≤ 8100000) × (p ≤ 5 * q)
ranges n a b p q b₀ lo hi n≥ n≤ up low =
    let x = mul-le-mul n≥ lo in
    let y = mul-le-mul n≤ hi in
    let one : 138 * 259200 < 6250 * (q + 1) = lt_of_mul-lt-mul_right b (omega arith) in
    let two : 50 * p ≤ 405000000 = le_of_mul-le-mul_right {k = b} (omega arith) b₀ in
    let three : 6900 * p < 31250 * (q + 1) = lt_of_mul-lt-mul_right b (omega arith) in
    omega arith

-- the two totals, their fractions dropped
pub record Ranges (p q : ℕ) : Type 0 where
  pub some : 20 ≤ p
  pub some_across : 20 ≤ q
  pub most_down : p ≤ 8100000
  pub ratio : p ≤ 5 * q

-- the parts that the bearings of a mode have in common
pub record Parts (m fub fu d t : ℕ) : Type 0 where
  pub fu_low : 360 ≤ fu
  pub fu_high : fu ≤ 540
  pub fub_low : 400 ≤ fub
  pub rows_low : 2 ≤ m
  pub rows_high : m ≤ 10
  pub bolt_low : 12 ≤ d
  pub bolt_high : d ≤ 30
  pub thin : 30 ≤ t
  pub thick : t ≤ 250

module _ (m fub fu d t : ℕ) (r : Parts m fub fu d t) where
  n_low : 518400 ≤ 2 * m * fu * d * t
  n_low = let e = mul-le-mul (mul-le-mul (mul-le-mul r.rows_low r.fu_low) r.bolt_low) r.thin in omega arith

  n_high : 2 * m * fu * d * t ≤ 81000000
  n_high = let e = mul-le-mul (mul-le-mul (mul-le-mul r.rows_high r.fu_high) r.bolt_high) r.thick in omega arith

  c_proper : Proper (c fub fu)
  c_proper = smaller_proper (fub ÷ fu) (1 ÷ 1) (omega arith) (omega arith)

  c_high : c fub fu ≼ (1 ÷ 1)
  c_high = smaller_right (fub ÷ fu) (1 ÷ 1)

  c_low : (1 ÷ 2) ≼ c fub fu
  c_low = smaller_both (1 ÷ 2) (fub ÷ fu) (1 ÷ 1) (omega arith) (omega arith)

  module _ (x α : Ratio) (px : Proper x) (pα : Proper α) (lx : (69 ÷ 50) ≼ x) (lα : (2 ÷ 5) ≼ α) where
    pub bear_proper : Proper (bear m fub fu d t x α)
    bear_proper = mul-pos (mul-pos {m = 25} (omega arith) (smaller_proper x most px (omega arith))) (smaller_proper α (c fub fu) pα c_proper)

    bear_above : bear m fub fu d t x α ≼ (((2 * m * fu * d * t) ÷ 25) ⊗ most ⊗ c fub fu)
    bear_above = let n = (2 * m * fu * d * t) ÷ 25 in
        times_mono (n ⊗ smaller x most) (n ⊗ most) (smaller α (c fub fu)) (c fub fu)
        (times_mono n n (smaller x most) most (omega arith) (smaller_right x most)) (smaller_right α (c fub fu))

    bear_below : (((2 * m * fu * d * t) ÷ 25) ⊗ (69 ÷ 50) ⊗ ((2 ÷ 5) ⊗ c fub fu)) ≼ bear m fub fu d t x α
    bear_below =
        let n = (2 * m * fu * d * t) ÷ 25 in
        let cut : ((2 ÷ 5) ⊗ c fub fu) ≼ α = (let e = mul-le-mul lα c_high in omega arith) in
        times_mono (n ⊗ (69 ÷ 50)) (n ⊗ smaller x most) ((2 ÷ 5) ⊗ c fub fu) (smaller α (c fub fu))
        (times_mono n n (69 ÷ 50) (smaller x most) (omega arith) (smaller_both (69 ÷ 50) x most lx (omega arith)))
        (smaller_both ((2 ÷ 5) ⊗ c fub fu) α (c fub fu) cut (omega arith))

    low_bear : 138 * (2 * m * fu * d * t * (c fub fu).over) < 6250 * ((dropped (bear m fub fu d t x α) + 1) * (c fub fu).under)
    low_bear = below (2 * m * fu * d * t) (c fub fu).over (c fub fu).under (bear m fub fu d t x α) c_proper bear_proper bear_below

    high_bear : 50 * (dropped (bear m fub fu d t x α) * (c fub fu).under) ≤ 5 * (2 * m * fu * d * t * (c fub fu).over)
    high_bear = above (2 * m * fu * d * t) (c fub fu).over (c fub fu).under (bear m fub fu d t x α) bear_proper bear_above

  -- with x and α for the load down, y and β for the load across
  pub group_ranges : (x α y β : Ratio) → Proper x → Proper α → Proper y → Proper β →
      (69 ÷ 50) ≼ x → (2 ÷ 5) ≼ α → (69 ÷ 50) ≼ y → (2 ÷ 5) ≼ β → Ranges (dropped (bear m fub fu d t x α)) (dropped (bear m fub fu d t y β))
  group_ranges x α y β px pα py pβ lx lα ly lβ =
      let lo = c_low in
      let hi = c_high in
      let n = 2 * m * fu * d * t in
      let P = bear m fub fu d t x α in
      let Q = bear m fub fu d t y β in
      let pp = ranges n (c fub fu).over (c fub fu).under (dropped P) (dropped P) c_proper (omega arith) (omega arith) n_low n_high
      (high_bear x α px pα lx lα) (low_bear x α px pα lx lα) in
      let pq = ranges n (c fub fu).over (c fub fu).under (dropped P) (dropped Q) c_proper (omega arith) (omega arith) n_low n_high
      (high_bear x α px pα lx lα) (low_bear y β py pβ ly lβ) in
      record { some = pp.0; some_across = pq.0; most_down = pp.1; ratio = pq.2 }
