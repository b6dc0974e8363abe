-- Plain numbers: the depth of a plate, what its holes leave, and that they leave something; the two sides of the weld rule.
use Rattle.components.specs.Columns.{torn_by}
use Rattle.std.proofs.Common.{◌≡◌, ℕ, ◌+◌, ◌-◌, ◌*◌, ◌≤◌, ltb, ap₂, mul-le-mul, mul-le-mul_left, mul-le-mul_right, arith}

module _ (rows d e p : ℕ) (lo : 2 ≤ rows) (end : 12 * d ≤ 10 * e) (pitch : 22 * d ≤ 10 * p) where
  -- the holes of a column fit the plate's depth
  pub holes_fit : rows * d ≤ 2 * e + (rows - 1) * p
  holes_fit =
      let g = mul-le-mul_left (rows - 1) pitch in
      let is : rows ≤ (rows - 1) + 1 = omega arith in
      omega (arith, mul-le-mul_right d is)

  -- and those of a torn block its two sides
  pub torn_fit : (2 * rows - 1) * d + 2 * e ≤ 2 * (2 * e + (rows - 1) * p)
  torn_fit =
      let g = mul-le-mul_left (rows - 1) pitch in
      let is : 2 * rows - 1 ≤ 2 * (rows - 1) + 1 = omega arith in
      omega (arith, mul-le-mul_right d is)

-- a plate is at most so deep
pub depth_most : (rows e p : ℕ) → rows ≤ 10 → e ≤ 150 → p ≤ 200 → 2 * e + (rows - 1) * p ≤ 2100
depth_most rows e p r h k =
    let n : rows - 1 ≤ 9 = omega arith in
    let m = mul-le-mul n k in
    omega arith

-- so that a torn block is sheared on no more than twice that
pub block_torn : (rows d e p : ℕ) → rows ≤ 10 → e ≤ 150 → p ≤ 200 → torn_by rows d e p ≤ 4200
block_torn rows d e p r h k = let m = depth_most rows e p r h k in omega arith

-- the two sides of the weld's rule are squares
pub weld_squares : (t b fy a fu : ℕ) → ltb (3 * (t * (b * fy)) * (t * (b * fy))) (200 * a * fu * (200 * a * fu)) ≡ ltb (3 * t * t * b * b * fy * fy) (40000 * a * a * fu * fu)
weld_squares t b fy a fu = ap₂ ltb (omega arith) (omega arith)
