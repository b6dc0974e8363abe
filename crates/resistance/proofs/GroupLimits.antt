-- The whole number above a quotient, and the limits of a bolt group.
use Rattle.std.proofs.Common.{◌≡◌, ℕ, ◌+◌, ◌*◌, ◌/◌, ◌%◌, ◌<◌, ◌≤◌, true, leb, sym, inl, inr, mul-le-mul_right, mod-lt, mul-le-mul, lt_of_mul-lt-mul_right, mul-le-mul_left, div-add-mod', le_of_mul-le-mul_right, arith}
use Rattle.std.proofs.lemmas.Bool.{cases_lt, and_parts, and_from, leb-true, le-leb}
use Rattle.resistance.specs.Roots.{Smallest}
use Rattle.resistance.specs.Groups.{up, SmallestOver, within}
use Rattle.resistance.proofs.Squares.{le_of_sq}

pub up_low : (n d : ℕ) → 0 < d → n ≤ up n d * d
up_low n d h =
    let e = div-add-mod' n d in
    let m = mod-lt n h in
    elim (cases_lt 0 (n % d)) [
      | inl k ↦ let g = mul-le-mul_right d (le_of_one n d k) in omega arith
      | inr k ↦ let g = mul-le-mul_right d (le_of_any n d) in omega arith
    ]
  where
    le_of_one : (n d : ℕ) → 0 < n % d → n / d + 1 ≤ up n d
    le_of_one n d k = omega arith

    le_of_any : (n d : ℕ) → n / d ≤ up n d
    le_of_any n d = omega arith

pub up_high : (n d : ℕ) → up n d ≤ n / d + 1
up_high n d = omega arith

-- no smaller number does
pub up_least : (n d x : ℕ) → 0 < d → n ≤ x * d → up n d ≤ x
up_least n d x h k =
    let e = div-add-mod' n d in
    let m = mod-lt n h in
    elim (cases_lt 0 (n % d)) [
      | inl j ↦ let g : n / d < x = lt_of_mul-lt-mul_right d (omega arith) in omega arith
      | inr j ↦ let g : n / d ≤ x = le_of_mul-le-mul_right (omega arith) h in omega arith
    ]

-- what the words say, at any number that equals it
pub up_smallest : (n d s : ℕ) → 0 < d → s ≡ up n d → SmallestOver n d s
up_smallest n d s h is x = (
  (λ k. omega (arith, up_least n d x h k)),
  (λ k. let a = up_low n d h in let l : up n d ≤ x = omega (arith, is) in let b = mul-le-mul_right d l in omega arith),
)

-- the limits as plain facts
pub record Limits (p q scale K J B : ℕ) : Type 0 where
  pub vertical : 1 ≤ p
  pub most : p ≤ 100000000
  pub horizontal : 1 ≤ q
  pub ratio : p ≤ 5 * q
  pub shear : K ≤ J
  pub down : J ≤ 1000000
  pub across : B ≤ 1000000
  pub scale_most : scale ≤ 1000000
  pub fine : p + 10 ≤ 2 * (scale * J)

pub limits : (p q scale K J B : ℕ) → true ≡ within p q scale K J B → Limits p q scale K J B
limits p q scale K J B h =
    let p1 = and_parts (leb 1 p) _ (sym h) in
    let p2 = and_parts (leb p 100000000) _ p1.1 in
    let p3 = and_parts (leb 1 q) _ p2.1 in
    let p4 = and_parts (leb p (5 * q)) _ p3.1 in
    let p5 = and_parts (leb K J) _ p4.1 in
    let p6 = and_parts (leb J 1000000) _ p5.1 in
    let p7 = and_parts (leb B 1000000) _ p6.1 in
    let p8 = and_parts (leb scale 1000000) (leb (p + 10) (2 * (scale * J))) p7.1 in
    record {
      vertical = leb-true _ _ p1.0;
      most = leb-true _ _ p2.0;
      horizontal = leb-true _ _ p3.0;
      ratio = leb-true _ _ p4.0;
      shear = leb-true _ _ p5.0;
      down = leb-true _ _ p6.0;
      across = leb-true _ _ p7.0;
      scale_most = leb-true _ _ p8.0;
      fine = leb-true _ _ p8.1;
    }

pub within_limits : (p q scale K J B : ℕ) → Limits p q scale K J B → within p q scale K J B ≡ true
within_limits p q scale K J B l =
    and_from _ _ (le-leb _ _ l.vertical) (and_from _ _ (le-leb _ _ l.most) (and_from _ _ (le-leb _ _ l.horizontal)
    (and_from _ _ (le-leb _ _ l.ratio) (and_from _ _ (le-leb _ _ l.shear) (and_from _ _ (le-leb _ _ l.down)
    (and_from _ _ (le-leb _ _ l.across) (and_from _ _ (le-leb _ _ l.scale_most) (le-leb _ _ l.fine))))))))

-- within the limits W is at most 5·scale·B, and so both legs of the root are small enough for 128 bits
pub w_most : (p q scale K J B w : ℕ) → Limits p q scale K J B → SmallestOver (scale * B * p) q w → w ≤ 5000000000000
w_most p q scale K J B w l least =
    let a = mul-le-mul l.scale_most l.across in
    let b = mul-le-mul_left (scale * B) l.ratio in
    let c : scale * B * p ≤ 5 * (scale * B) * q = omega arith in
    omega (arith, (least (5 * (scale * B))).0 c)

pub leg_most : (p q scale K J B : ℕ) → Limits p q scale K J B → scale * J ≤ 1000000000000
leg_most p q scale K J B l = omega (arith, mul-le-mul l.scale_most l.down)

-- the root is no smaller than the leg
pub root_least : (a w s : ℕ) → Smallest (a * a + w * w) s → a ≤ s
root_least a w s least = le_of_sq {a = a} {b = s} (let e = (least s).1 (omega arith) in omega arith)
