-- The parts of a bearing total stay within 64 bits.
use Rattle.std.proofs.Common.{◌≡◌, ℕ, ◌*◌, ◌<◌, ◌≤◌, Bool, true, false, cond, leb, Some, None, refl, ap, ◌∙◌, ap₂, mul-le-mul, mul-pos, arith}
use Rattle.std.proofs.lemmas.Bool.{and_parts, and_from, leb-true, le-leb, cond-true}
use Rattle.resistance.specs.Fractions.{◌÷◌, ◌⊗◌, smaller}
use Rattle.resistance.specs.declared.ratio.Ratio.{Ratio}
use Rattle.resistance.proofs.Ratios.{Proper, smaller_proper, smaller_over, smaller_under}
use Rattle.components.specs.Bears.{k, k', u, w, workable, most, c, bear_of, total_of, ultimate, ultimate_of}
use Rattle.components.specs.Tabled.{fu, fub}
use Rattle.components.specs.declared.bearing.Bearing.{Bearing}
use Rattle.components.proofs.Listed.{fu_most, fub_most}

-- what workable says, as plain facts
pub record Limits (b : Bearing) (x α : Ratio) : Type 0 where
  pub bolts : b.bolts ≤ 20
  pub bolt : b.bolt ≤ 30
  pub thickness : b.thickness ≤ 400
  pub x_over : x.over ≤ 10000
  pub x_under : x.under ≤ 10000
  pub α_over : α.over ≤ 10000
  pub α_under : α.under ≤ 10000

pub limits : (b : Bearing) (x α : Ratio) → workable b x α ≡ true → Limits b x α
limits b x α h =
    let p1 = and_parts (leb b.bolts 20) _ h in
    let p2 = and_parts (leb b.bolt 30) _ p1.1 in
    let p3 = and_parts (leb b.thickness 400) _ p2.1 in
    let p4 = and_parts (leb x.over 10000) _ p3.1 in
    let p5 = and_parts (leb x.under 10000) _ p4.1 in
    let p6 = and_parts (leb α.over 10000) (leb α.under 10000) p5.1 in
    record {
      bolts = leb-true _ _ p1.0;
      bolt = leb-true _ _ p2.0;
      thickness = leb-true _ _ p3.0;
      x_over = leb-true _ _ p4.0;
      x_under = leb-true _ _ p5.0;
      α_over = leb-true _ _ p6.0;
      α_under = leb-true _ _ p6.1;
    }

-- the product before the factors
pub whole_part : (m fu d t : ℕ) → m ≤ 20 → fu ≤ 540 → d ≤ 30 → t ≤ 400 → 2 * m * fu * d * t ≤ 259200000
whole_part m fu d t hm hf hd ht = let e = mul-le-mul (mul-le-mul (mul-le-mul hm hf) hd) ht in omega arith

-- the capped factors
pub k_over : (x : Ratio) → x.over ≤ 10000 → (smaller x most).over ≤ 10000
k_over x h = smaller_over x most 10000 h (omega arith)

pub k_under : (x : Ratio) → x.under ≤ 10000 → (smaller x most).under ≤ 10000
k_under x h = smaller_under x most 10000 h (omega arith)

pub α_over : (α : Ratio) (fub fu : ℕ) → fub ≤ 1000 → fu ≤ 540 → α.over ≤ 10000 → (smaller α (c fub fu)).over ≤ 10000
α_over α fub fu h₁ h₂ h = smaller_over α (c fub fu) 10000 h (smaller_over (fub ÷ fu) (1 ÷ 1) 10000 (omega arith) (omega arith))

pub α_under : (α : Ratio) (fub fu : ℕ) → fub ≤ 1000 → fu ≤ 540 → α.under ≤ 10000 → (smaller α (c fub fu)).under ≤ 10000
α_under α fub fu h₁ h₂ h = smaller_under α (c fub fu) 10000 h (smaller_under (fub ÷ fu) (1 ÷ 1) 10000 (omega arith) (omega arith))

-- the total from its parts, one after the other
pub total_is : (b : Bearing) (x α cap kk aa t r : Ratio) (f fb : ℕ) → f ≡ fu b.steel → fb ≡ fub b.grade → cap ≡ smaller (fb ÷ f) (1 ÷ 1) →
    kk ≡ smaller x most → t ≡ ((2 * b.bolts * f * b.bolt * b.thickness) ÷ 25) ⊗ kk → aa ≡ smaller α cap → r ≡ t ⊗ aa → r ≡ bear_of b x α
total_is b x α cap kk aa t r f fb f-is fb-is cap-is kk-is t-is aa-is r-is =
    let n : ℕ → Ratio = λ f. (2 * b.bolts * f * b.bolt * b.thickness) ÷ 25 in
    let cap' : cap ≡ c (fub b.grade) (fu b.steel) = cap-is ∙ ap₂ (λ (p q : ℕ). c p q) fb-is f-is in
    let t' : t ≡ n (fu b.steel) ⊗ smaller x most = t-is ∙ ap₂ (λ (p : ℕ) (q : Ratio). n p ⊗ q) f-is kk-is in
    let aa' : aa ≡ smaller α (c (fub b.grade) (fu b.steel)) = aa-is ∙ ap (smaller α) cap' in
    r-is ∙ ap₂ (λ (p q : Ratio). p ⊗ q) t' aa'

-- numbers within the limits are workable
pub workable_within : (b : Bearing) (x α : Ratio) → Limits b x α → workable b x α ≡ true
workable_within b x α l =
    and_from _ _ (le-leb _ _ l.bolts) (and_from _ _ (le-leb _ _ l.bolt) (and_from _ _ (le-leb _ _ l.thickness)
    (and_from _ _ (le-leb _ _ l.x_over) (and_from _ _ (le-leb _ _ l.x_under) (and_from _ _ (le-leb _ _ l.α_over) (le-leb _ _ l.α_under))))))

-- and their total is the bearing total
pub total_known : (b : Bearing) (x α : Ratio) {b' : Bearing} {x' α' : Ratio} → b' ≡ b → x' ≡ x → α' ≡ α → Limits b x α → total_of b' x' α' ≡ Some (bear_of b x α)
total_known b x α {b'} {x'} {α'} eb ex eα l =
    ap (λ (y : Bearing). total_of y x' α') eb ∙ ap₂ (λ (y z : Ratio). total_of b y z) ex eα ∙ cond-true _ (Some (bear_of b x α)) None (workable_within b x α l)

pub ultimate_known : (b : Bearing) (x α : Ratio) {b' : Bearing} {x' α' : Ratio} → b' ≡ b → x' ≡ x → α' ≡ α → Limits b x α → ultimate_of b' x' α' ≡ Some (ultimate (bear_of b x α))
ultimate_known b x α {b'} {x'} {α'} eb ex eα l =
    ap (λ (y : Bearing). ultimate_of y x' α') eb ∙ ap₂ (λ (y z : Ratio). ultimate_of b y z) ex eα ∙ cond-true _ (Some (ultimate (bear_of b x α))) None (workable_within b x α l)

-- the factors of distances up to 200 mm round a hole up to 33 mm lie within the limits
pub record Small (x : Ratio) : Type 0 where
  pub over : x.over ≤ 10000
  pub under : x.under ≤ 10000

pub k_small : (d₀ e : ℕ) → d₀ ≤ 33 → e ≤ 200 → Small (k d₀ e)
k_small d₀ e h l = record { over = omega arith; under = omega arith }

pub k'_small : (d₀ p : ℕ) → d₀ ≤ 33 → p ≤ 200 → Small (k' d₀ p)
k'_small d₀ p h l = record { over = omega arith; under = omega arith }

pub u_small : (d₀ e : ℕ) → d₀ ≤ 33 → e ≤ 200 → Small (u d₀ e)
u_small d₀ e h l = record { over = omega arith; under = omega arith }

pub w_small : (d₀ p : ℕ) → d₀ ≤ 33 → p ≤ 200 → Small (w d₀ p)
w_small d₀ p h l = record { over = omega arith; under = omega arith }

pub most_small : Small most
most_small = record { over = omega arith; under = omega arith }

pub smaller_small : (x y : Ratio) → Small x → Small y → Small (smaller x y)
smaller_small x y p q = record { over = smaller_over x y 10000 p.over q.over; under = smaller_under x y 10000 p.under q.under }

pub limits_from : (b : Bearing) (x α : Ratio) → b.bolts ≤ 20 → b.bolt ≤ 30 → b.thickness ≤ 400 → Small x → Small α → Limits b x α
limits_from b x α hm hd ht p q = record {
  bolts = hm;
  bolt = hd;
  thickness = ht;
  x_over = p.over;
  x_under = p.under;
  α_over = q.over;
  α_under = q.under;
}

-- the factors of distances round any hole are proper fractions
pub k_is_proper : (d₀ e : ℕ) → 0 < d₀ → Proper (k d₀ e)
k_is_proper d₀ e h = omega arith

pub k'_is_proper : (d₀ p : ℕ) → 0 < d₀ → Proper (k' d₀ p)
k'_is_proper d₀ p h = omega arith

pub u_is_proper : (d₀ e : ℕ) → 0 < d₀ → Proper (u d₀ e)
u_is_proper d₀ e h = omega arith

pub w_is_proper : (d₀ p : ℕ) → 0 < d₀ → Proper (w d₀ p)
w_is_proper d₀ p h = omega arith

-- a bearing total of proper factors is a proper fraction
pub bear_proper : (b : Bearing) (x α : Ratio) → 0 < fu b.steel → Proper x → Proper α → Proper (bear_of b x α)
bear_proper b x α f p q =
    mul-pos (mul-pos {m = 25} (omega arith) (smaller_proper x most p (omega arith)))
    (smaller_proper α (c (fub b.grade) (fu b.steel)) q (smaller_proper (fub b.grade ÷ fu b.steel) (1 ÷ 1) f (omega arith)))

-- a total that was answered: the numbers are workable, and it is the bearing total
total_cases : (b : Bearing) (x α t : Ratio) (w : Bool) → workable b x α ≡ w → cond w (Some (bear_of b x α)) None ≡ Some t → Limits b x α × (t ≡ bear_of b x α)
total_cases b x α t true is e = (limits b x α is, cc)
total_cases b x α t false is e = cc

pub total_some : (b : Bearing) (x α t : Ratio) → total_of b x α ≡ Some t → Limits b x α × (t ≡ bear_of b x α)
total_some b x α t e = total_cases b x α t (workable b x α) refl e

-- how large it can be
pub bear_most : (b : Bearing) (x α : Ratio) → Limits b x α → ((bear_of b x α).over ≤ 25920000000000000) × ((bear_of b x α).under ≤ 2500000000)
bear_most b x α l =
    let f : fu b.steel ≤ 540 = fu_most b.steel in
    let g : fub b.grade ≤ 1000 = fub_most b.grade in
    let n = whole_part b.bolts (fu b.steel) b.bolt b.thickness l.bolts f l.bolt l.thickness in
    let over = mul-le-mul (mul-le-mul n (k_over x l.x_over)) (α_over α (fub b.grade) (fu b.steel) g f l.α_over) in
    let under = mul-le-mul (k_under x l.x_under) (α_under α (fub b.grade) (fu b.steel) g f l.α_under) in
    (omega arith, omega arith)
