-- R and root_up are what their words say.
use Rattle.std.proofs.Common.{◌≡◌, ℕ, zero, suc, ◌+◌, ◌*◌, ◌^◌, ◌<◌, ◌≤◌, Bool, true, false, cond, leb, refl, ◌∙◌, le_antisymm, mul-le-mul_left, arith, pow_pos}
use lib.Ieee.{size}
use lib.Ieee.Digits.{size-lt}
use Rattle.std.proofs.lemmas.Bool.{leb-true, leb-false, le-leb, lt-leb}
use Rattle.resistance.specs.Exact.{sq}
use Rattle.resistance.specs.Roots.{largest, R, root_up, Largest, Smallest}
use Rattle.resistance.proofs.Squares.{sq_mono, sq_mono_lt, lt_of_sq}

-- the found number passes the test, and the next one fails it
largest_is : (k found : ℕ) (test : ℕ → Bool) → test found ≡ true → test (found + 2 ^ k) ≡ false →
    (test (largest k found test) ≡ true) × (test (largest k found test + 1) ≡ false)
unfolding largest
largest_is zero found test p f = (p, f)
largest_is (suc k) found test p f = go (test (found + 2 ^ k)) refl (λ m. largest_is k m test)
  where
    double : found + 2 ^ suc k ≡ found + 2 ^ k + 2 ^ k
    double = omega arith

    go : (b : Bool) → test (found + 2 ^ k) ≡ b →
        ((m : ℕ) → test m ≡ true → test (m + 2 ^ k) ≡ false → (test (largest k m test) ≡ true) × (test (largest k m test + 1) ≡ false)) →
        (test (largest k (cond b (found + 2 ^ k) found) test) ≡ true) × (test (largest k (cond b (found + 2 ^ k) found) test + 1) ≡ false)
    go true e ih = ih (found + 2 ^ k) e (rw double at f)
    go false e ih = ih found p e

pub R_is : (q : ℕ) → (3 * sq (R q) ≤ sq q) × (sq q < 3 * sq (R q + 1))
unfolding R
R_is q =
    let l = size-lt q in
    let test : ℕ → Bool = λ r. leb (3 * sq r) (sq q) in
    let r = largest_is (size q) 0 test (le-leb 0 (sq q) (omega arith)) (lt-leb (3 * sq (0 + 2 ^ size q)) (sq q) (let e = sq_mono_lt l in omega arith)) in
    (leb-true _ _ r.0, leb-false _ _ r.1)

-- nothing else is
pub R_only : (q r : ℕ) → 3 * sq r ≤ sq q → sq q < 3 * sq (r + 1) → R q ≡ r
R_only q r l h =
    let k = R_is q in
    le_antisymm
    (let e : R q < r + 1 = lt_of_sq {a = R q} {b = r + 1} (omega arith) in omega arith)
    (let e : r < R q + 1 = lt_of_sq {a = r} {b = R q + 1} (omega arith) in omega arith)

pub root_up_is : (n : ℕ) → 0 < n → (s : ℕ) × (root_up n ≡ s + 1) × (n ≤ sq (s + 1)) × (sq s < n)
unfolding root_up
root_up_is zero h = absurd (let e : 0 < 0 = h in omega arith)
root_up_is (suc n) h =
    let l = size-lt n in
    let test : ℕ → Bool = λ s. leb (sq s) n in
    let r = largest_is (size n) 0 test (le-leb 0 n (omega arith)) (lt-leb (sq (0 + 2 ^ size n)) n (let e = mul-le-mul_left (2 ^ size n) (pow_pos (size n)) in omega arith)) in
    let low = leb-true _ _ r.0 in
    let high = leb-false _ _ r.1 in
    (largest (size n) 0 test, refl, high, omega (arith, low))

pub root_up_only : (n s : ℕ) → n ≤ sq (s + 1) → sq s < n → root_up n ≡ s + 1
root_up_only n s h l =
    let k = root_up_is n (omega arith) in
    let a : s < k.0 + 1 = lt_of_sq {a = s} {b = k.0 + 1} (omega arith) in
    let b : k.0 < s + 1 = lt_of_sq {a = k.0} {b = s + 1} (omega arith) in
    omega arith

pub root_up_exact : (n r : ℕ) → r * r ≡ n → root_up n ≡ r
unfolding root_up
root_up_exact zero zero e = refl
root_up_exact zero (suc r) e = omega arith
root_up_exact (suc n) zero e = omega arith
root_up_exact (suc n) (suc r) e = root_up_only (suc n) r (omega arith) (omega arith) ∙ omega arith

pub root_up_pos : (n : ℕ) → 0 < n → 0 < root_up n
root_up_pos n h = let k = root_up_is n h in omega arith

-- what the words say of R and root_up, at any number that equals them
pub R_largest : (q r : ℕ) → r ≡ R q → Largest q r
R_largest q r is x =
    let k = R_is q in (
      (λ h. let e : x < R q + 1 = lt_of_sq {a = x} {b = R q + 1} (omega arith) in omega arith),
      (λ h. let l : x ≤ R q = omega arith in let e = sq_mono l in omega arith),
    )

pub root_up_smallest : (n s : ℕ) → s ≡ root_up n → Smallest n s
unfolding root_up
root_up_smallest zero s is x = ((λ h. omega arith), (λ h. omega arith))
root_up_smallest (suc n) s is x = go (root_up_is (suc n) (omega arith))
  where
    go : (t : ℕ) × (root_up (suc n) ≡ t + 1) × (suc n ≤ sq (t + 1)) × (sq t < suc n) → (suc n ≤ sq x → s ≤ x) × (s ≤ x → suc n ≤ sq x)
    go (t, e, high, low) = (
      (λ h. let l : t < x = lt_of_sq {a = t} {b = x} (omega arith) in let g : s ≡ t + 1 = is ∙ e in omega arith),
      (λ h. let g : s ≡ t + 1 = is ∙ e in let l : t + 1 ≤ x = omega arith in let m = sq_mono l in omega arith),
    )
