-- The two roots by which a figure is printed.
use Rattle.std.specs.Prelude.{ℕ, zero, suc, ◌+◌, ◌*◌, ◌^◌, ◌≤◌, Bool, cond, nat_le}
use Rattle.std.specs.Float.Ieee.{size}
use Rattle.resistance.specs.Exact.{sq}

-- The largest number below 2 ^ k that passes a test which 0 passes and which, once failed, stays failed:
-- its binary digits from the top, each that leaves the test passed. 'found' is what the digits so far come to.
unfoldable pub largest : (k found : ℕ) → (ℕ → Bool) → ℕ
largest zero found test = found
largest (suc k) found test = largest k (cond (test (found + 2 ^ k)) (found + 2 ^ k) found) test

-- R(q): the largest whole r with 3·r² ≤ q²
unfoldable pub R : ℕ → ℕ
unfolding largest size
R q = largest (size q) 0 (λ r. nat_le (3 * sq r) (sq q))

-- the smallest whole s with n ≤ s²: one more than the largest whose square is below n
unfoldable pub root_up : ℕ → ℕ
unfolding largest size
root_up zero = 0
root_up (suc n) = largest (size n) 0 (λ s. nat_le (sq s) n) + 1

-- what the words say: r passes, as every smaller number does, and none above it
abbrev pub Largest : (q r : ℕ) → Type 0
Largest q r = (x : ℕ) → (3 * sq x ≤ sq q → x ≤ r) × (x ≤ r → 3 * sq x ≤ sq q)

-- s passes, as every larger number does, and none below it
abbrev pub Smallest : (n s : ℕ) → Type 0
Smallest n s = (x : ℕ) → (n ≤ sq x → s ≤ x) × (s ≤ x → n ≤ sq x)
