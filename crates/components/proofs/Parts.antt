-- What a part carries, its factors in the order in which the sheets write them.
use Rattle.std.proofs.Common.{◌≡◌, ℕ, ◌*◌, ap, arith}
use Rattle.resistance.specs.Fractions.{◌÷◌}

-- over a length: t·l·f/d
pub across : (t l f d : ℕ) → (l * t * f) ÷ d ≡ (t * l * f) ÷ d
across t l f d = ap (λ (n : ℕ). n ÷ d) (omega arith)

-- so many times: n·t·l·f/d
pub times_across : (n t l f d : ℕ) → (n * l * t * f) ÷ d ≡ (n * t * l * f) ÷ d
times_across n t l f d = ap (λ (n : ℕ). n ÷ d) (omega arith)

-- along the sides of a block: t·f·l/d
pub along : (t l f d : ℕ) → (l * t * f) ÷ d ≡ (t * f * l) ÷ d
along t l f d = ap (λ (n : ℕ). n ÷ d) (omega arith)

-- in bending: t·l²·f/d
pub bent : (t l f d : ℕ) → (l * l * t * f) ÷ d ≡ (t * l * l * f) ÷ d
bent t l f d = ap (λ (n : ℕ). n ÷ d) (omega arith)
