-- Fractions of whole numbers, as the sheets write them.
use Rattle.std.specs.Prelude.{ℕ, ◌*◌, ◌/◌, ◌≤◌, Bool, cond, nat_le}
use Rattle.resistance.specs.declared.ratio.Ratio.{Ratio}

infix 40 ◌÷◌
infixl 35 ◌⊗◌
infix 30 ◌≼◌
abbrev pub ◌÷◌ : ℕ → ℕ → Ratio
a ÷ b = record { over = a; under = b }

-- the product
abbrev pub ◌⊗◌ : Ratio → Ratio → Ratio
x ⊗ y = (x.over * y.over) ÷ (x.under * y.under)

-- x is at most y, the fractions multiplied out
abbrev pub ◌≼◌ : Ratio → Ratio → Type 0
x ≼ y = x.over * y.under ≤ y.over * x.under

-- the same as a test
abbrev pub at_most : Ratio → Ratio → Bool
at_most x y = nat_le (x.over * y.under) (y.over * x.under)

-- the smaller of two
unfoldable pub smaller : Ratio → Ratio → Ratio
smaller x y = cond (at_most x y) x y

-- [x]: the fraction dropped
abbrev pub dropped : Ratio → ℕ
dropped x = x.over / x.under
