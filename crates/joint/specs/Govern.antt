-- The governing mode: the lowest printed figure of the modes that bind, and in a tie the lowest number.
use Rattle.std.specs.Prelude.{◌≡◌, ℕ, zero, suc, ◌+◌, ◌<◌, ◌≤◌, cond, Some, None, Option, nat_lt}
use Rattle.joint.specs.declared.sheet.Governing.{Governing}

-- what governs after one mode more
abbrev pub better : Option Governing → ℕ → Option ℕ → Option Governing
better best i None = best
better None i (Some v) = Some (record { mode = i; figure = v })
better (Some best) i (Some v) = cond (nat_lt v best.figure) (Some (record { mode = i; figure = v })) (Some best)

-- of the n modes from 'first' on, and nothing where none of them binds
abbrev pub lowest : (ℕ → Option ℕ) → ℕ → ℕ → Option Governing
lowest f first zero = None
lowest f first (suc n) = better (lowest f first n) (first + n) (f (first + n))

-- the same in words: the mode is one of them and the figure its own, no mode that binds has a lower figure, and none with the same figure a lower number
pub record Governs (f : ℕ → Option ℕ) (first n : ℕ) (r : Governing) : Type 0 where
  pub within : (first ≤ r.mode) × (r.mode < first + n)
  pub named : f r.mode ≡ Some r.figure
  pub least : (i v : ℕ) → first ≤ i → i < first + n → f i ≡ Some v → r.figure ≤ v
  pub ties : (i v : ℕ) → first ≤ i → i < first + n → f i ≡ Some v → v ≡ r.figure → r.mode ≤ i

-- no mode binds
abbrev pub Silent : (ℕ → Option ℕ) → ℕ → ℕ → Type 0
Silent f first n = (i : ℕ) → first ≤ i → i < first + n → f i ≡ None

-- a mode that governs, or nothing where no mode binds
abbrev pub Found : (ℕ → Option ℕ) → ℕ → ℕ → Option Governing → Type 0
Found f first n None = Silent f first n
Found f first n (Some r) = Governs f first n r
