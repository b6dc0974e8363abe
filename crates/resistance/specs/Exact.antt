-- What "v is at or below" says of an exact resistance: over whole numbers, the fractions multiplied out.
use Rattle.std.specs.Prelude.{ℕ, ◌+◌, ◌-◌, ◌*◌, ◌≤◌, ◌⊎◌}

abbrev pub sq : ℕ → ℕ
sq x = x * x

-- v ≤ N/D
abbrev pub AtOrBelow : (v N D : ℕ) → Type 0
AtOrBelow v N D = v * D ≤ N

-- v ≤ (N/D)/√3
abbrev pub AtOrBelowRoot : (v N D : ℕ) → Type 0
AtOrBelowRoot v N D = 3 * sq (v * D) ≤ sq N

-- v ≤ N₁/D₁ + (N₂/D₂)/√3
abbrev pub AtOrBelowSum : (v N₁ D₁ N₂ D₂ : ℕ) → Type 0
AtOrBelowSum v N₁ D₁ N₂ D₂ = (v * D₁ ≤ N₁) ⊎ (3 * sq ((v * D₁ - N₁) * D₂) ≤ sq (N₂ * D₁))

-- v ≤ P·K/√(J² + (B·P/Q)²), with P = Pn/Pd and Q = Qn/Qd
abbrev pub AtOrBelowGroup : (v K J B Pn Pd Qn Qd : ℕ) → Type 0
AtOrBelowGroup v K J B Pn Pd Qn Qd = sq v * (sq J * sq (Qn * Pd) + sq B * sq (Pn * Qd)) ≤ sq (Pn * Qn * K)
