-- Squares and products of whole numbers: the few steps that linear arithmetic does not take.
use Rattle.std.proofs.Common.{ℕ, ◌<◌, ◌≤◌, inl, inr, mul-le-mul, arith}
use Rattle.resistance.specs.Exact.{sq}
use Rattle.std.proofs.lemmas.Bool.{cases_lt}

pub sq_mono : {a b : ℕ} → a ≤ b → sq a ≤ sq b
sq_mono h = mul-le-mul h h

pub sq_mono_lt : {a b : ℕ} → a < b → sq a < sq b
sq_mono_lt {a} {b} h = omega (arith, mul-le-mul h h)

-- the root of an order of squares
pub le_of_sq : {a b : ℕ} → sq a ≤ sq b → a ≤ b
le_of_sq {a} {b} h = elim (cases_lt b a) [ inl k ↦ absurd (let g : sq b < sq a = sq_mono_lt k in omega arith) | inr k ↦ k ]

pub lt_of_sq : {a b : ℕ} → sq a < sq b → a < b
lt_of_sq {a} {b} h = elim (cases_lt a b) [ inl k ↦ k | inr k ↦ absurd (let g : sq b ≤ sq a = sq_mono k in omega arith) ]
