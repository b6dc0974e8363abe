-- What a kind of joint shows of every joint that it admits.
use Rattle.std.specs.Prelude.{◌≡◌, ℕ, ◌+◌, ◌≤◌, Bool, true, false, Some, None, Ok, Option, Result}
use Rattle.resistance.specs.Expressions.{margin}
use Rattle.joint.specs.declared.fault.JointFault.{JointFault}

-- J is a joint that is admitted, R what a card says of it; `at j i v` says that v is at or below mode i of j
pub record Meaning {J R : Type 0}
    (fields shear tying : ℕ)
    (admission : R → Result J JointFault)
    (joint : J → R)
    (binding : J → ℕ → Bool)
    (printed : J → ℕ → Option ℕ)
    (at : J → ℕ → ℕ → Type 0) : Type 0 where
  pub some_fields : 1 ≤ fields
  pub some_shear : 1 ≤ shear
  pub few_shear : shear ≤ 20
  pub few_tying : tying ≤ 20
  -- an admitted joint is the joint that was given, and admitting it again gives it back
  pub kept : (r : R) (j : J) → admission r ≡ Ok j → joint j ≡ r
  pub again : (j : J) → admission (joint j) ≡ Ok j
  -- a mode has a figure exactly if it binds, and mode 1 binds
  pub figured : (j : J) (i : ℕ) → binding j i ≡ true → (v : ℕ) × (printed j i ≡ Some v)
  pub silent : (j : J) (i : ℕ) → binding j i ≡ false → printed j i ≡ None
  pub first : (j : J) → binding j 1 ≡ true
  -- 0 is at or below each binding mode, and with a number every smaller one is
  pub nought : (j : J) (i : ℕ) → binding j i ≡ true → at j i 0
  pub down : (j : J) (i a b : ℕ) → binding j i ≡ true → a ≤ b → at j i b → at j i a
  -- the printed figure is at or below the mode, and that figure plus the margin is not
  pub safe : (j : J) (i v : ℕ) → printed j i ≡ Some v → at j i v
  pub close : (j : J) (i v : ℕ) → printed j i ≡ Some v → at j i (v + margin) → ⊥
