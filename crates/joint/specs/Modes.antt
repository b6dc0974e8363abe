-- The modes of a joint: lists of expressions, nothing where a mode does not bind. Shear modes count from 1, tying modes from 21.
use Rattle.std.specs.Prelude.{◌≡◌, ℕ, ◌+◌, cond, List, [], ◌∷◌, Some, None, Option, ◌==◌, nat_lt}
use Rattle.resistance.specs.Expressions.{printed, figure_of, Allows, Sound}
use Rattle.resistance.specs.declared.expression.Expression.{Expression}

-- the entry with the number i of a list that counts from n; 'none' past its end
abbrev pub numbered : {X : Type 0} → X → ℕ → List X → ℕ → X
numbered none n [] i = none
numbered none n (x ∷ xs) i = cond (i == n) x (numbered none (n + 1) xs i)

-- the entry i of the shear modes and the tying modes together
abbrev pub mode_in : {X : Type 0} → X → List X → List X → ℕ → X
mode_in none shear tying i = cond (nat_lt i 21) (numbered none 1 shear i) (numbered none 21 tying i)

-- the printed figure of a mode, and nothing where it does not bind
abbrev pub printing : Option Expression → Option ℕ
printing None = None
printing (Some e) = Some (printed e)

-- v is at or below the exact resistance of a mode that binds
abbrev pub Below : Option Expression → ℕ → Type 0
Below None v = ⊥
Below (Some e) v = Allows e v

-- a fact of every mode of a list
abbrev pub Every : (Option Expression → Type 0) → List (Option Expression) → Type 0
Every P [] = Unit {0}
Every P (m ∷ ms) = P m × Every P ms

-- a mode that binds has no fraction over 0
abbrev pub SoundMode : Option Expression → Type 0
SoundMode None = Unit {0}
SoundMode (Some e) = Sound e

-- 64 bits hold the figure of a mode that binds
abbrev pub HeldMode : Option Expression → Type 0
HeldMode None = Unit {0}
HeldMode (Some e) = figure_of e ≡ Some (printed e)
