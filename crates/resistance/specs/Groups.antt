-- The bolt group in eccentric shear: how its figure is printed, and within which limits.
use Rattle.std.specs.Prelude.{ℕ, ◌+◌, ◌*◌, ◌/◌, ◌%◌, ◌≤◌, min, Bool, cond, ◌&&◌, Some, None, Option, nat_le}
use Rattle.resistance.specs.declared.group.BoltGroup.{BoltGroup}
use Rattle.resistance.specs.Exact.{sq}
use Rattle.resistance.specs.Fractions.{dropped}
use Rattle.resistance.specs.Roots.{root_up}

-- the smallest whole number that is at least n/d
abbrev pub up : (n d : ℕ) → ℕ
up n d = n / d + min 1 (n % d)

-- what the words say: s passes, as every larger number does, and none below it
abbrev pub SmallestOver : (n d s : ℕ) → Type 0
SmallestOver n d s = (x : ℕ) → (n ≤ x * d → s ≤ x) × (s ≤ x → n ≤ x * d)

-- W: B·p/q, scaled and rounded up
abbrev pub W : (p q scale B : ℕ) → ℕ
W p q scale B = up (scale * B * p) q

-- S: the root of J² + (B·p/q)², scaled and rounded up
abbrev pub S : (p q scale J B : ℕ) → ℕ
S p q scale J B = root_up (sq (scale * J) + sq (W p q scale B))

-- p·K over that root
abbrev pub group_figure : (p q scale K J B : ℕ) → ℕ
group_figure p q scale K J B = scale * K * p / S p q scale J B

abbrev pub group_printed : BoltGroup → ℕ
group_printed g = group_figure (dropped g.vertical) (dropped g.horizontal) g.scale g.shear g.down g.across

-- the limits within which a figure is given: those of a sound group, and upper ones that keep every product within 128 bits
abbrev pub within : (p q scale K J B : ℕ) → Bool
within p q scale K J B =
    nat_le 1 p && (nat_le p 100000000 && (nat_le 1 q && (nat_le p (5 * q)
    && (nat_le K J && (nat_le J 1000000 && (nat_le B 1000000 && (nat_le scale 1000000 && nat_le (p + 10) (2 * (scale * J)))))))))

abbrev pub workable : BoltGroup → Bool
workable g = within (dropped g.vertical) (dropped g.horizontal) g.scale g.shear g.down g.across

abbrev pub group_of : BoltGroup → Option ℕ
group_of g = cond (workable g) (Some (group_printed g)) None
