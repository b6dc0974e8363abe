-- One expression, read two ways: the printed figure, and the exact resistance by what is at or below it.
use Rattle.std.specs.Prelude.{◌≡◌, ℕ, ◌+◌, ◌*◌, ◌^◌, ◌<◌, ◌≤◌, cond, Some, None, Option, nat_lt}
use Rattle.resistance.specs.declared.expression.Expression.{Expression}
use Rattle.resistance.specs.declared.expression.Expression.TheVariants.{Whole, Root, Sum, Group}
use Rattle.resistance.specs.declared.group.BoltGroup.{BoltGroup}
use Rattle.resistance.specs.Exact.{AtOrBelow, AtOrBelowRoot, AtOrBelowSum, AtOrBelowGroup}
use Rattle.resistance.specs.Fractions.{dropped}
use Rattle.resistance.specs.Groups.{group_printed, group_of}
use Rattle.resistance.specs.Roots.{R}

-- with brackets: the printed figure
abbrev pub printed : Expression → ℕ
printed (Whole x) = dropped x
printed (Root x) = R (dropped x)
printed (Sum x y) = dropped x + R (dropped y)
printed (Group g) = group_printed g

-- without: v is at or below the exact resistance
abbrev pub Allows : Expression → ℕ → Type 0
Allows (Whole x) v = AtOrBelow v x.over x.under
Allows (Root x) v = AtOrBelowRoot v x.over x.under
Allows (Sum x y) v = AtOrBelowSum v x.over x.under y.over y.under
Allows (Group g) v =
    AtOrBelowGroup v g.shear g.down g.across g.vertical.over g.vertical.under g.horizontal.over g.horizontal.under

-- the newtons by which a printed figure stays under the exact resistance are fewer than this
abbrev pub margin : ℕ
margin = 10

-- Of a bolt group: neither total is under 1 (so neither is a fraction over 0), the bolts carry at most five times as much down as across,
-- the most loaded bolt takes no less than an even share of the shear, and the scale is fine enough. Nothing is asked of what it takes across.
pub record SoundGroup (g : BoltGroup) : Type 0 where
  pub vertical : 1 ≤ dropped g.vertical
  pub horizontal : 1 ≤ dropped g.horizontal
  pub ratio : dropped g.vertical ≤ 5 * dropped g.horizontal
  pub shear : g.shear ≤ g.down
  pub scale : dropped g.vertical + margin ≤ 2 * (g.scale * g.down)

-- no fraction over 0, and of a bolt group more
abbrev pub Sound : Expression → Type 0
Sound (Whole x) = 0 < x.under
Sound (Root x) = 0 < x.under
Sound (Sum x y) = (0 < x.under) × (0 < y.under)
Sound (Group g) = SoundGroup g

-- r is at or below the exact resistance, by less than the margin
pub record Close (e : Expression) (r : ℕ) : Type 0 where
  pub below : Allows e r
  pub above : Allows e (r + margin) → ⊥

-- what holds of every expression
pub record Stands (e : Expression) : Type 0 where
  pub nought : Allows e 0
  pub down : (u v : ℕ) → u ≤ v → Allows e v → Allows e u
  pub close : Sound e → Close e (printed e)

-- the printed figure as 64 bits hold it
abbrev pub held : ℕ → Option ℕ
held n = cond (nat_lt n (2 ^ 64)) (Some n) None

abbrev pub figure_of : Expression → Option ℕ
figure_of (Whole x) = Some (dropped x)
figure_of (Root x) = Some (R (dropped x))
figure_of (Sum x y) = held (dropped x + R (dropped y))
figure_of (Group g) = group_of g

-- a figure, where one is given of a bolt group, is close to the exact resistance
abbrev pub CloseGroup : BoltGroup → Option ℕ → Type 0
CloseGroup g r = (v : ℕ) → r ≡ Some v → Close (Group g) v
