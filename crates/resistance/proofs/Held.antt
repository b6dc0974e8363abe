-- What 64 bits hold of a sum, and a figure of a bolt group.
use Rattle.std.proofs.Common.{◌≡◌, ℕ, ◌+◌, ◌^◌, ◌<◌, ◌≤◌, Some, None, Option, sym, ap, ◌∙◌, subst, inl, inr, div-le_self, arith}
use Rattle.std.specs.Option.{SomeIff}
use Rattle.std.proofs.lemmas.Bool.{cases_lt, cases_Bool, lt-ltb, le-ltb, cond-true, cond-false}
use Rattle.resistance.specs.Expressions.{held, figure_of, printed, Sound, Close, CloseGroup}
use Rattle.resistance.specs.Fractions.{dropped}
use Rattle.resistance.specs.Groups.{workable, group_printed, group_of}
use Rattle.resistance.specs.Roots.{R}
use Rattle.resistance.specs.declared.expression.Expression.TheVariants.{Sum, Group}
use Rattle.resistance.specs.declared.group.BoltGroup.{BoltGroup}
use Rattle.resistance.specs.declared.ratio.Ratio.{Ratio}
use Rattle.resistance.proofs.GroupLimits.{Limits, limits, within_limits}
use Rattle.resistance.proofs.Readings.{close}
use Rattle.resistance.proofs.RootWords.{R_is}
use Rattle.resistance.proofs.Squares.{le_of_sq}

pub held_small : (n : ℕ) → n < 2 ^ 64 → held n ≡ Some n
held_small n h = cond-true _ (Some n) None (lt-ltb n (2 ^ 64) h)

held_large : (n : ℕ) → 2 ^ 64 ≤ n → held n ≡ None
held_large n h = cond-false _ (Some n) None (le-ltb n (2 ^ 64) h)

pub checked_held : (o : Option ℕ) (n : ℕ) → SomeIff o (n < 2 ^ 64) n → o ≡ held n
checked_held None n h = elim (cases_lt n (2 ^ 64)) [ inl k ↦ absurd (h k) | inr k ↦ sym (held_large n k) ]
checked_held (Some m) n (k, e) = ap Some e ∙ sym (held_small n k)

R_most : (q : ℕ) → R q ≤ q
R_most q = let k = R_is q in le_of_sq {a = R q} {b = q} (omega arith)

-- 64 bits hold a sum of two parts of 63
pub sum_held : (x y : Ratio) → x.over < 2 ^ 63 → y.over < 2 ^ 63 → figure_of (Sum x y) ≡ Some (printed (Sum x y))
sum_held x y h k =
    let a = div-le_self x.over x.under in
    let b = div-le_self y.over y.under in
    let c = R_most (dropped y) in
    held_small (dropped x + R (dropped y)) (omega arith)

-- a bolt group within the limits is sound, and has its figure
abbrev pub GroupLimits : BoltGroup → Type 0
GroupLimits g = Limits (dropped g.vertical) (dropped g.horizontal) g.scale g.shear g.down g.across

pub group_sound : (g : BoltGroup) → GroupLimits g → Sound (Group g)
group_sound g l = record { vertical = l.vertical; horizontal = l.horizontal; ratio = l.ratio; shear = l.shear; scale = l.fine }

pub group_held : (g : BoltGroup) → GroupLimits g → figure_of (Group g) ≡ Some (printed (Group g))
group_held g l = cond-true (workable g) (Some (group_printed g)) None (within_limits _ _ _ _ _ _ l)

-- the figure of a bolt group, where there is one, is close to the exact resistance
pub group_given : (g : BoltGroup) (r : Option ℕ) → r ≡ group_of g → CloseGroup g r
group_given g r is v some = elim (cases_Bool (workable g)) [
  | inl e ↦
      let l : GroupLimits g = limits _ _ _ _ _ _ (sym e) in
      let known = group_held g l in
      let same : printed (Group g) ≡ v = cc in
      subst (Close (Group g)) same (close (Group g) (group_sound g l))
  | inr e ↦
      let none = cond-false (workable g) (Some (group_printed g)) None e in
      absurd (let z : ◌≡◌ {A = ℕ} 0 1 = cc in omega arith)
]
