-- What the tables say: a fact that every row passes, of the row that a number is listed by; and the bounds of what is listed.
use Rattle.std.proofs.Common.{◌≡◌, ℕ, ◌*◌, ◌≤◌, Bool, true, false, cond, ◌&&◌, eqb, leb, List, [], ◌∷◌, Some, None, Option, refl, subst, arith}
use Rattle.std.proofs.lemmas.Bool.Decides.{nat_tests}
use Rattle.std.proofs.lemmas.Bool.{cond_both, eqb-true, leb-true, and_parts}
use Rattle.std.specs.List.{find, list_all}
use Rattle.std.specs.Option.{IfSome, is_some, option_map, unwrap_or}
use Rattle.components.specs.declared.tables.Steel.{Steel}
use Rattle.components.specs.Tabled.{steels, bolt_sizes, bolt_classes, steel_row, size_row, class_row, fu, weld_factor, fub, hole_of, shank_of, stress_of, area_of, shear_of, steel, bolt_size, bolt_class}

module _ {X : Type 0} (key : X → ℕ) (n : ℕ) where
  -- a row that is found goes by the number, and passes what every row passes
  pub row_passes : (test : X → Bool) (xs : List X) → list_all test xs ≡ true → IfSome (find (λ x. eqb (key x) n) xs) (λ x. (key x ≡ n) × (test x ≡ true))
  row_passes test [] all = tt
  row_passes test (x ∷ xs) all =
      let parts = and_parts (test x) (list_all test xs) all in
      go (eqb (key x) n) refl parts.0 (row_passes test xs parts.1)
    where
      go : (b : Bool) → eqb (key x) n ≡ b → test x ≡ true → IfSome (find (λ x. eqb (key x) n) xs) (λ x. (key x ≡ n) × (test x ≡ true)) → IfSome (cond b (Some x) (find (λ x. eqb (key x) n) xs)) (λ x. (key x ≡ n) × (test x ≡ true))
      go true e here later = (eqb-true (key x) n e, here)
      go false e here later = later

  -- what is listed in no row above b
  pub row_most : (value : X → ℕ) (b : ℕ) (xs : List X) → list_all (λ x. leb (value x) b) xs ≡ true → unwrap_or (option_map value (find (λ x. eqb (key x) n) xs)) 0 ≤ b
  row_most value b xs all = go (find (λ x. eqb (key x) n) xs) (row_passes (λ x. leb (value x) b) xs all)
    where
      go : (o : Option X) → IfSome o (λ x. (key x ≡ n) × (leb (value x) b ≡ true)) → unwrap_or (option_map value o) 0 ≤ b
      go None h = omega arith
      go (Some x) h = leb-true (value x) b h.1

-- a listed number and what it stands for
pub record Range (a b least most x v : ℕ) : Type 0 where
  pub low : a ≤ x
  pub high : x ≤ b
  pub worth : least ≤ v
  pub bound : v ≤ most

abbrev in_range : (a b least most x v : ℕ) → Bool
in_range a b least most x v = (leb a x && leb x b) && (leb least v && leb v most)

range : (a b least most x v : ℕ) → in_range a b least most x v ≡ true → Range a b least most x v
range a b least most x v h =
    let p = and_parts (leb a x && leb x b) (leb least v && leb v most) h in
    let q = and_parts (leb a x) (leb x b) p.0 in
    let r = and_parts (leb least v) (leb v most) p.1 in
    record { low = leb-true _ _ q.0; high = leb-true _ _ q.1; worth = leb-true _ _ r.0; bound = leb-true _ _ r.1 }

-- of a number that is listed, in a table whose rows lie within bounds
row_range : {X : Type 0} (key value : X → ℕ) (a b least most : ℕ) (xs : List X) → list_all (λ x. in_range a b least most (key x) (value x)) xs ≡ true →
    (n : ℕ) → is_some (find (λ x. eqb (key x) n) xs) ≡ true → Range a b least most n (unwrap_or (option_map value (find (λ x. eqb (key x) n) xs)) 0)
row_range {X} key value a b least most xs all n listed =
    go (find (λ x. eqb (key x) n) xs) listed (row_passes key n (λ x. in_range a b least most (key x) (value x)) xs all)
  where
    go : (o : Option X) → is_some o ≡ true → IfSome o (λ x. (key x ≡ n) × (in_range a b least most (key x) (value x) ≡ true)) → Range a b least most n (unwrap_or (option_map value o) 0)
    go None e h = cc
    go (Some x) e h = subst (λ (k : ℕ). Range a b least most k (value x)) h.0 (range a b least most (key x) (value x) h.1)

pub steel_range : (x : ℕ) → steel x ≡ true → Range 235 460 360 540 x (fu x)
unfolding steel steel_row fu
steel_range x h = row_range (λ s. s.fy) (λ s. s.fu) 235 460 360 540 steels refl x h

pub class_range : (x : ℕ) → bolt_class x ≡ true → Range 46 109 400 1000 x (fub x)
unfolding bolt_class class_row fub
class_range x h = row_range (λ b. b.grade) (λ b. b.fub) 46 109 400 1000 bolt_classes refl x h

pub bolt_range : (x : ℕ) → bolt_size x ≡ true → Range 12 30 13 33 x (hole_of x)
unfolding bolt_size size_row hole_of
bolt_range x h = row_range (λ b. b.diameter) (λ b. b.hole) 12 30 13 33 bolt_sizes refl x h

-- no number stands for more
pub fu_most : (x : ℕ) → fu x ≤ 540
unfolding fu steel_row
fu_most x = row_most (λ s. s.fy) x (λ s. s.fu) 540 steels refl

pub weld_factor_most : (x : ℕ) → weld_factor x ≤ 100
unfolding weld_factor steel_row
weld_factor_most x = row_most (λ s. s.fy) x (λ s. s.weld_factor) 100 steels refl

pub fub_most : (x : ℕ) → fub x ≤ 1000
unfolding fub class_row
fub_most x = row_most (λ b. b.grade) x (λ b. b.fub) 1000 bolt_classes refl

pub hole_most : (x : ℕ) → hole_of x ≤ 33
unfolding hole_of size_row
hole_most x = row_most (λ b. b.diameter) x (λ b. b.hole) 33 bolt_sizes refl

pub shank_most : (x : ℕ) → shank_of x ≤ 707
unfolding shank_of size_row
shank_most x = row_most (λ b. b.diameter) x (λ b. b.shank_area) 707 bolt_sizes refl

pub stress_most : (x : ℕ) → stress_of x ≤ 561
unfolding stress_of size_row
stress_most x = row_most (λ b. b.diameter) x (λ b. b.stress_area) 561 bolt_sizes refl

-- the weld factor of a steel times its yield strength
pub weld_most : (x : ℕ) → weld_factor x * x ≤ 46000
unfolding weld_factor steel_row
weld_most x = go (find (λ s. eqb s.fy x) steels) (row_passes (λ s. s.fy) x (λ s. leb (s.weld_factor * s.fy) 46000) steels refl)
  where
    go : (o : Option Steel) → IfSome o (λ s. (s.fy ≡ x) × (leb (s.weld_factor * s.fy) 46000 ≡ true)) → unwrap_or (option_map (λ s. s.weld_factor) o) 0 * x ≤ 46000
    go None h = omega arith
    go (Some s) h = subst (λ (k : ℕ). s.weld_factor * k ≤ 46000) h.0 (leb-true _ 46000 h.1)

-- the area that a listed bolt is sheared on, and its shear factor
pub area_range : (bolt plane : ℕ) → bolt_size bolt ≡ true → (84 ≤ area_of bolt plane) × (area_of bolt plane ≤ 707)
unfolding bolt_size size_row shank_of stress_of
area_range bolt plane h =
    let shank = row_range (λ b. b.diameter) (λ b. b.shank_area) 12 30 84 707 bolt_sizes refl bolt h in
    let stress = row_range (λ b. b.diameter) (λ b. b.stress_area) 12 30 84 707 bolt_sizes refl bolt h in
    cond_both (eqb plane 0) (shank_of bolt) (stress_of bolt) (λ n. (84 ≤ n) × (n ≤ 707)) (λ _. (shank.worth, shank.bound)) (λ _. (stress.worth, stress.bound))

pub shear_range : (grade plane : ℕ) → (5 ≤ shear_of grade plane) × (shear_of grade plane ≤ 6)
shear_range grade plane = (grind (arith, nat_tests), grind (arith, nat_tests))

-- the bounds of what the tables list
pub ruleset listed_bounds = (fu_most, weld_factor_most, fub_most, hole_most, shank_most, stress_most)
