-- Lists of checks: one after another, and what it means that none fails.
use Rattle.std.proofs.Common.{◌≡◌, ℕ, ◌≤◌, Bool, true, false, leb, List, [], ◌∷◌, ◌++◌, Some, None, Ok, Err, Option, Result, refl, ap, ◌∙◌, leb-true}
use borrow.Author.Tests.{clash}
use Rattle.std.proofs.lemmas.Bool.{and_parts}
use Rattle.joint.specs.Checked.{first_of, none_of, outcome, of_list, then, within}
use Rattle.joint.specs.declared.fault.JointFault.{JointFault}

one : (b : Bool) (f : JointFault) (cs ys : List (Bool × JointFault)) → then (of_list cs) (of_list ys) ≡ of_list (cs ++ ys) → then (of_list ((b, f) ∷ cs)) (of_list ys) ≡ of_list (((b, f) ∷ cs) ++ ys)
one true f cs ys h = h
one false f cs ys h = refl

-- one list after another is the joined list
pub in_turn : (xs ys : List (Bool × JointFault)) → then (of_list xs) (of_list ys) ≡ of_list (xs ++ ys)
in_turn [] ys = refl
in_turn (c ∷ cs) ys = one c.0 c.1 cs ys (in_turn cs ys)

-- groups of checks one after another, and the same joined to one list, each before the last group
abbrev pub group_outcomes : List (List (Bool × JointFault)) → List (Bool × JointFault) → Result (Unit {0}) JointFault
group_outcomes [] last = of_list last
group_outcomes (g ∷ gs) last = then (of_list g) (group_outcomes gs last)

abbrev pub joined : List (List (Bool × JointFault)) → List (Bool × JointFault) → List (Bool × JointFault)
joined [] last = last
joined (g ∷ gs) last = g ++ joined gs last

pub groups_in_turn : (gs : List (List (Bool × JointFault))) (last : List (Bool × JointFault)) → group_outcomes gs last ≡ of_list (joined gs last)
groups_in_turn [] last = refl
groups_in_turn (g ∷ gs) last = ap (then (of_list g)) (groups_in_turn gs last) ∙ in_turn g (joined gs last)

-- every check of a list holds
abbrev pub Pass : List (Bool × JointFault) → Type 0
Pass [] = Unit {0}
Pass (c ∷ cs) = (c.0 ≡ true) × Pass cs

step : (b : Bool) (f : JointFault) (cs : List (Bool × JointFault)) → none_of (first_of ((b, f) ∷ cs)) ≡ true → (b ≡ true) × (none_of (first_of cs) ≡ true)
step true f cs h = (refl, h)
step false f cs h = absurd (clash h)

pub passes : (cs : List (Bool × JointFault)) → none_of (first_of cs) ≡ true → Pass cs
passes [] h = tt
passes (c ∷ cs) h = let s = step c.0 c.1 cs h in (s.0, passes cs s.1)

-- from an outcome back to the fault
pub none_from : (o : Option JointFault) → outcome o ≡ Ok tt → none_of o ≡ true
none_from None q = refl
none_from (Some f) q = cc

pub some_from : (o : Option JointFault) (f : JointFault) → outcome o ≡ Err f → o ≡ Some f
some_from None f q = cc
some_from (Some g) f q = cc

pub low : (a b x : ℕ) → within a b x ≡ true → a ≤ x
low a b x h = leb-true a x (and_parts (leb a x) (leb x b) h).0

pub high : (a b x : ℕ) → within a b x ≡ true → x ≤ b
high a b x h = leb-true x b (and_parts (leb a x) (leb x b) h).1
