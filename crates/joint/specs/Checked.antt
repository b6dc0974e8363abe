-- Admission by a list of checks in their order: the first that fails is the fault.
use Rattle.std.specs.Prelude.{ℕ, ◌+◌, ◌*◌, Bool, true, false, cond, ◌&&◌, List, [], ◌∷◌, Some, None, Ok, Err, Option, Result, nat_le}
use Rattle.components.specs.Tabled.{bolt_size, bolt_class}
use Rattle.components.specs.declared.bolts.Bolts.{Bolts}
use Rattle.joint.specs.declared.fault.JointFault.{JointFault}
use Rattle.joint.specs.declared.fault.JointFault.TheVariants.{NotAllowed}

-- a check is what must hold, and the fault where it does not
abbrev pub Check : Type 0
Check = Bool × JointFault

-- the first fault of a list of checks
abbrev pub first_of : List (Bool × JointFault) → Option JointFault
first_of [] = None
first_of (c ∷ cs) = cond c.0 (first_of cs) (Some c.1)

abbrev pub none_of : Option JointFault → Bool
none_of None = true
none_of (Some f) = false

-- what a check, or a list of checks, comes to
abbrev pub due : {E : Type 0} → Bool → E → Result (Unit {0}) E
due holds f = cond holds (Ok tt) (Err f)

abbrev pub outcome : Option JointFault → Result (Unit {0}) JointFault
outcome None = Ok tt
outcome (Some f) = Err f

abbrev pub of_list : List (Bool × JointFault) → Result (Unit {0}) JointFault
of_list cs = outcome (first_of cs)

-- the second, unless the first is a fault
abbrev pub then : Result (Unit {0}) JointFault → Result (Unit {0}) JointFault → Result (Unit {0}) JointFault
then (Ok u) r = r
then (Err f) r = Err f

abbrev pub within : (low high x : ℕ) → Bool
within low high x = nat_le low x && nat_le x high

-- a distance is at least so many tenths of the hole
abbrev pub spaced : (tenths hole distance : ℕ) → Bool
spaced tenths hole distance = nat_le (tenths * hole) (10 * distance)

-- the checks of a card's bolts, whose fields are numbered from 'first' on
abbrev pub bolts_checked : ℕ → Bolts → List (Bool × JointFault)
bolts_checked first b =
    (bolt_size b.bolt, NotAllowed first) ∷ (bolt_class b.grade, NotAllowed (first + 1))
    ∷ (within 0 1 b.plane, NotAllowed (first + 2)) ∷ (within 2 10 b.rows, NotAllowed (first + 3)) ∷ []
