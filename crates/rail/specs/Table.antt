-- The table of places: what each call answers and leaves, by its arguments alone. A slip is its rail number and its place, whichever rail gave it.
use Rattle.std.specs.Prelude.{ℕ, cond, ◌||◌, List, replicate, Ok, Err, Result, ◌==◌, nat_lt}
use Rattle.joint.specs.declared.kind.Kind.{Ghosts}
use Rattle.joint.specs.declared.sheet.Sheet.{Sheet}
use Rattle.places.specs.Places.{hang_to, lift_to, back_to, scrap_to, hung, put, done, sheet_told, state_at, joint_at, sheet_at, figure_at, class_count}
use Rattle.places.specs.declared.fault.RailFault.{RailFault}
use Rattle.places.specs.declared.fault.RailFault.TheVariants.{Length}
use Rattle.places.specs.declared.place.Place.{Place}
use Rattle.places.specs.declared.place.Place.TheVariants as place
use Rattle.rail.specs.declared.call.Answer.{Answer}
use Rattle.rail.specs.declared.call.Answer.TheVariants.{Done, Handed, Stands, Holds, Shows, Prints, Counts, Refused}
use Rattle.rail.specs.declared.call.Call.{Call}
use Rattle.rail.specs.declared.call.Call.TheVariants.{Hang, Lift, HangBack, Scrap, AskState, AskJoint, AskSheet, AskFigure, AskClass}
use Rattle.rail.specs.declared.slip.Slip.{Slip}

-- a rail has 1 to 4096 places
abbrev pub open_answer : ℕ → Result (Unit {0}) RailFault
open_answer size = cond (size == 0 || nat_lt 4096 size) (Err (Length size)) (Ok tt)

pub record Table (J : Type 0) : Type 0 where
  pub number : ℕ
  pub places : List (Place J)

-- opening empties every place
module _ {J : Type 0} where
  abbrev pub empties : ℕ → List (Place J)
  empties size = replicate size place.Empty

  abbrev pub opened : ℕ → ℕ → Table J
  opened number size = record { number = number; places = replicate size place.Empty }

-- what a program is given, as an answer of the table
module _ {R : Type 0} where
  -- what a call gives, put as that sort of answer, or its refusal
  abbrev pub as_answer : {A : Type 0} → (A → Answer R) → Result A RailFault → Answer R
  as_answer sort (Ok x) = sort x
  as_answer sort (Err f) = Refused f

  -- a refused hang back gives the slip back beside the fault
  abbrev pub back_answer : Result Sheet (Slip × RailFault) → Answer R
  back_answer (Ok s) = Shows s
  back_answer (Err e) = Refused e.1

module _ {J R : Type 0} where
  -- what the call answers on the rail of the number n with the places ps
  abbrev pub answer_at : Ghosts J R → ℕ → List (Place J) → Call R → Answer R
  answer_at k n ps (Hang p r) = as_answer Shows (sheet_told k (hang_to k ps p r))
  answer_at k n ps (Lift p) = as_answer (λ u. Handed n p) (done (lift_to ps p))
  answer_at k n ps (HangBack m p r) = as_answer Shows (sheet_told k (back_to k n ps m p r))
  answer_at k n ps (Scrap m p) = as_answer (λ u. Done) (done (scrap_to n ps m p))
  answer_at k n ps (AskState p) = as_answer Stands (state_at ps p)
  answer_at k n ps (AskJoint p) = as_answer Holds (joint_at k ps p)
  answer_at k n ps (AskSheet p) = as_answer Shows (sheet_at ps p)
  answer_at k n ps (AskFigure p i) = as_answer Prints (figure_at k ps p i)
  answer_at k n ps (AskClass c) = Counts (class_count c ps)

  -- and the places that it leaves
  abbrev pub places_after : Ghosts J R → ℕ → List (Place J) → Call R → List (Place J)
  places_after k n ps (Hang p r) = hung k ps p (hang_to k ps p r)
  places_after k n ps (Lift p) = put ps p (lift_to ps p)
  places_after k n ps (HangBack m p r) = hung k ps p (back_to k n ps m p r)
  places_after k n ps (Scrap m p) = put ps p (scrap_to n ps m p)
  places_after k n ps (AskState p) = ps
  places_after k n ps (AskJoint p) = ps
  places_after k n ps (AskSheet p) = ps
  places_after k n ps (AskFigure p i) = ps
  places_after k n ps (AskClass c) = ps

  abbrev pub answer : Ghosts J R → Table J → Call R → Answer R
  answer k t c = answer_at k t.number t.places c

  abbrev pub after : Ghosts J R → Table J → Call R → Table J
  after k t c = record { number = t.number; places = places_after k t.number t.places c }
