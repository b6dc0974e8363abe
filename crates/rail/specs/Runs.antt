-- Lists of calls, made in turn, the first of the list first.
use Rattle.std.specs.Prelude.{ℕ, ◌+◌, List, [], ◌∷◌}
use Rattle.joint.specs.declared.kind.Kind.{Ghosts}
use Rattle.places.specs.declared.place.Place.{Place}
use Rattle.rail.specs.declared.call.Answer.{Answer}
use Rattle.rail.specs.declared.call.Answer.TheVariants.{Done, Handed, Stands, Holds, Shows, Prints, Counts, Refused}
use Rattle.rail.specs.declared.call.Call.{Call}
use Rattle.rail.specs.declared.call.Call.TheVariants.{Hang, Lift, HangBack, Scrap, AskState, AskJoint, AskSheet, AskFigure, AskClass}
use Rattle.rail.specs.Table.{Table, answer_at, places_after}

module _ {J R : Type 0} where
  -- the places that a list of calls leaves, and what it is told
  abbrev pub played : Ghosts J R → ℕ → List (Place J) → List (Call R) → List (Place J)
  played k n ps [] = ps
  played k n ps (c ∷ cs) = played k n (places_after k n ps c) cs

  abbrev pub told : Ghosts J R → ℕ → List (Place J) → List (Call R) → List (Answer R)
  told k n ps [] = []
  told k n ps (c ∷ cs) = answer_at k n ps c ∷ told k n (places_after k n ps c) cs

  -- the table after a list of calls, and its answers
  abbrev pub run : Ghosts J R → Table J → List (Call R) → Table J
  run k t cs = record { number = t.number; places = played k t.number t.places cs }

  abbrev pub answers : Ghosts J R → Table J → List (Call R) → List (Answer R)
  answers k t cs = told k t.number t.places cs

module _ {R : Type 0} where
  -- 1 where a call is accepted, that is not refused
  abbrev pub taken : Answer R → ℕ
  taken Done = 1
  taken (Handed n p) = 1
  taken (Stands s) = 1
  taken (Holds r) = 1
  taken (Shows s) = 1
  taken (Prints o) = 1
  taken (Counts n) = 1
  taken (Refused f) = 0

  -- 1 for an accepted lift, an accepted hang back, an accepted scrap
  abbrev pub lift_of : Call R → Answer R → ℕ
  lift_of (Hang p r) a = 0
  lift_of (Lift p) a = taken a
  lift_of (HangBack n p r) a = 0
  lift_of (Scrap n p) a = 0
  lift_of (AskState p) a = 0
  lift_of (AskJoint p) a = 0
  lift_of (AskSheet p) a = 0
  lift_of (AskFigure p i) a = 0
  lift_of (AskClass c) a = 0

  abbrev pub back_of : Call R → Answer R → ℕ
  back_of (Hang p r) a = 0
  back_of (Lift p) a = 0
  back_of (HangBack n p r) a = taken a
  back_of (Scrap n p) a = 0
  back_of (AskState p) a = 0
  back_of (AskJoint p) a = 0
  back_of (AskSheet p) a = 0
  back_of (AskFigure p i) a = 0
  back_of (AskClass c) a = 0

  abbrev pub scrap_of : Call R → Answer R → ℕ
  scrap_of (Hang p r) a = 0
  scrap_of (Lift p) a = 0
  scrap_of (HangBack n p r) a = 0
  scrap_of (Scrap n p) a = taken a
  scrap_of (AskState p) a = 0
  scrap_of (AskJoint p) a = 0
  scrap_of (AskSheet p) a = 0
  scrap_of (AskFigure p i) a = 0
  scrap_of (AskClass c) a = 0

  -- how many calls of one sort were accepted, of a list of calls with their answers
  abbrev pub accepted : (Call R → Answer R → ℕ) → List (Call R) → List (Answer R) → ℕ
  accepted sort [] given = 0
  accepted sort (c ∷ cs) [] = 0
  accepted sort (c ∷ cs) (a ∷ given) = sort c a + accepted sort cs given
