-- What each call does to the places of a rail, and what it answers.
use Rattle.std.specs.Prelude.{ℕ, ◌+◌, Bool, true, false, cond, ◌&&◌, ◌||◌, List, count_by, Some, None, Ok, Err, Option, Result, ◌==◌, nat_le, nat_lt, slice_get, slice_set, option_map, ok_or}
use Rattle.joint.specs.Sheets.{sheet_of}
use Rattle.joint.specs.declared.fault.JointFault.{JointFault}
use Rattle.joint.specs.declared.kind.Kind.{Ghosts}
use Rattle.joint.specs.declared.sheet.Sheet.{Sheet}
use Rattle.places.specs.declared.fault.RailFault.{RailFault}
use Rattle.places.specs.declared.fault.RailFault.TheVariants.{Joint, NoPlace, WrongState, BadSlip, NoMode}
use Rattle.places.specs.declared.place.Event.{Event}
use Rattle.places.specs.declared.place.Event.TheVariants as event
use Rattle.places.specs.declared.place.Place.{Place}
use Rattle.places.specs.declared.place.Place.TheVariants as place
use Rattle.places.specs.declared.place.State.{State}
use Rattle.places.specs.declared.place.State.TheVariants as state

abbrev pub state_of : {J : Type 0} → Place J → State
state_of place.Empty = state.Empty
state_of (place.Hanging j s) = state.Hanging
state_of place.Lifted = state.Lifted

-- the state that an event leads to, or the fault of a pair that does not fit
abbrev pub turned : State → Event → ℕ → Result State RailFault
turned state.Empty event.Hang p = Ok state.Hanging
turned state.Hanging event.Hang p = Err (WrongState p)
turned state.Lifted event.Hang p = Err (WrongState p)
turned state.Empty event.Lift p = Err (WrongState p)
turned state.Hanging event.Lift p = Ok state.Lifted
turned state.Lifted event.Lift p = Err (WrongState p)
turned state.Empty event.HangBack p = Err (BadSlip p)
turned state.Hanging event.HangBack p = Err (BadSlip p)
turned state.Lifted event.HangBack p = Ok state.Hanging
turned state.Empty event.Scrap p = Err (BadSlip p)
turned state.Hanging event.Scrap p = Err (BadSlip p)
turned state.Lifted event.Scrap p = Ok state.Empty
turned state.Empty event.Ask p = Err (WrongState p)
turned state.Hanging event.Ask p = Ok state.Hanging
turned state.Lifted event.Ask p = Err (WrongState p)

-- the fault of an event at a place that is not there
abbrev pub absent : Event → ℕ → RailFault
absent event.Hang p = NoPlace p
absent event.Lift p = NoPlace p
absent event.HangBack p = BadSlip p
absent event.Scrap p = BadSlip p
absent event.Ask p = NoPlace p

-- the second, unless the first is a fault
abbrev pub then : {A B : Type 0} → Result A RailFault → Result B RailFault → Result B RailFault
then (Ok a) r = r
then (Err f) r = Err f

-- what is made of what is given; a fault stays as it is
abbrev pub giving : {A B : Type 0} → (A → B) → Result A RailFault → Result B RailFault
giving make (Ok x) = Ok (make x)
giving make (Err f) = Err f

-- a slip of another rail's number is refused
abbrev pub own : (number shown p : ℕ) → Result (Unit {0}) RailFault
own number shown p = cond (shown == number) (Ok tt) (Err (BadSlip p))

-- a mode of a kind with so many shear modes, from 1, and tying modes, from 21
abbrev pub known : (shear tying i : ℕ) → Result (Unit {0}) RailFault
known shear tying i = cond ((nat_le 1 i && nat_le i shear) || (nat_le 21 i && nat_lt i (21 + tying))) (Ok tt) (Err (NoMode i))

module _ {J : Type 0} where
  -- the state that an event leads place p to, or the fault, where nothing stands for a place that the rail does not have
  abbrev pub due_of : ℕ → Event → Option (Place J) → Result State RailFault
  due_of p e None = Err (absent e p)
  due_of p e (Some x) = turned (state_of x) e p

  abbrev pub due : List (Place J) → ℕ → Event → Result State RailFault
  due ps p e = due_of p e (slice_get ps p)

  -- what stands in place p after a lift and after a scrap, or the fault
  abbrev pub lift_to : List (Place J) → ℕ → Result (Place J) RailFault
  lift_to ps p = then (due ps p event.Lift) (Ok place.Lifted)

  abbrev pub scrap_to : ℕ → List (Place J) → ℕ → ℕ → Result (Place J) RailFault
  scrap_to number ps shown p = then (own number shown p) (then (due ps p event.Scrap) (Ok place.Empty))

  -- the places after such a call, and what it answers
  abbrev pub put : List (Place J) → ℕ → Result (Place J) RailFault → List (Place J)
  put ps p (Ok x) = slice_set ps p x
  put ps p (Err f) = ps

  abbrev pub done : Result (Place J) RailFault → Result (Unit {0}) RailFault
  done v = giving (λ x. tt) v

  -- the joint of a card that its kind admits; a fault of the joint is carried up whole
  abbrev pub carried : Result J JointFault → Result J RailFault
  carried (Ok j) = Ok j
  carried (Err f) = Err (Joint f)

  -- the joint and the sheet of a hanging place
  abbrev pub card_of : ℕ → Option (Place J) → Result (J × Sheet) RailFault
  card_of p None = Err (NoPlace p)
  card_of p (Some place.Empty) = Err (WrongState p)
  card_of p (Some (place.Hanging j s)) = Ok (j, s)
  card_of p (Some place.Lifted) = Err (WrongState p)

  abbrev pub card_at : List (Place J) → ℕ → Result (J × Sheet) RailFault
  card_at ps p = card_of p (slice_get ps p)

  abbrev pub state_at : List (Place J) → ℕ → Result State RailFault
  state_at ps p = ok_or (option_map state_of (slice_get ps p)) (NoPlace p)

  abbrev pub sheet_at : List (Place J) → ℕ → Result Sheet RailFault
  sheet_at ps p = giving (λ c. c.1) (card_at ps p)

  -- whether the place holds a card of the class
  abbrev pub of_class : ℕ → Place J → Bool
  of_class c place.Empty = false
  of_class c (place.Hanging j s) = s.class == c
  of_class c place.Lifted = false

  -- whether the place is in the state
  abbrev pub in_state : State → Place J → Bool
  in_state state.Empty place.Empty = true
  in_state state.Hanging (place.Hanging j s) = true
  in_state state.Lifted place.Lifted = true
  in_state _ _ = false

  -- how many places hold a card of the class, and how many are in the state
  abbrev pub class_count : ℕ → List (Place J) → ℕ
  class_count c ps = count_by (of_class c) ps

  abbrev pub state_count : State → List (Place J) → ℕ
  state_count s ps = count_by (in_state s) ps

module _ {J R : Type 0} where
  -- the joint that an event puts in with the card that says r, or the fault; in turn that of a hang and of a hang back
  abbrev pub card_to : Ghosts J R → List (Place J) → ℕ → Event → R → Result J RailFault
  card_to k ps p e r = then (due ps p e) (carried (k.admission r))

  abbrev pub hang_to : Ghosts J R → List (Place J) → ℕ → R → Result J RailFault
  hang_to k ps p r = card_to k ps p event.Hang r

  abbrev pub back_to : Ghosts J R → ℕ → List (Place J) → ℕ → ℕ → R → Result J RailFault
  back_to k number ps shown p r = then (own number shown p) (card_to k ps p event.HangBack r)

  -- the places after such a call: the joint with its sheet, whole; and what it answers
  abbrev pub hung : Ghosts J R → List (Place J) → ℕ → Result J RailFault → List (Place J)
  hung k ps p (Ok j) = slice_set ps p (place.Hanging j (sheet_of k j))
  hung k ps p (Err f) = ps

  abbrev pub sheet_told : Ghosts J R → Result J RailFault → Result Sheet RailFault
  sheet_told k v = giving (sheet_of k) v

  -- what the questions answer of the card of a place
  abbrev pub joint_at : Ghosts J R → List (Place J) → ℕ → Result R RailFault
  joint_at k ps p = giving (λ c. k.joint c.0) (card_at ps p)

  abbrev pub figure_in : Ghosts J R → ℕ → Result (J × Sheet) RailFault → Result (Option ℕ) RailFault
  figure_in k i (Ok c) = then (known k.SHEAR_MODES k.TYING_MODES i) (Ok (k.printed c.0 i))
  figure_in k i (Err f) = Err f

  abbrev pub figure_at : Ghosts J R → List (Place J) → ℕ → ℕ → Result (Option ℕ) RailFault
  figure_at k ps p i = figure_in k i (card_at ps p)
