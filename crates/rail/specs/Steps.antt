-- The table of places in words: every case of a call, with what it answers and the places that it leaves.
use Rattle.std.specs.Prelude.{◌≡◌, ℕ, ◌+◌, ◌<◌, ◌≤◌, ◌⊎◌, List, [], ◌∷◌, length, Some, Ok, Err, ◌≢◌, slice_get}
use Rattle.joint.specs.Sheets.{sheet_of}
use Rattle.joint.specs.declared.fault.JointFault.{JointFault}
use Rattle.joint.specs.declared.kind.Kind.{Ghosts}
use Rattle.joint.specs.declared.sheet.Sheet.{Sheet}
use Rattle.places.specs.Places.{state_of, class_count}
use Rattle.places.specs.declared.fault.RailFault.TheVariants.{Joint, NoPlace, WrongState, BadSlip, NoMode}
use Rattle.places.specs.declared.place.Place.{Place}
use Rattle.places.specs.declared.place.Place.TheVariants as place
use Rattle.places.specs.declared.place.State.{State}
use Rattle.places.specs.declared.place.State.TheVariants as state
use Rattle.rail.specs.declared.call.Answer.{Answer}
use Rattle.rail.specs.declared.call.Answer.TheVariants.{Done, Handed, Stands, Holds, Shows, Prints, Counts, Refused}
use Rattle.rail.specs.declared.call.Call.{Call}
use Rattle.rail.specs.declared.call.Call.TheVariants.{Hang, Lift, HangBack, Scrap, AskState, AskJoint, AskSheet, AskFigure, AskClass}

-- a shear mode, from 1, or a tying mode, from 21
abbrev pub Mode : {J R : Type 0} → Ghosts J R → ℕ → Type 0
Mode k i = ((1 ≤ i) × (i ≤ k.SHEAR_MODES)) ⊎ ((21 ≤ i) × (i < 21 + k.TYING_MODES))

module _ {J : Type 0} where
  -- there is a place p, and x stands in it
  abbrev pub At : List (Place J) → ℕ → Place J → Type 0
  At ps p x = slice_get ps p ≡ Some x

  -- there is a place p, and it is in another state
  abbrev pub NotIn : List (Place J) → ℕ → State → Type 0
  NotIn ps p s = (x : Place J) × At ps p x × (state_of x ≢ s)

  -- a slip of the number m and the place p is good on the rail of the number n: the number is the rail's and the place is lifted
  abbrev pub Good : ℕ → List (Place J) → ℕ → ℕ → Type 0
  Good n ps m p = (m ≡ n) × At ps p place.Lifted

  -- x stands in place p now, and every other place is as it was
  pub record Changed (ps : List (Place J)) (p : ℕ) (x : Place J) (qs : List (Place J)) : Type 0 where
    pub here : At qs p x
    pub as_many : length qs ≡ length ps
    pub elsewhere : (i : ℕ) → (i ≢ p) → slice_get qs i ≡ slice_get ps i

-- a question for the joint, the sheet or a figure of place p
pub data Asks {R : Type 0} (p : ℕ) : Call R → Type 0 where
  for_joint : Asks p (AskJoint p)
  for_sheet : Asks p (AskSheet p)
  for_figure : (i : ℕ) → Asks p (AskFigure p i)

-- on the rail of the number n, whose places are ps, the call is answered so and leaves these places
pub data Step {J R : Type 0} (k : Ghosts J R) (n : ℕ) (ps : List (Place J)) : Call R → Answer R → List (Place J) → Type 0 where
  -- a card is hung on an empty place: the place then holds its joint with its sheet
  hang : {p : ℕ} {r : R} {j : J} {qs : List (Place J)} →
      At ps p place.Empty → k.admission r ≡ Ok j → Changed ps p (place.Hanging j (sheet_of k j)) qs → Step k n ps (Hang p r) (Shows (sheet_of k j)) qs
  hang_nowhere : {p : ℕ} {r : R} → length ps ≤ p → Step k n ps (Hang p r) (Refused (NoPlace p)) ps
  hang_not_empty : {p : ℕ} {r : R} → NotIn ps p state.Empty → Step k n ps (Hang p r) (Refused (WrongState p)) ps
  hang_not_admitted : {p : ℕ} {r : R} {f : JointFault} →
      At ps p place.Empty → k.admission r ≡ Err f → Step k n ps (Hang p r) (Refused (Joint f)) ps
  -- a hanging card is lifted against a slip of this rail's number and its place
  lift : {p : ℕ} {j : J} {s : Sheet} {qs : List (Place J)} →
      At ps p (place.Hanging j s) → Changed ps p place.Lifted qs → Step k n ps (Lift p) (Handed n p) qs
  lift_nowhere : {p : ℕ} → length ps ≤ p → Step k n ps (Lift p) (Refused (NoPlace p)) ps
  lift_not_hanging : {p : ℕ} → NotIn ps p state.Hanging → Step k n ps (Lift p) (Refused (WrongState p)) ps
  -- a card is hung back on the place of a good slip: joint and sheet are the new card's, whole
  hang_back : {m p : ℕ} {r : R} {j : J} {qs : List (Place J)} →
      Good n ps m p → k.admission r ≡ Ok j → Changed ps p (place.Hanging j (sheet_of k j)) qs → Step k n ps (HangBack m p r) (Shows (sheet_of k j)) qs
  hang_back_bad_slip : {m p : ℕ} {r : R} → (Good n ps m p → ⊥) → Step k n ps (HangBack m p r) (Refused (BadSlip p)) ps
  hang_back_not_admitted : {m p : ℕ} {r : R} {f : JointFault} →
      Good n ps m p → k.admission r ≡ Err f → Step k n ps (HangBack m p r) (Refused (Joint f)) ps
  -- the place of a good slip is emptied
  scrap : {m p : ℕ} {qs : List (Place J)} → Good n ps m p → Changed ps p place.Empty qs → Step k n ps (Scrap m p) Done qs
  scrap_bad_slip : {m p : ℕ} → (Good n ps m p → ⊥) → Step k n ps (Scrap m p) (Refused (BadSlip p)) ps
  -- the questions
  ask_state : {p : ℕ} {x : Place J} → At ps p x → Step k n ps (AskState p) (Stands (state_of x)) ps
  ask_state_nowhere : {p : ℕ} → length ps ≤ p → Step k n ps (AskState p) (Refused (NoPlace p)) ps
  ask_joint : {p : ℕ} {j : J} {s : Sheet} → At ps p (place.Hanging j s) → Step k n ps (AskJoint p) (Holds (k.joint j)) ps
  ask_sheet : {p : ℕ} {j : J} {s : Sheet} → At ps p (place.Hanging j s) → Step k n ps (AskSheet p) (Shows s) ps
  ask_figure : {p i : ℕ} {j : J} {s : Sheet} →
      At ps p (place.Hanging j s) → Mode k i → Step k n ps (AskFigure p i) (Prints (k.printed j i)) ps
  ask_no_mode : {p i : ℕ} {j : J} {s : Sheet} →
      At ps p (place.Hanging j s) → (Mode k i → ⊥) → Step k n ps (AskFigure p i) (Refused (NoMode i)) ps
  ask_nowhere : {p : ℕ} {c : Call R} → Asks p c → length ps ≤ p → Step k n ps c (Refused (NoPlace p)) ps
  ask_not_hanging : {p : ℕ} {c : Call R} → Asks p c → NotIn ps p state.Hanging → Step k n ps c (Refused (WrongState p)) ps
  ask_class : {c : ℕ} → Step k n ps (AskClass c) (Counts (class_count c ps)) ps

-- a list of calls, made in turn from the places ps, is answered so and leaves the last places
pub data Steps {J R : Type 0} (k : Ghosts J R) (n : ℕ) : List (Place J) → List (Call R) → List (Answer R) → List (Place J) → Type 0 where
  none : {ps : List (Place J)} → Steps k n ps [] [] ps
  next : {c : Call R} {cs : List (Call R)} {a : Answer R} {given : List (Answer R)} {ps qs rs : List (Place J)} →
      Step k n ps c a qs → Steps k n qs cs given rs → Steps k n ps (c ∷ cs) (a ∷ given) rs
