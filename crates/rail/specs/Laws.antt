-- The law over runs: what holds after any list of calls from opening, refused ones included.
use Rattle.std.specs.Prelude.{◌≡◌, ℕ, ◌+◌, true, false, List, Some, None, Ok}
use Rattle.resistance.specs.Expressions.{margin}
use Rattle.joint.specs.Sheets.{judged, QuotedCard}
use Rattle.joint.specs.declared.kind.Kind.{Ghosts}
use Rattle.joint.specs.declared.sheet.Sheet.{Sheet}
use Rattle.places.specs.Places.{state_count}
use Rattle.places.specs.declared.fault.RailFault.TheVariants.{NoMode}
use Rattle.places.specs.declared.place.State.TheVariants as state
use Rattle.rail.specs.declared.call.Answer.TheVariants.{Holds, Shows, Prints, Refused}
use Rattle.rail.specs.declared.call.Call.{Call}
use Rattle.rail.specs.declared.call.Call.TheVariants.{Hang, HangBack, AskState, AskJoint, AskSheet, AskFigure, AskClass}
use Rattle.rail.specs.Runs.{answers, accepted, lift_of, back_of, scrap_of}
use Rattle.rail.specs.Steps.{Mode, Steps}
use Rattle.rail.specs.Table.{Table, answer, after, opened, empties}

-- a question of any sort
pub data Question {R : Type 0} : Call R → Type 0 where
  state_asked : {p : ℕ} → Question (AskState p)
  joint_asked : {p : ℕ} → Question (AskJoint p)
  sheet_asked : {p : ℕ} → Question (AskSheet p)
  figure_asked : {p i : ℕ} → Question (AskFigure p i)
  class_asked : {c : ℕ} → Question (AskClass c)

module _ {J R : Type 0} where
  -- what the figure question answers of place p, whose card says r
  pub record Figured (k : Ghosts J R) (t : Table J) (p : ℕ) (r : R) : Type 0 where
    -- the kind admits what the card says, as this joint
    pub joint : J
    pub admitted : k.admission r ≡ Ok joint
    -- a mode that binds is answered by a figure at or below its exact resistance, and that figure plus the margin is not
    pub bound : (i : ℕ) → Mode k i → k.binding joint i ≡ true →
        (v : ℕ) × (answer k t (AskFigure p i) ≡ Prints (Some v)) × k.at joint i v × (k.at joint i (v + margin) → ⊥)
    -- a mode that does not bind is answered by nothing
    pub unbound : (i : ℕ) → Mode k i → k.binding joint i ≡ false → answer k t (AskFigure p i) ≡ Prints None
    pub no_mode : (i : ℕ) → (Mode k i → ⊥) → answer k t (AskFigure p i) ≡ Refused (NoMode i)

  -- the sheet of a place whose card says r is that card's, and its governing figures may be quoted
  pub record Sheeted (k : Ghosts J R) (r : R) (s : Sheet) : Type 0 where
    pub its_own : judged k r ≡ Ok s
    pub quoted : QuotedCard k r (Ok s)

  -- a call that is answered by a sheet leaves the card r in place p, as the joint question and the sheet question then say
  abbrev pub Kept : Ghosts J R → Table J → Call R → ℕ → R → Type 0
  Kept k t c p r = (s : Sheet) → answer k t c ≡ Shows s → (answer k (after k t c) (AskJoint p) ≡ Holds r) × (answer k (after k t c) (AskSheet p) ≡ Shows s)

  -- of a table t that the list of calls cs has led to, from opening a rail of that number and size
  pub record Law (k : Ghosts J R) (number size : ℕ) (cs : List (Call R)) (t : Table J) : Type 0 where
    -- every call was answered, and left every place, as the table of places says in words
    pub answered_by_the_table : Steps k number (empties size) cs (answers k (opened number size) cs) t.places
    pub questions_change_nothing : (q : Call R) → Question q → after k t q ≡ t
    pub a_hung_card_is_kept : (p : ℕ) (r : R) → Kept k t (Hang p r) p r
    pub a_card_hung_back_is_kept : (n p : ℕ) (r : R) → Kept k t (HangBack n p r) p r
    pub figures_are_safe_and_close : (p : ℕ) (r : R) → answer k t (AskJoint p) ≡ Holds r → Figured k t p r
    pub sheets_may_be_quoted : (p : ℕ) (r : R) (s : Sheet) → answer k t (AskJoint p) ≡ Holds r → answer k t (AskSheet p) ≡ Shows s → Sheeted k r s
    -- accepted lifts are the accepted hang-backs, the accepted scraps and the places that are lifted now
    pub no_slip_is_lost :
        accepted lift_of cs (answers k (opened number size) cs)
        ≡ accepted back_of cs (answers k (opened number size) cs) + accepted scrap_of cs (answers k (opened number size) cs) + state_count state.Lifted t.places
