-- The lines of a day's account: a call and what was answered to it.
use Rattle.std.specs.Prelude.{ℕ, List, ◌++◌, Some, None, codes, decimal}
use Rattle.joint.specs.Sheets.{or_nobody}
use Rattle.joint.specs.declared.fault.FaultCode.{FaultCode}
use Rattle.joint.specs.declared.sheet.Sheet.{Sheet}
use Rattle.places.specs.Codes.{rail_code}
use Rattle.places.specs.declared.place.State.{State}
use Rattle.places.specs.declared.place.State.TheVariants as state
use Rattle.rail.specs.declared.call.Answer.{Answer}
use Rattle.rail.specs.declared.call.Answer.TheVariants as answer
use Rattle.rail.specs.declared.call.Call.{Call}
use Rattle.rail.specs.declared.call.Call.TheVariants as call
use Rattle.day.specs.DayRails.{rail_number}
use Rattle.day.specs.declared.desk.Entry.{Entry}
use Rattle.day.specs.declared.desk.Outcome.{Outcome}
use Rattle.day.specs.declared.desk.Outcome.TheVariants.{Made, NoSlip, NoClass}
use Rattle.day.specs.declared.desks.DayRail.{DayRail}

-- a slip: its rail number and its place
abbrev pub slip_text : ℕ → ℕ → List ℕ
slip_text n p = codes "slip " ++ (decimal n ++ (codes "/" ++ decimal p))

-- the sheet in one line, with 0 for the tying where none governs
abbrev pub sheet_text : Sheet → List ℕ
sheet_text s =
    codes "shear=" ++ (decimal s.shear.figure ++ (codes " mode=" ++ (decimal s.shear.mode
    ++ (codes " tie=" ++ (decimal (or_nobody s.tying).figure ++ (codes " tiemode=" ++ (decimal (or_nobody s.tying).mode
    ++ (codes " class=" ++ (decimal s.class ++ (codes " unmet=" ++ (decimal s.unmet ++ (codes " count=" ++ decimal s.count))))))))))))

-- a refusal, by the three numbers of its fault
abbrev pub fault_text : FaultCode → List ℕ
fault_text c = codes "refused layer=" ++ (decimal c.layer ++ (codes " fault=" ++ (decimal c.number ++ (codes " at=" ++ decimal c.at))))

-- how a place stands
abbrev pub state_text : State → List ℕ
state_text state.Empty = codes "empty"
state_text state.Hanging = codes "hanging"
state_text state.Lifted = codes "lifted"

module _ {R : Type 0} where
  -- a call, without its card
  abbrev pub call_text : Call R → List ℕ
  call_text (call.Hang p r) = codes "hang " ++ decimal p
  call_text (call.Lift p) = codes "lift " ++ decimal p
  call_text (call.HangBack n p r) = codes "hang back by " ++ slip_text n p
  call_text (call.Scrap n p) = codes "scrap by " ++ slip_text n p
  call_text (call.AskState p) = codes "state of " ++ decimal p
  call_text (call.AskJoint p) = codes "joint of " ++ decimal p
  call_text (call.AskSheet p) = codes "sheet of " ++ decimal p
  call_text (call.AskFigure p i) = codes "figure of " ++ (decimal p ++ (codes ", mode " ++ decimal i))
  call_text (call.AskClass n) = codes "cards of class " ++ decimal n

  abbrev pub answer_text : Answer R → List ℕ
  answer_text answer.Done = codes "done"
  answer_text (answer.Handed n p) = slip_text n p
  answer_text (answer.Stands s) = state_text s
  answer_text (answer.Holds r) = codes "a card"
  answer_text (answer.Shows s) = sheet_text s
  answer_text (answer.Prints (Some f)) = decimal f
  answer_text (answer.Prints None) = codes "does not bind"
  answer_text (answer.Counts n) = decimal n
  answer_text (answer.Refused f) = fault_text (rail_code f)

  -- a call and its answer
  abbrev pub entry_text : Entry R → List ℕ
  entry_text e = call_text e.call ++ (codes ": " ++ answer_text e.answer)

  -- what became of an order
  abbrev pub outcome_text : Outcome R → List ℕ
  outcome_text (Made e) = entry_text e
  outcome_text (NoSlip p) = codes "no slip is kept for " ++ decimal p
  outcome_text (NoClass n) = codes "there is no class " ++ decimal n

-- a rail shows as its number
abbrev pub rail_text : DayRail → List ℕ
rail_text r = decimal (rail_number r)

-- whatever the number that no rail has
abbrev pub no_rail_text : List ℕ
no_rail_text = codes "there is no such rail"
