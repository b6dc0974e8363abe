-- A day at the desk: what becomes of an order, and the day's log.
use Rattle.std.specs.Prelude.{◌≡◌, ℕ, ◌<◌, ◌≤◌, List, ◌++◌, length, map, ◌≢◌, slice_index_or, IfOk}
use Rattle.joint.specs.declared.kind.Kind.{Ghosts}
use Rattle.places.specs.Places.{card_at}
use Rattle.rail.specs.Runs.{run, answers}
use Rattle.rail.specs.Table.{Table, answer, after}
use Rattle.rail.specs.declared.call.Answer.{Answer}
use Rattle.rail.specs.declared.call.Call.{Call}
use Rattle.rail.specs.declared.call.Call.TheVariants as call
use Rattle.day.specs.declared.desk.Entry.{Entry}
use Rattle.day.specs.declared.desk.Kept.{Kept}
use Rattle.day.specs.declared.desk.Outcome.{Outcome}
use Rattle.day.specs.declared.desk.Outcome.TheVariants.{Made, NoSlip, NoClass}
use Rattle.day.specs.declared.order.Order.{Order}
use Rattle.day.specs.declared.order.Order.TheVariants.{Hang, Lift, Back, Scrap, State, Sheet, Figure, Class}

module _ {R : Type 0} where
  -- the call of an order; a slip is one that is kept for the order's place
  abbrev pub CallOf : Order R → Call R → Type 0
  CallOf (Hang p r) c = c ≡ call.Hang p r
  CallOf (Lift p) c = c ≡ call.Lift p
  CallOf (Back p r) c = (n : ℕ) × (c ≡ call.HangBack n p r)
  CallOf (Scrap p) c = (n : ℕ) × (c ≡ call.Scrap n p)
  CallOf (State p) c = c ≡ call.AskState p
  CallOf (Sheet p) c = c ≡ call.AskSheet p
  CallOf (Figure p i) c = c ≡ call.AskFigure p i
  CallOf (Class n) c = c ≡ call.AskClass n

  -- no slip that is kept is for place p
  abbrev pub NoneFor : List (Kept R) → ℕ → Type 0
  NoneFor ks p = (i : ℕ) (x : Kept R) → i < length ks → x ≡ slice_index_or ks i x → x.slip.place ≢ p

  -- an order by a slip of place p
  abbrev pub BySlip : Order R → ℕ → Type 0
  BySlip (Hang p r) q = ⊥
  BySlip (Lift p) q = ⊥
  BySlip (Back p r) q = p ≡ q
  BySlip (Scrap p) q = p ≡ q
  BySlip (State p) q = ⊥
  BySlip (Sheet p) q = ⊥
  BySlip (Figure p i) q = ⊥
  BySlip (Class n) q = ⊥

  -- the order comes to a call: a slip is kept for its place, where it goes by one, and there is its class
  pub record ComesToCall (ks : List (Kept R)) (o : Order R) : Type 0 where
    pub by_slip : (p : ℕ) → BySlip o p → NoneFor ks p → ⊥
    pub by_class : (n : ℕ) → o ≡ Class n → n < 256

-- the calls of a log, and what was answered to them
module _ {R : Type 0} where
  abbrev pub calls_of : List (Entry R) → List (Call R)
  calls_of = map (λ e. e.call)

  abbrev pub answers_of : List (Entry R) → List (Answer R)
  answers_of = map (λ e. e.answer)

module _ {J R : Type 0} where
  -- of `room` places for slips, `kept` are taken: there is one more for the slip that an order hands out, which only the lift of a hanging card does
  abbrev pub SlipRoom : Table J → Order R → (kept room : ℕ) → Type 0
  SlipRoom t (Hang p r) kept room = Unit {0}
  SlipRoom t (Lift p) kept room = IfOk (card_at t.places p) (λ _. kept < room)
  SlipRoom t (Back p r) kept room = Unit {0}
  SlipRoom t (Scrap p) kept room = Unit {0}
  SlipRoom t (State p) kept room = Unit {0}
  SlipRoom t (Sheet p) kept room = Unit {0}
  SlipRoom t (Figure p i) kept room = Unit {0}
  SlipRoom t (Class n) kept room = Unit {0}

  -- at a desk that keeps the slips ks, the order leads the table t to u: a call is the order's, and is answered and leaves the rail as the table says; where none is made the rail is as it was
  abbrev pub Carried : Ghosts J R → Table J → List (Kept R) → Order R → Outcome R → Table J → Type 0
  Carried k t ks o (Made e) u = CallOf o e.call × (e.answer ≡ answer k t e.call) × (u ≡ after k t e.call)
  Carried k t ks o (NoSlip p) u = BySlip o p × NoneFor ks p × (u ≡ t)
  Carried k t ks o (NoClass n) u = (o ≡ Class n) × (256 ≤ n) × (u ≡ t)

  -- a stretch of a day: calls that lead the table t to u and are noted with the table's answers, behind what the log had
  pub record Stretch (k : Ghosts J R) (t : Table J) (log : List (Entry R)) (u : Table J) (longer : List (Entry R)) : Type 0 where
    pub noted : List (Entry R)
    pub logged : longer ≡ log ++ noted
    pub answered : answers_of noted ≡ answers k t (calls_of noted)
    pub stands : u ≡ run k t (calls_of noted)
