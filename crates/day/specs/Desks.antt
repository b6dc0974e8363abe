-- A desk from one time of the day to another.
use Rattle.std.specs.Prelude.{◌≡◌, List, ◌∷◌, ◌++◌, Result, vec_items, vec_len}
use Rattle.joint.specs.declared.kind.Kind.{Ghosts}
use Rattle.places.specs.Places.{state_count}
use Rattle.places.specs.declared.fault.RailFault.{RailFault}
use Rattle.places.specs.declared.place.State.TheVariants as state
use Rattle.rail.specs.Model.{table_of}
use Rattle.rail.specs.Table.{Table, answer, after, as_answer}
use Rattle.rail.specs.declared.call.Answer.{Answer}
use Rattle.rail.specs.declared.call.Call.{Call}
use Rattle.rail.specs.declared.call.Call.TheVariants.{HangBack}
use Rattle.rail.specs.declared.slip.Slip.{Slip}
use Rattle.day.specs.Days.{Stretch}
use Rattle.day.specs.declared.desk.Closed.{Closed}
use Rattle.day.specs.declared.desk.Desk.{Desk}
use Rattle.day.specs.declared.desk.Entry.{Entry}

module _ {J R : Type 0} where
  -- the calls that were made on its rail are noted in its log, with the answers of the table of places
  abbrev pub Went : Ghosts J R → Desk J R → Desk J R → Type 0
  Went k d e = Stretch k (table_of d.rail) (vec_items d.log) (table_of e.rail) (vec_items e.log)

  -- the call was made on its rail, which answers it and stands after it as the table of places says; it is not noted yet
  pub record Called (k : Ghosts J R) (d : Desk J R) (c : Call R) (r : Result (Answer R) RailFault) (e : Desk J R) : Type 0 where
    pub answered : as_answer (λ a. a) r ≡ answer k (table_of d.rail) c
    pub stands : table_of e.rail ≡ after k (table_of d.rail) c
    pub log : e.log ≡ d.log

  -- the card was hung back by the slip, and that is noted first
  pub record HungBack (k : Ghosts J R) (d : Desk J R) (s : Slip) (card : R) (e : Desk J R) : Type 0 where
    pub rest : List (Entry R)
    pub first : vec_items e.log ≡ vec_items d.log ++ (record { call = HangBack s.number s.place card; answer = answer k (table_of d.rail) (HangBack s.number s.place card) } ∷ rest)

  -- no call was made, no slip was taken or kept, and nothing was noted
  pub record Unchanged (d e : Desk J R) : Type 0 where
    pub rail : table_of e.rail ≡ table_of d.rail
    pub kept : vec_items e.kept ≡ vec_items d.kept
    pub log : vec_items e.log ≡ vec_items d.log

  -- the day of a desk has ended by calls that are noted from `ended` on, and the standing counts the places that they left
  pub record Ended (k : Ghosts J R) (d : Desk J R) (c : Closed R) : Type 0 where
    pub table : Table J
    pub stretch : Stretch k (table_of d.rail) (vec_items d.log) table (vec_items c.log)
    pub ended : c.ended ≡ vec_len d.log
    pub hanging : c.standing.hanging ≡ state_count state.Hanging table.places
    pub lifted : c.standing.lifted ≡ state_count state.Lifted table.places
