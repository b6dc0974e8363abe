-- Accepted lifts are accepted hang-backs, accepted scraps and the places that are lifted.
use Rattle.std.proofs.Common.{◌≡◌, ℕ, ◌+◌, Bool, true, false, cond, eqb, List, [], ◌∷◌, set, replicate, Some, None, Ok, Err, Option, Result, slice_get, refl, ap, arith}
use Rattle.std.proofs.lemmas.List.Folds.{sum_by-replicate}
use Rattle.std.proofs.lemmas.List.Sums.{sum_by-set}
use Rattle.std.proofs.lemmas.Option.{slice_get_within, get_or_from_slice_get}
use Rattle.joint.specs.Sheets.{sheet_of}
use Rattle.joint.specs.declared.fault.JointFault.{JointFault}
use Rattle.joint.specs.declared.kind.Kind.{Ghosts}
use Rattle.places.specs.Places.{hung, put, done, then, carried, due_of, sheet_told, in_state, state_count}
use Rattle.places.specs.declared.fault.RailFault.{RailFault}
use Rattle.places.specs.declared.place.Event.TheVariants as event
use Rattle.places.specs.declared.place.Place.{Place}
use Rattle.places.specs.declared.place.Place.TheVariants as place
use Rattle.places.specs.declared.place.State.TheVariants as state
use Rattle.rail.specs.declared.call.Answer.TheVariants.{Done, Handed, Shows}
use Rattle.rail.specs.declared.call.Call.{Call}
use Rattle.rail.specs.declared.call.Call.TheVariants.{Hang, Lift, HangBack, Scrap, AskState, AskJoint, AskSheet, AskFigure, AskClass}
use Rattle.rail.specs.Runs.{played, told, accepted, taken, lift_of, back_of, scrap_of}
use Rattle.rail.specs.Steps.{At}
use Rattle.rail.specs.Table.{answer_at, places_after, empties, as_answer}
use Rattle.rail.proofs.InWords.{owned}

module _ {J : Type 0} where
  -- 1 where the place is lifted
  abbrev up : Place J → ℕ
  up x = cond (in_state state.Lifted x) 1 0

  abbrev lifted : List (Place J) → ℕ
  lifted ps = state_count state.Lifted ps

  -- one place is written
  lifted_set : (ps : List (Place J)) (p : ℕ) (x y : Place J) → At ps p y → lifted (set ps p x) + up y ≡ lifted ps + up x
  lifted_set ps p x y e =
      omega (arith, sum_by-set up ps p x y (slice_get_within ps p y e), ap up (get_or_from_slice_get ps p y y e))

none_lifted : (J : Type 0) (n : ℕ) → lifted {J = J} (replicate n place.Empty) ≡ 0
none_lifted J n = omega (arith, sum_by-replicate (up {J = J}) n place.Empty)

module _ {J R : Type 0} (k : Ghosts J R) where
  module _ (ps : List (Place J)) (p : ℕ) where
    -- the four moves: x is what stands in place p, if there is such a place, a what the kind says of the card, and o whether the slip has the rail's number
    hangs : (x : Option (Place J)) (a : Result J JointFault) → slice_get ps p ≡ x →
        lifted (hung k ps p (then (due_of p event.Hang x) (carried a))) ≡ lifted ps
    hangs None a e = refl
    hangs (Some place.Empty) (Ok j) e = omega (arith, lifted_set ps p (place.Hanging j (sheet_of k j)) place.Empty e)
    hangs (Some place.Empty) (Err f) e = refl
    hangs (Some (place.Hanging j s)) a e = refl
    hangs (Some place.Lifted) a e = refl

    lifts : (n : ℕ) (x : Option (Place J)) → slice_get ps p ≡ x →
        let v : Result (Place J) RailFault = then (due_of p event.Lift x) (Ok place.Lifted) in
        taken {R = R} (as_answer (λ u. Handed n p) (done v)) + lifted ps ≡ lifted (put ps p v)
    lifts n None e = omega arith
    lifts n (Some place.Empty) e = omega arith
    lifts n (Some (place.Hanging j s)) e = omega (arith, lifted_set ps p place.Lifted (place.Hanging j s) e)
    lifts n (Some place.Lifted) e = omega arith

    backs : (o : Bool) (x : Option (Place J)) (a : Result J JointFault) → slice_get ps p ≡ x →
        let v : Result J RailFault = then (owned p o) (then (due_of p event.HangBack x) (carried a)) in
        lifted ps ≡ taken {R = R} (as_answer Shows (sheet_told k v)) + lifted (hung k ps p v)
    backs false x a e = omega arith
    backs true None a e = omega arith
    backs true (Some place.Empty) a e = omega arith
    backs true (Some (place.Hanging j s)) a e = omega arith
    backs true (Some place.Lifted) (Ok j) e = omega (arith, lifted_set ps p (place.Hanging j (sheet_of k j)) place.Lifted e)
    backs true (Some place.Lifted) (Err f) e = omega arith

    scraps : (o : Bool) (x : Option (Place J)) → slice_get ps p ≡ x →
        let v : Result (Place J) RailFault = then (owned p o) (then (due_of p event.Scrap x) (Ok place.Empty)) in
        lifted ps ≡ taken {R = R} (as_answer (λ u. Done) (done v)) + lifted (put ps p v)
    scraps false x e = omega arith
    scraps true None e = omega arith
    scraps true (Some place.Empty) e = omega arith
    scraps true (Some (place.Hanging j s)) e = omega arith
    scraps true (Some place.Lifted) e = omega (arith, lifted_set ps p place.Empty place.Lifted e)

  module _ (n : ℕ) where
    one_call : (ps : List (Place J)) (c : Call R) →
        lift_of c (answer_at k n ps c) + lifted ps ≡ back_of c (answer_at k n ps c) + scrap_of c (answer_at k n ps c) + lifted (places_after k n ps c)
    one_call ps (Hang p r) = omega (arith, hangs ps p (slice_get ps p) (k.admission r) refl)
    one_call ps (Lift p) = omega (arith, lifts ps p n (slice_get ps p) refl)
    one_call ps (HangBack m p r) = omega (arith, backs ps p (eqb m n) (slice_get ps p) (k.admission r) refl)
    one_call ps (Scrap m p) = omega (arith, scraps ps p (eqb m n) (slice_get ps p) refl)
    one_call ps (AskState p) = omega arith
    one_call ps (AskJoint p) = omega arith
    one_call ps (AskSheet p) = omega arith
    one_call ps (AskFigure p i) = omega arith
    one_call ps (AskClass c) = omega arith

    all_calls : (ps : List (Place J)) (cs : List (Call R)) →
        accepted lift_of cs (told k n ps cs) + lifted ps ≡ accepted back_of cs (told k n ps cs) + accepted scrap_of cs (told k n ps cs) + lifted (played k n ps cs)
    all_calls ps [] = omega arith
    all_calls ps (c ∷ cs) = omega (arith, one_call ps c, all_calls (places_after k n ps c) cs)

    pub slips_balance : (size : ℕ) (cs : List (Call R)) →
        accepted lift_of cs (told k n (empties size) cs)
        ≡ accepted back_of cs (told k n (empties size) cs) + accepted scrap_of cs (told k n (empties size) cs) + lifted (played k n (empties size) cs)
    slips_balance size cs = omega (arith, all_calls (empties size) cs, none_lifted J size)
