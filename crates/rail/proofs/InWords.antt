-- The table of places does what the table in words says.
use Rattle.std.proofs.Common.{◌≡◌, ℕ, ◌+◌, ◌≤◌, Bool, true, false, cond, ◌&&◌, ◌||◌, eqb, ltb, leb, List, [], ◌∷◌, length, set, Some, None, Ok, Err, Option, Result, slice_get, option_map, ok_or, sym, refl, ◌∙◌, arith, length-set}
use Rattle.std.proofs.lemmas.Bool.{eqb-true, eqb-false}
use Rattle.std.proofs.lemmas.Bool.Decides.{nat_tests}
use Rattle.std.proofs.lemmas.Grind.{common_steps}
use Rattle.std.proofs.lemmas.Option.{gets}
use Rattle.joint.specs.Sheets.{sheet_of}
use Rattle.joint.specs.declared.fault.JointFault.{JointFault}
use Rattle.joint.specs.declared.kind.Kind.{Ghosts}
use Rattle.joint.specs.declared.sheet.Sheet.{Sheet}
use Rattle.places.specs.Places.{hung, put, done, then, carried, due_of, state_of, sheet_told, known, card_of, giving, figure_in}
use Rattle.places.specs.declared.fault.RailFault.{RailFault}
use Rattle.places.specs.declared.fault.RailFault.TheVariants.{BadSlip, NoPlace, WrongState, NoMode}
use Rattle.places.specs.declared.place.Event.TheVariants as event
use Rattle.places.specs.declared.place.Place.{Place}
use Rattle.places.specs.declared.place.Place.TheVariants as place
use Rattle.places.specs.declared.place.State.TheVariants as state
use Rattle.rail.specs.declared.call.Answer.TheVariants.{Done, Handed, Stands, Holds, Shows, Prints, Refused}
use Rattle.rail.specs.declared.call.Call.{Call}
use Rattle.rail.specs.declared.call.Call.TheVariants.{Hang, Lift, HangBack, Scrap, AskState, AskJoint, AskSheet, AskFigure, AskClass}
use Rattle.rail.specs.Runs.{played, told}
use Rattle.rail.specs.Steps.{Mode, At, Good, Changed, Asks, for_joint, for_sheet, for_figure, Step, Steps}
use Rattle.rail.specs.Steps.{hang, hang_nowhere, hang_not_empty, hang_not_admitted, lift, lift_nowhere, lift_not_hanging, hang_back, hang_back_bad_slip, hang_back_not_admitted, scrap, scrap_bad_slip}
use Rattle.rail.specs.Steps.{ask_state, ask_state_nowhere, ask_joint, ask_sheet, ask_figure, ask_no_mode, ask_nowhere, ask_not_hanging, ask_class, none, next}
use Rattle.rail.specs.Table.{answer_at, places_after, as_answer}

-- a slip of the rail's number, or not
abbrev pub owned : ℕ → Bool → Result (Unit {0}) RailFault
owned p o = cond o (Ok tt) (Err (BadSlip p))

-- a mode of the kind, or not, and the test of its number
abbrev listed : ℕ → Bool → Result (Unit {0}) RailFault
listed i y = cond y (Ok tt) (Err (NoMode i))

abbrev mode_test : ℕ → ℕ → ℕ → Bool
mode_test shear tying i = (leb 1 i && leb i shear) || (leb 21 i && ltb i (21 + tying))

module _ {J R : Type 0} (k : Ghosts J R) (i : ℕ) where
  is_mode : mode_test k.SHEAR_MODES k.TYING_MODES i ≡ true → Mode k i
  is_mode e = grind (arith, nat_tests)

  no_mode : mode_test k.SHEAR_MODES k.TYING_MODES i ≡ false → Mode k i → ⊥
  no_mode e m = grind (arith, nat_tests)

  pub mode_known : Mode k i → known k.SHEAR_MODES k.TYING_MODES i ≡ Ok tt
  mode_known m = grind (arith, nat_tests)

  pub mode_unknown : (Mode k i → ⊥) → known k.SHEAR_MODES k.TYING_MODES i ≡ Err (NoMode i)
  mode_unknown ne = grind (arith, nat_tests)

module _ {J : Type 0} where
  past : (ps : List (Place J)) (p : ℕ) → slice_get ps p ≡ None → length ps ≤ p
  past ps p e = grind (arith, common_steps, gets)

  pub set_here : (ps : List (Place J)) (p : ℕ) (x y : Place J) → At ps p y → At (set ps p x) p x
  set_here ps p x y e = grind (arith, common_steps, gets)

  set_elsewhere : (ps : List (Place J)) (p : ℕ) (x : Place J) (i : ℕ) → (i ≡ p → ⊥) → slice_get (set ps p x) i ≡ slice_get ps i
  set_elsewhere ps p x i ne = grind (arith, common_steps, gets)

  changed : (ps : List (Place J)) (p : ℕ) (x y : Place J) → At ps p y → Changed ps p x (set ps p x)
  changed ps p x y e = record { here = set_here ps p x y e; as_many = length-set ps p x; elsewhere = set_elsewhere ps p x }

-- in what follows x is what stands in place p, if there is such a place, a what the kind says of the card, and o whether the slip has the rail's number
module _ {J R : Type 0} (k : Ghosts J R) (n : ℕ) (ps : List (Place J)) (p : ℕ) where
  abbrev Here : Option (Place J) → Type 0
  Here x = slice_get ps p ≡ x

  -- a slip is bad where the place is absent or in another state
  other_slip : (m : ℕ) (x : Option (Place J)) → Here x → (x ≡ Some place.Lifted → ⊥) → Good n ps m p → ⊥
  other_slip m x e ne g = ne (sym e ∙ g.1)

  hang_step : (r : R) (x : Option (Place J)) (a : Result J JointFault) → Here x → k.admission r ≡ a →
      let v : Result J RailFault = then (due_of p event.Hang x) (carried a) in
      Step k n ps (Hang p r) (as_answer Shows (sheet_told k v)) (hung k ps p v)
  hang_step r None a e h = hang_nowhere (past ps p e)
  hang_step r (Some place.Empty) (Ok j) e h = hang e h (changed ps p (place.Hanging j (sheet_of k j)) place.Empty e)
  hang_step r (Some place.Empty) (Err f) e h = hang_not_admitted e h
  hang_step r (Some (place.Hanging j s)) a e h = hang_not_empty (place.Hanging j s, e, λ w. cc)
  hang_step r (Some place.Lifted) a e h = hang_not_empty (place.Lifted, e, λ w. cc)

  lift_step : (x : Option (Place J)) → Here x →
      let v : Result (Place J) RailFault = then (due_of p event.Lift x) (Ok place.Lifted) in
      Step k n ps (Lift p) (as_answer (λ u. Handed n p) (done v)) (put ps p v)
  lift_step None e = lift_nowhere (past ps p e)
  lift_step (Some place.Empty) e = lift_not_hanging (place.Empty, e, λ w. cc)
  lift_step (Some (place.Hanging j s)) e = lift e (changed ps p place.Lifted (place.Hanging j s) e)
  lift_step (Some place.Lifted) e = lift_not_hanging (place.Lifted, e, λ w. cc)

  back_step : (m : ℕ) (r : R) (o : Bool) (x : Option (Place J)) (a : Result J JointFault) → eqb m n ≡ o → Here x → k.admission r ≡ a →
      let v : Result J RailFault = then (owned p o) (then (due_of p event.HangBack x) (carried a)) in
      Step k n ps (HangBack m p r) (as_answer Shows (sheet_told k v)) (hung k ps p v)
  back_step m r false x a w e h = hang_back_bad_slip (λ g. eqb-false m n w g.0)
  back_step m r true None a w e h = hang_back_bad_slip (other_slip m None e (λ z. cc))
  back_step m r true (Some place.Empty) a w e h = hang_back_bad_slip (other_slip m (Some place.Empty) e (λ z. cc))
  back_step m r true (Some (place.Hanging j s)) a w e h = hang_back_bad_slip (other_slip m (Some (place.Hanging j s)) e (λ z. cc))
  back_step m r true (Some place.Lifted) (Ok j) w e h =
      hang_back (eqb-true m n w, e) h (changed ps p (place.Hanging j (sheet_of k j)) place.Lifted e)
  back_step m r true (Some place.Lifted) (Err f) w e h = hang_back_not_admitted (eqb-true m n w, e) h

  scrap_step : (m : ℕ) (o : Bool) (x : Option (Place J)) → eqb m n ≡ o → Here x →
      let v : Result (Place J) RailFault = then (owned p o) (then (due_of p event.Scrap x) (Ok place.Empty)) in
      Step k n ps (Scrap m p) (as_answer (λ u. Done) (done v)) (put ps p v)
  scrap_step m false x w e = scrap_bad_slip (λ g. eqb-false m n w g.0)
  scrap_step m true None w e = scrap_bad_slip (other_slip m None e (λ z. cc))
  scrap_step m true (Some place.Empty) w e = scrap_bad_slip (other_slip m (Some place.Empty) e (λ z. cc))
  scrap_step m true (Some (place.Hanging j s)) w e = scrap_bad_slip (other_slip m (Some (place.Hanging j s)) e (λ z. cc))
  scrap_step m true (Some place.Lifted) w e = scrap (eqb-true m n w, e) (changed ps p place.Empty place.Lifted e)

  state_step : (x : Option (Place J)) → Here x → Step k n ps (AskState p) (as_answer Stands (ok_or (option_map state_of x) (NoPlace p))) ps
  state_step None e = ask_state_nowhere (past ps p e)
  state_step (Some x) e = ask_state e

  -- a question for the card of a place that is not there, or does not hang
  not_hanging : (c : Call R) (x : Place J) → Asks p c → Here (Some x) → (state_of x ≡ state.Hanging → ⊥) → Step k n ps c (Refused (WrongState p)) ps
  not_hanging c x a e ne = ask_not_hanging a (x, e, ne)

  joint_step : (x : Option (Place J)) → Here x → Step k n ps (AskJoint p) (as_answer Holds (giving (λ c. k.joint c.0) (card_of p x))) ps
  joint_step None e = ask_nowhere for_joint (past ps p e)
  joint_step (Some place.Empty) e = not_hanging (AskJoint p) place.Empty for_joint e (λ w. cc)
  joint_step (Some (place.Hanging j s)) e = ask_joint e
  joint_step (Some place.Lifted) e = not_hanging (AskJoint p) place.Lifted for_joint e (λ w. cc)

  sheet_step : (x : Option (Place J)) → Here x → Step k n ps (AskSheet p) (as_answer Shows (giving (λ c. c.1) (card_of p x))) ps
  sheet_step None e = ask_nowhere for_sheet (past ps p e)
  sheet_step (Some place.Empty) e = not_hanging (AskSheet p) place.Empty for_sheet e (λ w. cc)
  sheet_step (Some (place.Hanging j s)) e = ask_sheet e
  sheet_step (Some place.Lifted) e = not_hanging (AskSheet p) place.Lifted for_sheet e (λ w. cc)

  -- the mode of a card that hangs; y says whether the kind has it
  mode_step : (i : ℕ) (j : J) (s : Sheet) (y : Bool) → At ps p (place.Hanging j s) → mode_test k.SHEAR_MODES k.TYING_MODES i ≡ y →
      Step k n ps (AskFigure p i) (as_answer Prints (then (listed i y) (Ok (k.printed j i)))) ps
  mode_step i j s true at e = ask_figure at (is_mode k i e)
  mode_step i j s false at e = ask_no_mode at (no_mode k i e)

  figure_step : (i : ℕ) (x : Option (Place J)) → Here x → Step k n ps (AskFigure p i) (as_answer Prints (figure_in k i (card_of p x))) ps
  figure_step i None e = ask_nowhere (for_figure i) (past ps p e)
  figure_step i (Some place.Empty) e = not_hanging (AskFigure p i) place.Empty (for_figure i) e (λ w. cc)
  figure_step i (Some (place.Hanging j s)) e = mode_step i j s (mode_test k.SHEAR_MODES k.TYING_MODES i) e refl
  figure_step i (Some place.Lifted) e = not_hanging (AskFigure p i) place.Lifted (for_figure i) e (λ w. cc)

module _ {J R : Type 0} (k : Ghosts J R) (n : ℕ) where
  step : (ps : List (Place J)) (c : Call R) → Step k n ps c (answer_at k n ps c) (places_after k n ps c)
  step ps (Hang p r) = hang_step k n ps p r (slice_get ps p) (k.admission r) refl refl
  step ps (Lift p) = lift_step k n ps p (slice_get ps p) refl
  step ps (HangBack m p r) = back_step k n ps p m r (eqb m n) (slice_get ps p) (k.admission r) refl refl refl
  step ps (Scrap m p) = scrap_step k n ps p m (eqb m n) (slice_get ps p) refl refl
  step ps (AskState p) = state_step k n ps p (slice_get ps p) refl
  step ps (AskJoint p) = joint_step k n ps p (slice_get ps p) refl
  step ps (AskSheet p) = sheet_step k n ps p (slice_get ps p) refl
  step ps (AskFigure p i) = figure_step k n ps p i (slice_get ps p) refl
  step ps (AskClass c) = ask_class

  pub steps : (ps : List (Place J)) (cs : List (Call R)) → Steps k n ps cs (told k n ps cs) (played k n ps cs)
  steps ps [] = none
  steps ps (c ∷ cs) = next (step ps c) (steps (places_after k n ps c) cs)
