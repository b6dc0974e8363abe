-- What stands on a hanging place after any list of calls, and so the law.
use Rattle.std.proofs.Common.{◌≡◌, ℕ, All, List, [], ◌∷◌, Some, None, Ok, Err, Option, Result, slice_get, sym, refl, ap, ◌∙◌, subst}
use Rattle.std.proofs.lemmas.List.Elements.{All-replicate, All-set, All-get_or}
use Rattle.std.proofs.lemmas.Option.{slice_get_within, get_or_from_slice_get}
use Rattle.joint.specs.Meaning.{Meaning}
use Rattle.joint.specs.Sheets.{sheet_of, sheet_if, Quoted}
use Rattle.joint.specs.declared.fault.JointFault.{JointFault}
use Rattle.joint.specs.declared.kind.Kind.{Ghosts}
use Rattle.joint.specs.declared.sheet.Sheet.{Sheet}
use Rattle.joint.proofs.Quotes.{sheet_quoted}
use Rattle.places.specs.Places.{hung, put, then, carried, due, due_of, own, known, sheet_told, card_to, hang_to, back_to, card_of, giving, figure_in, joint_at, sheet_at}
use Rattle.places.specs.declared.fault.RailFault.{RailFault}
use Rattle.places.specs.declared.fault.RailFault.TheVariants.{NoMode}
use Rattle.places.specs.declared.place.Event.{Event}
use Rattle.places.specs.declared.place.Event.TheVariants as event
use Rattle.places.specs.declared.place.Place.{Place}
use Rattle.places.specs.declared.place.Place.TheVariants as place
use Rattle.rail.specs.declared.call.Answer.TheVariants.{Holds, Shows, Prints}
use Rattle.rail.specs.declared.call.Call.{Call}
use Rattle.rail.specs.declared.call.Call.TheVariants.{Hang, Lift, HangBack, Scrap, AskState, AskJoint, AskSheet, AskFigure, AskClass}
use Rattle.rail.specs.Laws.{Figured, Sheeted, Law, Question}
use Rattle.rail.specs.Laws.{state_asked, joint_asked, sheet_asked, figure_asked, class_asked}
use Rattle.rail.specs.Runs.{played, run}
use Rattle.rail.specs.Steps.{At}
use Rattle.rail.specs.Table.{Table, answer, after, places_after, opened, empties, as_answer}
use Rattle.rail.proofs.InWords.{mode_known, mode_unknown, set_here, steps}
use Rattle.rail.proofs.Slips.{slips_balance}

module _ {J R : Type 0} (k : Ghosts J R) where
  -- a place that is hanging holds the sheet of its joint
  abbrev Fine : Place J → Type 0
  Fine place.Empty = Unit {0}
  Fine (place.Hanging j s) = s ≡ sheet_of k j
  Fine place.Lifted = Unit {0}

  fine_at : (ps : List (Place J)) (p : ℕ) (x : Place J) → At ps p x → All Fine ps → Fine x
  fine_at ps p x e g = subst Fine (get_or_from_slice_get ps p x x e) (All-get_or Fine ps p x (slice_get_within ps p x e) g)

  fine_hung : (ps : List (Place J)) (p : ℕ) (v : Result J RailFault) → All Fine ps → All Fine (hung k ps p v)
  fine_hung ps p (Ok j) g = All-set Fine ps p (place.Hanging j (sheet_of k j)) refl g
  fine_hung ps p (Err f) g = g

  -- a place that does not hang, put in after some test
  fine_put : {A : Type 0} (ps : List (Place J)) (p : ℕ) (r : Result A RailFault) (x : Place J) → Fine x → All Fine ps → All Fine (put ps p (then r (Ok x)))
  fine_put ps p (Ok a) x f g = All-set Fine ps p x f g
  fine_put ps p (Err e) x f g = g

  fine_twice : {A B : Type 0} (ps : List (Place J)) (p : ℕ) (q : Result A RailFault) (r : Result B RailFault) (x : Place J) → Fine x → All Fine ps →
      All Fine (put ps p (then q (then r (Ok x))))
  fine_twice ps p (Ok a) r x f g = fine_put ps p r x f g
  fine_twice ps p (Err e) r x f g = g

  module _ (n : ℕ) where
    fine_after : (ps : List (Place J)) (c : Call R) → All Fine ps → All Fine (places_after k n ps c)
    fine_after ps (Hang p r) g = fine_hung ps p (hang_to k ps p r) g
    fine_after ps (Lift p) g = fine_put ps p (due ps p event.Lift) place.Lifted tt g
    fine_after ps (HangBack m p r) g = fine_hung ps p (back_to k n ps m p r) g
    fine_after ps (Scrap m p) g = fine_twice ps p (own n m p) (due ps p event.Scrap) place.Empty tt g
    fine_after ps (AskState p) g = g
    fine_after ps (AskJoint p) g = g
    fine_after ps (AskSheet p) g = g
    fine_after ps (AskFigure p i) g = g
    fine_after ps (AskClass c) g = g

    fine_played : (ps : List (Place J)) (cs : List (Call R)) → All Fine ps → All Fine (played k n ps cs)
    fine_played ps [] g = g
    fine_played ps (c ∷ cs) g = fine_played (places_after k n ps c) cs (fine_after ps c g)

  -- the joint question answers r of place p, whose place is x: so a joint of r hangs there
  abbrev Found : R → Option (Place J) → Type 0
  Found r x = (j : J) × (s : Sheet) × (x ≡ Some (place.Hanging j s)) × (k.joint j ≡ r)

  found : (p : ℕ) (r : R) (x : Option (Place J)) → as_answer Holds (giving (λ c. k.joint c.0) (card_of p x)) ≡ Holds r → Found r x
  found p r None a = cc
  found p r (Some place.Empty) a = cc
  found p r (Some (place.Hanging j s)) a = (j, s, refl, cc)
  found p r (Some place.Lifted) a = cc

  module _ (m : Meaning k.FIELDS k.SHEAR_MODES k.TYING_MODES k.admission k.joint k.binding k.printed k.at) where
    -- the card r that the joint question answers of place p
    module _ (t : Table J) (p : ℕ) (r : R) (f : Found r (slice_get t.places p)) where
      admitted_as : k.admission r ≡ Ok f.0
      admitted_as = ap k.admission (sym f.3) ∙ m.again f.0

      -- what is asked of its figure, where k says v of the mode
      its_figure : (i : ℕ) (v : Result (Unit {0}) RailFault) → known k.SHEAR_MODES k.TYING_MODES i ≡ v →
          answer k t (AskFigure p i) ≡ as_answer Prints (then v (Ok (k.printed f.0 i)))
      its_figure i v e =
          ap (λ x. as_answer Prints (figure_in k i (card_of p x))) f.2 ∙ ap (λ x. as_answer Prints (then x (Ok (k.printed f.0 i)))) e

      figured : Figured k t p r
      figured = record {
        joint = f.0;
        admitted = admitted_as;
        bound = λ i is b.
            let v = m.figured f.0 i b in
            (v.0, its_figure i (Ok tt) (mode_known k i is) ∙ ap Prints v.1, m.safe f.0 i v.0 v.1, m.close f.0 i v.0 v.1);
        unbound = λ i is b. its_figure i (Ok tt) (mode_known k i is) ∙ ap Prints (m.silent f.0 i b);
        no_mode = λ i ne. its_figure i (Err (NoMode i)) (mode_unknown k i ne);
      }

      -- s is what the sheet question answers there
      sheeted : (s : Sheet) → f.1 ≡ sheet_of k f.0 → answer k t (AskSheet p) ≡ Shows s → Sheeted k r s
      sheeted s e a =
          let shown : answer k t (AskSheet p) ≡ Shows f.1 = ap (λ x. as_answer Shows (giving (λ c. c.1) (card_of p x))) f.2 in
          let own_sheet : s ≡ sheet_of k f.0 = cc in
          record {
            its_own = ap (sheet_if k) admitted_as ∙ ap Ok (sym own_sheet);
            quoted = (f.0, admitted_as, subst (Quoted k f.0) (sym own_sheet) (sheet_quoted k m f.0));
          }

    -- a call that puts the joint of r in place p
    module _ (n : ℕ) (ps : List (Place J)) (p : ℕ) (r : R) where
      abbrev Then : Result J RailFault → Type 0
      Then v = (s : Sheet) → as_answer {R = R} Shows (sheet_told k v) ≡ Shows s →
          (as_answer Holds (joint_at k (hung k ps p v) p) ≡ Holds r) × (as_answer {R = R} Shows (sheet_at (hung k ps p v) p) ≡ Shows s)

      by_admission : (x : Place J) → At ps p x → (a : Result J JointFault) → k.admission r ≡ a → Then (carried a)
      by_admission x at (Ok j) e s h =
          let own_sheet : sheet_of k j ≡ s = cc in
          let now = set_here ps p (place.Hanging j (sheet_of k j)) x at in
          (ap (λ y. as_answer Holds (giving (λ c. k.joint c.0) (card_of p y))) now ∙ ap Holds (m.kept r j e), ap (λ y. as_answer Shows (giving (λ c. c.1) (card_of p y))) now ∙ ap Shows own_sheet)
      by_admission x at (Err f) e s h = cc

      by_then : {A : Type 0} (q : Result A RailFault) (v : Result J RailFault) → Then v → Then (then q v)
      by_then (Ok a) v f s h = f s h
      by_then (Err f) v g s h = cc

      by_due : (e : Event) (x : Option (Place J)) → slice_get ps p ≡ x → Then (then (due_of p e x) (carried (k.admission r)))
      by_due e None at = λ s h. cc
      by_due e (Some x) at = by_then (due_of p e (Some x)) (carried (k.admission r)) (by_admission x at (k.admission r) refl)

      card_kept : (e : Event) → Then (card_to k ps p e r)
      card_kept e = by_due e (slice_get ps p) refl

      back_kept : (shown : ℕ) → Then (back_to k n ps shown p r)
      back_kept shown = by_then (own n shown p) (card_to k ps p event.HangBack r) (card_kept event.HangBack)

    unchanged : (t : Table J) (q : Call R) → Question q → after k t q ≡ t
    unchanged t q state_asked = refl
    unchanged t q joint_asked = refl
    unchanged t q sheet_asked = refl
    unchanged t q figure_asked = refl
    unchanged t q class_asked = refl

    law : (number size : ℕ) (cs : List (Call R)) → Law k number size cs (run k (opened number size) cs)
    law number size cs =
        let t : Table J = run k (opened number size) cs in
        let fine : All Fine t.places = fine_played number (empties size) cs (All-replicate Fine size place.Empty tt) in
        let at : (p : ℕ) (r : R) → answer k t (AskJoint p) ≡ Holds r → Found r (slice_get t.places p) = λ p r h. found p r (slice_get t.places p) h in
        record {
          answered_by_the_table = steps k number (empties size) cs;
          questions_change_nothing = unchanged t;
          a_hung_card_is_kept = λ p r. card_kept number t.places p r event.Hang;
          a_card_hung_back_is_kept = λ n p r. back_kept number t.places p r n;
          figures_are_safe_and_close = λ p r h. figured t p r (at p r h);
          sheets_may_be_quoted = λ p r s h g.
              let f = at p r h in
              sheeted t p r f s (fine_at t.places p (place.Hanging f.0 f.1) f.2 fine) g;
          no_slip_is_lost = slips_balance k number size cs;
        }

    pub law_at : (number size : ℕ) (cs : List (Call R)) (t : Table J) → t ≡ run k (opened number size) cs → Law k number size cs t
    law_at number size cs t e = subst (Law k number size cs) (sym e) (law number size cs)
