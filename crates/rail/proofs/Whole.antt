-- A whole replay, from its parts.
use Rattle.std.proofs.Common.{◌≡◌, ℕ, ◌≤◌, List, length, take, Ok, refl, ap, ◌∙◌, take_all}
use Rattle.joint.specs.Meaning.{Meaning}
use Rattle.joint.specs.declared.kind.Kind.{Ghosts}
use Rattle.places.specs.declared.place.Place.{Place}
use Rattle.rail.specs.declared.call.Answer.{Answer}
use Rattle.rail.specs.declared.call.Call.{Call}
use Rattle.rail.specs.Replays.{Replayed}
use Rattle.rail.specs.Runs.{run, answers}
use Rattle.rail.specs.Table.{Table, opened, open_answer}
use Rattle.rail.proofs.Hangs.{law_at}

-- the rail was begun as t, stands as u after the first i calls, of which there are no more, and leaves the places behind the loan
pub replayed : {J R : Type 0} (k : Ghosts J R) (m : Meaning k.FIELDS k.SHEAR_MODES k.TYING_MODES k.admission k.joint k.binding k.printed k.at)
    (number : ℕ) (lent left : List (Place J)) (cs : List (Call R)) (i : ℕ) (given : List (Answer R)) (t u : Table J) →
    open_answer (length lent) ≡ Ok tt → t ≡ opened number (length lent) → length cs ≤ i →
    u ≡ run k t (take i cs) → given ≡ answers k t (take i cs) → left ≡ u.places → Replayed k number lent cs given left
replayed k m number lent left cs i given t u o begun all h a l =
    let whole : take i cs ≡ cs = take_all i cs all in
    record {
      allowed = o;
      answered = a ∙ ap (λ x. answers k x (take i cs)) begun ∙ ap (answers k (opened number (length lent))) whole;
      places = l ∙ ap (λ x. x.places) (h ∙ ap (λ x. run k x (take i cs)) begun ∙ ap (run k (opened number (length lent))) whole);
      law = law_at k m number (length lent) cs _ refl;
    }
