-- What a replay of a list of calls answers and leaves.
use Rattle.std.specs.Prelude.{◌≡◌, ℕ, List, length, Ok, Err}
use Rattle.joint.specs.declared.kind.Kind.{Ghosts}
use Rattle.places.specs.declared.place.Place.{Place}
use Rattle.rail.specs.declared.call.Answer.{Answer}
use Rattle.rail.specs.declared.call.Call.{Call}
use Rattle.rail.specs.declared.replay.ReplayFault.{ReplayFault}
use Rattle.rail.specs.declared.replay.ReplayFault.TheVariants.{Opening, Memory}
use Rattle.rail.specs.Laws.{Law}
use Rattle.rail.specs.Runs.{run, answers}
use Rattle.rail.specs.Table.{opened, open_answer}

-- a rail was opened over the lent places; the answers given and the places left are the table's, and the law holds
pub record Replayed {J R : Type 0} (k : Ghosts J R) (number : ℕ) (lent : List (Place J)) (cs : List (Call R)) (given : List (Answer R)) (left : List (Place J)) : Type 0 where
  pub allowed : open_answer (length lent) ≡ Ok tt
  pub answered : given ≡ answers k (opened number (length lent)) cs
  pub places : left ≡ (run k (opened number (length lent)) cs).places
  pub law : Law k number (length lent) cs (run k (opened number (length lent)) cs)

-- why not
abbrev pub Why : {J : Type 0} → List (Place J) → ReplayFault → Type 0
Why lent (Opening f) = open_answer (length lent) ≡ Err f
Why lent Memory = open_answer (length lent) ≡ Ok tt

-- and the lent places are as they were
abbrev pub Unreplayed : {J : Type 0} → (lent left : List (Place J)) → ReplayFault → Type 0
Unreplayed lent left f = Why lent f × (left ≡ lent)
