-- One call more at the end of a list of calls.
use Rattle.std.proofs.Common.{◌≡◌, ℕ, ◌+◌, ◌<◌, List, [], ◌∷◌, ◌++◌, length, get_or, take, sym, refl, ap, ◌∙◌}
use Rattle.std.proofs.lemmas.List.{take_more}
use Rattle.joint.specs.declared.kind.Kind.{Ghosts}
use Rattle.places.specs.declared.place.Place.{Place}
use Rattle.rail.specs.declared.call.Answer.{Answer}
use Rattle.rail.specs.declared.call.Call.{Call}
use Rattle.rail.specs.Runs.{played, told, run, answers}
use Rattle.rail.specs.Table.{Table, answer, after, answer_at, places_after}

module _ {J R : Type 0} (k : Ghosts J R) where
  module _ (n : ℕ) where
    pub played_push : (ps : List (Place J)) (cs : List (Call R)) (c : Call R) → played k n ps (cs ++ (c ∷ [])) ≡ places_after k n (played k n ps cs) c
    played_push ps [] c = refl
    played_push ps (d ∷ cs) c = played_push (places_after k n ps d) cs c

    pub told_push : (ps : List (Place J)) (cs : List (Call R)) (c : Call R) → told k n ps (cs ++ (c ∷ [])) ≡ told k n ps cs ++ (answer_at k n (played k n ps cs) c ∷ [])
    told_push ps [] c = refl
    told_push ps (d ∷ cs) c = ap (λ r. answer_at k n ps d ∷ r) (told_push (places_after k n ps d) cs c)

  -- the call at i of a list, made after those before it
  module _ (t : Table J) (cs : List (Call R)) (i : ℕ) (c : Call R) (within : i < length cs) (read : c ≡ get_or cs i c) where
    pushed : take (i + 1) cs ≡ take i cs ++ (c ∷ [])
    pushed = take_more cs i c within ∙ ap (λ y. take i cs ++ (y ∷ [])) (sym read)

    pub run_more : {now later : Table J} → now ≡ run k t (take i cs) → later ≡ after k now c → later ≡ run k t (take (i + 1) cs)
    run_more e a =
        a ∙ ap (λ x. after k x c) e ∙ ap (λ x. record t { places = x }) (sym (played_push t.number t.places (take i cs) c)) ∙ sym (ap (run k t) pushed)

    pub answers_more : (more : List (Answer R)) {now : Table J} {given : List (Answer R)} {a : Answer R} → now ≡ run k t (take i cs) → given ≡ answers k t (take i cs) →
        a ≡ answer k now c → more ≡ given ++ (a ∷ []) → more ≡ answers k t (take (i + 1) cs)
    answers_more more {a = a} e g is m =
        m ∙ ap (λ x. x ++ (a ∷ [])) g ∙ ap (λ x. answers k t (take i cs) ++ (x ∷ [])) (is ∙ ap (λ x. answer k x c) e)
        ∙ sym (told_push t.number t.places (take i cs) c) ∙ sym (ap (answers k t) pushed)
