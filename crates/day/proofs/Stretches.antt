-- Stretches of a day, one after another.
use Rattle.std.proofs.Common.{◌≡◌, ℕ, List, [], ◌∷◌, ◌++◌, refl, sym, ap, ◌∙◌, append_assoc}
use Rattle.std.proofs.lemmas.List.{map-append}
use Rattle.joint.specs.declared.kind.Kind.{Ghosts}
use Rattle.places.specs.declared.place.Place.{Place}
use Rattle.rail.specs.Runs.{played, told, run, answers}
use Rattle.rail.specs.Table.{Table, answer_at, places_after}
use Rattle.rail.specs.declared.call.Call.{Call}
use Rattle.day.specs.Days.{Stretch, calls_of, answers_of}
use Rattle.day.specs.declared.desk.Entry.{Entry}

module _ {J R : Type 0} (k : Ghosts J R) (n : ℕ) where
  played_on : (ps : List (Place J)) (xs ys : List (Call R)) → played k n ps (xs ++ ys) ≡ played k n (played k n ps xs) ys
  played_on ps [] ys = refl
  played_on ps (x ∷ xs) ys = played_on (places_after k n ps x) xs ys

  told_on : (ps : List (Place J)) (xs ys : List (Call R)) → told k n ps (xs ++ ys) ≡ told k n ps xs ++ told k n (played k n ps xs) ys
  told_on ps [] ys = refl
  told_on ps (x ∷ xs) ys = ap (λ r. answer_at k n ps x ∷ r) (told_on (places_after k n ps x) xs ys)

pub joined : {J R : Type 0} (k : Ghosts J R) (t u v : Table J) (es fs gs : List (Entry R)) →
    Stretch k t es u fs → Stretch k u fs v gs → Stretch k t es v gs
joined k t u v es fs gs s s₂ = record {
  noted = s.noted ++ s₂.noted;
  logged = s₂.logged ∙ ap (λ x. x ++ s₂.noted) s.logged ∙ append_assoc es s.noted s₂.noted;
  answered =
      map-append (λ e. e.answer) s.noted s₂.noted
      ∙ ap (λ x. x ++ answers_of s₂.noted) s.answered
      ∙ ap (λ x. answers k t (calls_of s.noted) ++ x) (s₂.answered ∙ ap (λ x. answers k x (calls_of s₂.noted)) s.stands)
      ∙ sym (told_on k t.number t.places (calls_of s.noted) (calls_of s₂.noted))
      ∙ ap (answers k t) (sym (map-append (λ e. e.call) s.noted s₂.noted));
  stands =
      s₂.stands ∙ ap (λ x. run k x (calls_of s₂.noted)) s.stands
      ∙ ap (λ x. record { number = t.number; places = x }) (sym (played_on k t.number t.places (calls_of s.noted) (calls_of s₂.noted)))
      ∙ ap (run k t) (sym (map-append (λ e. e.call) s.noted s₂.noted));
}
