-- An order at the front of a text: its first line, and what it has behind it.
use Rattle.std.proofs.Common.{◌≡◌, ℕ, ◌+◌, ◌-◌, ◌<◌, List, [], ◌∷◌, ◌++◌, length, take, drop, decimal, ap, ◌∙◌, arith, length-drop, take-add}
use Rattle.std.proofs.lemmas.List.{length-append, take_rest, length-take-le}
use Rattle.card.specs.Text.{TookLine}
use Rattle.card.specs.declared.kind.CardKind.{Ghosts}
use Rattle.day.specs.Scripts.{word, Behind, TookOrder}
use Rattle.day.specs.declared.order.Order.{Order}
use Rattle.day.specs.declared.order.Verb.{Verb}

-- a line has some bytes
line_some : (key text : List ℕ) (v n : ℕ) → TookLine key text v n → 0 < n
line_some key text v n t =
    let cut = length-take-le n text t.within in
    let same = ap length t.taken in
    let long = length-append key (61 ∷ (decimal v ++ (10 ∷ []))) in
    omega arith

module _ {R : Type 0} {N : ℕ} (k : Ghosts R N) (text : List ℕ) (v : Verb) (number line n : ℕ) (o : Order R) where
  pub whole : TookLine (word v) text number line → Behind k v number (take (length text - line) (drop line text)) o n → TookOrder k text o (line + n)
  whole t b =
      let rest : take (length text - line) (drop line text) ≡ drop line text = take_rest text line in
      record {
        some = omega (arith, line_some (word v) text number line t);
        within = omega (arith, t.within, b.within, ap length rest, length-drop line text);
        taken =
            take-add line n text
            ∙ ap (λ x. x ++ take n (drop line text)) t.taken
            ∙ (rw rest at b.taken);
      }
