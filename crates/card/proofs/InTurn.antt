-- The cards of a text, taken in turn until none is left.
use Rattle.std.proofs.Common.{◌≡◌, ℕ, ◌<◌, ◌≤◌, List, [], ◌∷◌, length, Ok, Err, Result, ap, ◌∙◌, subst, refl, arith}
use Rattle.std.specs.Iterator.{Yields, Drains}
use Rattle.std.proofs.lemmas.List.{length-append, length-take-le}
use Rattle.card.specs.Cards.{card_text, TookCard}
use Rattle.card.specs.Fins.{fin_keys, fin_fields}
use Rattle.card.specs.Headers.{header_keys, header_fields}
use Rattle.card.specs.InTurn.{cards_left, GivesCard, CardsOf}
use Rattle.card.specs.Kinds.{kind_line}
use Rattle.card.specs.Text.{lines_of}
use Rattle.card.specs.declared.card.Card.{Card}
use Rattle.card.specs.declared.card.Card.TheVariants.{Header, Fin}
use Rattle.card.specs.declared.cards.Cards.{Cards}
use Rattle.card.specs.declared.fault.TextFault.{TextFault}

-- a card takes at least its first line
text_long : (c : Card) → 8 ≤ length (card_text c)
text_long (Header j) = let long = length-append (kind_line 72) (lines_of header_keys (header_fields j)) in omega arith
text_long (Fin j) = let long = length-append (kind_line 70) (lines_of fin_keys (fin_fields j)) in omega arith

pub some_taken : (text : List ℕ) (c : Card) (n : ℕ) → TookCard text c n → 0 < n
some_taken text c n t =
    let long = text_long c in
    let cut = length-take-le n text t.within in
    let same = ap length t.taken in
    omega arith

-- behind the text's end nothing is given
none_given : (s t : Cards) (xs : List (Result Card TextFault)) → cards_left s ≡ [] → Yields GivesCard s xs t → xs ≡ []
none_given s t [] e y = refl
none_given s t (Ok c ∷ xs) e (j, (n, took, left), y) =
    let some = some_taken (cards_left s) c n took in
    let within = took.within in
    absurd (omega (arith, ap length e))
none_given s t (Err f ∷ xs) e (j, (some, bad, left), y) = absurd (omega (arith, ap length e))

all_given : (s t : Cards) (xs : List (Result Card TextFault)) → Yields GivesCard s xs t → cards_left t ≡ [] → CardsOf (cards_left s) xs
all_given s t [] y e = ap cards_left y ∙ e
all_given s t (Ok c ∷ xs) (j, (n, took, left), y) e = (n, took, subst (λ (x : List ℕ). CardsOf x xs) left (all_given j t xs y e))
all_given s t (Err f ∷ xs) (j, (some, bad, left), y) e = (some, bad, none_given j t xs left y)

-- the items of a whole loop over the cards
pub drained : (s : Cards) (xs : List (Result Card TextFault)) → Drains GivesCard s xs → CardsOf (cards_left s) xs
drained s xs (u, (t, y, end)) = all_given s t xs y end.0
