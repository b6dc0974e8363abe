-- The cards of a text, one after another, and where they end.
use Rattle.std.specs.Prelude.{◌≡◌, ℕ, ◌<◌, List, [], ◌∷◌, length, drop, Some, None, Ok, Err, Option, Result}
use Rattle.card.specs.Cards.{TookCard, RefusesCard}
use Rattle.card.specs.declared.card.Card.{Card}
use Rattle.card.specs.declared.cards.Cards.{Cards}
use Rattle.card.specs.declared.fault.TextFault.{TextFault}

-- the bytes behind the cards that were given
abbrev pub cards_left : Cards → List ℕ
cards_left s = s.rest.now

-- at the text's end nothing is given, now or later; a card is given and its bytes are left out; or what is left is not a card, and its first fault is given and ends the cards
abbrev pub GivesCard : Cards → Option (Result Card TextFault) → Cards → Type 0
GivesCard s None t = (cards_left s ≡ []) × (cards_left t ≡ [])
GivesCard s (Some (Ok c)) t = (n : ℕ) × TookCard (cards_left s) c n × (cards_left t ≡ drop n (cards_left s))
GivesCard s (Some (Err f)) t = (0 < length (cards_left s)) × RefusesCard (cards_left s) f × (cards_left t ≡ [])

-- xs are the cards of text in turn and, where text does not end with a card, its first fault
abbrev pub CardsOf : List ℕ → List (Result Card TextFault) → Type 0
CardsOf text [] = text ≡ []
CardsOf text (Ok c ∷ xs) = (n : ℕ) × TookCard text c n × CardsOf (drop n text) xs
CardsOf text (Err f ∷ xs) = (0 < length text) × RefusesCard text f × (xs ≡ [])
