-- The text of a card, and what reading answers.
use Rattle.std.specs.Prelude.{◌≡◌, ℕ, ◌≤◌, ◌⊎◌, List, ◌++◌, length, take, Ok, Result, MatchResult}
use Rattle.std.specs.List.{AllByRecursion}
use Rattle.card.specs.declared.fault.TextFault.{TextFault}
use Rattle.card.specs.declared.card.Card.{Card}
use Rattle.card.specs.declared.card.Card.TheVariants.{Header, Fin}
use Rattle.card.specs.Text.{Small}
use Rattle.card.specs.Kinds.{joint_text, NotKind, Behind}
use Rattle.card.specs.Headers.{header_fields, header_card}
use Rattle.card.specs.Fins.{fin_fields, fin_card}

-- line 1, which is joint=H for a header plate and joint=F for a fin plate, and a line for each value
abbrev pub card_text : Card → List ℕ
card_text (Header j) = joint_text header_card j
card_text (Fin j) = joint_text fin_card j

-- no value has more than eight digits
abbrev pub SmallCard : Card → Type 0
SmallCard (Header j) = AllByRecursion Small (header_fields j)
SmallCard (Fin j) = AllByRecursion Small (fin_fields j)

-- the first n bytes of text are the card
pub record TookCard (text : List ℕ) (c : Card) (n : ℕ) : Type 0 where
  pub small : SmallCard c
  pub within : n ≤ length text
  pub taken : take n text ≡ card_text c

-- the first fault of text: on line 1, which is of no kind, or behind a line 1 that is right
abbrev pub RefusesCard : List ℕ → TextFault → Type 0
RefusesCard text f = (NotKind 72 text f × NotKind 70 text f) ⊎ (Behind header_card text f ⊎ Behind fin_card text f)

abbrev pub Reads : List ℕ → Result (Card × ℕ) TextFault → Type 0
Reads text r = MatchResult r (λ p. TookCard text p.0 p.1) (λ f. RefusesCard text f)

-- a text that begins with the text of a card is read as that card, and the bytes taken are that text
abbrev pub Unique : List ℕ → Result (Card × ℕ) TextFault → Type 0
Unique text r = (c : Card) (rest : List ℕ) → SmallCard c → text ≡ card_text c ++ rest → r ≡ Ok (c, length (card_text c))
