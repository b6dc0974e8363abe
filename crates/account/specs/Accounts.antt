-- The account of a text: its cards in turn, and where it ends.
use Rattle.std.specs.Prelude.{◌≡◌, ℕ, ◌<◌, List, [], ◌∷◌, ◌++◌, length, drop, Result, Err}
use Rattle.card.specs.Cards.{TookCard, RefusesCard}
use Rattle.card.specs.declared.fault.TextFault.{TextFault}
use Rattle.card.specs.declared.card.Card.{Card}
use Rattle.account.specs.Judged.{entry_of, told}
use Rattle.account.specs.declared.entry.Entry.{Entry}
use Rattle.account.specs.declared.fault.Fault.{Fault}
use Rattle.account.specs.declared.fault.Fault.TheVariants.{Text}

-- the lines for several cards, one after another
abbrev pub entries_text : List (Result Entry Fault) → List ℕ
entries_text [] = []
entries_text (e ∷ es) = told e ++ entries_text es

-- text begins with a card for each of them, and rest is left behind them: a joint that is not admitted does not end the account
abbrev pub Through : List ℕ → List (Result Entry Fault) → List ℕ → Type 0
Through text [] rest = text ≡ rest
Through text (e ∷ es) rest = (c : Card) × (n : ℕ) × TookCard text c n × (e ≡ entry_of c) × Through (drop n text) es rest

-- nothing is left, or something that is not a card: its first fault ends the account
abbrev pub Ends : List ℕ → List (Result Entry Fault) → Type 0
Ends rest [] = rest ≡ []
Ends rest (e ∷ es) = (f : TextFault) × (0 < length rest) × RefusesCard rest f × (e ≡ Err (Text f)) × (es ≡ [])

-- bytes are the account of text
pub record Account (text bytes : List ℕ) : Type 0 where
  pub cards : List (Result Entry Fault)
  pub rest : List ℕ
  pub end : List (Result Entry Fault)
  pub through : Through text cards rest
  pub ends : Ends rest end
  pub whole : bytes ≡ entries_text cards ++ entries_text end
