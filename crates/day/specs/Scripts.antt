-- A script: lines in the form of a card's, a word for what is to be done with its place, and the card where one is needed.
use Rattle.std.specs.Prelude.{◌≡◌, ℕ, ◌<◌, ◌≤◌, List, ◌++◌, length, take, codes}
use Rattle.card.specs.Kinds.{joint_text}
use Rattle.card.specs.Text.{line_of}
use Rattle.card.specs.declared.kind.CardKind.{Ghosts}
use Rattle.day.specs.declared.order.Order.{Order}
use Rattle.day.specs.declared.order.Order.TheVariants as order
use Rattle.day.specs.declared.order.Verb.{Verb}
use Rattle.day.specs.declared.order.Verb.TheVariants as verb

-- the word that a line begins with
abbrev pub word : Verb → List ℕ
word verb.Hang = codes "hang"
word verb.Lift = codes "lift"
word verb.Back = codes "back"
word verb.Scrap = codes "scrap"
word verb.State = codes "state"
word verb.Sheet = codes "sheet"
word verb.Figure = codes "figure"
word verb.Class = codes "class"

-- the text of an order, for cards of the kind k
module _ {R : Type 0} {N : ℕ} (k : Ghosts R N) where
  abbrev pub order_text : Order R → List ℕ
  order_text (order.Hang p r) = line_of (codes "hang") p ++ joint_text k r
  order_text (order.Lift p) = line_of (codes "lift") p
  order_text (order.Back p r) = line_of (codes "back") p ++ joint_text k r
  order_text (order.Scrap p) = line_of (codes "scrap") p
  order_text (order.State p) = line_of (codes "state") p
  order_text (order.Sheet p) = line_of (codes "sheet") p
  order_text (order.Figure p i) = line_of (codes "figure") p ++ line_of (codes "mode") i
  order_text (order.Class n) = line_of (codes "class") n

  -- the first n bytes of text are what the order has behind its first line, which has this verb and number
  pub record Behind (v : Verb) (number : ℕ) (text : List ℕ) (o : Order R) (n : ℕ) : Type 0 where
    pub within : n ≤ length text
    pub taken : line_of (word v) number ++ take n text ≡ order_text o

  -- the first n bytes of text are the order
  pub record TookOrder (text : List ℕ) (o : Order R) (n : ℕ) : Type 0 where
    pub some : 0 < n
    pub within : n ≤ length text
    pub taken : take n text ≡ order_text o
