-- The card of a joint of a kind k, which says the letter on line 1, the keys behind it and the values on them.
use Rattle.std.specs.Prelude.{◌≡◌, ℕ, ◌≤◌, ◌⊎◌, List, [], ◌∷◌, ◌++◌, length, take, Ok, codes, Result, MatchResult, ◌≢◌}
use Rattle.std.specs.List.{AllByRecursion}
use Rattle.card.specs.declared.fault.TextFault.{TextFault}
use Rattle.card.specs.declared.fault.TextFault.TheVariants.{NoLineFeed, NotJoint, NotKey, NotNumber}
use Rattle.card.specs.declared.kind.CardKind.{Ghosts}
use Rattle.card.specs.Text.{Small, NoFeed, FirstLine, lines_of, Refuses}

-- joint=, the letter and a line feed
abbrev pub kind_line : ℕ → List ℕ
kind_line letter = codes "joint=" ++ (letter ∷ 10 ∷ [])

-- line 1 and a line for each key
abbrev pub joint_text : {J : Type 0} {N : ℕ} → Ghosts J N → J → List ℕ
joint_text k j = kind_line k.initial ++ lines_of k.keys (k.fields j)

-- the first n bytes of text are the card of this joint
pub record TookJoint {J : Type 0} {N : ℕ} (k : Ghosts J N) (j : J) (text : List ℕ) (n : ℕ) : Type 0 where
  pub small : AllByRecursion Small (k.fields j)
  pub within : n ≤ length text
  pub taken : take n text ≡ joint_text k j

-- text has no line 1, or another than joint= and the letter
abbrev pub NotKind : ℕ → List ℕ → TextFault → Type 0
NotKind letter text (NoLineFeed at) = (at ≡ 1) × NoFeed text
NotKind letter text NotJoint = (l : List ℕ) × (after : List ℕ) × FirstLine text l after × (l ≢ codes "joint=" ++ (letter ∷ []))
NotKind letter text (NotKey at) = ⊥
NotKind letter text (NotNumber at) = ⊥

-- line 1 is right, and the first fault stands behind it
pub record Behind {J : Type 0} {N : ℕ} (k : Ghosts J N) (text : List ℕ) (f : TextFault) : Type 0 where
  pub rest : List ℕ
  pub split : text ≡ kind_line k.initial ++ rest
  pub later : Refuses k.keys rest f

-- what the reading of text answers: the joint whose card stands there, or the first fault
abbrev pub ReadsJoint : {J : Type 0} {N : ℕ} → Ghosts J N → List ℕ → Result (J × ℕ) TextFault → Type 0
ReadsJoint k text r = MatchResult r (λ p. TookJoint k p.0 text p.1) (λ f. NotKind k.initial text f ⊎ Behind k text f)

-- a text that begins with the card of a joint is read as that joint
abbrev pub UniqueJoint : {J : Type 0} {N : ℕ} → Ghosts J N → List ℕ → Result (J × ℕ) TextFault → Type 0
UniqueJoint {J} k text r =
    (j : J) (rest : List ℕ) → AllByRecursion Small (k.fields j) → text ≡ joint_text k j ++ rest → r ≡ Ok (j, length (joint_text k j))
