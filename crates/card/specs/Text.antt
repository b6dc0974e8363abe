-- The lines of a card. A text is a list of bytes: 10 is the line feed, 61 is =, 48 is the digit 0.
use Rattle.std.specs.Prelude.{◌≡◌, ℕ, ◌+◌, ◌^◌, ◌<◌, ◌≤◌, Bool, true, not, List, [], ◌∷◌, ◌++◌, map, length, get_or, take, decimal, ◌==◌, ◌≢◌, slice_index_or}
use Rattle.std.specs.Borrow.{Bor}
use Rattle.std.specs.List.{AllByRecursion, list_all}
use Rattle.std.specs.Str.{all_ascii_digits}
use Rattle.card.specs.declared.fault.TextFault.{TextFault}
use Rattle.card.specs.declared.fault.TextFault.TheVariants.{NoLineFeed, NotJoint, NotKey, NotNumber}

-- the bytes of each key of a table
abbrev pub bytes_of : List (Bor (List ℕ)) → List (List ℕ)
bytes_of ks = map (λ (r : Bor (List ℕ)). r.now) ks

-- the key, =, the value in decimal and a line feed
abbrev pub line_of : List ℕ → ℕ → List ℕ
line_of k v = k ++ (61 ∷ (decimal v ++ (10 ∷ [])))

-- a line for each key, with the value of its place
abbrev pub lines_of : List (List ℕ) → List ℕ → List ℕ
lines_of [] vs = []
lines_of (k ∷ ks) [] = []
lines_of (k ∷ ks) (v ∷ vs) = line_of k v ++ lines_of ks vs

-- a value of at most eight digits
abbrev pub Small : ℕ → Type 0
Small v = v < 10 ^ 8

-- 1 to 8 digits without a leading zero; 0 alone is allowed
pub record Number (ds : List ℕ) : Type 0 where
  pub some : 0 < length ds
  pub short : length ds ≤ 8
  pub digits : all_ascii_digits ds ≡ true
  pub lead : get_or ds 0 0 ≡ 48 → length ds ≡ 1

-- no byte is a line feed
abbrev pub NoFeed : List ℕ → Type 0
NoFeed bs = AllByRecursion (λ b. b ≢ 10) bs

-- the same as a test, for one key and for a table of keys
abbrev pub feedless : List ℕ → Bool
feedless bs = list_all (λ b. not (b == 10)) bs

abbrev pub all_feedless : List (List ℕ) → Bool
all_feedless ks = list_all feedless ks

-- l is the first line of text, without its line feed, and after is what follows that
pub record FirstLine (text l after : List ℕ) : Type 0 where
  pub split : text ≡ l ++ (10 ∷ after)
  pub whole : NoFeed l

-- the first n bytes of text are the line of key and v
pub record TookLine (key text : List ℕ) (v n : ℕ) : Type 0 where
  pub small : Small v
  pub within : n ≤ length text
  pub taken : take n text ≡ line_of key v

-- where key is due on line n, the front of text has this fault, and none that is looked for before it
abbrev pub FailsAt : ℕ → List ℕ → List ℕ → TextFault → Type 0
FailsAt n key text (NoLineFeed at) = (at ≡ n) × NoFeed text
FailsAt n key text (NotKey at) = (at ≡ n) × ((l : List ℕ) × (after : List ℕ) × FirstLine text l after × ((ds : List ℕ) → l ≢ key ++ (61 ∷ ds)))
FailsAt n key text (NotNumber at) = (at ≡ n) × ((ds : List ℕ) × (after : List ℕ) × FirstLine text (key ++ (61 ∷ ds)) after × (Number ds → ⊥))
FailsAt n key text NotJoint = ⊥

-- the first n bytes of text are a line for each key, with these values
pub record Took (ks : List (List ℕ)) (text vs : List ℕ) (n : ℕ) : Type 0 where
  pub count : length vs ≡ length ks
  pub small : AllByRecursion Small vs
  pub within : n ≤ length text
  pub taken : take n text ≡ lines_of ks vs

-- lines for the first keys stand at the front of text, and rest is left where the key i is due
pub record Upto (ks : List (List ℕ)) (text : List ℕ) (i : ℕ) (rest : List ℕ) : Type 0 where
  pub due : i < length ks
  pub values : List ℕ
  pub count : length values ≡ i
  pub small : AllByRecursion Small values
  pub split : text ≡ lines_of (take i ks) values ++ rest

-- the first fault of text, where the keys are due from line 2 on
pub record Refuses (ks : List (List ℕ)) (text : List ℕ) (f : TextFault) : Type 0 where
  pub index : ℕ
  pub rest : List ℕ
  pub before : Upto ks text index rest
  pub here : FailsAt (index + 2) (slice_index_or ks index []) rest f
