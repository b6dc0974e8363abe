-- The account that the cards of a text make, one after another.
use Rattle.std.proofs.Common.{◌≡◌, ℕ, List, [], ◌∷◌, ◌++◌, drop, Ok, Err, Result, None, Option, sym, refl, ap, ◌∙◌, subst, append_assoc}
use Rattle.std.specs.Iterator.{Yields}
use Rattle.std.specs.List.{flat_map}
use Rattle.card.proofs.InTurn.{drained}
use Rattle.card.specs.InTurn.{cards_left, GivesCard, CardsOf}
use Rattle.card.specs.declared.card.Card.{Card}
use Rattle.card.specs.declared.cards.Cards.{Cards}
use Rattle.card.specs.declared.fault.TextFault.{TextFault}
use Rattle.account.specs.Accounts.{entries_text, Account}
use Rattle.account.specs.Judged.{entry_of, told}
use Rattle.account.specs.declared.fault.Fault.TheVariants.{Text}

-- the lines for a card, or for the fault of the text where it is not one
abbrev pub card_told : Result Card TextFault → List ℕ
card_told (Ok c) = told (entry_of c)
card_told (Err f) = told (Err (Text f))

pub all_told : (text : List ℕ) (xs : List (Result Card TextFault)) → CardsOf text xs → Account text (flat_map card_told xs)
all_told text [] e = record { cards = []; rest = text; end = []; through = refl; ends = e; whole = refl }
all_told text (Ok c ∷ xs) (n, took, later) =
    let a = all_told (drop n text) xs later in
    record {
      cards = entry_of c ∷ a.cards;
      rest = a.rest;
      end = a.end;
      through = (c, n, took, refl, a.through);
      ends = a.ends;
      whole = ap (λ (x : List ℕ). card_told (Ok c) ++ x) a.whole ∙ sym (append_assoc (card_told (Ok c)) (entries_text a.cards) (entries_text a.end));
    }
all_told text (Err f ∷ xs) (some, bad, last) = record {
  cards = [];
  rest = text;
  end = Err (Text f) ∷ [];
  through = refl;
  ends = (f, some, bad, refl, refl);
  whole = ap (λ (x : List (Result Card TextFault)). card_told (Err f) ++ flat_map card_told x) last;
}

-- the same once the cards s of text have given xs and then nothing
pub drained_told : {text bytes : List ℕ} (s t u : Cards) (xs : List (Result Card TextFault)) {r : Option (Result Card TextFault)} →
    cards_left s ≡ text → Yields GivesCard s xs t → GivesCard t r u → r ≡ None → bytes ≡ flat_map card_told xs → Account text bytes
drained_told {text} {bytes} s t u xs {r} of given next none whole =
    let end : GivesCard t None u = subst (λ (x : Option (Result Card TextFault)). GivesCard t x u) none next in
    let cards : CardsOf text xs = subst (λ (x : List ℕ). CardsOf x xs) of (drained s xs (u, (t, given, end))) in
    subst (Account text) (sym whole) (all_told text xs cards)
