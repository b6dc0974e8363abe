-- The card of a joint of any kind: line 1, the lines behind it, and that its text has one reading.
use Rattle.std.proofs.Common.{◌≡◌, ℕ, ◌+◌, ◌-◌, List, [], ◌∷◌, ◌++◌, length, take, drop, codes, sym, refl, ap, ◌∙◌, subst, arith, take-add}
use Rattle.std.specs.List.{AllByRecursion}
use Rattle.std.proofs.ByRecursion.{All-append}
use Rattle.std.proofs.lemmas.List.{take_rest, take_at, take-append-drop, length-append, length-take-le, append_cancel_left}
use Rattle.card.specs.declared.kind.CardKind.{Ghosts}
use Rattle.card.specs.declared.fault.TextFault.{TextFault}
use Rattle.card.specs.declared.fault.TextFault.TheVariants.{NoLineFeed, NotJoint, NotKey, NotNumber}
use Rattle.card.specs.Text.{Small, NoFeed, lines_of, Took, Refuses}
use Rattle.card.specs.Kinds.{kind_line, joint_text, TookJoint, NotKind, Behind}
use Rattle.card.proofs.Laws.{feed_cancel, has_feed, lines_cancel, lines_accepted, clean}

-- line 1 and the lines behind it, as the code takes them
module _ {J : Type 0} {N : ℕ} (k : Ghosts J N) (text : List ℕ) (c start : ℕ) (is : c ≡ k.initial) (first : (start ≡ 8) × (text ≡ kind_line c ++ drop start text)) (table : List (List ℕ)) (same : table ≡ k.keys) where
  split : text ≡ kind_line k.initial ++ drop start text
  split = first.1 ∙ ap (λ (x : ℕ). kind_line x ++ drop start text) is

  pub joint_took : (j : J) (vs : List ℕ) (n : ℕ) → Took table (take (length text - start) (drop start text)) vs n → k.fields j ≡ vs → TookJoint k j text (start + n)
  joint_took j vs n t e =
      let behind : Took table (drop start text) vs n = subst (λ (x : List ℕ). Took table x vs n) (take_rest text start) t in
      let keyed : Took k.keys (drop start text) vs n = subst (λ (x : List (List ℕ)). Took x (drop start text) vs n) same behind in
      let took : Took k.keys (drop start text) (k.fields j) n = subst (λ (x : List ℕ). Took k.keys (drop start text) x n) (sym e) keyed in
      let front : take start text ≡ kind_line k.initial = ap (take start) split ∙ take_at (kind_line k.initial) (drop start text) start (sym first.0) in
      record {
        small = took.small;
        within = omega (arith, ap length split, length-append (kind_line k.initial) (drop start text), took.within, first.0);
        taken = take-add start n text ∙ ap (λ (x : List ℕ). x ++ take n (drop start text)) front ∙ ap (λ (x : List ℕ). kind_line k.initial ++ x) took.taken;
      }

  pub joint_refused : (f : TextFault) → Refuses table (take (length text - start) (drop start text)) f → Behind k text f
  joint_refused f h = record {
    rest = drop start text;
    split = split;
    later = subst (λ (x : List (List ℕ)). Refuses x (drop start text) f) same (subst (λ (x : List ℕ). Refuses table x f) (take_rest text start) h);
  }

-- line 1 of the card of a joint has no fault, and a fault behind it is none of that card
pub kind_accepted : (letter : ℕ) (text rest : List ℕ) (f : TextFault) → (letter ≡ 10 → ⊥) → text ≡ kind_line letter ++ rest → NotKind letter text f → ⊥
kind_accepted letter text rest (NoLineFeed at) plain e bad = has_feed (codes "joint=" ++ (letter ∷ [])) rest (subst NoFeed e bad.1)
kind_accepted letter text rest NotJoint plain e bad =
    let whole : NoFeed (codes "joint=" ++ (letter ∷ [])) = All-append (λ b. b ≡ 10 → ⊥) (codes "joint=") (letter ∷ []) (clean (codes "joint=") refl) (plain, tt) in
    bad.3 (feed_cancel bad.0 (codes "joint=" ++ (letter ∷ [])) bad.1 rest bad.2.whole whole (sym bad.2.split ∙ e)).0
kind_accepted letter text rest (NotKey at) plain e bad = bad
kind_accepted letter text rest (NotNumber at) plain e bad = bad

module _ {J : Type 0} {N : ℕ} (k : Ghosts J N) (counted : (j : J) → length (k.fields j) ≡ length k.keys) where
  pub behind_accepted : (j : J) (text rest : List ℕ) (f : TextFault) → AllByRecursion NoFeed k.keys → AllByRecursion Small (k.fields j) → text ≡ joint_text k j ++ rest → Behind k text f → ⊥
  behind_accepted j text rest f free low e bad =
      let inner = append_cancel_left (kind_line k.initial) bad.rest (lines_of k.keys (k.fields j) ++ rest) (sym bad.split ∙ e) in
      lines_accepted k.keys (k.fields j) rest f free (counted j) low (subst (λ (x : List ℕ). Refuses k.keys x f) inner bad.later)

  -- the values and the bytes of a card are the only ones
  pub took_same : (i j : J) (text rest : List ℕ) (n : ℕ) → TookJoint k i text n → AllByRecursion Small (k.fields j) → text ≡ joint_text k j ++ rest → (k.fields i ≡ k.fields j) × (n ≡ length (joint_text k j))
  took_same i j text rest n t low e =
      let cut : text ≡ joint_text k i ++ drop n text = sym (take-append-drop n text) ∙ ap (λ (x : List ℕ). x ++ drop n text) t.taken in
      let inner = append_cancel_left (kind_line k.initial) (lines_of k.keys (k.fields i) ++ drop n text) (lines_of k.keys (k.fields j) ++ rest) (sym cut ∙ e) in
      let values = (lines_cancel k.keys (k.fields i) (k.fields j) (drop n text) rest (counted i) (counted j) t.small low inner).0 in
      (values, sym (length-take-le n text t.within) ∙ ap length t.taken ∙ ap (λ (x : List ℕ). length (kind_line k.initial ++ lines_of k.keys x)) values)
