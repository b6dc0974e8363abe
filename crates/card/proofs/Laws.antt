-- Lines that are written have one reading: their values can be told from the text, and they have no fault.
use Rattle.std.proofs.Common.{◌≡◌, ℕ, zero, suc, ◌+◌, ◌<◌, true, not, eqb, List, [], ◌∷◌, ◌++◌, length, get_or, take, drop, decimal, sym, refl, ap, ◌∙◌, subst, ⊎_elim, append_assoc, arith}
use Rattle.std.specs.List.{AllByRecursion}
use Rattle.std.proofs.lemmas.Fmt.{digits_decimal, decimal_nonempty, length-decimal-le, first_decimal, decimal_injective, decimal_digit}
use Rattle.std.proofs.ByRecursion.{All-from_get_or, All-append, All-take, All-get_or}
use Rattle.std.proofs.lemmas.List.{append_cancel_left, length-take-le, drop_more}
use Rattle.std.proofs.lemmas.Str.Parse.{not_in_digits}
use Rattle.std.proofs.lemmas.Bool.{cases_eq, and_parts, not-true, eqb-false}
use Rattle.card.specs.Text.{Small, Number, NoFeed, feedless, all_feedless, line_of, lines_of, FailsAt, Refuses}
use Rattle.card.specs.declared.fault.TextFault.{TextFault}
use Rattle.card.specs.declared.fault.TextFault.TheVariants.{NoLineFeed, NotJoint, NotKey, NotNumber}
use Rattle.card.proofs.OneLine.{own}

-- the numbers that are written are the numbers that are read
pub number_decimal : (v : ℕ) → Small v → Number (decimal v)
number_decimal v low = record {
  some = decimal_nonempty v (omega arith);
  short = length-decimal-le 8 v (omega arith) low (omega arith);
  digits = digits_decimal own v (omega arith);
  lead = λ zero-first.
      ⊎_elim (λ e. ap (λ (n : ℕ). length (decimal n)) e ∙ ap length (decimal_digit 0 (omega arith))) (λ ne. absurd (omega (arith, first_decimal v (omega arith) (omega arith)))) (cases_eq v 0);
}

pub no_feed_decimal : (v : ℕ) → Small v → NoFeed (decimal v)
no_feed_decimal v low =
    All-from_get_or (λ b. b ≡ 10 → ⊥) (decimal v) 0 (λ i l. not_in_digits own (decimal v) 10 (digits_decimal own v (omega arith)) (λ h. omega arith) i l)

-- the first line feed of a text is one place
pub feed_cancel : (a b x y : List ℕ) → NoFeed a → NoFeed b → a ++ (10 ∷ x) ≡ b ++ (10 ∷ y) → (a ≡ b) × (x ≡ y)
feed_cancel [] [] x y f g e = (refl, cc)
feed_cancel [] (c ∷ b) x y f g e = let z : c ≡ 10 = cc in absurd (g.0 z)
feed_cancel (c ∷ a) [] x y f g e = let z : c ≡ 10 = cc in absurd (f.0 z)
feed_cancel (c ∷ a) (d ∷ b) x y f g e =
    let head : c ≡ d = cc in
    let tail : a ++ (10 ∷ x) ≡ b ++ (10 ∷ y) = cc in
    let rest = feed_cancel a b x y f.1 g.1 tail in
    let p = rest.0 in
    (cc, rest.1)

pub has_feed : (a x : List ℕ) → NoFeed (a ++ (10 ∷ x)) → ⊥
has_feed [] x h = h.0 refl
has_feed (c ∷ a) x h = has_feed a x h.1

-- a line and what follows it
pub line_split : (k x : List ℕ) (v : ℕ) → line_of k v ++ x ≡ (k ++ (61 ∷ decimal v)) ++ (10 ∷ x)
line_split k x v = simp append_assoc

pub line_cancel : (k x y : List ℕ) (u v : ℕ) → Small u → Small v → line_of k u ++ x ≡ line_of k v ++ y → (u ≡ v) × (x ≡ y)
line_cancel k x y u v low low' e =
    let whole : k ++ (61 ∷ (decimal u ++ (10 ∷ x))) ≡ k ++ (61 ∷ (decimal v ++ (10 ∷ y))) = sym (simp append_assoc) ∙ e ∙ simp append_assoc in
    let inner = append_cancel_left k (61 ∷ (decimal u ++ (10 ∷ x))) (61 ∷ (decimal v ++ (10 ∷ y))) whole in
    let tail : decimal u ++ (10 ∷ x) ≡ decimal v ++ (10 ∷ y) = cc in
    let both = feed_cancel (decimal u) (decimal v) x y (no_feed_decimal u low) (no_feed_decimal v low') tail in
    (decimal_injective u v (omega arith) (omega arith) both.0, both.1)

pub lines_cancel : (ks : List (List ℕ)) (us vs x y : List ℕ) → length us ≡ length ks → length vs ≡ length ks → AllByRecursion Small us → AllByRecursion Small vs → lines_of ks us ++ x ≡ lines_of ks vs ++ y → (us ≡ vs) × (x ≡ y)
lines_cancel [] [] [] x y p q f g e = (refl, e)
lines_cancel [] [] (v ∷ vs) x y p q f g e = absurd (omega arith)
lines_cancel [] (u ∷ us) vs x y p q f g e = absurd (omega arith)
lines_cancel (k ∷ ks) [] vs x y p q f g e = absurd (omega arith)
lines_cancel (k ∷ ks) (u ∷ us) [] x y p q f g e = absurd (omega arith)
lines_cancel (k ∷ ks) (u ∷ us) (v ∷ vs) x y p q f g e =
    let whole : line_of k u ++ (lines_of ks us ++ x) ≡ line_of k v ++ (lines_of ks vs ++ y) = sym (append_assoc (line_of k u) (lines_of ks us) x) ∙ e ∙ append_assoc (line_of k v) (lines_of ks vs) y in
    let first = line_cancel k (lines_of ks us ++ x) (lines_of ks vs ++ y) u v f.0 g.0 whole in
    let rest = lines_cancel ks us vs x y (omega arith) (omega arith) f.1 g.1 first.1 in
    let a = first.0 in
    let b = rest.0 in
    (cc, rest.1)

lines_none : (ks : List (List ℕ)) → [] ≡ lines_of ks []
lines_none [] = refl
lines_none (k ∷ ks) = refl

pub lines_cut : (ks : List (List ℕ)) (vs : List ℕ) (i : ℕ) → lines_of ks vs ≡ lines_of (take i ks) (take i vs) ++ lines_of (drop i ks) (drop i vs)
lines_cut ks vs zero = refl
lines_cut [] vs (suc i) = refl
lines_cut (k ∷ ks) [] (suc i) = lines_none (drop i ks)
lines_cut (k ∷ ks) (v ∷ vs) (suc i) = ap (λ (r : List ℕ). line_of k v ++ r) (lines_cut ks vs i) ∙ sym (append_assoc (line_of k v) (lines_of (take i ks) (take i vs)) (lines_of (drop i ks) (drop i vs)))

-- a line that is written has no fault
pub line_accepted : (n : ℕ) (k x : List ℕ) (v : ℕ) (f : TextFault) → NoFeed k → Small v → FailsAt n k (line_of k v ++ x) f → ⊥
line_accepted n k x v (NoLineFeed at) free low bad = has_feed (k ++ (61 ∷ decimal v)) x (subst NoFeed (line_split k x v) bad.1)
line_accepted n k x v (NotKey at) free low bad =
    let h = bad.1 in
    let clean : NoFeed (k ++ (61 ∷ decimal v)) = All-append (λ b. b ≡ 10 → ⊥) k (61 ∷ decimal v) free ((λ e. omega arith), no_feed_decimal v low) in
    let same = feed_cancel h.0 (k ++ (61 ∷ decimal v)) h.1 x h.2.whole clean (sym h.2.split ∙ line_split k x v) in
    h.3 (decimal v) same.0
line_accepted n k x v (NotNumber at) free low bad =
    let h = bad.1 in
    let clean : NoFeed (k ++ (61 ∷ decimal v)) = All-append (λ b. b ≡ 10 → ⊥) k (61 ∷ decimal v) free ((λ e. omega arith), no_feed_decimal v low) in
    let same = feed_cancel (k ++ (61 ∷ h.0)) (k ++ (61 ∷ decimal v)) h.1 x h.2.whole clean (sym h.2.split ∙ line_split k x v) in
    let inner = append_cancel_left k (61 ∷ h.0) (61 ∷ decimal v) same.0 in
    let ds : h.0 ≡ decimal v = cc in
    h.3 (subst Number (sym ds) (number_decimal v low))
line_accepted n k x v NotJoint free low bad = bad

pub lines_accepted : (ks : List (List ℕ)) (vs x : List ℕ) (f : TextFault) → AllByRecursion NoFeed ks → length vs ≡ length ks → AllByRecursion Small vs → Refuses ks (lines_of ks vs ++ x) f → ⊥
lines_accepted ks vs x f free same low bad =
    let i = bad.index in
    let up = bad.before in
    let due : i < length ks = up.due in
    let shorter = length-take-le i ks (omega arith) in
    let shorter' = length-take-le i vs (omega arith) in
    let counted = up.count in
    let v = get_or vs i 0 in
    let k = get_or ks i [] in
    let whole : lines_of (take i ks) up.values ++ bad.rest ≡ lines_of (take i ks) (take i vs) ++ (lines_of (drop i ks) (drop i vs) ++ x) = sym up.split ∙ ap (λ (l : List ℕ). l ++ x) (lines_cut ks vs i) ∙ append_assoc (lines_of (take i ks) (take i vs)) (lines_of (drop i ks) (drop i vs)) x in
    let cut = lines_cancel (take i ks) up.values (take i vs) bad.rest (lines_of (drop i ks) (drop i vs) ++ x) (omega arith) (omega arith) up.small (All-take Small i vs low) whole in
    let tail = lines_of (drop (i + 1) ks) (drop (i + 1) vs) ++ x in
    let here : bad.rest ≡ line_of k v ++ tail = cut.1 ∙ ap (λ (l : List (List ℕ)). lines_of l (drop i vs) ++ x) (drop_more ks i [] due) ∙ ap (λ (l : List ℕ). lines_of (k ∷ drop (i + 1) ks) l ++ x) (drop_more vs i 0 (omega arith)) ∙ append_assoc (line_of k v) (lines_of (drop (i + 1) ks) (drop (i + 1) vs)) x in
    line_accepted (i + 2) k tail v f (All-get_or NoFeed ks i [] due free) (All-get_or Small vs i 0 (omega arith) low) (subst (λ (r : List ℕ). FailsAt (i + 2) k r f) here bad.here)

-- what the test for line feeds says
pub clean : (bs : List ℕ) → feedless bs ≡ true → NoFeed bs
clean [] e = tt
clean (b ∷ bs) e = let p = and_parts (not (eqb b 10)) (feedless bs) e in (eqb-false b 10 (not-true (eqb b 10) p.0), clean bs p.1)

pub cleans : (ks : List (List ℕ)) → all_feedless ks ≡ true → AllByRecursion NoFeed ks
cleans [] e = tt
cleans (k ∷ ks) e = let p = and_parts (feedless k) (all_feedless ks) e in (clean k p.0, cleans ks p.1)
