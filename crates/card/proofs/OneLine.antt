-- What one line says: its digits, its key, and where it ends.
use Rattle.std.proofs.Common.{◌≡◌, ℕ, ◌+◌, ◌^◌, ◌<◌, ◌≤◌, true, List, [], ◌∷◌, ◌++◌, length, get_or, take, drop, Some, None, decimal, Option, sym, ap, ◌∙◌, subst, arith, Bor, MatchOption}
use Rattle.std.specs.Str.Parse.{digits_value, AllDigits}
use Rattle.std.specs.Char.{digit_value}
use Rattle.std.specs.Str.{all_ascii_digits}
use Rattle.std.proofs.lemmas.Fmt.{decimal-digits_value}
use Rattle.std.proofs.lemmas.List.{length-take-le, take_all, append_assoc, append_cancel_left, take_at, length_push, length-append}
use Rattle.std.proofs.lemmas.Str.Parse.{IsNumeralModel, numerals_by_value, tells_all_ascii_digits, digits_value_short, digit_at}
use Rattle.std.proofs.lemmas.Str.{digit_value_digit}
use Rattle.card.specs.Text.{Number, FirstLine, TookLine}

pub own : IsNumeralModel (λ ds. all_ascii_digits ds ≡ true) (digits_value 10)
own = numerals_by_value _ tells_all_ascii_digits

pub number_value : (ds : List ℕ) → Number ds → (digits_value 10 ds < 10 ^ 8) × (ds ≡ decimal (digits_value 10 ds))
number_value ds h =
    let low : digits_value 10 ds < 10 ^ 8 = digits_value_short own ds 8 h.digits h.short in
    (low, sym (decimal-digits_value own ds h.digits h.some h.lead (omega arith)))

-- the number so far has few digits
pub few : (ds : List ℕ) (i n : ℕ) → i < length ds → length ds ≤ 8 → AllDigits 10 (take i ds) × (n ≡ digits_value 10 (take i ds)) → n < 10 ^ 7
few ds i n l short was =
    let long = length-take-le i ds (omega arith) in
    let below = digits_value_short own (take i ds) 7 (own.from (take i ds) was.0) (omega arith) in
    omega (arith, was.1)

pub digits_all : (ds : List ℕ) (i n : ℕ) → length ds ≤ i → AllDigits 10 (take i ds) × (n ≡ digits_value 10 (take i ds)) → (all_ascii_digits ds ≡ true) × (n ≡ digits_value 10 ds)
digits_all ds i n l was = let e = take_all i ds l in (own.from ds (subst (AllDigits 10) e was.0), was.1 ∙ ap (digits_value 10) e)

-- a byte that is no digit
pub not_number : (ds : List ℕ) (i : ℕ) → i < length ds → (digit_value (get_or ds i 0) < 10 → ⊥) → Number ds → ⊥
not_number ds i l out h = let d = digit_at ds i (own.to ds h.digits) l in out (omega (arith, digit_value_digit (get_or ds i 0) d, d))

-- a first line that is the key, = and a number
pub took_line : (key text l ds : List ℕ) (v : ℕ) → FirstLine text l (drop (length l + 1) text) → l ≡ key ++ (61 ∷ ds) → v < 10 ^ 8 → ds ≡ decimal v → TookLine key text v (length l + 1)
took_line key text l ds v first cut low is =
    let whole : text ≡ (l ++ (10 ∷ [])) ++ drop (length l + 1) text = first.split ∙ sym (append_assoc l (10 ∷ []) (drop (length l + 1) text)) in
    let long = length_push l 10 in
    record {
      small = low;
      within = omega (arith, ap length whole, length-append (l ++ (10 ∷ [])) (drop (length l + 1) text));
      taken = ap (take (length l + 1)) whole ∙ take_at (l ++ (10 ∷ [])) (drop (length l + 1) text) (length l + 1) long ∙ ap (λ (f : List ℕ). f ++ (10 ∷ [])) (cut ∙ ap (λ (x : List ℕ). key ++ (61 ∷ x)) is) ∙ append_assoc key (61 ∷ decimal v) (10 ∷ []);
    }

-- what stands after a key, and after =
pub after_equals : (key l rest : List ℕ) (r : Option (Bor (List ℕ))) → l ≡ key ++ rest → MatchOption r ((ds : List ℕ) → rest ≡ 61 ∷ ds → ⊥) (λ x. rest ≡ 61 ∷ x.now) → MatchOption r ((ds : List ℕ) → l ≡ key ++ (61 ∷ ds) → ⊥) (λ x. l ≡ key ++ (61 ∷ x.now))
after_equals key l rest None is h = λ ds e. h ds (append_cancel_left key rest (61 ∷ ds) (sym is ∙ e))
after_equals key l rest (Some x) is h = is ∙ ap (λ (y : List ℕ). key ++ y) h
