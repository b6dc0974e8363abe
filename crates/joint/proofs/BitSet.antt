-- Seven requirements as a set of bits: the set is the sum of their powers, and its ones are how many fail. Shown by computing all 128 sets.
use Rattle.std.proofs.Common.{◌≡◌, ℕ, ◌+◌, Bool, true, false, ◌&&◌, eqb, refl}
use lib.Bits.{bit_or}
use lib.Count.{ones, ones_in}
use Rattle.std.proofs.lemmas.Bool.{and_parts, eqb-true}
use Rattle.joint.specs.Unmet.{failed}

-- a test that passes both ways
abbrev both : (Bool → Bool) → Bool
both p = p true && p false

both_at : (p : Bool → Bool) → both p ≡ true → (b : Bool) → p b ≡ true
both_at p h true = (and_parts (p true) (p false) h).0
both_at p h false = (and_parts (p true) (p false) h).1

abbrev pub set_of : (a b c d e f g : Bool) → ℕ
set_of a b c d e f g =
    bit_or (bit_or (bit_or (bit_or (failed a 1) (failed b 2)) (failed c 4)) (failed d 8)) (bit_or (bit_or (failed e 16) (failed f 32)) (failed g 64))

abbrev pub sum_of : (a b c d e f g : Bool) → ℕ
sum_of a b c d e f g = failed a 1 + failed b 2 + failed c 4 + failed d 8 + failed e 16 + failed f 32 + failed g 64

abbrev pub count_of : (a b c d e f g : Bool) → ℕ
count_of a b c d e f g = failed a 1 + failed b 1 + failed c 1 + failed d 1 + failed e 1 + failed f 1 + failed g 1

abbrev right : (a b c d e f g : Bool) → Bool
right a b c d e f g = eqb (set_of a b c d e f g) (sum_of a b c d e f g) && eqb (ones (set_of a b c d e f g)) (count_of a b c d e f g)

all_right : both (λ a. both (λ b. both (λ c. both (λ d. both (λ e. both (λ f. both (λ g. right a b c d e f g))))))) ≡ true
unfolding ones ones_in
all_right = refl

right_at : (a b c d e f g : Bool) → right a b c d e f g ≡ true
right_at a b c d e f g =
    both_at (λ g. right a b c d e f g)
    (both_at (λ f. both (λ g. right a b c d e f g))
    (both_at (λ e. both (λ f. both (λ g. right a b c d e f g)))
    (both_at (λ d. both (λ e. both (λ f. both (λ g. right a b c d e f g))))
    (both_at (λ c. both (λ d. both (λ e. both (λ f. both (λ g. right a b c d e f g)))))
    (both_at (λ b. both (λ c. both (λ d. both (λ e. both (λ f. both (λ g. right a b c d e f g))))))
    (both_at (λ a. both (λ b. both (λ c. both (λ d. both (λ e. both (λ f. both (λ g. right a b c d e f g)))))))
    all_right a) b) c) d) e) f) g

pub set_sum : (a b c d e f g : Bool) → set_of a b c d e f g ≡ sum_of a b c d e f g
set_sum a b c d e f g = eqb-true _ _ (and_parts _ _ (right_at a b c d e f g)).0

pub set_count : (a b c d e f g : Bool) → ones (set_of a b c d e f g) ≡ count_of a b c d e f g
set_count a b c d e f g = eqb-true _ _ (and_parts _ _ (right_at a b c d e f g)).1
