-- An entry that no mode has the number of.
use Rattle.std.proofs.Common.{◌≡◌, ℕ, ◌+◌, ◌<◌, ltb, List, [], ◌∷◌, length, refl, ◌∙◌, arith}
use Rattle.std.proofs.lemmas.Bool.{ne_eqb, cond-false, cond_both}
use Rattle.joint.specs.Modes.{numbered, mode_in}

pub outside : {X : Type 0} (none : X) (n : ℕ) (xs : List X) (i : ℕ) → ((k : ℕ) → k < length xs → i ≡ n + k → ⊥) → numbered none n xs i ≡ none
outside none n [] i h = refl
outside none n (x ∷ xs) i h =
    cond-false _ x (numbered none (n + 1) xs i) (ne_eqb i n (λ e. h 0 (omega arith) (omega arith)))
    ∙ outside none (n + 1) xs i (λ k l e. h (k + 1) (omega arith) (omega arith))

-- among shear modes alone
pub no_mode : {X : Type 0} (none : X) (xs : List X) (i : ℕ) → ((k : ℕ) → k < length xs → i ≡ 1 + k → ⊥) → mode_in none xs [] i ≡ none
no_mode none xs i h =
    cond_both (ltb i 21) (numbered none 1 xs i) none (λ m. m ≡ none) (λ _. outside none 1 xs i h) (λ _. refl)
