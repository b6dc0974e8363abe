-- One piece of text after another.
use Rattle.std.proofs.Common.{◌≡◌, ℕ, List, ◌++◌, IfOk, Ok, Err, Result, ap, ◌∙◌, append_assoc}

-- first a, then b
pub then_put : {X E : Type 0} (r : Result X E) (w₂ b w₀ a : List ℕ) {w₁ : List ℕ} → w₁ ≡ w₀ ++ a → IfOk r (λ _. w₂ ≡ w₁ ++ b) → IfOk r (λ _. w₂ ≡ w₀ ++ (a ++ b))
then_put (Ok x) w₂ b w₀ a e h = h ∙ ap (λ (w : List ℕ). w ++ b) e ∙ append_assoc w₀ a b
then_put (Err y) w₂ b w₀ a e h = tt
