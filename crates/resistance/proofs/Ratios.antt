-- The smaller of two fractions, and products.
use Rattle.std.proofs.Common.{◌≡◌, ℕ, ◌<◌, ◌≤◌, ◌⊎◌, sym, subst, inl, inr, le_of_lt, mul-le-mul, mul-pos, arith}
use Rattle.std.proofs.lemmas.Bool.{leb-true, leb-false, cases_Bool, cond-true, cond-false}
use Rattle.resistance.specs.Fractions.{◌⊗◌, ◌≼◌, at_most, smaller}
use Rattle.resistance.specs.declared.ratio.Ratio.{Ratio}

-- no fraction over 0
abbrev pub Proper : Ratio → Type 0
Proper x = 0 < x.under

pub smaller_is : (x y : Ratio) → ((smaller x y ≡ x) × (x ≼ y)) ⊎ ((smaller x y ≡ y) × (y ≼ x))
unfolding smaller
smaller_is x y = elim (cases_Bool (at_most x y)) [
  | inl e ↦ inl (cond-true _ x y e, leb-true _ _ e)
  | inr e ↦ inr (cond-false _ x y e, le_of_lt (leb-false _ _ e))
]

pub smaller_proper : (x y : Ratio) → Proper x → Proper y → Proper (smaller x y)
smaller_proper x y p q = elim (smaller_is x y) [ inl h ↦ subst Proper (sym h.0) p | inr h ↦ subst Proper (sym h.0) q ]

pub times_proper : (x y : Ratio) → Proper x → Proper y → Proper (x ⊗ y)
times_proper x y p q = mul-pos p q

-- the smaller of two is at most either, and at least whatever both are
pub smaller_left : (x y : Ratio) → smaller x y ≼ x
smaller_left x y = elim (smaller_is x y) [
  | inl h ↦ subst (λ r. r ≼ x) (sym h.0) (omega arith)
  | inr h ↦ subst (λ r. r ≼ x) (sym h.0) h.1
]

pub smaller_right : (x y : Ratio) → smaller x y ≼ y
smaller_right x y = elim (smaller_is x y) [
  | inl h ↦ subst (λ r. r ≼ y) (sym h.0) h.1
  | inr h ↦ subst (λ r. r ≼ y) (sym h.0) (omega arith)
]

pub smaller_both : (z x y : Ratio) → z ≼ x → z ≼ y → z ≼ smaller x y
smaller_both z x y p q = elim (smaller_is x y) [
  | inl h ↦ subst (λ r. z ≼ r) (sym h.0) p
  | inr h ↦ subst (λ r. z ≼ r) (sym h.0) q
]

pub times_mono : (x x' y y' : Ratio) → x ≼ x' → y ≼ y' → (x ⊗ y) ≼ (x' ⊗ y')
times_mono x x' y y' p q = let e = mul-le-mul p q in omega arith

-- the parts of the smaller stay within what bounds the parts of both
pub smaller_over : (x y : Ratio) (b : ℕ) → x.over ≤ b → y.over ≤ b → (smaller x y).over ≤ b
smaller_over x y b p q = elim (smaller_is x y) [
  | inl h ↦ subst (λ (r : Ratio). r.over ≤ b) (sym h.0) p
  | inr h ↦ subst (λ (r : Ratio). r.over ≤ b) (sym h.0) q
]

pub smaller_under : (x y : Ratio) (b : ℕ) → x.under ≤ b → y.under ≤ b → (smaller x y).under ≤ b
smaller_under x y b p q = elim (smaller_is x y) [
  | inl h ↦ subst (λ (r : Ratio). r.under ≤ b) (sym h.0) p
  | inr h ↦ subst (λ (r : Ratio). r.under ≤ b) (sym h.0) q
]
