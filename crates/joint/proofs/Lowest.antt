-- What the governing search keeps from turn to turn, and what its answer says of every mode.
use Rattle.std.proofs.Common.{◌≡◌, ℕ, zero, suc, ◌+◌, ◌<◌, ◌≤◌, ltb, ◌⊎◌, Some, None, Option, sym, ap, ◌∙◌, subst, inl, inr, ⊎_elim, refl, arith}
use Rattle.std.proofs.lemmas.Bool.{cases_lt, cond-true, cond-false, cases_Bool, ltb-true, ltb-false}
use Rattle.joint.specs.Govern.{better, lowest, Governs, Silent, Found}
use Rattle.joint.specs.declared.sheet.Governing.{Governing}

abbrev pub named_at : ℕ → ℕ → Governing
named_at i v = record { mode = i; figure = v }

pub none_some : {o : Option ℕ} {v : ℕ} → o ≡ None → o ≡ Some v → ⊥
none_some p q = cc

same_some : {o : Option ℕ} {v w : ℕ} → o ≡ Some v → o ≡ Some w → v ≡ w
same_some p q = cc

module _ (f : ℕ → Option ℕ) (first : ℕ) (some : 1 ≤ first) where
  last : (n i : ℕ) → i < first + suc n → (i < first + n) ⊎ (i ≡ first + n)
  last n i h = ⊎_elim (λ l. inl l) (λ l. inr (omega arith)) (cases_lt i (first + n))

  at_last : (n i : ℕ) {x : Option ℕ} → f (first + n) ≡ x → i ≡ first + n → f i ≡ x
  at_last n i e h = ap f h ∙ e

  -- the first n modes and the next: it does not bind
  skips_on : (n : ℕ) (r : Governing) → f (first + n) ≡ None → Governs f first n r → Governs f first (suc n) r
  skips_on n r e g = record {
    within = (g.within.0, omega (arith, g.within.1));
    named = g.named;
    least = λ i v lo hi is. ⊎_elim (λ h. g.least i v lo h is) (λ h. absurd (none_some (at_last n i e h) is)) (last n i hi);
    ties = λ i v lo hi is same. ⊎_elim (λ h. g.ties i v lo h is same) (λ h. absurd (none_some (at_last n i e h) is)) (last n i hi);
  }

  skips_none : (n : ℕ) → f (first + n) ≡ None → Silent f first n → Silent f first (suc n)
  skips_none n e s = λ i lo hi. ⊎_elim (λ h. s i lo h) (λ h. at_last n i e h) (last n i hi)

  -- it binds, and is the first that does
  begins : (n v : ℕ) → f (first + n) ≡ Some v → Silent f first n → Governs f first (suc n) (named_at (first + n) v)
  begins n v e s = record {
    within = (omega arith, omega arith);
    named = e;
    least = λ i w lo hi is. ⊎_elim (λ h. absurd (none_some (s i lo h) is)) (λ h. let q : v ≡ w = same_some (at_last n i e h) is in omega arith) (last n i hi);
    ties = λ i w lo hi is same. ⊎_elim (λ h. absurd (none_some (s i lo h) is)) (λ h. omega arith) (last n i hi);
  }

  -- it binds lower
  falls : (n v : ℕ) (r : Governing) → f (first + n) ≡ Some v → Governs f first n r → v < r.figure → Governs f first (suc n) (named_at (first + n) v)
  falls n v r e g lt = record {
    within = (omega arith, omega arith);
    named = e;
    least = λ i w lo hi is. ⊎_elim (λ h. let q : r.figure ≤ w = g.least i w lo h is in omega arith) (λ h. let q : v ≡ w = same_some (at_last n i e h) is in omega arith) (last n i hi);
    ties = λ i w lo hi is same. ⊎_elim (λ h. let q : r.figure ≤ w = g.least i w lo h is in omega arith) (λ h. omega arith) (last n i hi);
  }

  -- it binds no lower
  stays : (n v : ℕ) (r : Governing) → f (first + n) ≡ Some v → Governs f first n r → r.figure ≤ v → Governs f first (suc n) r
  stays n v r e g le = record {
    within = (g.within.0, omega (arith, g.within.1));
    named = g.named;
    least = λ i w lo hi is. ⊎_elim (λ h. g.least i w lo h is) (λ h. let q : v ≡ w = same_some (at_last n i e h) is in omega arith) (last n i hi);
    ties = λ i w lo hi is same. ⊎_elim (λ h. g.ties i w lo h is same) (λ h. omega (arith, g.within.1)) (last n i hi);
  }

  step : (n : ℕ) (r : Option Governing) (x : Option ℕ) → f (first + n) ≡ x → Found f first n r → Found f first (suc n) (better r (first + n) x)
  step n None None e s = skips_none n e s
  step n (Some r) None e g = skips_on n r e g
  step n None (Some v) e s = begins n v e s
  step n (Some r) (Some v) e g =
      ⊎_elim
      (λ b. subst (Found f first (suc n)) (sym (cond-true _ (Some (named_at (first + n) v)) (Some r) b)) (falls n v r e g (ltb-true v r.figure b)))
      (λ b. subst (Found f first (suc n)) (sym (cond-false _ (Some (named_at (first + n) v)) (Some r) b)) (stays n v r e g (ltb-false v r.figure b)))
      (cases_Bool (ltb v r.figure))

  -- the search finds the governing mode, or there is none
  pub found : (n : ℕ) → Found f first n (lowest f first n)
  found zero = λ i lo hi. absurd (omega arith)
  found (suc n) = step n (lowest f first n) (f (first + n)) refl (found n)

  pub found_as : (n : ℕ) {r : Option Governing} → r ≡ lowest f first n → Found f first n r
  found_as n e = subst (Found f first n) (sym e) (found n)
