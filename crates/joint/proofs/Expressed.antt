-- A kind whose modes are lists of expressions keeps the meaning of a kind, whatever the expressions are, if no mode that binds has a fraction over 0.
use Rattle.std.proofs.Common.{◌≡◌, ℕ, ◌+◌, ◌≤◌, Bool, true, false, cond, eqb, ltb, List, [], ◌∷◌, Some, None, Ok, Option, Result, sym, refl, ◌∙◌, subst}
use Rattle.std.proofs.lemmas.Bool.{cond_both}
use Rattle.resistance.specs.Expressions.{printed, figure_of, Allows, margin}
use Rattle.resistance.specs.declared.expression.Expression.{Expression}
use Rattle.resistance.proofs.Readings.{close, zero_allowed, smaller_allowed}
use Rattle.joint.specs.Meaning.{Meaning}
use Rattle.joint.specs.Modes.{numbered, mode_in, printing, Below, Every, SoundMode, HeldMode}
use Rattle.joint.specs.declared.fault.JointFault.{JointFault}
use Rattle.joint.proofs.Lowest.{none_some}

abbrev pub some_of : Option Expression → Bool
some_of None = false
some_of (Some e) = true

-- the modes with an expression are those that bind
abbrev pub Agree : List (Option Expression) → List Bool → Type 0
Agree [] [] = Unit {0}
Agree [] (b ∷ bs) = ⊥
Agree (m ∷ ms) [] = ⊥
Agree (m ∷ ms) (b ∷ bs) = (some_of m ≡ b) × Agree ms bs

agree_at : (n i : ℕ) (ms : List (Option Expression)) (bs : List Bool) → Agree ms bs → some_of (numbered None n ms i) ≡ numbered false n bs i
agree_at n i [] [] h = refl
agree_at n i [] (b ∷ bs) h = absurd h
agree_at n i (m ∷ ms) [] h = absurd h
agree_at n i (m ∷ ms) (b ∷ bs) h = go (eqb i n) (agree_at (n + 1) i ms bs h.1)
  where
    go : (t : Bool) → some_of (numbered None (n + 1) ms i) ≡ numbered false (n + 1) bs i → some_of (cond t m (numbered None (n + 1) ms i)) ≡ cond t b (numbered false (n + 1) bs i)
    go true later = h.0
    go false later = later

-- a rule on one mode
pub some_cond : (b : Bool) (e : Expression) → some_of (cond b (Some e) None) ≡ b
some_cond true e = refl
some_cond false e = refl

every_at : (P : Option Expression → Type 0) → P None → (n i : ℕ) (ms : List (Option Expression)) → Every P ms → P (numbered None n ms i)
every_at P none n i [] h = none
every_at P none n i (m ∷ ms) h = cond_both (eqb i n) m (numbered None (n + 1) ms i) P (λ _. h.0) (λ _. every_at P none (n + 1) i ms h.1)

-- what holds of every mode holds of the mode asked for
pub every_mode : (P : Option Expression → Type 0) → P None → (shear tying : List (Option Expression)) → Every P shear → Every P tying → (i : ℕ) → P (mode_in None shear tying i)
every_mode P none shear tying hs ht i =
    cond_both (ltb i 21) (numbered None 1 shear i) (numbered None 21 tying i) P (λ _. every_at P none 1 i shear hs) (λ _. every_at P none 21 i tying ht)

-- the figure that is answered is the one printed
pub figure_is : (m : Option Expression) (e : Expression) → HeldMode m → m ≡ Some e → figure_of e ≡ printing m
figure_is None e h is = cc
figure_is (Some x) e h is = let same : x ≡ e = cc in subst (λ (y : Expression). figure_of y ≡ Some (printed x)) same h

-- of one mode
bound_some : (m : Option Expression) → some_of m ≡ true → (v : ℕ) × (printing m ≡ Some v)
bound_some None h = cc
bound_some (Some e) h = (printed e, refl)

unbound_none : (m : Option Expression) → some_of m ≡ false → printing m ≡ None
unbound_none None h = refl
unbound_none (Some e) h = cc

zero_below : (m : Option Expression) → some_of m ≡ true → Below m 0
zero_below None h = cc
zero_below (Some e) h = zero_allowed e

less_below : (m : Option Expression) (a b : ℕ) → a ≤ b → Below m b → Below m a
less_below None a b le h = h
less_below (Some e) a b le h = smaller_allowed e a b le h

printed_below : (m : Option Expression) (v : ℕ) → SoundMode m → printing m ≡ Some v → Below m v
printed_below None v s h = absurd (none_some refl h)
printed_below (Some e) v s h = let is : printed e ≡ v = cc in subst (Allows e) is (close e s).below

printed_near : (m : Option Expression) (v : ℕ) → SoundMode m → printing m ≡ Some v → Below m (v + margin) → ⊥
printed_near None v s h b = b
printed_near (Some e) v s h b = let is : printed e ≡ v = cc in (close e s).above (subst (λ (n : ℕ). Allows e (n + margin)) (sym is) b)

module _ {J : Type 0} (shear tying : J → List (Option Expression)) (shear_binds tying_binds : J → List Bool)
    (agree : (j : J) → Agree (shear j) (shear_binds j) × Agree (tying j) (tying_binds j))
    (sound : (j : J) → Every SoundMode (shear j) × Every SoundMode (tying j)) where
  abbrev mode : J → ℕ → Option Expression
  mode j i = mode_in None (shear j) (tying j) i

  abbrev binds : J → ℕ → Bool
  binds j i = mode_in false (shear_binds j) (tying_binds j) i

  some_binds : (j : J) (i : ℕ) → some_of (mode j i) ≡ binds j i
  some_binds j i = go (ltb i 21)
    where
      go : (t : Bool) → some_of (cond t (numbered None 1 (shear j) i) (numbered None 21 (tying j) i)) ≡ cond t (numbered false 1 (shear_binds j) i) (numbered false 21 (tying_binds j) i)
      go true = agree_at 1 i (shear j) (shear_binds j) (agree j).0
      go false = agree_at 21 i (tying j) (tying_binds j) (agree j).1

  mode_sound : (j : J) (i : ℕ) → SoundMode (mode j i)
  mode_sound j i = every_mode SoundMode tt (shear j) (tying j) (sound j).0 (sound j).1 i

  -- the counts, the facts of admission and that mode 1 binds are the kind's own
  pub means : {R : Type 0} (fields n m : ℕ) (admission : R → Result J JointFault) (joint : J → R) → 1 ≤ fields → 1 ≤ n → n ≤ 20 → m ≤ 20 →
      ((r : R) (j : J) → admission r ≡ Ok j → joint j ≡ r) → ((j : J) → admission (joint j) ≡ Ok j) → ((j : J) → binds j 1 ≡ true) →
      Meaning fields n m admission joint binds (λ j i. printing (mode j i)) (λ j i v. Below (mode j i) v)
  means fields n m admission joint f some few tied kept again first = record {
    some_fields = f;
    some_shear = some;
    few_shear = few;
    few_tying = tied;
    kept = kept;
    again = again;
    figured = λ j i b. bound_some (mode j i) (some_binds j i ∙ b);
    silent = λ j i b. unbound_none (mode j i) (some_binds j i ∙ b);
    first = first;
    nought = λ j i b. zero_below (mode j i) (some_binds j i ∙ b);
    down = λ j i x y b le h. less_below (mode j i) x y le h;
    safe = λ j i v e. printed_below (mode j i) v (mode_sound j i) e;
    close = λ j i v e h. printed_near (mode j i) v (mode_sound j i) e h;
  }
