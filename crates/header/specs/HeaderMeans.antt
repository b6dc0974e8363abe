-- A header plate keeps the meaning of a kind.
use Rattle.std.specs.Prelude.{◌≡◌, ℕ, ◌-◌, ◌*◌, ◌≤◌, true, [], Some, None, ◌==◌, ◌≢◌, refl}
use Rattle.std.proofs.Math.Nat.{mul-le-mul}
use native.Mathlib.Omega.{arith}
use Rattle.std.proofs.lemmas.Bool.{cond_both}
use Rattle.std.proofs.lemmas.Bool.Decides.{nat_tests}
use Rattle.resistance.specs.Fractions.{◌÷◌, smaller}
use Rattle.resistance.proofs.Held.{sum_held}
use Rattle.resistance.proofs.Ratios.{Proper, smaller_proper}
use Rattle.components.specs.Bears.{k, u, w, most}
use Rattle.components.specs.Tabled.{fu, hole_of}
use Rattle.components.proofs.BearParts.{k_is_proper, u_is_proper, w_is_proper, bear_proper}
use Rattle.joint.specs.Checked.{within}
use Rattle.joint.specs.Meaning.{Meaning}
use Rattle.joint.specs.Modes.{printing, Below, Every, SoundMode, HeldMode}
use Rattle.joint.proofs.Admits.{kept_is}
use Rattle.joint.proofs.Expressed.{Agree, some_cond, every_mode, means}
use Rattle.header.specs.FieldChecks.{first_fault}
use Rattle.header.specs.HeaderAdmission.{make_header, header_admission}
use Rattle.header.specs.HeaderModes.{shear_modes, shear_binds, shallow, sides_of, torn_of, plate_bending, on_plate, on_support, support_edge, header_mode, header_binds}
use Rattle.header.specs.declared.header.Header.{Header}
use Rattle.header.specs.declared.header_joint.HeaderJoint.{HeaderJoint}
use Rattle.header.specs.Ranges.{Admitted, ranges}
use Rattle.components.proofs.Plates.{block_torn}
use Rattle.header.specs.Tried.{accepted}

-- the modes with an expression are those that bind
agree : (j : HeaderJoint) → Agree (shear_modes j) (shear_binds j)
unfolding shear_modes shear_binds
agree j = (refl, (refl, (refl, (refl, (refl, (refl, (some_cond (shallow j) (plate_bending j), (refl, tt))))))))

module _ (j : HeaderJoint) (a : Admitted j) where
  abbrev d₀ : ℕ
  d₀ = hole_of j.bolts.bolt

  k_proper : (e : ℕ) → Proper (k d₀ e)
  k_proper e = k_is_proper d₀ e (omega (arith, a.bolt.worth))

  u_proper : (e : ℕ) → Proper (u d₀ e)
  u_proper e = u_is_proper d₀ e (omega (arith, a.bolt.worth))

  w_proper : (p : ℕ) → Proper (w d₀ p)
  w_proper p = w_is_proper d₀ p (omega (arith, a.bolt.worth))

  -- no mode that binds has a fraction over 0
  sound : Every SoundMode (shear_modes j)
  unfolding shear_modes
  sound =
      let plate = bear_proper (on_plate j) (k d₀ j.layout.e2) (smaller (u d₀ j.layout.e1) (w d₀ j.layout.p1)) (let h = a.plate.worth in omega arith)
      (k_proper j.layout.e2) (smaller_proper (u d₀ j.layout.e1) (w d₀ j.layout.p1) (u_proper j.layout.e1) (w_proper j.layout.p1)) in
      let support = bear_proper (on_support j) (support_edge j) (w d₀ j.layout.p1) (let h = a.supp.worth in omega arith)
      (cond_both (j.parts.es == 0) most (k d₀ j.parts.es) Proper (λ _. omega arith) (λ _. k_proper j.parts.es)) (w_proper j.layout.p1) in
      let bending = cond_both (shallow j) (Some (plate_bending j)) None SoundMode (λ _. let h = a.bolt.worth in omega arith) (λ _. tt) in
      (omega arith, (plate, (support, (omega arith, (omega arith, ((omega arith, omega arith), (bending, (omega arith, tt))))))))

  torn_most : torn_of j ≤ 4200
  torn_most = block_torn j.bolts.rows d₀ j.layout.e1 j.layout.p1 a.rows_high a.e1_high a.p1_high

  -- 64 bits hold every figure
  all_held : Every HeldMode (shear_modes j)
  unfolding shear_modes
  all_held =
      let sides : sides_of j ≤ 2 = cond_both (shallow j) 1 2 (λ n. n ≤ 2) (λ _. omega arith) (λ _. omega arith) in
      let edge : 2 * j.layout.e2 - d₀ ≤ 300 = omega arith in
      let x = mul-le-mul (mul-le-mul (mul-le-mul sides a.tp_high) edge) a.plate.bound in
      let y = mul-le-mul (mul-le-mul a.tp_high a.plate.high) torn_most in
      let tearing = sum_held ((sides_of j * j.parts.tp * (2 * j.layout.e2 - d₀) * fu j.steels.plate) ÷ 25) ((j.parts.tp * j.steels.plate * torn_of j) ÷ 10) (omega arith) (omega arith) in
      let bending = cond_both (shallow j) (Some (plate_bending j)) None HeldMode (λ _. refl) (λ _. tt) in
      (refl, (refl, (refl, (refl, (refl, (tearing, (bending, (refl, tt))))))))

pub held_mode : (h : Header) (i : ℕ) → HeldMode (header_mode h i)
held_mode h i = every_mode HeldMode tt (shear_modes h.joint) [] (all_held h.joint (ranges h.joint h.ok)) tt i

-- of the modes of the sheet only 7 has a rule
pub other_binds : (h : Header) (i : ℕ) → (i ≢ 7) → within 1 8 i ≡ header_binds h i
unfolding shear_binds
other_binds h i ne = grind (arith, nat_tests)

first_binds : (h : Header) → header_binds h 1 ≡ true
unfolding shear_binds
first_binds h = refl

pub header_means : Meaning 20 8 0 header_admission (λ (h : Header). h.joint) header_binds (λ h i. printing (header_mode h i)) (λ h i v. Below (header_mode h i) v)
header_means =
    means (λ h. shear_modes h.joint) (λ _. []) (λ h. shear_binds h.joint) (λ _. [])
    (λ h. (agree h.joint, tt)) (λ h. (sound h.joint (ranges h.joint h.ok), tt))
    20 8 0 header_admission (λ h. h.joint) (omega arith) (omega arith) (omega arith) (omega arith)
    (kept_is first_fault make_header (λ h. h.joint) (λ r e. refl)) accepted first_binds
