-- A fin plate keeps the meaning of a kind.
use Rattle.std.specs.Prelude.{◌≡◌, ℕ, ◌+◌, ◌-◌, ◌*◌, ◌<◌, ◌≤◌, true, not, ◌&&◌, ◌||◌, Some, None, ◌==◌, ◌≢◌, refl}
use Rattle.std.proofs.Math.Nat.{mul-le-mul, mul-pos}
use native.Mathlib.Omega.{arith}
use Rattle.std.proofs.lemmas.Bool.{cond_both}
use Rattle.std.proofs.lemmas.Bool.Decides.{nat_tests}
use Rattle.resistance.specs.Fractions.{◌÷◌, ◌≼◌, dropped}
use Rattle.resistance.specs.declared.ratio.Ratio.{Ratio}
use Rattle.resistance.proofs.Held.{sum_held, GroupLimits, group_sound, group_held}
use Rattle.resistance.proofs.Ratios.{Proper, smaller_proper, smaller_both}
use Rattle.components.specs.Bears.{k, k', u, w}
use Rattle.components.specs.Tabled.{fu, fub, hole_of, area_of, shear_of}
use Rattle.components.proofs.BearParts.{k_is_proper, k'_is_proper, u_is_proper, w_is_proper, bear_proper}
use Rattle.components.proofs.GroupRanges.{Ranges, group_ranges}
use Rattle.components.proofs.Listed.{area_range, shear_range}
use Rattle.components.proofs.Plates.{block_torn}
use Rattle.joint.specs.Checked.{within}
use Rattle.joint.specs.Meaning.{Meaning}
use Rattle.joint.specs.Modes.{printing, Below, Every, SoundMode, HeldMode}
use Rattle.joint.proofs.Admits.{kept_is}
use Rattle.joint.proofs.Expressed.{Agree, some_cond, every_mode, means}
use Rattle.fin.specs.FieldChecks.{first_fault}
use Rattle.fin.specs.FinAdmission.{make_fin, fin_admission}
use Rattle.fin.specs.FinModes.{shear_modes, tying_modes, shear_binds, tying_binds, shallow, torn_of, web_torn_of, length_of, plate_bending, bolt_total, plate_down, plate_across, web_down, web_across, group_by, on_plate, on_web, plate_k, plate_α, plate_k_across, plate_α_across, web_k, web_α, web_k_across, web_α_across, fin_mode, fin_binds}
use Rattle.fin.specs.declared.fin.Fin.{Fin}
use Rattle.fin.specs.declared.fin_joint.FinJoint.{FinJoint}
use Rattle.fin.specs.Ranges.{Admitted, ranges}
use Rattle.fin.specs.Tried.{accepted}

-- the modes with an expression are those that bind
shear_agree : (j : FinJoint) → Agree (shear_modes j) (shear_binds j)
unfolding shear_modes shear_binds
shear_agree j = (refl, (refl, (refl, (refl, (refl, (some_cond (shallow j) (plate_bending j), (refl, (refl, (refl, (refl, (refl, tt)))))))))))

tying_agree : (j : FinJoint) → Agree (tying_modes j) tying_binds
unfolding tying_modes tying_binds
tying_agree j = (refl, (refl, (refl, (refl, (refl, (refl, (refl, tt)))))))

module _ (j : FinJoint) (a : Admitted j) where
  abbrev d₀ : ℕ
  d₀ = hole_of j.bolts.bolt

  k_proper : (e : ℕ) → Proper (k d₀ e)
  k_proper e = k_is_proper d₀ e (omega (arith, a.bolt.worth))

  k'_proper : (p : ℕ) → Proper (k' d₀ p)
  k'_proper p = k'_is_proper d₀ p (omega (arith, a.bolt.worth))

  u_proper : (e : ℕ) → Proper (u d₀ e)
  u_proper e = u_is_proper d₀ e (omega (arith, a.bolt.worth))

  w_proper : (p : ℕ) → Proper (w d₀ p)
  w_proper p = w_is_proper d₀ p (omega (arith, a.bolt.worth))

  plate_α_proper : Proper (plate_α j)
  plate_α_proper = smaller_proper (u d₀ j.layout.e1) (w d₀ j.layout.p1) (u_proper j.layout.e1) (w_proper j.layout.p1)

  plate_k_across_proper : Proper (plate_k_across j)
  plate_k_across_proper = smaller_proper (k d₀ j.layout.e1) (k' d₀ j.layout.p1) (k_proper j.layout.e1) (k'_proper j.layout.p1)

  -- the least distances keep every k at 1.38 and every α at 0.4 or more
  k_least : (e : ℕ) → 12 * d₀ ≤ 10 * e → (69 ÷ 50) ≼ k d₀ e
  k_least e h = omega arith

  k'_least : (69 ÷ 50) ≼ k' d₀ j.layout.p1
  k'_least = let h = a.p1_pitch in omega arith

  u_least : (e : ℕ) → 12 * d₀ ≤ 10 * e → (2 ÷ 5) ≼ u d₀ e
  u_least e h = omega arith

  w_least : (2 ÷ 5) ≼ w d₀ j.layout.p1
  w_least = let h = a.p1_pitch in omega arith

  plate_ranges : Ranges (dropped (plate_down j)) (dropped (plate_across j))
  plate_ranges = group_ranges j.bolts.rows (fub j.bolts.grade) (fu j.steels.plate) j.bolts.bolt j.parts.tp
      (record {
        fu_low = a.plate.worth;
        fu_high = a.plate.bound;
        fub_low = a.grade.worth;
        rows_low = a.rows_low;
        rows_high = a.rows_high;
        bolt_low = a.bolt.low;
        bolt_high = a.bolt.high;
        thin = a.tp_low;
        thick = a.tp_high;
      })
      (plate_k j) (plate_α j) (plate_k_across j) (plate_α_across j) (k_proper j.layout.e2) plate_α_proper plate_k_across_proper (u_proper j.layout.e2)
      (k_least j.layout.e2 a.e2_edge)
      (smaller_both (2 ÷ 5) (u d₀ j.layout.e1) (w d₀ j.layout.p1) (u_least j.layout.e1 a.e1_end) w_least)
      (smaller_both (69 ÷ 50) (k d₀ j.layout.e1) (k' d₀ j.layout.p1) (k_least j.layout.e1 a.e1_end) k'_least)
      (u_least j.layout.e2 a.e2_edge)

  web_ranges : Ranges (dropped (web_down j)) (dropped (web_across j))
  web_ranges = group_ranges j.bolts.rows (fub j.bolts.grade) (fu j.steels.web) j.bolts.bolt j.parts.tw
      (record {
        fu_low = a.web.worth;
        fu_high = a.web.bound;
        fub_low = a.grade.worth;
        rows_low = a.rows_low;
        rows_high = a.rows_high;
        bolt_low = a.bolt.low;
        bolt_high = a.bolt.high;
        thin = a.tw_low;
        thick = a.tw_high;
      })
      (web_k j) (web_α j) (web_k_across j) (web_α_across j) (k_proper j.parts.e2b) (w_proper j.layout.p1) (k'_proper j.layout.p1) (u_proper j.parts.e2b)
      (k_least j.parts.e2b a.e2b_edge) w_least k'_least (u_least j.parts.e2b a.e2b_edge)

  -- all bolts in shear
  bolt_ranges : Ranges (dropped (bolt_total j)) (dropped (bolt_total j))
  bolt_ranges =
      let A = area_of j.bolts.bolt j.bolts.plane in
      let s = shear_of j.bolts.grade j.bolts.plane in
      let ar = area_range j.bolts.bolt j.bolts.plane a.bolt_listed in
      let sr = shear_range j.bolts.grade j.bolts.plane in
      let n = 2 * j.bolts.rows * s * fub j.bolts.grade * A in
      let lo = mul-le-mul (mul-le-mul (mul-le-mul a.rows_low sr.0) a.grade.worth) ar.0 in
      let hi = mul-le-mul (mul-le-mul (mul-le-mul a.rows_high sr.1) a.grade.bound) ar.1 in
      let low : 500 ≤ n = omega arith in
      let high : n ≤ 84840000 = omega arith in
      record { some = omega arith; some_across = omega arith; most_down = omega arith; ratio = omega arith }

  length_least : 87 ≤ length_of j
  length_least =
      let r : 3 ≤ j.bolts.rows + 1 = (let h = a.rows_low in omega arith) in
      let p : 29 ≤ j.layout.p1 = (let h = a.p1_pitch in let k = a.bolt.worth in omega arith) in
      let m = mul-le-mul r p in
      omega arith

  length_most : length_of j ≤ 2200
  length_most =
      let r : j.bolts.rows + 1 ≤ 11 = (let h = a.rows_high in omega arith) in
      let m = mul-le-mul r a.p1_high in
      omega arith

  group_within : (P Q : Ratio) → Ranges (dropped P) (dropped Q) → GroupLimits (group_by j P Q)
  group_within P Q r =
      let lo = length_least in
      let hi = length_most in
      let z = a.z_high in
      record {
        vertical = (let h = r.some in omega arith);
        most = (let h = r.most_down in omega arith);
        horizontal = (let h = r.some_across in omega arith);
        ratio = r.ratio;
        shear = omega arith;
        down = omega arith;
        across = omega arith;
        scale_most = omega arith;
        fine = (let h = r.most_down in omega arith);
      }

  bolt_within : GroupLimits (group_by j (bolt_total j) (bolt_total j))
  bolt_within = group_within (bolt_total j) (bolt_total j) bolt_ranges

  plate_within : GroupLimits (group_by j (plate_down j) (plate_across j))
  plate_within = group_within (plate_down j) (plate_across j) plate_ranges

  web_within : GroupLimits (group_by j (web_down j) (web_across j))
  web_within = group_within (web_down j) (web_across j) web_ranges

  -- no mode that binds has a fraction over 0
  shear_sound : Every SoundMode (shear_modes j)
  unfolding shear_modes
  shear_sound =
      let bending = cond_both (shallow j) (Some (plate_bending j)) None SoundMode (λ _. let h = a.z_low in omega arith) (λ _. tt) in
      (group_sound _ bolt_within, (group_sound _ plate_within, (omega arith, (omega arith, ((omega arith, omega arith), (bending, (tt, (group_sound _ web_within, (omega arith, (omega arith, ((omega arith, omega arith), tt)))))))))))

  tying_sound : Every SoundMode (tying_modes j)
  unfolding tying_modes
  tying_sound =
      let plate = mul-pos (bear_proper (on_plate j) (plate_k_across j) (plate_α_across j) (let h = a.plate.worth in omega arith) plate_k_across_proper (u_proper j.layout.e2)) (four 4) in
      let web = mul-pos (bear_proper (on_web j) (web_k_across j) (web_α_across j) (let h = a.web.worth in omega arith) (k'_proper j.layout.p1) (u_proper j.parts.e2b)) (four 4) in
      (omega arith, (plate, (omega arith, (omega arith, (web, (omega arith, (omega arith, tt)))))))
    where
      four : (n : ℕ) → 0 < 4
      four n = omega arith

  torn_most : torn_of j ≤ 4200
  torn_most = block_torn j.bolts.rows d₀ j.layout.e1 j.layout.p1 a.rows_high a.e1_high a.p1_high

  web_torn_bound : web_torn_of j ≤ 4200
  web_torn_bound = omega (arith, block_torn j.bolts.rows d₀ j.parts.e1b j.layout.p1 a.rows_high a.e1b_high a.p1_high)

  -- 64 bits hold every figure
  shear_held : Every HeldMode (shear_modes j)
  unfolding shear_modes
  shear_held =
      let edge : 2 * j.layout.e2 - d₀ ≤ 300 = (let h = a.e2_high in omega arith) in
      let web-edge : 2 * j.parts.e2b - d₀ ≤ 300 = (let h = a.e2b_high in omega arith) in
      let x = mul-le-mul (mul-le-mul a.tp_high edge) a.plate.bound in
      let y = mul-le-mul (mul-le-mul a.tp_high a.plate.high) torn_most in
      let v = mul-le-mul (mul-le-mul a.tw_high web-edge) a.web.bound in
      let z = mul-le-mul (mul-le-mul a.tw_high a.web.high) web_torn_bound in
      let tearing = sum_held ((j.parts.tp * (2 * j.layout.e2 - d₀) * fu j.steels.plate) ÷ 50) ((j.parts.tp * j.steels.plate * torn_of j) ÷ 20) (omega arith) (omega arith) in
      let web_tearing = sum_held ((j.parts.tw * (2 * j.parts.e2b - d₀) * fu j.steels.web) ÷ 50) ((j.parts.tw * j.steels.web * web_torn_of j) ÷ 20) (omega arith) (omega arith) in
      let bending = cond_both (shallow j) (Some (plate_bending j)) None HeldMode (λ _. refl) (λ _. tt) in
      (group_held _ bolt_within, (group_held _ plate_within, (refl, (refl, (tearing, (bending, (tt, (group_held _ web_within, (refl, (refl, (web_tearing, tt)))))))))))

  tying_held : Every HeldMode (tying_modes j)
  unfolding tying_modes
  tying_held = (refl, (refl, (refl, (refl, (refl, (refl, (refl, tt)))))))

pub held_mode : (f : Fin) (i : ℕ) → HeldMode (fin_mode f i)
held_mode f i =
    let a = ranges f.joint f.ok in
    every_mode HeldMode tt (shear_modes f.joint) (tying_modes f.joint) (shear_held f.joint a) (tying_held f.joint a) i

-- of the modes of the sheet only 6 and 7 have a rule
pub other_binds : (f : Fin) (i : ℕ) → (i ≢ 6) → not (i == 7) && (within 1 11 i || within 21 27 i) ≡ fin_binds f i
unfolding shear_binds tying_binds
other_binds f i ne = grind (arith, nat_tests)

first_binds : (f : Fin) → fin_binds f 1 ≡ true
unfolding shear_binds
first_binds f = refl

pub fin_means : Meaning 21 11 7 fin_admission (λ (f : Fin). f.joint) fin_binds (λ f i. printing (fin_mode f i)) (λ f i v. Below (fin_mode f i) v)
fin_means =
    means (λ f. shear_modes f.joint) (λ f. tying_modes f.joint) (λ f. shear_binds f.joint) (λ _. tying_binds)
    (λ f. (shear_agree f.joint, tying_agree f.joint))
    (λ f. (shear_sound f.joint (ranges f.joint f.ok), tying_sound f.joint (ranges f.joint f.ok)))
    21 11 7 fin_admission (λ f. f.joint) (omega arith) (omega arith) (omega arith) (omega arith)
    (kept_is first_fault make_fin (λ f. f.joint) (λ r e. refl)) accepted first_binds
