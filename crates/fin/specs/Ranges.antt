-- What an admitted fin plate keeps, as plain facts, from its checks.
use Rattle.std.specs.Prelude.{◌≡◌, ◌*◌, ◌<◌, ◌≤◌, true}
use Rattle.std.proofs.lemmas.Bool.{ltb-true, leb-true}
use Rattle.components.specs.Tabled.{fu, fub, hole_of, bolt_size}
use Rattle.components.proofs.Listed.{Range, steel_range, class_range, bolt_range}
use Rattle.joint.specs.Checked.{none_of}
use Rattle.joint.proofs.Turns.{passes, low, high}
use Rattle.fin.specs.FieldChecks.{checks, first_fault}
use Rattle.fin.specs.declared.fin_joint.FinJoint.{FinJoint}

pub record Admitted (j : FinJoint) : Type 0 where
  pub plate : Range 235 460 360 540 j.steels.plate (fu j.steels.plate)
  pub web : Range 235 460 360 540 j.steels.web (fu j.steels.web)
  pub bolt : Range 12 30 13 33 j.bolts.bolt (hole_of j.bolts.bolt)
  pub bolt_listed : bolt_size j.bolts.bolt ≡ true
  pub grade : Range 46 109 400 1000 j.bolts.grade (fub j.bolts.grade)
  pub rows_low : 2 ≤ j.bolts.rows
  pub rows_high : j.bolts.rows ≤ 10
  pub e1_high : j.layout.e1 ≤ 150
  pub p1_high : j.layout.p1 ≤ 200
  pub e2_high : j.layout.e2 ≤ 150
  pub z_low : 1 ≤ j.layout.z
  pub z_high : j.layout.z ≤ 166
  pub tp_low : 30 ≤ j.parts.tp
  pub tp_high : j.parts.tp ≤ 250
  pub tw_low : 30 ≤ j.parts.tw
  pub tw_high : j.parts.tw ≤ 250
  pub e1b_high : j.parts.e1b ≤ 150
  pub e2b_high : j.parts.e2b ≤ 150
  pub av_high : j.parts.av ≤ 100000
  pub a_high : j.parts.a ≤ 250
  pub he_high : j.demands.he ≤ 500
  pub db_high : j.demands.db ≤ 2000
  pub phi_high : j.demands.phi ≤ 100000
  pub e1_end : 12 * hole_of j.bolts.bolt ≤ 10 * j.layout.e1
  pub p1_pitch : 22 * hole_of j.bolts.bolt ≤ 10 * j.layout.p1
  pub e2_edge : 12 * hole_of j.bolts.bolt ≤ 10 * j.layout.e2
  pub e1b_end : 12 * hole_of j.bolts.bolt ≤ 10 * j.parts.e1b
  pub e2b_edge : 12 * hole_of j.bolts.bolt ≤ 10 * j.parts.e2b
  pub area : j.bolts.rows * hole_of j.bolts.bolt * j.parts.tw < 10 * j.parts.av
  pub deep : j.bolts.rows * hole_of j.bolts.bolt < j.demands.db

pub ranges : (j : FinJoint) → none_of (first_fault j) ≡ true → Admitted j
unfolding checks
ranges j h =
    let steels = passes (checks j) h in
    let bolts = steels.1.1 in
    let layout = bolts.1.1.1.1 in
    let parts = layout.1.1.1.1 in
    let demands = parts.1.1.1.1.1.1 in
    let apart = demands.1.1.1.1.1 in
    let whole = apart.1.1.1.1.1 in
    record {
      plate = steel_range j.steels.plate steels.0;
      web = steel_range j.steels.web steels.1.0;
      bolt = bolt_range j.bolts.bolt bolts.0;
      bolt_listed = bolts.0;
      grade = class_range j.bolts.grade bolts.1.0;
      rows_low = low 2 10 _ bolts.1.1.1.0;
      rows_high = high 2 10 _ bolts.1.1.1.0;
      e1_high = high 1 150 _ layout.0;
      p1_high = high 1 200 _ layout.1.0;
      e2_high = high 1 150 _ layout.1.1.0;
      z_low = low 1 166 _ layout.1.1.1.0;
      z_high = high 1 166 _ layout.1.1.1.0;
      tp_low = low 30 250 _ parts.0;
      tp_high = high 30 250 _ parts.0;
      tw_low = low 30 250 _ parts.1.0;
      tw_high = high 30 250 _ parts.1.0;
      e1b_high = high 1 150 _ parts.1.1.0;
      e2b_high = high 1 150 _ parts.1.1.1.0;
      av_high = high 1 100000 _ parts.1.1.1.1.0;
      a_high = high 1 250 _ parts.1.1.1.1.1.0;
      he_high = high 0 500 _ demands.0;
      db_high = high 1 2000 _ demands.1.0;
      phi_high = high 0 100000 _ demands.1.1.0;
      e1_end = leb-true _ _ apart.0;
      p1_pitch = leb-true _ _ apart.1.0;
      e2_edge = leb-true _ _ apart.1.1.0;
      e1b_end = leb-true _ _ apart.1.1.1.0;
      e2b_edge = leb-true _ _ apart.1.1.1.1.0;
      area = ltb-true _ _ whole.1.1.0;
      deep = ltb-true _ _ whole.1.1.1.0;
    }
