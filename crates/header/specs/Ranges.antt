-- What an admitted header plate keeps, as plain facts, from its checks.
use Rattle.std.specs.Prelude.{◌≡◌, ◌*◌, ◌≤◌, true}
use Rattle.std.proofs.lemmas.Bool.{leb-true}
use Rattle.components.specs.Tabled.{fu, fub, hole_of}
use Rattle.components.proofs.Listed.{Range, steel_range, class_range, bolt_range}
use Rattle.joint.specs.Checked.{none_of}
use Rattle.joint.proofs.Turns.{passes, low, high}
use Rattle.header.specs.FieldChecks.{checks, first_fault}
use Rattle.header.specs.declared.header_joint.HeaderJoint.{HeaderJoint}

pub record Admitted (j : HeaderJoint) : Type 0 where
  pub plate : Range 235 460 360 540 j.steels.plate (fu j.steels.plate)
  pub web : Range 235 460 360 540 j.steels.web (fu j.steels.web)
  pub supp : Range 235 460 360 540 j.steels.supp (fu j.steels.supp)
  pub bolt : Range 12 30 13 33 j.bolts.bolt (hole_of j.bolts.bolt)
  pub grade : Range 46 109 400 1000 j.bolts.grade (fub j.bolts.grade)
  pub rows_low : 2 ≤ j.bolts.rows
  pub rows_high : j.bolts.rows ≤ 10
  pub e1_high : j.layout.e1 ≤ 150
  pub p1_high : j.layout.p1 ≤ 200
  pub e2_high : j.layout.e2 ≤ 150
  pub p2_high : j.layout.p2 ≤ 200
  pub tp_high : j.parts.tp ≤ 250
  pub tw_high : j.parts.tw ≤ 250
  pub ts_high : j.parts.ts ≤ 400
  pub es_high : j.parts.es ≤ 150
  pub a_high : j.parts.a ≤ 250
  pub he_high : j.demands.he ≤ 500
  pub phi_high : j.demands.phi ≤ 100000
  pub e1_end : 12 * hole_of j.bolts.bolt ≤ 10 * j.layout.e1
  pub p1_pitch : 22 * hole_of j.bolts.bolt ≤ 10 * j.layout.p1
  pub e2_edge : 12 * hole_of j.bolts.bolt ≤ 10 * j.layout.e2
  pub p2_gauge : 24 * hole_of j.bolts.bolt ≤ 10 * j.layout.p2

pub ranges : (j : HeaderJoint) → none_of (first_fault j) ≡ true → Admitted j
unfolding checks
ranges j h =
    let steels = passes (checks j) h in
    let bolts = steels.1.1.1 in
    let layout = bolts.1.1.1.1 in
    let parts = layout.1.1.1.1 in
    let demands = parts.1.1.1.1.1 in
    let apart = demands.1.1.1.1 in
    record {
      plate = steel_range j.steels.plate steels.0;
      web = steel_range j.steels.web steels.1.0;
      supp = steel_range j.steels.supp steels.1.1.0;
      bolt = bolt_range j.bolts.bolt bolts.0;
      grade = class_range j.bolts.grade bolts.1.0;
      rows_low = low 2 10 _ bolts.1.1.1.0;
      rows_high = high 2 10 _ bolts.1.1.1.0;
      e1_high = high 1 150 _ layout.0;
      p1_high = high 1 200 _ layout.1.0;
      e2_high = high 1 150 _ layout.1.1.0;
      p2_high = high 1 200 _ layout.1.1.1.0;
      tp_high = high 30 250 _ parts.0;
      tw_high = high 30 250 _ parts.1.0;
      ts_high = high 30 400 _ parts.1.1.0;
      es_high = high 0 150 _ parts.1.1.1.0;
      a_high = high 1 250 _ parts.1.1.1.1.0;
      he_high = high 0 500 _ demands.0;
      phi_high = high 0 100000 _ demands.1.1.0;
      e1_end = leb-true _ _ apart.0;
      p1_pitch = leb-true _ _ apart.1.0;
      e2_edge = leb-true _ _ apart.1.1.0;
      p2_gauge = leb-true _ _ apart.1.1.1.0;
    }
