-- The checks of a header card in their order: every field's value, then the least distances.
use Rattle.std.specs.Prelude.{ℕ, Bool, ◌||◌, List, [], ◌∷◌, ◌++◌, Option, ◌==◌}
use Rattle.joint.specs.Checked.{first_of, bolts_checked, within, spaced}
use Rattle.joint.specs.declared.fault.JointFault.{JointFault}
use Rattle.joint.specs.declared.fault.JointFault.TheVariants.{NotAllowed, TooClose}
use Rattle.components.specs.Tabled.{hole_of, steel}
use Rattle.components.specs.declared.bolts.Bolts.{Bolts}
use Rattle.header.specs.declared.header_joint.HeaderJoint.{HeaderJoint}
use Rattle.header.specs.declared.header_joint.Steels.{Steels}
use Rattle.header.specs.declared.header_joint.Layout.{Layout}
use Rattle.header.specs.declared.header_joint.Parts.{Parts}
use Rattle.header.specs.declared.header_joint.Demands.{Demands}

abbrev pub steel_checks : Steels → List (Bool × JointFault)
steel_checks s = (steel s.plate, NotAllowed 1) ∷ (steel s.web, NotAllowed 2) ∷ (steel s.supp, NotAllowed 3) ∷ []

abbrev pub bolt_checks : Bolts → List (Bool × JointFault)
bolt_checks b = bolts_checked 4 b

abbrev pub layout_checks : Layout → List (Bool × JointFault)
layout_checks l =
    (within 1 150 l.e1, NotAllowed 8) ∷ (within 1 200 l.p1, NotAllowed 9) ∷ (within 1 150 l.e2, NotAllowed 10) ∷ (within 1 200 l.p2, NotAllowed 11) ∷ []

abbrev pub part_checks : Parts → List (Bool × JointFault)
part_checks p =
    (within 30 250 p.tp, NotAllowed 12) ∷ (within 30 250 p.tw, NotAllowed 13) ∷ (within 30 400 p.ts, NotAllowed 14)
    ∷ (within 0 150 p.es, NotAllowed 15) ∷ (within 1 250 p.a, NotAllowed 16) ∷ []

abbrev pub demand_checks : Demands → List (Bool × JointFault)
demand_checks d =
    (within 0 500 d.he, NotAllowed 17) ∷ (within 1 2000 d.db, NotAllowed 18) ∷ (within 0 100000 d.phi, NotAllowed 19) ∷ (within 0 10000000 d.v, NotAllowed 20) ∷ []

-- end and edge distances are at least 1.2 holes, the pitch 2.2, the gauge 2.4; a supporting web, es 0, has no edge
abbrev pub distance_checks : ℕ → Layout → Parts → List (Bool × JointFault)
distance_checks d₀ l p =
    (spaced 12 d₀ l.e1, TooClose 8) ∷ (spaced 22 d₀ l.p1, TooClose 9) ∷ (spaced 12 d₀ l.e2, TooClose 10)
    ∷ (spaced 24 d₀ l.p2, TooClose 11) ∷ (p.es == 0 || spaced 12 d₀ p.es, TooClose 15) ∷ []

unfoldable pub checks : HeaderJoint → List (Bool × JointFault)
checks j =
    steel_checks j.steels ++ (bolt_checks j.bolts ++ (layout_checks j.layout ++ (part_checks j.parts ++ (demand_checks j.demands
    ++ distance_checks (hole_of j.bolts.bolt) j.layout j.parts))))

abbrev pub first_fault : HeaderJoint → Option JointFault
first_fault j = first_of (checks j)
