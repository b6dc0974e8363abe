-- The checks of a fin card in their order: every field's value, then the least distances, then the joint as a whole.
use Rattle.std.specs.Prelude.{ℕ, ◌*◌, Bool, List, [], ◌∷◌, ◌++◌, Option, nat_le, nat_lt}
use Rattle.joint.specs.Checked.{first_of, bolts_checked, within, spaced}
use Rattle.joint.specs.declared.fault.JointFault.{JointFault}
use Rattle.joint.specs.declared.fault.JointFault.TheVariants.{NotAllowed, TooClose, PlateTooThin, NoGap, UsedUp}
use Rattle.components.specs.Tabled.{hole_of, steel}
use Rattle.components.specs.declared.bolts.Bolts.{Bolts}
use Rattle.fin.specs.declared.fin_joint.FinJoint.{FinJoint}
use Rattle.fin.specs.declared.fin_joint.Steels.{Steels}
use Rattle.fin.specs.declared.fin_joint.Layout.{Layout}
use Rattle.fin.specs.declared.fin_joint.Parts.{Parts}
use Rattle.fin.specs.declared.fin_joint.Demands.{Demands}

abbrev pub steel_checks : Steels → List (Bool × JointFault)
steel_checks s = (steel s.plate, NotAllowed 1) ∷ (steel s.web, NotAllowed 2) ∷ []

abbrev pub bolt_checks : Bolts → List (Bool × JointFault)
bolt_checks b = bolts_checked 3 b

abbrev pub layout_checks : Layout → List (Bool × JointFault)
layout_checks l =
    (within 1 150 l.e1, NotAllowed 7) ∷ (within 1 200 l.p1, NotAllowed 8) ∷ (within 1 150 l.e2, NotAllowed 9) ∷ (within 1 166 l.z, NotAllowed 10) ∷ []

abbrev pub part_checks : Parts → List (Bool × JointFault)
part_checks p =
    (within 30 250 p.tp, NotAllowed 11) ∷ (within 30 250 p.tw, NotAllowed 12) ∷ (within 1 150 p.e1b, NotAllowed 13) ∷ (within 1 150 p.e2b, NotAllowed 14)
    ∷ (within 1 100000 p.av, NotAllowed 15) ∷ (within 1 250 p.a, NotAllowed 16) ∷ []

abbrev pub demand_checks : Demands → List (Bool × JointFault)
demand_checks d =
    (within 0 500 d.he, NotAllowed 17) ∷ (within 1 2000 d.db, NotAllowed 18) ∷ (within 0 100000 d.phi, NotAllowed 19) ∷ (within 0 10000000 d.v, NotAllowed 20)
    ∷ (within 0 10000000 d.n, NotAllowed 21) ∷ []

-- end and edge distances are at least 1.2 holes, the pitch 2.2
abbrev pub distance_checks : ℕ → Layout → Parts → List (Bool × JointFault)
distance_checks d₀ l p =
    (spaced 12 d₀ l.e1, TooClose 7) ∷ (spaced 22 d₀ l.p1, TooClose 8) ∷ (spaced 12 d₀ l.e2, TooClose 9)
    ∷ (spaced 12 d₀ p.e1b, TooClose 13) ∷ (spaced 12 d₀ p.e2b, TooClose 14) ∷ []

-- the plate is not too thin for its lever arm: 2·tp ≥ 3·z; there is a gap at the beam end: e2b < z;
-- the holes leave something of the shear area: 10·av > rows·d₀·tw, and of the web depth: db > rows·d₀
abbrev pub whole_checks : (d₀ rows : ℕ) → Layout → Parts → Demands → List (Bool × JointFault)
whole_checks d₀ rows l p d =
    (nat_le (3 * l.z) (2 * p.tp), PlateTooThin 11) ∷ (nat_lt p.e2b l.z, NoGap 14)
    ∷ (nat_lt (rows * d₀ * p.tw) (10 * p.av), UsedUp 15) ∷ (nat_lt (rows * d₀) d.db, UsedUp 18) ∷ []

unfoldable pub checks : FinJoint → List (Bool × JointFault)
checks j =
    steel_checks j.steels ++ (bolt_checks j.bolts ++ (layout_checks j.layout ++ (part_checks j.parts ++ (demand_checks j.demands
    ++ (distance_checks (hole_of j.bolts.bolt) j.layout j.parts ++ whole_checks (hole_of j.bolts.bolt) j.bolts.rows j.layout j.parts j.demands)))))

abbrev pub first_fault : FinJoint → Option JointFault
first_fault j = first_of (checks j)
