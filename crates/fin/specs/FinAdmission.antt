-- Admission of a fin plate.
use Rattle.std.specs.Prelude.{◌≡◌, true, Result}
use Rattle.components.specs.Tabled.{hole_of}
use Rattle.joint.specs.Admission.{admission_by}
use Rattle.joint.specs.Checked.{none_of, of_list, then}
use Rattle.joint.specs.declared.fault.JointFault.{JointFault}
use Rattle.fin.specs.FieldChecks.{first_fault, steel_checks, bolt_checks, layout_checks, part_checks, demand_checks, distance_checks, whole_checks}
use Rattle.fin.specs.declared.fin.Fin.{Fin}
use Rattle.fin.specs.declared.fin_joint.FinJoint.{FinJoint}

-- the fin plate that a card says, if it has no fault
abbrev pub make_fin : (j : FinJoint) → none_of (first_fault j) ≡ true → Fin
make_fin j e = record { joint = j; ok = e }

abbrev pub fin_admission : FinJoint → Result Fin JointFault
fin_admission = admission_by first_fault make_fin

-- the groups of checks, one after another
abbrev pub outcomes : FinJoint → Result (Unit {0}) JointFault
outcomes j =
    then (of_list (steel_checks j.steels)) (then (of_list (bolt_checks j.bolts)) (then (of_list (layout_checks j.layout))
    (then (of_list (part_checks j.parts)) (then (of_list (demand_checks j.demands)) (then (of_list (distance_checks (hole_of j.bolts.bolt) j.layout j.parts))
    (of_list (whole_checks (hole_of j.bolts.bolt) j.bolts.rows j.layout j.parts j.demands)))))))
