-- Admission of a header plate.
use Rattle.std.specs.Prelude.{◌≡◌, true, Result}
use Rattle.components.specs.Tabled.{hole_of}
use Rattle.joint.specs.Admission.{admission_by}
use Rattle.joint.specs.Checked.{none_of, of_list, then}
use Rattle.joint.specs.declared.fault.JointFault.{JointFault}
use Rattle.header.specs.FieldChecks.{first_fault, steel_checks, bolt_checks, layout_checks, part_checks, demand_checks, distance_checks}
use Rattle.header.specs.declared.header.Header.{Header}
use Rattle.header.specs.declared.header_joint.HeaderJoint.{HeaderJoint}

-- the header plate that a card says, if it has no fault
abbrev pub make_header : (j : HeaderJoint) → none_of (first_fault j) ≡ true → Header
make_header j e = record { joint = j; ok = e }

abbrev pub header_admission : HeaderJoint → Result Header JointFault
header_admission = admission_by first_fault make_header

-- the groups of checks, one after another
abbrev pub outcomes : HeaderJoint → Result (Unit {0}) JointFault
outcomes j =
    then (of_list (steel_checks j.steels)) (then (of_list (bolt_checks j.bolts)) (then (of_list (layout_checks j.layout))
    (then (of_list (part_checks j.parts)) (then (of_list (demand_checks j.demands)) (of_list (distance_checks (hole_of j.bolts.bolt) j.layout j.parts))))))
