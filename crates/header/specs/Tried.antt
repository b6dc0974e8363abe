-- What admission of a header plate answers, from its groups of checks.
use Rattle.std.specs.Prelude.{◌≡◌, true, [], ◌∷◌, Ok, Err, refl}
use Rattle.std.proofs.Common.{sym, ◌∙◌}
use Rattle.components.specs.Tabled.{hole_of}
use Rattle.joint.specs.Checked.{none_of, of_list}
use Rattle.joint.specs.declared.fault.JointFault.{JointFault}
use Rattle.joint.proofs.Admits.{err_is, ok_is}
use Rattle.joint.proofs.Turns.{groups_in_turn, none_from, some_from}
use Rattle.header.specs.FieldChecks.{checks, first_fault, steel_checks, bolt_checks, layout_checks, part_checks, demand_checks, distance_checks}
use Rattle.header.specs.HeaderAdmission.{make_header, header_admission, outcomes}
use Rattle.header.specs.declared.header.Header.{Header}
use Rattle.header.specs.declared.header_joint.HeaderJoint.{HeaderJoint}

outcomes_are : (j : HeaderJoint) → outcomes j ≡ of_list (checks j)
unfolding checks
outcomes_are j =
    groups_in_turn (steel_checks j.steels ∷ bolt_checks j.bolts ∷ layout_checks j.layout ∷ part_checks j.parts ∷ demand_checks j.demands ∷ [])
    (distance_checks (hole_of j.bolts.bolt) j.layout j.parts)

pub no_fault : (j : HeaderJoint) → outcomes j ≡ Ok tt → none_of (first_fault j) ≡ true
no_fault j q = none_from (first_fault j) (sym (outcomes_are j) ∙ q)

pub refused : (j : HeaderJoint) (f : JointFault) → outcomes j ≡ Err f → header_admission j ≡ Err f
refused j f q = err_is first_fault make_header j f (some_from (first_fault j) f (sym (outcomes_are j) ∙ q))

pub accepted : (h : Header) → header_admission h.joint ≡ Ok h
accepted h = ok_is first_fault make_header (λ h. h.joint) (λ h. h.ok) (λ h. refl) h
