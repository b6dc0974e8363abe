-- What admission of a fin plate answers, from its groups of checks.
use Rattle.std.specs.Prelude.{◌≡◌, true, [], ◌∷◌, Ok, Err, refl}
use Rattle.std.proofs.Common.{sym, ◌∙◌}
use Rattle.components.specs.Tabled.{hole_of}
use Rattle.joint.specs.Checked.{none_of, of_list}
use Rattle.joint.specs.declared.fault.JointFault.{JointFault}
use Rattle.joint.proofs.Admits.{err_is, ok_is}
use Rattle.joint.proofs.Turns.{groups_in_turn, none_from, some_from}
use Rattle.fin.specs.FieldChecks.{checks, first_fault, steel_checks, bolt_checks, layout_checks, part_checks, demand_checks, distance_checks, whole_checks}
use Rattle.fin.specs.FinAdmission.{make_fin, fin_admission, outcomes}
use Rattle.fin.specs.declared.fin.Fin.{Fin}
use Rattle.fin.specs.declared.fin_joint.FinJoint.{FinJoint}

outcomes_are : (j : FinJoint) → outcomes j ≡ of_list (checks j)
unfolding checks
outcomes_are j =
    groups_in_turn (steel_checks j.steels ∷ bolt_checks j.bolts ∷ layout_checks j.layout ∷ part_checks j.parts ∷ demand_checks j.demands
    ∷ distance_checks (hole_of j.bolts.bolt) j.layout j.parts ∷ [])
    (whole_checks (hole_of j.bolts.bolt) j.bolts.rows j.layout j.parts j.demands)

pub no_fault : (j : FinJoint) → outcomes j ≡ Ok tt → none_of (first_fault j) ≡ true
no_fault j q = none_from (first_fault j) (sym (outcomes_are j) ∙ q)

pub refused : (j : FinJoint) (f : JointFault) → outcomes j ≡ Err f → fin_admission j ≡ Err f
refused j f q = err_is first_fault make_fin j f (some_from (first_fault j) f (sym (outcomes_are j) ∙ q))

pub accepted : (f : Fin) → fin_admission f.joint ≡ Ok f
accepted f = ok_is first_fault make_fin (λ f. f.joint) (λ f. f.ok) (λ f. refl) f
