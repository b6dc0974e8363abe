-- What admission by the first fault answers.
use Rattle.std.proofs.Common.{◌≡◌, true, Some, None, Ok, Err, Option, sym, refl, ap, ◌∙◌}
use denote.Struct.Props.{≡_prop}
use base.Stored.{coded_bool}
use Rattle.joint.specs.Admission.{admitted, admission_by}
use Rattle.joint.specs.Checked.{none_of}
use Rattle.joint.specs.declared.fault.JointFault.{JointFault}

module _ {J R : Type 0} (fault : R → Option JointFault) (make : (r : R) → none_of (fault r) ≡ true → J) where
  err_at : (r : R) (f : JointFault) (o : Option JointFault) (e : fault r ≡ o) → o ≡ Some f → admitted fault make r o e ≡ Err f
  unfolding admitted
  err_at r f None e q = cc
  err_at r f (Some g) e q = let h : g ≡ f = cc in ap Err h

  -- a fault is answered
  pub err_is : (r : R) (f : JointFault) → fault r ≡ Some f → admission_by fault make r ≡ Err f
  unfolding admission_by
  err_is r f q = err_at r f (fault r) refl q

  module _ (joint : J → R) where
    module _ (ok : (j : J) → none_of (fault (joint j)) ≡ true) (same : (j : J) → make (joint j) (ok j) ≡ j) where
      ok_at : (j : J) (o : Option JointFault) (e : fault (joint j) ≡ o) → admitted fault make (joint j) o e ≡ Ok j
      unfolding admitted
      ok_at j None e = ap Ok (ap (make (joint j)) (≡_prop coded_bool _ _ (ap none_of e) (ok j)) ∙ same j)
      ok_at j (Some g) e = cc (ok j, ap none_of e)

      -- what an admitted joint's card says is admitted as it
      pub ok_is : (j : J) → admission_by fault make (joint j) ≡ Ok j
      unfolding admission_by
      ok_is j = ok_at j (fault (joint j)) refl

    module _ (said : (r : R) (e : none_of (fault r) ≡ true) → joint (make r e) ≡ r) where
      kept_at : (r : R) (j : J) (o : Option JointFault) (e : fault r ≡ o) → admitted fault make r o e ≡ Ok j → joint j ≡ r
      unfolding admitted
      kept_at r j None e q = let h : make r (ap none_of e) ≡ j = cc in sym (ap joint h) ∙ said r (ap none_of e)
      kept_at r j (Some g) e q = cc

      -- admission keeps what the card says
      pub kept_is : (r : R) (j : J) → admission_by fault make r ≡ Ok j → joint j ≡ r
      unfolding admission_by
      kept_is r j q = kept_at r j (fault r) refl q
