-- Admission by the first fault, for a kind whose admitted joints are made by `make` from what a card says and that it has no fault.
use Rattle.std.specs.Prelude.{◌≡◌, true, Some, None, Ok, Err, Option, Result}
use Rattle.std.proofs.Math.Path.{refl}
use Rattle.std.proofs.Common.{ap}
use Rattle.joint.specs.Checked.{none_of}
use Rattle.joint.specs.declared.fault.JointFault.{JointFault}

module _ {J R : Type 0} (fault : R → Option JointFault) (make : (r : R) → none_of (fault r) ≡ true → J) where
  unfoldable pub admitted : (r : R) (o : Option JointFault) → fault r ≡ o → Result J JointFault
  admitted r None e = Ok (make r (ap none_of e))
  admitted r (Some f) e = Err f

  unfoldable pub admission_by : R → Result J JointFault
  unfolding admitted
  admission_by r = admitted r (fault r) refl
