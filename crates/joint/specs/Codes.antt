-- A joint's fault by its numbers: the layer, the number and the place, which is the field's.
use Rattle.joint.specs.declared.fault.FaultCode.{FaultCode}
use Rattle.joint.specs.declared.fault.JointFault.{JointFault}
use Rattle.joint.specs.declared.fault.JointFault.TheVariants.{NotAllowed, TooClose, PlateTooThin, NoGap, UsedUp}

abbrev pub joint_code : JointFault → FaultCode
joint_code (NotAllowed field) = record { layer = 2; number = 21; at = field }
joint_code (TooClose field) = record { layer = 2; number = 22; at = field }
joint_code (PlateTooThin field) = record { layer = 2; number = 23; at = field }
joint_code (NoGap field) = record { layer = 2; number = 24; at = field }
joint_code (UsedUp field) = record { layer = 2; number = 25; at = field }
