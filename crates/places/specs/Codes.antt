-- A rail's fault by its numbers: the layer, the number and the place, which is the length asked for in 31 and the mode in 35.
use Rattle.joint.specs.Codes.{joint_code}
use Rattle.joint.specs.declared.fault.FaultCode.{FaultCode}
use Rattle.places.specs.declared.fault.RailFault.{RailFault}
use Rattle.places.specs.declared.fault.RailFault.TheVariants.{Joint, Length, NoPlace, WrongState, BadSlip, NoMode}

-- a fault of the joint keeps its own
abbrev pub rail_code : RailFault → FaultCode
rail_code (Joint f) = joint_code f
rail_code (Length size) = record { layer = 3; number = 31; at = size }
rail_code (NoPlace p) = record { layer = 3; number = 32; at = p }
rail_code (WrongState p) = record { layer = 3; number = 33; at = p }
rail_code (BadSlip p) = record { layer = 3; number = 34; at = p }
rail_code (NoMode i) = record { layer = 3; number = 35; at = i }
