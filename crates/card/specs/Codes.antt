-- The faults of a text as numbers.
use Rattle.joint.specs.declared.fault.FaultCode.{FaultCode}
use Rattle.card.specs.declared.fault.TextFault.{TextFault}
use Rattle.card.specs.declared.fault.TextFault.TheVariants.{NoLineFeed, NotJoint, NotKey, NotNumber}

-- the layer, which is 1 for text, the number of the fault, and its line
abbrev pub code_of : TextFault → FaultCode
code_of (NoLineFeed line) = record { layer = 1; number = 12; at = line }
code_of NotJoint = record { layer = 1; number = 11; at = 1 }
code_of (NotKey line) = record { layer = 1; number = 13; at = line }
code_of (NotNumber line) = record { layer = 1; number = 14; at = line }
