-- The numbers of a fault of any layer: the layer's own, untouched.
use Rattle.std.specs.Prelude.{ℕ, List, ◌++◌, codes}
use Rattle.card.specs.Codes.{code_of}
use Rattle.card.specs.Text.{line_of}
use Rattle.joint.specs.Codes.{joint_code}
use Rattle.joint.specs.declared.fault.FaultCode.{FaultCode}
use Rattle.account.specs.declared.fault.Fault.{Fault}
use Rattle.account.specs.declared.fault.Fault.TheVariants.{Text, Joint}

abbrev pub fault_code : Fault → FaultCode
fault_code (Text f) = code_of f
fault_code (Joint f) = joint_code f

-- its three lines
abbrev pub fault_text : FaultCode → List ℕ
fault_text c = line_of (codes "layer") c.layer ++ (line_of (codes "fault") c.number ++ line_of (codes "at") c.at)
