-- Header plates as a kind of joint: what `impl Kind for Header` gives for each ghost member of a kind.
use Rattle.joint.specs.Modes.{printing, Below}
use Rattle.joint.specs.declared.kind.Kind.{Ghosts}
use Rattle.header.specs.HeaderAdmission.{header_admission}
use Rattle.header.specs.HeaderModes.{header_mode, header_binds}
use Rattle.header.specs.HeaderRequirements.{header_unmet}
use Rattle.header.specs.declared.header.Header.{Header}
use Rattle.header.specs.declared.header_joint.HeaderJoint.{HeaderJoint}

abbrev pub header_kind : Ghosts Header HeaderJoint
header_kind = record {
  FIELDS = 20;
  SHEAR_MODES = 8;
  TYING_MODES = 0;
  admission = header_admission;
  joint = λ h. h.joint;
  binding = header_binds;
  printed = λ h i. printing (header_mode h i);
  unmet = header_unmet;
  at = λ h i v. Below (header_mode h i) v;
}
