-- Fin plates as a kind of joint: what `impl Kind for Fin` gives for each ghost member of a kind.
use Rattle.joint.specs.Modes.{printing, Below}
use Rattle.joint.specs.declared.kind.Kind.{Ghosts}
use Rattle.fin.specs.FinAdmission.{fin_admission}
use Rattle.fin.specs.FinModes.{fin_mode, fin_binds}
use Rattle.fin.specs.FinRequirements.{fin_unmet}
use Rattle.fin.specs.declared.fin.Fin.{Fin}
use Rattle.fin.specs.declared.fin_joint.FinJoint.{FinJoint}

abbrev pub fin_kind : Ghosts Fin FinJoint
fin_kind = record {
  FIELDS = 21;
  SHEAR_MODES = 11;
  TYING_MODES = 7;
  admission = fin_admission;
  joint = λ f. f.joint;
  binding = fin_binds;
  printed = λ f i. printing (fin_mode f i);
  unmet = fin_unmet;
  at = λ f i v. Below (fin_mode f i) v;
}
