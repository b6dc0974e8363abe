-- `figure` prints the mode's expression, which 64 bits hold.
use Rattle.std.proofs.Common.{sym, ◌∙◌}
use Rattle.joint.proofs.Expressed.{figure_is}
use Rattle.header.specs.HeaderModes.{header_mode}
use Rattle.header.specs.HeaderMeans.{held_mode}
use Rattle.header.proofs.kind.HeaderKind.figure.Goals as goal

pub returns : goal.returns
returns c =
    let h = c.args.self.now in
    c.figure.ensures.value ∙ figure_is (header_mode h c.args.mode) c.in_ok-expression.field-0 (held_mode h c.args.mode) (sym c.in_ok-expression.ensures)
