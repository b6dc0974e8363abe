-- `printed` prints the mode's expression, which 64 bits hold.
use Rattle.std.proofs.Common.{sym, ◌∙◌}
use Rattle.joint.proofs.Expressed.{figure_is}
use Rattle.fin.specs.FinModes.{fin_mode}
use Rattle.fin.specs.FinMeans.{held_mode}
use Rattle.fin.proofs.fin.Fin.printed.Goals as goal

pub returns : goal.returns
returns c =
    let h = c.args.self.now in
    c.figure.ensures.value ∙ figure_is (fin_mode h c.args.mode) c.in_ok-expression.field-0 (held_mode h c.args.mode) (sym c.in_ok-expression.ensures)
