-- `figure` prints each form of expression, and of every one stand its bounds.
use Rattle.std.proofs.Common.{◌≡◌, ◌+◌, sym, ap, ◌∙◌, rules}
use Rattle.resistance.specs.Expressions.{held, figure_of}
use Rattle.resistance.specs.Fractions.{dropped}
use Rattle.resistance.specs.Roots.{R}
use Rattle.resistance.proofs.Held.{checked_held}
use Rattle.resistance.proofs.Readings.{stands}
use Rattle.resistance.proofs.expression.Expression.figure.Goals as goal

pub returns-in-Root : goal.returns-in-Root
returns-in-Root c = record { value = search rules; stands = stands _ }

pub returns-in-Sum : goal.returns-in-Sum
returns-in-Sum c =
    let parts : c.floor-in-Sum.result + c.root_third-in-Sum.result ≡ dropped c.in-Sum.x + R (dropped c.in-Sum.y) = cc in
    record {
      value = checked_held _ _ c.checked_add.ensures ∙ ap held parts ∙ sym (ap figure_of c.in-Sum.is);
      stands = stands _;
    }

pub returns-in-Group : goal.returns-in-Group
returns-in-Group c = record { value = search rules; stands = stands _ }
