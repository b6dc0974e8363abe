-- `reference_figures`: the expressions print these figures, by computing.
use Rattle.std.proofs.Common.{refl}
use Rattle.components.specs.Tabled.{fu, fub, hole_of, stress_of}
use Rattle.resistance.specs.Fractions.{smaller}
use Rattle.resistance.specs.Roots.{R, root_up}
use Rattle.card.proofs.reference.reference_figures.Goals as goal

pub returns : goal.returns
unfolding R root_up smaller fu fub hole_of stress_of
returns c = refl
