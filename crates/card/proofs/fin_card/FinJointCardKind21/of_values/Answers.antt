-- The fields are the values in their order.
use Rattle.card.proofs.Spread.{spread_all}
use Rattle.card.proofs.fin_card.FinJointCardKind21.of_values.Goals as goal

pub returns : goal.returns
returns c = spread_all 21 c.args.values.now c.told-values
