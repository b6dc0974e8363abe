-- The fields are the values in their order.
use Rattle.card.proofs.Spread.{spread_all}
use Rattle.card.proofs.header_card.HeaderJointCardKind20.of_values.Goals as goal

pub returns : goal.returns
returns c = spread_all 20 c.args.values.now c.told-values
