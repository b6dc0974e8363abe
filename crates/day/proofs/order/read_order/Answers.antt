use Rattle.day.proofs.Fronts.{whole}
use Rattle.day.proofs.order.read_order.Goals as goal

pub returns : goal.returns
returns g c = search (whole, c.in_ok-verb.ensures, c.in_ok-order.ensures)
