-- The line that was cut off, its key and its digits, put together.
use Rattle.card.proofs.OneLine.{took_line}
use Rattle.card.proofs.lines.read_line.Goals as goal

pub returns : goal.returns
returns c =
    let first = rw c.in_ok-line.ensures.ok_part at c.first_line.ensures in
    let cut = rw c.in_ok-digits.ensures.ok_part at c.after_key.ensures in
    let v = rw c.in_ok-value.ensures.ok_part at c.number.ensures in
    took_line _ _ _ _ _ first cut v.1 v.2
