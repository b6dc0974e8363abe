-- Each turn reads one line more, and a fault of a line is the first of the text.
use Rattle.std.proofs.Common.{rules}
use Rattle.std.proofs.lemmas.Result.{err_from_is_err_and}
use Rattle.card.proofs.Steps.{turn_more, turn_stops, turn_all}
use Rattle.card.proofs.lines.read_lines.Goals as goal

pub returns-in_err-value : goal.returns-in_err-value
returns-in_err-value g c =
    let p = err_from_is_err_and c.from_residual.result c.from_residual.ensures.1 in
    rw (p.1, p.2) (turn_stops _ _ _ _ _ (search rules) c.loop-i.invariant.taken _ _ c.loop-i-test.true c.in_err-value.ensures)

pub loop-i-preserved : goal.loop-i-preserved
loop-i-preserved g c = record {
  taken = turn_more _ _ _ _ _ (search rules) c.loop-i.invariant.taken _ _ _ c.loop-i-test.true c.in_ok-value.ensures;
  room = search rules;
}

pub returns : goal.returns
returns g c = turn_all _ _ _ _ _ (search rules) c.loop-i.invariant.taken c.loop-i-test.false
