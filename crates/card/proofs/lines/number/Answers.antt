-- Eight digits stay small enough, and their value writes them again.
use Rattle.std.proofs.Common.{decimal, sym, ap, ◌∙◌, arith, rules}
use Rattle.card.specs.Text.{Number}
use Rattle.card.proofs.OneLine.{few, digits_all, not_number, number_value}
use Rattle.card.proofs.lines.number.Goals as goal

pub returns-in_err-n : goal.returns-in_err-n
returns-in_err-n c = rw c.from_residual.ensures (not_number _ _ c.loop-digit-test.true c.in_err-n.ensures.value)

pub overflow_mul-n : goal.overflow_mul-n
overflow_mul-n c = omega (arith, few c.args.digits.now c.loop-digit.digit-index c.loop-digit.n (omega arith) (omega arith) c.loop-digit.invariant)

pub overflow_add-n : goal.overflow_add-n
overflow_add-n c = omega (arith, few c.args.digits.now c.loop-digit.digit-index c.loop-digit.n (omega arith) (omega arith) c.loop-digit.invariant, c.in_ok-n.ensures.value)

pub returns : goal.returns
returns c =
    let all = digits_all _ _ _ c.loop-digit-test.false c.loop-digit.invariant in
    let num : Number c.args.digits.now = record { some = search rules; short = omega arith; digits = all.0; lead = search rules } in
    let v = number_value _ num in
    (num, omega (arith, all.1, v.0), v.1 ∙ ap decimal (sym all.1))
