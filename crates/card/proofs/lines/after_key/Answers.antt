-- What strip_prefix answers of the key, and then of =.
use Rattle.std.proofs.Common.{[], ◌∷◌, Some, None}
use Rattle.std.proofs.lemmas.Slice.Eq.{strip_prefix_is}
use Rattle.card.proofs.OneLine.{after_equals}
use Rattle.card.proofs.lines.after_key.Goals as goal
use Rattle.std.proofs.lemmas.Bool.Decides.{Decides-eqb}

pub returns-in_err-strip_prefix : goal.returns-in_err-strip_prefix
returns-in_err-strip_prefix c =
    rw c.from_residual.ensures (λ ds e. strip_prefix_is Decides-eqb c.args.line.now c.args.key.now None c.in_err-strip_prefix.ensures.cases (61 ∷ ds) e)

pub returns : goal.returns
returns c =
    let is = strip_prefix_is Decides-eqb c.args.line.now c.args.key.now (Some c.in_ok-strip_prefix.field-0) c.in_ok-strip_prefix.ensures.cases in
    after_equals _ _ _ _ is (strip_prefix_is Decides-eqb c.in_ok-strip_prefix.field-0.now (61 ∷ []) _ c.strip_prefix-2.ensures.cases)
