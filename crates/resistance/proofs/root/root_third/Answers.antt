-- `root_third`: the root of a third of the square is R, and so the largest.
use Rattle.std.proofs.Common.{◌≡◌, sym, arith}
use Rattle.resistance.specs.Roots.{R}
use Rattle.resistance.proofs.RootWords.{R_only, R_largest}
use Rattle.resistance.proofs.root.root_third.Goals as goal

pub returns : goal.returns
returns c =
    let is : c.isqrt.result ≡ R c.args.q = sym (R_only c.args.q c.isqrt.result (omega arith) (omega arith)) in
    record { value = is; largest = R_largest _ _ is }
