use Rattle.std.proofs.Common.{◌≡◌, ◌-◌, ap, ◌∙◌, arith}
use Rattle.joint.specs.Govern.{lowest}
use Rattle.joint.proofs.Lowest.{found_as}
use Rattle.joint.proofs.govern.lowest_of.Goals as goal

pub returns : goal.returns
returns g c =
    let f = g.K.Kind.printed c.args.joint.now in
    let all : c.loop-mode.mode - c.args.first ≡ c.args.count = omega arith in
    let is : c.loop-mode.best ≡ lowest f c.args.first c.args.count = c.loop-mode.invariant ∙ ap (lowest f c.args.first) all in
    record { value = is; words = found_as f c.args.first c.requires.0 c.args.count is }
