use Rattle.std.proofs.Common.{◌≡◌, ◌-◌}
use Rattle.joint.specs.Govern.{lowest}
use Rattle.joint.proofs.govern.lowest_of.Given as goal

abbrev pub invariant-loop-mode : goal.invariant-loop-mode
invariant-loop-mode g l = l.best ≡ lowest (g.K.Kind.printed l.joint) l.first (l.mode - l.first)
