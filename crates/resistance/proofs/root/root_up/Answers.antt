-- `root_up`: the root, and one more unless it is exact, is root_up of specs/, and so the smallest.
use Rattle.std.proofs.Common.{◌≡◌, ◌+◌, sym, arith}
use Rattle.resistance.specs.Roots.{root_up}
use Rattle.resistance.proofs.RootWords.{root_up_exact, root_up_only, root_up_smallest}
use Rattle.resistance.proofs.root.root_up.Goals as goal

pub returns-then-low-n : goal.returns-then-low-n
returns-then-low-n c =
    let is : c.isqrt-low.result ≡ root_up c.args.n = sym (root_up_exact c.args.n c.isqrt-low.result (omega arith)) in
    record { value = is; smallest = root_up_smallest _ _ is }

pub returns-else-low-n : goal.returns-else-low-n
returns-else-low-n c =
    let is : c.isqrt-low.result + 1 ≡ root_up c.args.n = sym (root_up_only c.args.n c.isqrt-low.result (omega arith) (omega arith)) in
    record { value = is; smallest = root_up_smallest _ _ is }
