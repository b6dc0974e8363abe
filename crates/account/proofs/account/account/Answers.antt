-- `account`: the loop takes all cards of the text.
use Rattle.std.proofs.Common.{rules}
use Rattle.account.proofs.Told.{drained_told}
use Rattle.account.proofs.account.account.Goals as goal

pub returns : goal.returns
returns c = search (rules, drained_told)
