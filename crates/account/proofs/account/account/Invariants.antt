-- `account`: what is written so far is the lines of the cards that were given.
use Rattle.std.proofs.Common.{◌≡◌, string_bytes}
use Rattle.std.specs.List.{flat_map}
use Rattle.account.proofs.Told.{card_told}
use Rattle.account.proofs.account.account.Given as goal

abbrev pub invariant-loop-card : goal.invariant-loop-card
invariant-loop-card l = string_bytes l.out ≡ flat_map card_told l.yielded
