-- `admit` answers the admitted header plate or the first fault.
use Rattle.std.proofs.Common.{sym, rules}
use Rattle.header.specs.Tried.{no_fault, refused, accepted}
use Rattle.header.proofs.kind.HeaderKind.admit.Goals as goal

pub invariant_of-result : goal.invariant_of-result
invariant_of-result c = record { ok = no_fault _ (sym c.in_ok-check_all.ensures) }

pub returns : goal.returns
returns c = sym (accepted _)

pub returns-in_err-check_all : goal.returns-in_err-check_all
returns-in_err-check_all c =
    let fault = c.in_err-check_all.field-0.0 in
    let h = refused c.args.given fault (sym c.in_err-check_all.ensures) in
    search rules
