-- `admit` answers the admitted fin plate or the first fault.
use Rattle.std.proofs.Common.{sym, rules}
use Rattle.fin.specs.Tried.{no_fault, refused, accepted}
use Rattle.fin.proofs.kind.FinKind.admit.Goals as goal

pub invariant_of-result : goal.invariant_of-result
invariant_of-result c = record { ok = no_fault _ (sym c.in_ok-check_all.ensures) }

pub returns : goal.returns
returns c = sym (accepted _)

pub returns-in_err-check_all : goal.returns-in_err-check_all
returns-in_err-check_all c =
    let fault = c.in_err-check_all.field-0.0 in
    let h = refused c.args.given fault (sym c.in_err-check_all.ensures) in
    search rules
