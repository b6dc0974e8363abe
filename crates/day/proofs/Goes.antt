-- One time of a day after another.
use Rattle.std.proofs.Common.{Result, Ok, Err, vec_items}
use Rattle.std.specs.Prelude.{OnOk}
use Rattle.std.specs.Result.{result_and}
use Rattle.fin.specs.FinKinds.{fin_kind}
use Rattle.header.specs.HeaderKinds.{header_kind}
use Rattle.joint.specs.declared.kind.Kind.{Ghosts}
use Rattle.rail.specs.Model.{table_of}
use Rattle.day.specs.DayRails.{BothWent}
use Rattle.day.specs.Desks.{Went}
use Rattle.day.specs.declared.desk.Desk.{Desk}
use Rattle.day.specs.declared.desks.Desks.{Desks}
use Rattle.day.proofs.Stretches.{joined}

pub goes_on : {J R : Type 0} (k : Ghosts J R) (d e f : Desk J R) → Went k d e → Went k e f → Went k d f
goes_on k d e f = joined k (table_of d.rail) (table_of e.rail) (table_of f.rail) (vec_items d.log) (vec_items e.log) (vec_items f.log)

-- and where both are noted
pub goes_on_noted : {J R E : Type 0} (k : Ghosts J R) (d e f : Desk J R) (r s : Result (Unit {0}) E) →
    OnOk r (Went k d e) → OnOk s (Went k e f) → OnOk (result_and r s) (Went k d f)
goes_on_noted k d e f (Ok x) (Ok y) w v = goes_on k d e f w v
goes_on_noted k d e f (Ok x) (Err y) w v = tt
goes_on_noted k d e f (Err x) s w v = tt

pub both_go_on : (d e f : Desks) → BothWent d e → BothWent e f → BothWent d f
both_go_on d e f w v = record {
  headers = goes_on header_kind d.headers e.headers f.headers w.headers v.headers;
  fins = goes_on fin_kind d.fins e.fins f.fins w.fins v.fins;
}
