-- The two rails of a day, and their desks.
use Rattle.std.specs.Prelude.{◌≡◌, ℕ, Result, Ok, Err, ◌≢◌}
use Rattle.fin.specs.FinKinds.{fin_kind}
use Rattle.header.specs.HeaderKinds.{header_kind}
use Rattle.day.specs.Desks.{Went}
use Rattle.day.specs.declared.desks.DayRail.{DayRail}
use Rattle.day.specs.declared.desks.DayRail.TheVariants.{Header, Fin}
use Rattle.day.specs.declared.desks.Desks.{Desks}
use Rattle.day.specs.declared.desks.NoRail.{NoRail}

-- header plates hang on rail 1, fin plates on rail 2
abbrev pub rail_number : DayRail → ℕ
rail_number Header = 1
rail_number Fin = 2

-- a rail by its number, where there is one
abbrev pub RailNumbered : ℕ → Result DayRail NoRail → Type 0
RailNumbered n (Ok r) = rail_number r ≡ n
RailNumbered n (Err e) = (r : DayRail) → rail_number r ≢ n

-- both desks from one time of the day to another
pub record BothWent (d e : Desks) : Type 0 where
  pub headers : Went header_kind d.headers e.headers
  pub fins : Went fin_kind d.fins e.fins
