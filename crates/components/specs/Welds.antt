-- The fillet weld of a part.
use Rattle.std.specs.Prelude.{ℕ, ◌*◌, Bool, nat_lt}
use Rattle.components.specs.Tabled.{fu, weld_factor}

-- the weld is as strong as the part: 40000·a²·fu² > 3·t²·b²·fy²
abbrev pub full_strength : (a t steel : ℕ) → Bool
full_strength a t steel = nat_lt (3 * t * t * weld_factor steel * weld_factor steel * steel * steel) (40000 * a * a * fu steel * fu steel)
