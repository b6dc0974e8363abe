-- What a part of thickness t and a steel carries: by its yield strength fy or its ultimate strength fu, over a divisor n.
use Rattle.std.specs.Prelude.{ℕ, ◌*◌}
use Rattle.resistance.specs.Fractions.{◌÷◌}
use Rattle.resistance.specs.declared.ratio.Ratio.{Ratio}
use Rattle.components.specs.Tabled.{fu}

-- l·t·fy/n: an extent l of the part, a length or the square of one, where it yields
abbrev pub at_yield : (t fy l n : ℕ) → Ratio
at_yield t fy l n = (l * t * fy) ÷ n

-- l·t·fu/n: the same where it breaks
abbrev pub at_rupture : (t fy l n : ℕ) → Ratio
at_rupture t fy l n = (l * t * fu fy) ÷ n
