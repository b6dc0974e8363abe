-- Bolts that bear on a part: the factors, their caps and the total, as exact fractions.
use Rattle.std.specs.Prelude.{ℕ, ◌-◌, ◌*◌, Bool, cond, ◌&&◌, Some, None, Option, nat_le}
use Rattle.resistance.specs.Fractions.{◌÷◌, ◌⊗◌, smaller}
use Rattle.resistance.specs.declared.ratio.Ratio.{Ratio}
use Rattle.components.specs.Tabled.{fu, fub, area_of, shear_of}
use Rattle.components.specs.declared.bearing.Bearing.{Bearing}
use Rattle.components.specs.declared.bolts.Bolts.{Bolts}

-- k(e) = 2.8·e/d₀ − 1.7: of a distance across the force
abbrev pub k : (d₀ e : ℕ) → Ratio
k d₀ e = (28 * e - 17 * d₀) ÷ (10 * d₀)

-- k'(p) = 1.4·p/d₀ − 1.7: of a spacing across the force
abbrev pub k' : (d₀ p : ℕ) → Ratio
k' d₀ p = (14 * p - 17 * d₀) ÷ (10 * d₀)

-- u(e) = e/(3·d₀): of an end bolt
abbrev pub u : (d₀ e : ℕ) → Ratio
u d₀ e = e ÷ (3 * d₀)

-- w(p) = p/(3·d₀) − 1/4: of an inner bolt
abbrev pub w : (d₀ p : ℕ) → Ratio
w d₀ p = (4 * p - 3 * d₀) ÷ (12 * d₀)

-- no k exceeds 2.5
abbrev pub most : Ratio
most = 5 ÷ 2

-- c: the smaller of fub/fu and 1, which no α exceeds
abbrev pub c : (fub fu : ℕ) → Ratio
c fub fu = smaller (fub ÷ fu) (1 ÷ 1)

-- Bear(k, α) = 2·m·k·α·fu·d·t/25, with k at most 2.5 and α at most c
abbrev pub bear : (m fub fu d t : ℕ) → Ratio → Ratio → Ratio
bear m fub fu d t x α = ((2 * m * fu * d * t) ÷ 25) ⊗ smaller x most ⊗ smaller α (c fub fu)

-- the same of bolts on a part
abbrev pub bear_of : Bearing → Ratio → Ratio → Ratio
bear_of b x α = bear b.bolts (fub b.grade) (fu b.steel) b.bolt b.thickness x α

-- the numbers of every sheet lie well within these limits, and the total of such numbers fits 64 bits
abbrev pub workable : Bearing → Ratio → Ratio → Bool
workable b x α =
    nat_le b.bolts 20 && (nat_le b.bolt 30 && (nat_le b.thickness 400
    && (nat_le x.over 10000 && (nat_le x.under 10000 && (nat_le α.over 10000 && nat_le α.under 10000)))))

abbrev pub total_of : Bearing → Ratio → Ratio → Option Ratio
total_of b x α = cond (workable b x α) (Some (bear_of b x α)) None

-- a total without its partial factor: 5/4 of it
abbrev pub ultimate : Ratio → Ratio
ultimate x = x ⊗ (5 ÷ 4)

abbrev pub ultimate_of : Bearing → Ratio → Ratio → Option Ratio
ultimate_of b x α = cond (workable b x α) (Some (ultimate (bear_of b x α))) None

-- m bolts on a part of thickness t and a steel
abbrev pub on_part : Bolts → (m t steel : ℕ) → Bearing
on_part b m t steel = record { bolts = m; bolt = b.bolt; grade = b.grade; steel = steel; thickness = t }

-- n·m·s·fub·A over a divisor: m bolts in shear, with the factor n of a sheet
abbrev pub shear_by : (n divisor m bolt grade plane : ℕ) → Ratio
shear_by n divisor m bolt grade plane = (n * m * shear_of grade plane * fub grade * area_of bolt plane) ÷ divisor

-- T = 2·m·s·fub·A/25: all bolts in shear
abbrev pub shear_total : (m bolt grade plane : ℕ) → Ratio
shear_total m bolt grade plane = shear_by 2 25 m bolt grade plane
