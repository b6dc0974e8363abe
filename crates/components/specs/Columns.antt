-- A column of bolts in a plate: rows at a pitch p1, an end distance e1 above and below, holes of d₀.
use Rattle.std.specs.Prelude.{ℕ, ◌+◌, ◌-◌, ◌*◌}

-- hp: the depth of the plate
abbrev pub depth_by : (rows e1 p1 : ℕ) → ℕ
depth_by rows e1 p1 = 2 * e1 + (rows - 1) * p1

-- net: what the holes leave of the depth
abbrev pub net_by : (rows d₀ e1 p1 : ℕ) → ℕ
net_by rows d₀ e1 p1 = depth_by rows e1 p1 - rows * d₀

-- G: twice the net length that a torn block is sheared on
abbrev pub torn_by : (rows d₀ e1 p1 : ℕ) → ℕ
torn_by rows d₀ e1 p1 = 2 * depth_by rows e1 p1 - 2 * e1 - (2 * rows - 1) * d₀
