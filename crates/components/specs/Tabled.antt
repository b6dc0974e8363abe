-- The tables of steels, bolts and bolt classes: a row for each, found by the number that it goes by.
use Rattle.std.specs.Prelude.{ℕ, Bool, cond, ◌&&◌, ◌||◌, List, [], ◌∷◌, ◌==◌, Option, is_some, option_map, unwrap_or}
use Rattle.std.specs.List.{find}
use Rattle.components.specs.declared.tables.Steel.{Steel}
use Rattle.components.specs.declared.tables.BoltSize.{BoltSize}
use Rattle.components.specs.declared.tables.BoltClass.{BoltClass}

-- steels by their fy, with fu, N/mm², and the weld factor b, hundredths
abbrev pub steels : List Steel
steels =
    record { fy = 235; fu = 360; weld_factor = 80 }
    ∷ record { fy = 275; fu = 430; weld_factor = 85 }
    ∷ record { fy = 355; fu = 510; weld_factor = 90 }
    ∷ record { fy = 420; fu = 520; weld_factor = 100 }
    ∷ record { fy = 460; fu = 540; weld_factor = 100 }
    ∷ []

-- bolts by their diameter d, mm, with the hole d₀, mm, the area of the shank and the stress area, mm²
abbrev pub bolt_sizes : List BoltSize
bolt_sizes =
    record { diameter = 12; hole = 13; shank_area = 113; stress_area = 84 }
    ∷ record { diameter = 14; hole = 15; shank_area = 154; stress_area = 115 }
    ∷ record { diameter = 16; hole = 18; shank_area = 201; stress_area = 157 }
    ∷ record { diameter = 18; hole = 20; shank_area = 254; stress_area = 192 }
    ∷ record { diameter = 20; hole = 22; shank_area = 314; stress_area = 245 }
    ∷ record { diameter = 22; hole = 24; shank_area = 380; stress_area = 303 }
    ∷ record { diameter = 24; hole = 26; shank_area = 452; stress_area = 353 }
    ∷ record { diameter = 27; hole = 30; shank_area = 573; stress_area = 459 }
    ∷ record { diameter = 30; hole = 33; shank_area = 707; stress_area = 561 }
    ∷ []

-- bolt classes, with fub, N/mm²
abbrev pub bolt_classes : List BoltClass
bolt_classes =
    record { grade = 46; fub = 400 }
    ∷ record { grade = 56; fub = 500 }
    ∷ record { grade = 68; fub = 600 }
    ∷ record { grade = 88; fub = 800 }
    ∷ record { grade = 109; fub = 1000 }
    ∷ []

-- the row of a number, if its table lists it
unfoldable pub steel_row : ℕ → Option Steel
steel_row fy = find (λ s. s.fy == fy) steels

unfoldable pub size_row : ℕ → Option BoltSize
size_row diameter = find (λ b. b.diameter == diameter) bolt_sizes

unfoldable pub class_row : ℕ → Option BoltClass
class_row grade = find (λ b. b.grade == grade) bolt_classes

-- what a row says, and 0 where the table does not list the number: fu of a steel, which goes by its fy, N/mm²
unfoldable pub fu : ℕ → ℕ
unfolding steel_row
fu steel = unwrap_or (option_map (λ s. s.fu) (steel_row steel)) 0

-- the weld factor b of a steel, hundredths
unfoldable pub weld_factor : ℕ → ℕ
unfolding steel_row
weld_factor steel = unwrap_or (option_map (λ s. s.weld_factor) (steel_row steel)) 0

-- fub of a bolt class, N/mm²
unfoldable pub fub : ℕ → ℕ
unfolding class_row
fub grade = unwrap_or (option_map (λ b. b.fub) (class_row grade)) 0

-- the hole d₀ of a bolt, mm
unfoldable pub hole_of : ℕ → ℕ
unfolding size_row
hole_of bolt = unwrap_or (option_map (λ b. b.hole) (size_row bolt)) 0

-- the area of a bolt's shank, mm²
unfoldable pub shank_of : ℕ → ℕ
unfolding size_row
shank_of bolt = unwrap_or (option_map (λ b. b.shank_area) (size_row bolt)) 0

-- the stress area of a bolt, mm²
unfoldable pub stress_of : ℕ → ℕ
unfolding size_row
stress_of bolt = unwrap_or (option_map (λ b. b.stress_area) (size_row bolt)) 0

-- A: the area that a bolt is sheared on, the shank's for plane 0, otherwise the stress area
abbrev pub area_of : (bolt plane : ℕ) → ℕ
area_of bolt plane = cond (plane == 0) (shank_of bolt) (stress_of bolt)

-- s: the shear factor in tenths, 5 for classes 6.8 and 10.9 with the thread in the shear plane, otherwise 6
abbrev pub shear_of : (grade plane : ℕ) → ℕ
shear_of grade plane = cond ((grade == 68 || grade == 109) && plane == 1) 5 6

-- the tables list a steel, a bolt, a bolt class
unfoldable pub steel : ℕ → Bool
steel x = is_some (steel_row x)

unfoldable pub bolt_size : ℕ → Bool
bolt_size x = is_some (size_row x)

unfoldable pub bolt_class : ℕ → Bool
bolt_class x = is_some (class_row x)
