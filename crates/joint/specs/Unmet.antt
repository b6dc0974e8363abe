-- The unmet number: one power of two for each requirement that fails.
use Rattle.std.specs.Prelude.{ℕ, ◌+◌, Bool, cond}
use Rattle.joint.specs.declared.requirements.Requirements.{Requirements}

-- what a requirement adds: its power where it fails
abbrev pub failed : Bool → ℕ → ℕ
failed met power = cond met 0 power

abbrev pub unmet_of : Requirements → ℕ
unmet_of q =
    failed q.fits_web 1 + failed q.turns 2 + failed q.ductile 4 + failed q.welded 8
    + failed q.bolts_spared 16 + failed q.carries_shear 32 + failed q.carries_tie 64

-- how many fail
abbrev pub failing : Requirements → ℕ
failing q =
    failed q.fits_web 1 + failed q.turns 1 + failed q.ductile 1 + failed q.welded 1
    + failed q.bolts_spared 1 + failed q.carries_shear 1 + failed q.carries_tie 1
