-- The sheet of a joint, and what may be quoted from it.
use Rattle.std.specs.Prelude.{◌≡◌, ℕ, ◌+◌, ◌/◌, ◌<◌, ◌≤◌, min, true, false, Some, None, Ok, Err, Option, Result, count_ones}
use Rattle.resistance.specs.Expressions.{margin}
use Rattle.joint.specs.Govern.{lowest}
use Rattle.joint.specs.declared.fault.JointFault.{JointFault}
use Rattle.joint.specs.declared.kind.Kind.{Ghosts}
use Rattle.joint.specs.declared.sheet.Governing.{Governing}
use Rattle.joint.specs.declared.sheet.Sheet.{Sheet}

-- the mode that governs; mode and figure are 0 where none does
abbrev pub or_nobody : Option Governing → Governing
or_nobody None = record { mode = 0; figure = 0 }
or_nobody (Some r) = r

module _ {J R : Type 0} (k : Ghosts J R) (j : J) where
  -- some shear mode always governs, since mode 1 binds
  abbrev pub governing_shear : Governing
  governing_shear = or_nobody (lowest (k.printed j) 1 k.SHEAR_MODES)

  -- and nothing where no tying mode binds
  abbrev pub governing_tying : Option Governing
  governing_tying = lowest (k.printed j) 21 k.TYING_MODES

  -- the smaller of 255 and the governing shear in fifties of kilonewtons
  abbrev pub class_of : ℕ
  class_of = min (governing_shear.figure / 50000) 255

  -- the unmet number, with 0 for the tying where none governs
  abbrev pub unmet_by : ℕ
  unmet_by = k.unmet j governing_shear.figure (or_nobody governing_tying).figure

  abbrev pub sheet_of : Sheet
  sheet_of = record {
    shear = governing_shear;
    tying = governing_tying;
    class = class_of;
    unmet = unmet_by;
    count = count_ones unmet_by;
  }

  -- the figure is at or below every binding mode of the n from 'first' on, and plus the margin it is not at or below the mode named
  pub record Quotable (first n : ℕ) (r : Governing) : Type 0 where
    pub binds : k.binding j r.mode ≡ true
    pub below : (i : ℕ) → first ≤ i → i < first + n → k.binding j i ≡ true → k.at j i r.figure
    pub near : k.at j r.mode (r.figure + margin) → ⊥

  -- no mode binds
  abbrev pub Unbound : (first n : ℕ) → Type 0
  Unbound first n = (i : ℕ) → first ≤ i → i < first + n → k.binding j i ≡ false

  -- a mode that governs may be quoted, and there is none only where no mode binds
  abbrev pub QuotableIf : (first n : ℕ) → Option Governing → Type 0
  QuotableIf first n None = Unbound first n
  QuotableIf first n (Some r) = Quotable first n r

  -- what a sheet's governing figures are worth
  pub record Quoted (s : Sheet) : Type 0 where
    pub shear : Quotable 1 k.SHEAR_MODES s.shear
    pub tying : QuotableIf 21 k.TYING_MODES s.tying

-- the sheet of what a card says, or the first fault of its joint
abbrev pub sheet_if : {J R : Type 0} → Ghosts J R → Result J JointFault → Result Sheet JointFault
sheet_if k (Ok j) = Ok (sheet_of k j)
sheet_if k (Err f) = Err f

abbrev pub judged : {J R : Type 0} → Ghosts J R → R → Result Sheet JointFault
judged k r = sheet_if k (k.admission r)

-- what a card's answer is worth: the joint is admitted and its sheet may be quoted, or it is refused
abbrev pub QuotedCard : {J R : Type 0} → Ghosts J R → R → Result Sheet JointFault → Type 0
QuotedCard {J} k r (Ok s) = (j : J) × (k.admission r ≡ Ok j) × Quoted k j s
QuotedCard k r (Err f) = k.admission r ≡ Err f
