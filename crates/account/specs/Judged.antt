-- What the account says of one card.
use Rattle.std.specs.Prelude.{ℕ, List, ◌++◌, Ok, Err, codes, Result}
use Rattle.card.specs.Kinds.{kind_line}
use Rattle.card.specs.Text.{line_of}
use Rattle.header.specs.HeaderKinds.{header_kind}
use Rattle.card.specs.declared.card.Card.{Card}
use Rattle.card.specs.declared.card.Card.TheVariants.{Header as HeaderCard, Fin as FinCard}
use Rattle.fin.specs.FinKinds.{fin_kind}
use Rattle.joint.specs.Sheets.{judged, or_nobody}
use Rattle.joint.specs.declared.fault.JointFault.{JointFault}
use Rattle.joint.specs.declared.sheet.Sheet.{Sheet}
use Rattle.account.specs.declared.entry.Entry.{Entry}
use Rattle.account.specs.declared.entry.Entry.TheVariants.{Header, Fin}
use Rattle.account.specs.declared.fault.Fault.{Fault}
use Rattle.account.specs.declared.fault.Fault.TheVariants.{Joint}
use Rattle.account.specs.Faults.{fault_code, fault_text}

-- a sheet of its kind, or the fault of the joint
abbrev pub entry_from : (Sheet → Entry) → Result Sheet JointFault → Result Entry Fault
entry_from kind (Ok s) = Ok (kind s)
entry_from kind (Err f) = Err (Joint f)

-- what a card gets
abbrev pub entry_of : Card → Result Entry Fault
entry_of (HeaderCard j) = entry_from Header (judged header_kind j)
entry_of (FinCard j) = entry_from Fin (judged fin_kind j)

-- the lines of a sheet behind the first
abbrev pub sheet_lines : Sheet → List ℕ
sheet_lines s =
    line_of (codes "shear") s.shear.figure ++ (line_of (codes "mode") s.shear.mode ++ (line_of (codes "tie") (or_nobody s.tying).figure
    ++ (line_of (codes "tiemode") (or_nobody s.tying).mode ++ (line_of (codes "class") s.class ++ (line_of (codes "unmet") s.unmet ++ line_of (codes "count") s.count)))))

-- the eight lines of a sheet, of which the first names its kind
abbrev pub entry_text : Entry → List ℕ
entry_text (Header s) = kind_line 72 ++ sheet_lines s
entry_text (Fin s) = kind_line 70 ++ sheet_lines s

-- the lines for a card: those of its sheet, or the three of a fault
abbrev pub told : Result Entry Fault → List ℕ
told (Ok e) = entry_text e
told (Err f) = fault_text (fault_code f)
