-- The lines of the keys so far were taken.
use Rattle.std.proofs.Common.{◌≡◌, length, take}
use Rattle.card.specs.Text.{bytes_of, Took}
use Rattle.card.proofs.lines.read_lines.Given as goal

abbrev pub invariant-loop-i : goal.invariant-loop-i
invariant-loop-i g l = record { taken : Took (take l.i (bytes_of l.keys)) l.text (take l.i l.values) l.at; room : length l.values ≡ g.row.N }
