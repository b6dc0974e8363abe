use Rattle.std.proofs.Common.{◌≡◌, length, map, take, vec_len, vec_capacity}
use Rattle.rail.specs.Model.{table_of}
use Rattle.rail.specs.Runs.{run, answers}
use Rattle.rail.proofs.replay.replay_log.Given as goal

abbrev pub invariant-loop-entry : goal.invariant-loop-entry
invariant-loop-entry g l = record {
  table : table_of l.rail ≡ run g.K.Kind (table_of l.initial.rail) (take l.entry-index (map g.N.Noted.call l.log));
  answers : l.answers.items ≡ answers g.K.Kind (table_of l.initial.rail) (take l.entry-index (map g.N.Noted.call l.log));
  answered : vec_len l.answers ≡ l.entry-index;
  room : vec_capacity l.answers ≡ length l.log;
  same : l.rail.places.ghost_name ≡ l.initial.rail.places.ghost_name;
}
