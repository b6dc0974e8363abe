use Rattle.std.proofs.Common.{◌≡◌, ◌<◌, ◌≤◌, length, map, rules, sym, ap, ◌∙◌, subst, arith}
use Rattle.std.proofs.lemmas.List.{length-map, get_or-map}
use Rattle.rail.specs.Model.{table_of}
use Rattle.rail.proofs.Pushes.{run_more, answers_more}
use Rattle.rail.proofs.Whole.{replayed}
use Rattle.rail.proofs.replay.replay_log.Goals as goal

pub loop-entry-preserved : goal.loop-entry-preserved
loop-entry-preserved g c =
    let k = g.K.Kind in
    let log = c.args.log.now in
    let cs = map g.N.Noted.call log in
    let i = c.loop-entry.entry-index in
    let kept = c.loop-entry.invariant in
    let made = c.perform.ensures in
    let within : i < length cs = subst (λ n. i < n) (sym (length-map log g.N.Noted.call)) c.loop-entry-test.true in
    let read = c.noted.ensures ∙ ap g.N.Noted.call c.entry-item.is ∙ sym (get_or-map g.N.Noted.call log i c.entry-item.result c.noted.result c.loop-entry-test.true) in
    record {
      table = run_more k _ cs i c.noted.result within read kept.table made.table;
      answers = answers_more k _ cs i c.noted.result within read c.push_reserved.new.self.items kept.table kept.answers made.answer
          c.push_reserved.ensures.items;
      answered = search rules;
      room = search rules;
      same = search rules;
    }

pub returns : goal.returns
returns g c =
    let log = c.args.log.now in
    replayed g.K.Kind g.met.K.Kind.meaning c.args.number c.args.places.now _ (map g.N.Noted.call log) c.loop-entry.entry-index c.loop-entry.answers.items _
    (table_of c.loop-entry.rail)
    (search rules)
    (cc)
    (subst (λ n. n ≤ c.loop-entry.entry-index) (sym (length-map log g.N.Noted.call)) c.loop-entry-test.false)
    c.loop-entry.invariant.table
    c.loop-entry.invariant.answers
    (search rules)
