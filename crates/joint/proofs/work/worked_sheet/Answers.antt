-- `worked_sheet`: the sheet is the one defined, and its governing figures may be quoted.
use Rattle.std.proofs.Common.{rules}
use Rattle.joint.proofs.Quotes.{quotable, worth}
use Rattle.joint.proofs.work.worked_sheet.Goals as goal

pub returns : goal.returns
returns g c = record {
  value = search rules;
  quoted = record {
    shear = quotable g.K.Kind g.met.K.Kind.meaning c.args.joint.now 1 g.K.Kind.SHEAR_MODES _ c.shear_governed-shear.ensures.words;
    tying = worth g.K.Kind g.met.K.Kind.meaning c.args.joint.now 21 g.K.Kind.TYING_MODES _ c.tying_governed-tying.ensures.words;
  };
}
