use Rattle.std.proofs.Common.{◌∙◌}
use Rattle.commit.specs.Shapes.{said}
use Rattle.commit.proofs.Writes.{reads_written}
use Rattle.commit.proofs.Composes.{composed}
use Rattle.commit.proofs.read.Goals as goal

pub returns : goal.returns
returns c =
    let t = c.args.text.now in
    let e = c.whole.ensures in
    record {
      means = e;
      takes = λ d ps w. e ∙ reads_written t d ps w;
      composed = composed t (said c.whole.result) e;
    }
