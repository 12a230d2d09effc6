use Rattle.std.proofs.Common.{string_bytes, ap, ◌∙◌}
use Rattle.std.proofs.lemmas.Result.{IfOk-weaker}
use Rattle.model.specs.Numbers.{number_of}
use Rattle.session.proofs.Prints.{tells}
use Rattle.session.proofs.transcript.walked.Goals as goal

pub returns : goal.returns
returns g c =
    IfOk-weaker c.headed.result _ _
    (λ t e. tells _ _ _ _ _ _ _ _ _ _ _ _ (string_bytes t) c.in_ok-source.ensures (c.as_slice.ensures.value ∙ c.in_ok-calls.ensures) c.as_slice-2.ensures.value c.book.ensures (c.into.ensures ∙ ap number_of c.ALGORITHM.ensures) c.in_ok-session.ensures c.in_ok-said.ensures c.as_str.ensures.value e)
    c.headed.ensures
