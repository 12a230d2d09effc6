use Rattle.std.proofs.Common.{sym, subst, inl, inr, ⊎_elim}
use Rattle.model.specs.Book.{Flags}
use Rattle.model.specs.Consecutive as steps
use Rattle.model.specs.Consecutive.{Push}
use Rattle.model.specs.Parts.{ended}
use Rattle.model.proofs.Good.{ext_refl}
use Rattle.consecutive.specs.Seen.{walk}
use Rattle.consecutive.proofs.Algorithm.push_unseen.Goals as goal

pub returns-then-has_seen : goal.returns-then-has_seen
returns-then-has_seen g c = record { is = steps.PushUnseen.skips (sym c.if-has_seen.ensures); grows = ext_refl (walk c.args.self.now) }

pub push-requires : goal.push-requires
push-requires g c = ⊎_elim inl (λ e. inr (inr e, sym c.if-has_seen.ensures)) c.passed_on.ensures.bits

pub returns : goal.returns
returns g c =
    let src = g.S.Source.meaning c.args.source.now in
    record { is = steps.PushUnseen.pushes (sym c.if-has_seen.ensures) (subst (λ (m : Flags). Push src m c.args.id (walk c.args.self.now) (ended c.push.result (walk c.push.new.self))) c.passed_on.ensures.is c.push.ensures.is); grows = c.push.ensures.grows }
