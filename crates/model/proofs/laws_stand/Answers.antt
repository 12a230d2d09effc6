use Rattle.model.proofs.Every.{every_past_lawful, every_call_pops}
use Rattle.model.proofs.Calls.{every_call_fixed}
use Rattle.model.proofs.laws_stand.Goals as goal

pub returns : goal.returns
returns c = record { lawful = every_past_lawful; popping = every_call_pops; fixed = every_call_fixed }
