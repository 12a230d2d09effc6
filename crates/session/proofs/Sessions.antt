-- Calls that were all played, from a book's making on.
use Rattle.std.proofs.Common.{◌≡◌, ℕ, List, [], length, vec_len, sym, ap, ◌∙◌, subst}
use Rattle.std.proofs.lemmas.List.{length-map}
use Rattle.model.specs.declared.Algorithm.{Algorithm}
use Rattle.model.specs.declared.Call.{Call}
use Rattle.model.specs.declared.Event.{Event}
use Rattle.model.specs.Book.{Source, Walk, made}
use Rattle.model.specs.Past
use Rattle.negotiate.specs.Records.{Recorded}
use Rattle.walk.specs.Made.{most_rows, Sized}
use Rattle.walk.specs.declared.state.making.Buffers.{Buffers}
use Rattle.session.specs.Sessions.{begun, Whole}

pub whole : (n : Algorithm) (src : Source) (rows links : ℕ) (calls : List Call) (es : List Event) (s t : Walk) → s ≡ begun rows links → Recorded n src s calls es t → Whole n src rows links calls es t
whole n src rows links calls es s t e R =
    let P : Recorded n src (begun rows links) calls es t = subst (λ (x : Walk). Recorded n src x calls es t) e R in
    let b = Past.PastOf.begun (most_rows rows rows rows) links in
    record { paired = sym (length-map es (λ (x : Event). x.asked)) ∙ ap {B = ℕ} (λ (cs : List Call). length cs) P.asked; played = P; past = P.past [] b; lawful = P.lawful [] b }

-- the book that these buffers make
pub begins : (b : Buffers) (rows links : ℕ) (s : Walk) → Sized b rows links → s ≡ made (most_rows (vec_len b.rows) (vec_len b.queue) (vec_len b.marking)) (vec_len b.links) → s ≡ begun rows links
begins b rows links s z e = e ∙ (λ i. made (most_rows (z.rows i) (z.queue i) (z.marking i)) (z.links i))
