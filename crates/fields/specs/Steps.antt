-- What the iterators over fields and over pairs give.
use Rattle.std.specs.Prelude.{◌≡◌, ℕ, ◌+◌, ◌<◌, ◌≤◌, length, Some, None, Option, Ok, Err, Result}
use Rattle.source.specs.declared.Cause.TheVariants.{PastEnd}
use Rattle.fields.specs.declared.Field.{Field}
use Rattle.fields.specs.declared.Fields.{Fields}
use Rattle.fields.specs.declared.Misfit.{Misfit}
use Rattle.fields.specs.declared.Pair.{Pair}
use Rattle.fields.specs.declared.Pairs.{Pairs}
use Rattle.fields.specs.Fields.{long}
use Rattle.fields.specs.Fields.{Field as IsField}
use Rattle.fields.specs.Pairs.{paired, pair_at, Within}

-- one step: a field with its place, and then on behind it; or that it runs past the end, and then no more; or nothing at the end
abbrev pub GivesField : Fields → Option (Result Field Misfit) → Fields → Type 0
GivesField s None t = (length s.rest.bytes.now ≡ 0) × (t ≡ s)
GivesField s (Some (Err m)) t =
    (0 < length s.rest.bytes.now) × (length s.rest.bytes.now < 3 + long s.rest.bytes.now) × (m ≡ record { cause = PastEnd; place = s.rest.at }) × (length t.rest.bytes.now ≡ 0)
GivesField s (Some (Ok f)) t =
    (f.at ≡ s.rest.at) × (f.rest.at ≡ f.at + (3 + length f.body.now)) × IsField s.rest.bytes.now f.tag f.body.now f.rest.bytes.now × (t.rest ≡ f.rest)

-- one step: a pair of the store with its place, and then on behind it; or what is wrong there, and then no more; or nothing at the end
abbrev pub GivesPair : Pairs → Option (Result (ℕ × Pair) Misfit) → Pairs → Type 0
GivesPair s None t = (length s.store.now ≤ s.at) × (t ≡ s)
GivesPair s (Some (Err m)) t =
    (s.at < length s.store.now) × (paired (Err m) ≡ pair_at s.store.now s.at) × (t.store.now ≡ s.store.now) × (t.at ≡ length s.store.now)
GivesPair s (Some (Ok x)) t =
    (s.at < length s.store.now) × (x.0 ≡ s.at) × (paired (Ok x.1) ≡ pair_at s.store.now s.at) × Within s.at (length s.store.now) (Ok x.1) × (t.store.now ≡ s.store.now) × (t.at ≡ x.1.next)
