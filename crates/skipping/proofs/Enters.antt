-- A row enters the queue: what the code's steps need, and what they leave.
use Rattle.std.proofs.Common.{◌≡◌, ℕ, ◌+◌, ◌^◌, ◌<◌, ◌≤◌, false, length, sym, ap, subst, arith}
use Rattle.model.specs.Book.{Walk, join, flags_at, change, drawn, recount, place}
use Rattle.model.specs.Skipping.{queued}
use Rattle.model.specs.SkipParts.{Adds}
use Rattle.model.specs.View.{unpack}
use Rattle.model.specs.Steady.{SkipFit}
use Rattle.model.proofs.SkipFits.{queue_fit}
use Rattle.model.proofs.SkipMoves.{queued_is}
use Rattle.walk.specs.declared.state.State.{State}
use Rattle.walk.specs.View.{view, numbered, places, mark_places, Aside, Quiet}
use Rattle.walk.proofs.Keeps.{Fits, fits_le, fits_step, rooms_trans}

module _ (s t : State) (k mask : ℕ) (F : Fits SkipFit s) (l : k < length (view s).rows) (ad : Adds mask) (un : (flags_at (view s) k).seen ≡ false)
    (qt : Quiet s t) (et : view t ≡ change (view s) k (join (unpack mask) (flags_at (view s) k)) (view s).queue (view s).count) where
  pub space : length (view t).queue < places t
  space =
      let a : length (view s).queue + 1 ≤ places s = fits_le SkipFit s _ _ F (λ x. let y = (queue_fit (view s) k mask _ _ _ x l ad un).space in omega (arith, y)) in
      let b = ap (λ (w : Walk). length w.queue) et in
      omega (arith, a, b, qt.aside.rooms.places)

  pub number : numbered t + 1 < 2 ^ 64
  number =
      let a : numbered s + 1 ≤ 65535 = fits_le SkipFit s _ _ F (λ x. (queue_fit (view s) k mask _ _ _ x l ad un).number) in
      omega (arith, a, qt.numbered)

  module _ (u : State) (eu : view u ≡ drawn (view t) (place (view t).rows k (view t).queue)) where
    pub count : (view u).count + 1 < 2 ^ 64
    count =
        let a : (view s).count + 1 ≤ 65535 = fits_le SkipFit s _ _ F (λ x. (queue_fit (view s) k mask _ _ _ x l ad un).count) in
        let b = ap (λ (w : Walk). w.count) et in
        let d = ap (λ (w : Walk). w.count) eu in
        omega (arith, a, b, d)

    module _ (v : State) (ev : view v ≡ recount (view u) ((view u).count + 1)) where
      pub is : view v ≡ queued (unpack mask) (view s) k
      is = queued_is (view s) (view t) (view u) (view v) k (unpack mask) l et eu ev

      pub fits : Aside t u → numbered u ≤ numbered t + 1 → Quiet u v → Fits SkipFit v
      fits au nu qv = fits_step SkipFit s v F (rooms_trans s t v qt.aside.rooms (rooms_trans t u v au.rooms qv.aside.rooms))
          (λ x. subst (λ (w : Walk). SkipFit w (numbered v) (places s) (mark_places s)) (sym is) ((queue_fit (view s) k mask _ _ _ x l ad un).fit (numbered v) (omega (arith, nu, qt.numbered, qv.numbered))))
