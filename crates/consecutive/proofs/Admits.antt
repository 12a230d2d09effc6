-- A push at a row, and COMMON set at a row: what the code's steps need, and what they leave.
use Rattle.std.proofs.Common.{◌≡◌, ℕ, ◌+◌, ◌-◌, ◌^◌, ◌<◌, ◌≤◌, true, false, cond, length, sym, refl, ap, ◌∙◌, subst, arith}
use lib.Bits.{bit_or}
use Rattle.book.specs.Bits.{has}
use Rattle.model.specs.Book.{Walk, COMMON, join, meets, flags_at, change, drawn, recount, place}
use Rattle.model.specs.Consecutive.{entered, waits}
use Rattle.model.specs.View.{unpack, Admits}
use Rattle.model.specs.Steady.{Fit}
use Rattle.model.proofs.Fits.{admit_fit, admit_quiet, common_fit}
use Rattle.walk.specs.declared.state.State.{State}
use Rattle.walk.specs.View.{view, numbered, places, mark_places, Aside, Quiet}
use Rattle.walk.proofs.Keeps.{Fits, fits_le, fits_step, fits_quiet, aside_trans, quiet_trans}
use Rattle.consecutive.proofs.Steps.{admits_mask, meets_is, admitted_no, admitted_yes, commoned_is}

module _ (s t : State) (k mask f : ℕ) (F : Fits Fit s) (l : k < length (view s).rows) (ad : Admits mask (flags_at (view s) k)) (e : unpack f ≡ flags_at (view s) k)
    (qt : Quiet s t) (et : view t ≡ change (view s) k (join (unpack mask) (flags_at (view s) k)) (view s).queue (view s).count) where
  pub no_is : true ≡ has f mask → view t ≡ entered (unpack mask) (view s) k
  no_is h = admitted_no (view s) (view t) k mask f ad e h et

  pub no_fits : true ≡ has f mask → Fits Fit t
  no_fits h = fits_quiet Fit s t F qt (λ n p m x. subst (λ (w : Walk). Fit w n p m) (sym (no_is h)) (admit_quiet (view s) k mask n p m x l ad))

  lacks : false ≡ has f mask → meets (unpack mask) (flags_at (view s) k) ≡ false
  lacks h = meets_is mask f (flags_at (view s) k) false (admits_mask mask (flags_at (view s) k) ad) e h

  pub space : false ≡ has f mask → length (view t).queue < places t
  space h =
      let a : length (view s).queue + 1 ≤ places s = fits_le Fit s _ _ F (λ x. let y = (admit_fit (view s) k mask _ _ _ x l ad (lacks h)).space in omega (arith, y)) in
      let b = ap (λ (w : Walk). length w.queue) et in
      omega (arith, a, b, qt.aside.rooms.places)

  pub number : false ≡ has f mask → numbered t + 1 < 2 ^ 64
  number h =
      let a : numbered s + 1 ≤ 65535 = fits_le Fit s _ _ F (λ x. (admit_fit (view s) k mask _ _ _ x l ad (lacks h)).number) in
      omega (arith, a, qt.numbered)

  module _ (u v : State) (n : ℕ) (h : false ≡ has f mask) (au : Aside t u) (eu : view u ≡ drawn (view t) (place (view t).rows k (view t).queue)) (nu : numbered u ≤ numbered t + 1) (b : ℕ) (eb : b ≡ bit_or f mask) (nb : n ≡ cond (unpack b).common 0 1) where
    en : n ≡ cond (unpack (bit_or f mask)).common 0 1
    en = nb ∙ ap (λ (x : ℕ). cond (unpack x).common 0 1) eb

    pub count : (view u).count + n < 2 ^ 64
    count =
        let w = recount (view u) ((view u).count + n) in
        let is : w ≡ entered (unpack mask) (view s) k = admitted_yes (view s) (view t) (view u) w k mask f n l ad e h et eu refl en in
        let a : (entered (unpack mask) (view s) k).count ≤ 65535 = fits_le Fit s _ _ F (λ x. (admit_fit (view s) k mask _ _ _ x l ad (lacks h)).count) in
        let b = ap (λ (x : Walk). x.count) is in
        omega (arith, a, b)

    module _ (qv : Quiet u v) (ev : view v ≡ recount (view u) ((view u).count + n)) where
      pub yes_is : view v ≡ entered (unpack mask) (view s) k
      yes_is = admitted_yes (view s) (view t) (view u) (view v) k mask f n l ad e h et eu ev en

      pub yes_aside : Aside s v
      yes_aside = aside_trans s t v qt.aside (aside_trans t u v au qv.aside)

      pub yes_fits : Fits Fit v
      yes_fits = fits_step Fit s v F yes_aside.rooms
          (λ x. subst (λ (w : Walk). Fit w (numbered v) (places s) (mark_places s)) (sym yes_is) ((admit_fit (view s) k mask _ _ _ x l ad (lacks h)).fit (numbered v) (omega (arith, nu, qt.numbered, qv.numbered))))

-- COMMON
module _ (s t : State) (k f n : ℕ) (F : Fits Fit s) (l : k < length (view s).rows) (un : (flags_at (view s) k).common ≡ false) (e : unpack f ≡ flags_at (view s) k)
    (qt : Quiet s t) (et : view t ≡ change (view s) k (join COMMON (flags_at (view s) k)) (view s).queue (view s).count) (en : n ≡ cond (waits (unpack f)) 1 0) where
  pub common_low : n ≤ (view t).count
  common_low =
      let a : cond (waits (flags_at (view s) k)) 1 0 ≤ (view s).count = fits_le Fit s _ _ F (λ x. (common_fit (view s) k _ _ _ x l un).low) in
      let b = ap (λ (w : Walk). w.count) et in
      let d = en ∙ ap (λ g. cond (waits g) 1 0) e in
      omega (arith, a, b, d)

  pub common_fits : (u : State) → Quiet t u → view u ≡ recount (view t) ((view t).count - n) → Fits Fit u
  common_fits u qu eu = fits_quiet Fit s u F (quiet_trans s t u qt qu)
      (λ i p m x. subst (λ (w : Walk). Fit w i p m) (sym (commoned_is (view s) (view t) (view u) k f n e et eu en)) (common_fit (view s) k i p m x l un).fit)
