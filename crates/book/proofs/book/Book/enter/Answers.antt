use Rattle.std.proofs.Common.{◌≡◌, ℕ, List, map, length, take, ℤ, Some, Ok, Err, Option, Result, vec_items, sym, ap, ◌∙◌, subst, arith, w64, SFits, rules}
use Rattle.source.specs.declared.ObjectId.{ObjectId}
use Rattle.book.specs.declared.types.Denial.{Denial}
use Rattle.book.specs.declared.types.Row.{Row}
use Rattle.source.specs.Ids.{place}
use Rattle.book.specs.Index.{id_of}
use Rattle.std.proofs.lemmas.Int.{to_z-of_z}
use Rattle.std.proofs.lemmas.List.Edits.{length-paste}
use Rattle.source.specs.Meaning.{parents_of}
use Rattle.book.specs.Model.{Looked, Inserted, model, stopping}
use Rattle.book.proofs.Inserts.{ids_of_lem}
use Rattle.book.proofs.Lookups.{look_denied, look_in, room, model_in, count_is}
use Rattle.book.proofs.book.Book.enter.Goals as goal

pub returns-in_err-room_for : goal.returns-in_err-room_for
returns-in_err-room_for g c =
    let b = c.args.self.now in
    let e = look_denied b (g.S.Source.meaning c.args.source.now) c.args.id c.in-Some-date.date c.in-Some-parent_count.count c.in-Some-date.ensures c.in-Some-parent_count.ensures _ c.in_err-room_for.ensures in
    let v : c.from_residual.result ≡ Err c.in_err-room_for.field-0.0 = search rules in
    record { after = ap (λ (r : Result (Option ℕ) Denial). stopping r (model b)) v ∙ sym (ap (λ (l : Looked). l.book) e); value = v ∙ sym (ap (λ (l : Looked). l.answer) e) }

pub insert-requires : goal.insert-requires
insert-requires g c =
    let b = c.args.self.now in
    let s = c.copy_parents.new.self in
    let r = room b c.in-Some-parent_count.count c.in_ok-room_for.ensures in
    let ps = parents_of (g.S.Source.meaning c.args.source.now c.args.id) in
    let long : length (vec_items s.links) ≡ length (vec_items b.links) = ap length c.copy_parents.ensures.links ∙ length-paste (vec_items b.links) b.linked ps c.in-Some-parent_count.count r.1 (omega (arith, count_is (g.S.Source.meaning c.args.source.now c.args.id) c.in-Some-parent_count.count c.in-Some-parent_count.ensures)) in
    record {
      room = omega (arith, r.0, c.copy_parents.ensures.limit, c.copy_parents.ensures.used);
      fits = omega (arith, r.1, c.copy_parents.ensures.linked, long);
      new = c.requires.new ∙ (ap (λ (xs : List ObjectId). place c.args.id xs 0) (ids_of_lem (vec_items b.links) (take b.used (vec_items b.rows))) ∙ (ap (λ (rs : List Row). place c.args.id (map id_of (take b.used rs)) 0) (sym c.copy_parents.ensures.rows) ∙ ap (λ (n : ℕ). place c.args.id (map id_of (take n (vec_items s.rows))) 0) (sym c.copy_parents.ensures.used)));
    }

pub returns : goal.returns
returns g c =
    let b = c.args.self.now in
    let s = c.copy_parents.new.self in
    let m = g.S.Source.meaning c.args.source.now in
    let d = c.in-Some-date.date in
    let n = c.in-Some-parent_count.count in
    let f : SFits w64 c.in-Some-date.date = search rules in
    let r = room b n c.in_ok-room_for.ensures in
    let e = look_in b m c.args.id d n c.in-Some-date.ensures c.in-Some-parent_count.ensures r in
    record {
      after = model_in b s c.insert.new.self (parents_of (m c.args.id)) c.args.id d n c.copy_parents.ensures (subst (λ (z : ℤ). Inserted s c.insert.new.self c.args.id z n) (to_z-of_z w64 d f) c.insert.ensures) (count_is (m c.args.id) n c.in-Some-parent_count.ensures) r.1 ∙ sym (ap (λ (l : Looked). l.book) e);
      value = ap (λ (k : ℕ). Ok (Some k)) c.copy_parents.ensures.used ∙ sym (ap (λ (l : Looked). l.answer) e);
    }
