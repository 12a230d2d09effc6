use Rattle.std.proofs.Common.{◌+◌, [], ◌∷◌, ◌++◌, map, take, drop, ℤ, vec_items, sym, refl, ap, ◌∙◌, arith, w64, SFits, rules}
use Rattle.std.proofs.lemmas.Int.{to_z-of_z}
use Rattle.std.proofs.lemmas.List.{length-set}
use Rattle.book.specs.declared.types.Row.{Row}
use Rattle.source.specs.Ids.{place}
use Rattle.book.specs.Rows.{entry}
use Rattle.book.specs.Index.{hash, id_of, head_of, next_of}
use Rattle.book.specs.Model.{fresh}
use Rattle.book.proofs.Inserts.{read_of, entries_after, inside_after, chained_after, headed_after, distinct_after}
use Rattle.book.proofs.book.Book.insert.Goals as goal

pub invariant_of-self : goal.invariant_of-self
invariant_of-self c =
    let b = c.args.self.now in
    let rows = vec_items b.rows in
    let new = c.taken.result in
    let is = c.taken.ensures in
    let h = c.bucket_of-bucket.result in
    let x = c.index_mut-2.result.now in
    let e = c.index_mut-2.ensures.value in
    let bucket = c.bucket_of-bucket.ensures in
    let hashed = bucket.value ∙ ap (λ (r : Row). hash r.id b.limit) (sym is) in record {
      within = omega arith;
      lent = omega arith;
      narrow = omega arith;
      room = omega arith;
      inside = inside_after rows b.used new h x (b.used + 1) (omega arith) e b.linked c.args.count (omega arith) (ap (λ (r : Row). r.first) is) (ap (λ (r : Row). r.count) is) b.inside;
      chained = chained_after rows b.used new h x (b.used + 1) (omega arith) e b.limit (omega arith) (omega arith) hashed bucket.bound (ap next_of is ∙ read_of head_of rows h c.index.result.now 0 (omega arith) c.index.ensures) b.chained b.headed;
      headed = headed_after rows b.used new h x (b.used + 1) (omega arith) e b.limit (omega arith) (omega arith) hashed bucket.bound (ap head_of is ∙ read_of head_of rows b.used c.index-2.result.now 0 (omega arith) c.index-2.ensures) refl b.headed;
      distinct = distinct_after rows b.used new h x (b.used + 1) (omega arith) e b.limit (omega arith) (omega arith) hashed bucket.bound (c.requires.new ∙ ap (λ (r : Row). place r.id (map id_of (take b.used rows)) 0) (sym is)) b.distinct;
    }

pub returns : goal.returns
returns c =
    let b = c.args.self.now in
    let rows = vec_items b.rows in
    let f : SFits w64 c.args.date = search rules in
    record {
      entries = λ links. entries_after rows b.used c.taken.result c.bucket_of-bucket.result c.index_mut-2.result.now (b.used + 1) (omega arith) c.index_mut-2.ensures.value links (omega arith)
          ∙ ap (λ (r : Row). map (entry links) (take b.used rows) ++ entry links r ∷ []) c.taken.ensures
          ∙ ap (λ (z : ℤ). map (entry links) (take b.used rows) ++ fresh c.args.id z (take c.args.count (drop b.linked links)) ∷ []) (to_z-of_z w64 c.args.date f);
      slots = simp length-set;
      links = refl;
      limit = refl;
      used = refl;
      linked = refl;
      stopped = refl;
    }
