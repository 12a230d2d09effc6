use Rattle.model.proofs.Good.{ext_trans}
use Rattle.skipping.specs.Seen.{walk}
use Rattle.skipping.proofs.Visits.{room, fits, inside, held, ext, visited, pays}
use Rattle.skipping.proofs.Algorithm.visit.Goals as goal

pub lower_count-requires : goal.lower_count-requires
lower_count-requires c = room c.args.self.now.state c.args.step c.requires.0 c.requires.1 _ _ c.head.ensures.flags c.unpopped.ensures

pub invariant_of-self : goal.invariant_of-self
invariant_of-self c =
    let s = c.args.self.now in
    record { fit = fits s.state c.args.step c.requires.0 c.requires.1 _ _ c.head.ensures.flags c.unpopped.ensures _ c.lower_count.ensures.quiet c.lower_count.ensures.is s.fit }

pub spread_all-requires : goal.spread_all-requires
spread_all-requires c =
    let s = c.args.self.now in
    record {
      inside = inside s.state c.args.step c.requires.0 c.requires.1 _ _ c.head.ensures.flags c.unpopped.ensures _ c.lower_count.ensures.quiet c.lower_count.ensures.is;
      held = held s.state c.args.step c.requires.0 c.requires.1 _ _ c.head.ensures.flags c.unpopped.ensures _ c.lower_count.ensures.quiet c.lower_count.ensures.is;
    }

pub returns : goal.returns
returns c =
    let s = c.args.self.now in
    let v = c.spread_all.new.self in
    let x = ext s.state c.args.step c.requires.0 c.requires.1 _ _ c.head.ensures.flags c.unpopped.ensures _ c.lower_count.ensures.quiet c.lower_count.ensures.is in
    record {
      is = visited s.state c.args.step c.requires.0 c.requires.1 _ _ c.head.ensures.flags c.unpopped.ensures _ c.lower_count.ensures.quiet c.lower_count.ensures.is v.state c.spread_all.ensures.is;
      keeps = record { held = c.spread_all.ensures.keeps.held; grows = ext_trans (walk s) _ (walk v) x c.spread_all.ensures.keeps.grows; pays = pays s.state c.args.step c.requires.0 c.requires.1 _ _ c.head.ensures.flags c.unpopped.ensures _ c.lower_count.ensures.quiet c.lower_count.ensures.is v.state c.spread_all.ensures.keeps.pays };
    }
