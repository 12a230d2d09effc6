use Rattle.skipping.proofs.Enters.{space, number, count, is, fits}
use Rattle.skipping.proofs.Algorithm.enter.Goals as goal

pub enqueue-requires : goal.enqueue-requires
enqueue-requires c =
    let s = c.args.self.now in
    record {
      space = space s.state _ _ c.args.mask.bits s.fit c.requires.inside c.requires.adds c.requires.unseen c.set_flags.ensures.quiet c.set_flags.ensures.is;
      number = number s.state _ _ c.args.mask.bits s.fit c.requires.inside c.requires.adds c.requires.unseen c.set_flags.ensures.quiet c.set_flags.ensures.is;
    }

pub raise_count-requires : goal.raise_count-requires
raise_count-requires c =
    let s = c.args.self.now in
    count s.state _ _ c.args.mask.bits s.fit c.requires.inside c.requires.adds c.requires.unseen c.set_flags.ensures.quiet c.set_flags.ensures.is _ c.enqueue.ensures.is

pub invariant_of-self : goal.invariant_of-self
invariant_of-self c =
    let s = c.args.self.now in record {
      fit = fits s.state _ _ c.args.mask.bits s.fit c.requires.inside c.requires.adds c.requires.unseen c.set_flags.ensures.quiet c.set_flags.ensures.is _ c.enqueue.ensures.is
          _ c.raise_count.ensures.is c.enqueue.ensures.aside c.enqueue.ensures.number c.raise_count.ensures.quiet;
    }

pub returns : goal.returns
returns c =
    let s = c.args.self.now in
    is s.state _ _ c.args.mask.bits s.fit c.requires.inside c.requires.adds c.requires.unseen c.set_flags.ensures.quiet c.set_flags.ensures.is _ c.enqueue.ensures.is _ c.raise_count.ensures.is
