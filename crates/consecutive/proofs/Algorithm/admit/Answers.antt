use Rattle.consecutive.proofs.Admits.{no_is, no_fits, space, number, count, yes_is, yes_aside, yes_fits}
use Rattle.consecutive.proofs.Algorithm.admit.Goals as goal

pub invariant_of-self : goal.invariant_of-self
invariant_of-self c = record { fit = no_fits c.args.self.now.state _ _ _ c.head.result.flags.bits c.args.self.now.fit c.requires.inside c.requires.admits c.head.ensures.flags c.set_flags.ensures.quiet c.set_flags.ensures.is c.if-intersects.ensures }

pub returns-then-intersects : goal.returns-then-intersects
returns-then-intersects c =
    record {
      is = no_is c.args.self.now.state _ _ _ c.head.result.flags.bits c.args.self.now.fit c.requires.inside c.requires.admits c.head.ensures.flags c.set_flags.ensures.quiet c.set_flags.ensures.is c.if-intersects.ensures;
      aside = c.set_flags.ensures.quiet.aside;
    }

pub enqueue-requires : goal.enqueue-requires
enqueue-requires c =
    record {
      space = space c.args.self.now.state _ _ _ c.head.result.flags.bits c.args.self.now.fit c.requires.inside c.requires.admits c.head.ensures.flags c.set_flags.ensures.quiet c.set_flags.ensures.is c.if-intersects.ensures;
      number = number c.args.self.now.state _ _ _ c.head.result.flags.bits c.args.self.now.fit c.requires.inside c.requires.admits c.head.ensures.flags c.set_flags.ensures.quiet c.set_flags.ensures.is c.if-intersects.ensures;
    }

pub raise_count-requires : goal.raise_count-requires
raise_count-requires c =
    count c.args.self.now.state _ _ _ c.head.result.flags.bits c.args.self.now.fit c.requires.inside c.requires.admits c.head.ensures.flags c.set_flags.ensures.quiet c.set_flags.ensures.is
    c.enqueue.new.self c.enqueue.new.self _ c.if-intersects.ensures c.enqueue.ensures.aside c.enqueue.ensures.is c.enqueue.ensures.number _ c.union.ensures c.uncommon.ensures

pub invariant_of-self-2 : goal.invariant_of-self-2
invariant_of-self-2 c = record {
  fit = yes_fits c.args.self.now.state _ _ _ c.head.result.flags.bits c.args.self.now.fit c.requires.inside c.requires.admits c.head.ensures.flags c.set_flags.ensures.quiet c.set_flags.ensures.is
      c.enqueue.new.self _ _ c.if-intersects.ensures c.enqueue.ensures.aside c.enqueue.ensures.is c.enqueue.ensures.number _ c.union.ensures c.uncommon.ensures c.raise_count.ensures.quiet c.raise_count.ensures.is;
}

pub returns : goal.returns
returns c =
    record {
      is = yes_is c.args.self.now.state _ _ _ c.head.result.flags.bits c.args.self.now.fit c.requires.inside c.requires.admits c.head.ensures.flags c.set_flags.ensures.quiet c.set_flags.ensures.is
          c.enqueue.new.self c.raise_count.new.self _ c.if-intersects.ensures c.enqueue.ensures.aside c.enqueue.ensures.is c.enqueue.ensures.number _ c.union.ensures c.uncommon.ensures c.raise_count.ensures.quiet c.raise_count.ensures.is;
      aside = yes_aside c.args.self.now.state _ _ _ c.head.result.flags.bits c.args.self.now.fit c.requires.inside c.requires.admits c.head.ensures.flags c.set_flags.ensures.quiet c.set_flags.ensures.is
          c.enqueue.new.self c.raise_count.new.self _ c.if-intersects.ensures c.enqueue.ensures.aside c.enqueue.ensures.is c.enqueue.ensures.number _ c.union.ensures c.uncommon.ensures c.raise_count.ensures.quiet c.raise_count.ensures.is;
    }
