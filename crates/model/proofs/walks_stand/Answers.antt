use Rattle.model.proofs.Walks.{walk_chain, walk_waits, walk_lost, walk_known, walk_merge, walk_full, walk_near, walk_near_told, walk_lost_told, walk_dates, walk_skips, walk_skip_told, walk_pins, walk_edge, walk_noop}
use Rattle.model.proofs.walks_stand.Goals as goal

pub returns : goal.returns
returns c =
    record { chain = walk_chain; waits = walk_waits; lost = walk_lost; known = walk_known; merge = walk_merge; full = walk_full; near = walk_near; near_told = walk_near_told; lost_told = walk_lost_told; dates = walk_dates; skips = walk_skips; skip_told = walk_skip_told; pins = walk_pins; edge = walk_edge; noop = walk_noop }
