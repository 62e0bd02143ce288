use Rattle.search_candidates.proofs.price.price_of.Goals as goal

pub unreachable-requires : goal.unreachable-requires
unreachable-requires c =
    let its = c.requires.shift in
    c.in_default.ensures.price its.team its.listed its.number its.shift
