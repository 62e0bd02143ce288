use Rattle.search_branch_price.proofs.asking.ask_master.Goals as goal

pub returns-clause-tools : goal.returns-clause-tools
returns-clause-tools g c =
    let k = c.requires.tools.workspace in
    record {
      pool = record { are = c.node.ensures.pool; grown = c.node.ensures.grown };
      workspace = record { pricing = record { pricer = c.node.ensures.pricer; room = k.pricing.room }; most = k.most; rosters = k.rosters; moves = k.moves };
    }

pub returns-clause-counted : goal.returns-clause-counted
returns-clause-counted g c = record { counts = c.node.ensures.counts; rises = c.node.ensures.rises; within = c.node.ensures.within }
