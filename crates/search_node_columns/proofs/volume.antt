mod PoolTrees
