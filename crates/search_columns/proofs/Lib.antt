pub mod PoolGrowth
