mod TopArcs
mod PoolGrowth
mod ArcPrices
mod WidePrices
