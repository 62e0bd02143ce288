mod LoweredTotals
mod Surroundings
mod PushesLemmas
mod PartPushes
mod SlotTotals
mod MarginalsLemmas
mod ViewsLemmas
