mod ListedCuts
mod MasterDays
