mod FillSums
mod RootCuts
mod SomeTree
