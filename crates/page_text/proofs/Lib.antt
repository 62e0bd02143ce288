mod Chain
mod MarkLemmas
mod PageEnd
