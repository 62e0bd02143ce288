mod RuledLemmas
mod UsedRules
