pub mod OneAnswerLemmas
