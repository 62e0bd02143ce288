-- A grammar that begins at another name.
use Rattle.std.proofs.Common.{◌≡◌, ◌≢◌, ℕ, ◌<◌, List, Some, length, inl, inr}
use Rattle.std.specs.Prelude.{slice_get}
use Rattle.model_rosters.specs.declared.grammar.Grammar.{Grammar}
use Rattle.model_rosters.specs.Names.{added_name}
use Rattle.model_rosters.specs.Sound.{IsSound, IsPlain, IsNameOf}
use Rattle.model_rosters.proofs.tree_laws.Rules.{All-slice_get}

pub started-sound : (g : Grammar) (x : ℕ) → IsSound g → IsPlain g → x < length g.names → IsSound (record g { start = x })
started-sound g x sound plain lt = record {
  some_period = sound.some_period;
  few_periods = sound.few_periods;
  codes = sound.codes;
  names = record {
    few = sound.names.few;
    each = λ y name at. named y name at (sound.names.each y name at);
    apart = sound.names.apart;
    ruled = sound.names.ruled;
    ordered = sound.names.ordered;
  };
  few_rules = sound.few_rules;
  rules = sound.rules;
  start = lt;
  ranks = (sound.ranks.0, record { below = sound.ranks.1.below; rises = sound.ranks.1.rises });
}
  where
    named : (y : ℕ) (name : List ℕ) → slice_get g.names y ≡ Some name → IsNameOf g y name → IsNameOf (record g { start = x }) y name
    named y name at (inl is) = inl is
    named y name at (inr added) = absurd (All-slice_get (λ (n : List ℕ). n ≢ added_name) g.names y name plain.spelled at added.0)
