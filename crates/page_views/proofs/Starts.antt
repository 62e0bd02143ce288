-- A rules text's grammar with another start.
use Rattle.std.proofs.Common.{◌≡◌, ◌≢◌, ℕ, ◌<◌, List, length, inl, inr}
use Rattle.std.specs.Prelude.{Some, slice_get}
use Rattle.model_rosters.specs.declared.grammar.Grammar.{Grammar}
use Rattle.model_rosters.specs.Names.{added_name}
use Rattle.model_rosters.specs.Sound.{IsNameOf, IsPlain, IsSound}
use Rattle.model_rosters.proofs.tree_laws.Rules.{All-slice_get}

-- where no name is the added one, each stays a name
other_name : (g : Grammar) (s : ℕ) → IsPlain g → (x : ℕ) (name : List ℕ) → slice_get g.names x ≡ Some name → IsNameOf g x name → IsNameOf (record g { start = s }) x name
other_name g s plain x name e (inl h) = inl h
other_name g s plain x name e (inr h) = absurd (All-slice_get (λ (n : List ℕ). n ≢ added_name) g.names x name plain.spelled e h.0)

pub sound_from : (g : Grammar) (s : ℕ) → IsSound g → IsPlain g → s < length g.names → IsSound (record g { start = s })
sound_from g s sound plain lt = record {
  some_period = sound.some_period;
  few_periods = sound.few_periods;
  codes = sound.codes;
  names = record {
    few = sound.names.few;
    each = λ x name e. other_name g s plain x name e (sound.names.each x name e);
    apart = sound.names.apart;
    ruled = sound.names.ruled;
    ordered = sound.names.ordered;
  };
  few_rules = sound.few_rules;
  rules = sound.rules;
  start = lt;
  ranks = (sound.ranks.0, record { below = sound.ranks.1.below; rises = sound.ranks.1.rises });
}
