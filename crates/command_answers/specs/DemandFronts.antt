-- A demand text and its first bytes, up to one above the limit, are read alike.
use Rattle.std.proofs.Common.{◌≡◌, ◌∙◌, ◌<◌, ℕ, List, Result, Ok, Err, length, arith, sym}
use Rattle.model_rosters.specs.declared.grammar.Grammar.{Grammar}
use Rattle.model_rosters.specs.declared.instance.Instance.{Instance}
use Rattle.text_demand_lines.specs.Steps.{◌>>=◌}
use Rattle.text_demand_lines.specs.declared.fault.DemandFault.{DemandFault}
use Rattle.text_demand_lines.specs.declared.fault.DemandFault.TheVariants.{TooLong}
use Rattle.text_demand.specs.InstanceOf.{instance_of, draft_of, finish}
use Rattle.command_shelf.specs.Shelf.{front_to}
use Rattle.command_answers.specs.Fronts.{alike, over_limit}
use Rattle.command_answers.specs.Readings.{IsInstanceOf, SaysDemandFault}

pub instance-alike : (g : Grammar) (text : List ℕ) → instance_of g (front_to 1048576 text) ≡ instance_of g text
unfolding instance_of
instance-alike g text = alike 1048576 1048576 refusal reading text (omega arith)
  where
    refusal : Result Instance DemandFault
    refusal = Err TooLong

    reading : List ℕ → Result Instance DemandFault
    reading t = draft_of g t >>= finish g

long-read : (g : Grammar) (text : List ℕ) → 1048576 < length text → instance_of g text ≡ Err TooLong
unfolding instance_of
long-read g text lt = over_limit 1048576 refusal reading text lt
  where
    refusal : Result Instance DemandFault
    refusal = Err TooLong

    reading : List ℕ → Result Instance DemandFault
    reading t = draft_of g t >>= finish g

-- a text over the limit has no instance
pub long-demand : (g : Grammar) (text : List ℕ) (i : Instance) → 1048576 < length text → IsInstanceOf g text i → ⊥
long-demand g text i lt h = let e : Ok i ≡ Err TooLong = sym h.reading ∙ long-read g text lt in cc

module _ (g : Grammar) (text : List ℕ) where
  pub instance-whole : (i : Instance) → IsInstanceOf g (front_to 1048576 text) i → IsInstanceOf g text i
  instance-whole i h = record { reading = sym (instance-alike g text) ∙ h.reading; sound = h.sound }

  pub instance-front : (i : Instance) → IsInstanceOf g text i → IsInstanceOf g (front_to 1048576 text) i
  instance-front i h = record { reading = instance-alike g text ∙ h.reading; sound = h.sound }

  pub demand-fault-whole : (output : List ℕ) → SaysDemandFault g (front_to 1048576 text) output
      → SaysDemandFault g text output
  demand-fault-whole output h =
      record { fault = h.fault; reading = sym (instance-alike g text) ∙ h.reading; line = h.line }
