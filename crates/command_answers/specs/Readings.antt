-- What a text is read as, or why it is refused.
use Rattle.std.specs.Prelude.{ℕ, ◌≡◌, List, Ok, Err}
use Rattle.model_rosters.specs.declared.grammar.Grammar.{Grammar}
use Rattle.model_rosters.specs.Sound.{IsSound}
use Rattle.text_rules.specs.RulesOf.{IsReading}
use Rattle.text_rules.specs.FaultLine.{fault_line}
use Rattle.text_rules.specs.declared.fault.RulesFault.{RulesFault}
use Rattle.model_rosters.specs.declared.instance.Instance.{Instance}
use Rattle.model_rosters.specs.SoundInstance.{IsSoundInstance}
use Rattle.text_demand_lines.specs.declared.fault.DemandFault.{DemandFault}
use Rattle.text_demand_lines.specs.FaultLine as demand
use Rattle.text_demand.specs.InstanceOf.{instance_of}
use Rattle.text_proof_pieces.specs.declared.fault.ProofFault.{ProofFault}
use Rattle.text_proof_pieces.specs.CertOf.{proof_of}
use Rattle.text_proof_pieces.specs.FaultLine as proof

-- the grammar of an accepted rules text, which is sound
pub record IsGrammarOf (text : List ℕ) (g : Grammar) : Type 0 where
  pub reading : IsReading text (Ok g)
  pub sound : IsSound g

-- status 3: the rules text is refused
pub record SaysFault (text output : List ℕ) : Type 0 where
  pub fault : RulesFault
  pub reading : IsReading text (Err fault)
  pub line : output ≡ fault_line fault

-- status 5: the proof text is refused
pub record SaysProofFault (i : Instance) (text output : List ℕ) : Type 0 where
  pub fault : ProofFault
  pub reading : proof_of i text ≡ Err fault
  pub line : output ≡ proof.fault_line fault

-- the instance of an accepted demand text, which is sound
pub record IsInstanceOf (g : Grammar) (text : List ℕ) (i : Instance) : Type 0 where
  pub reading : instance_of g text ≡ Ok i
  pub sound : IsSoundInstance i

-- status 4: the demand text is refused
pub record SaysDemandFault (g : Grammar) (text output : List ℕ) : Type 0 where
  pub fault : DemandFault
  pub reading : instance_of g text ≡ Err fault
  pub line : output ≡ demand.fault_line fault
