-- What `reuse RULES DEMAND PROOF` answers.
use Rattle.std.specs.Prelude.{ℕ, ◌≡◌, List}
use Rattle.model_rosters.specs.declared.instance.Instance.{Instance}
use Rattle.check_certificates.specs.declared.cert.Cert.{Cert}
use Rattle.check_reuse.specs.declared.nodes.Reused.{Reused}
use Rattle.check_reuse.specs.declared.nodes.Reused.TheVariants.{Bound, Refused}
use Rattle.check_reuse.specs.Reuse.{IsReuse}
use Rattle.check_reuse.specs.ReusedText.{reused_text}

-- 0 for a bound, and 1 for a refusal
abbrev pub reused_status : Reused → ℕ
reused_status (Bound bound) = 0
reused_status (Refused why) = 1

-- The answers for an old certificate. Status 0: nothing is wrong with its nodes on this day, and every allowed
-- roster costs at least the bound that they show, which is said; where it is none, no roster is allowed. Status
-- 1: the nodes are refused, and the first cause of the three on nodes is said.
pub record Reusing (i : Instance) (c : Cert) (status : ℕ) (output : List ℕ) : Type 0 where
  pub reused : Reused
  pub is : IsReuse i c reused
  pub status_is : status ≡ reused_status reused
  pub line : output ≡ reused_text reused
