-- Searches over the same texts end alike.
use Rattle.std.proofs.Common.{◌≡◌, ◌≢◌, ℕ, ◌+◌, List, Option, None, Some, refl, sym, ap, subst, ◌∙◌, arith}
use Rattle.std.specs.Prelude.{length}
use Rattle.command_searches.specs.declared.limit.Limit.{Limit}
use Rattle.command_searches.proofs.LimitLemmas.{for-some}
use Rattle.model_rosters.specs.declared.grammar.ArcKey.{ArcKey}
use Rattle.model_rosters.specs.declared.grammar.Grammar.{Grammar}
use Rattle.model_rosters.specs.declared.instance.Done.{Done}
use Rattle.model_rosters.specs.declared.instance.Done.TheVariants.{Equal, NoRoster, TurnsOut}
use Rattle.model_rosters.specs.declared.instance.Instance.{Instance}
use Rattle.check_certificates.specs.declared.cert.Cert.{Cert}
use Rattle.check_certificates.specs.certificate_laws.Right.{YesIsRight}
use Rattle.model_rosters.proofs.arc_laws.OneList.{one-list}
use Rattle.text_demand_lines.specs.declared.fault.DemandFault.{DemandFault}
use Rattle.text_demand_lines.specs.FaultLine as demand
use Rattle.text_demand.specs.InstanceOf.{instance_of}
use Rattle.search_branch_price.specs.declared.found.Found.{Found}
use Rattle.search_branch_price.specs.Found.{IsDone, IsFound}
use Rattle.search_days.specs.Solutions.{HasArcCount}
use Rattle.model_made_days.specs.Made.{made_instance}
use Rattle.text_proof_pieces.specs.declared.fault.ProofFault.{ProofFault}
use Rattle.text_old_shifts.specs.FromOf.{from_of}
use Rattle.text_proof_pieces.specs.FaultLine as proof
use Rattle.command_shelf.specs.Shelf.{Texts}
use Rattle.command_searches.specs.Make.{AnswersMake}
use Rattle.command_searches.specs.Make as makes
use Rattle.command_searches.specs.OneEnd.{EndAlike, SayOneCost}
use Rattle.command_searches.specs.Solve.{MasterView, Finds, SaysTooManyArcs, Solving, SolvesProof, SolvesFrom, SolvesDemand, SolvesRules, AnswersSolve, done_status, arcs_line}
use Rattle.command_searches.specs.Solve as solves
use Rattle.command_searches.proofs.OneCost.{never_both, solves-at, makes-at, made-finds}
use Rattle.command_answers.proofs.OneReading.{same_text, same_ok, same_err, not_both, same_grammar, no_fault, faults_once}

two_ends : (i : Instance) (c d : Cert) (x y : Done) → YesIsRight i c → YesIsRight i d → IsDone c x → IsDone d y → done_status x ≢ 8 → done_status y ≢ 8 → done_status x ≡ done_status y
two_ends i c d Equal Equal h k e f p q = refl
two_ends i c d Equal NoRoster h k e f p q = absurd (never_both i c d h k e.0 f.1)
two_ends i c d NoRoster Equal h k e f p q = absurd (never_both i d c k h f.0 e.1)
two_ends i c d NoRoster NoRoster h k e f p q = refl
two_ends i c d TurnsOut y h k e f p q = absurd (p refl)
two_ends i c d Equal TurnsOut h k e f p q = absurd (q refl)
two_ends i c d NoRoster TurnsOut h k e f p q = absurd (q refl)

-- two searches of one day
found_alike : (i : Instance) (m n : MasterView) (limit : Limit) (s t : ℕ) (a b x y : List ℕ) (f g : Found) → Finds i m limit s x f → Finds i n limit t y g → (s ≡ 0 → t ≡ 0 → SayOneCost a b) → EndAlike s t a b (Some x) (Some y)
found_alike i m n limit s t a b x y f g h k cost = record {
  refused = λ e. cc;
  found = λ p q. h.status_is ∙ two_ends i f.cert g.cert f.done g.done h.right k.right (for-some limit (λ j. IsFound i m.strict j f) h.searched).1.done (for-some limit (λ j. IsFound i n.strict j g) k.searched).1.done (subst (λ (z : ℕ). z ≢ 8) h.status_is p) (subst (λ (z : ℕ). z ≢ 8) k.status_is q) ∙ sym k.status_is;
  cost = cost;
}

-- the number of a day's arcs is one number
pub many_or_few : (g : Grammar) (output : List ℕ) (n : ℕ) → SaysTooManyArcs g output → HasArcCount g n → ⊥
many_or_few g output n h k = let same = ap (λ (xs : List ArcKey). length xs) (one-list g h.listed k.0 h.are k.1) in omega (arith, same, h.many, k.2, k.3)

not_zero : (s k : ℕ) → s ≡ k + 1 → s ≡ 0 → ⊥
not_zero s k e z = omega (arith, e, z)

refused_alike : (s k : ℕ) (a b : List ℕ) → s ≡ k + 1 → a ≡ b → EndAlike s s a b None None
refused_alike s k a b some e = record { refused = λ none. (refl, refl, e); found = λ p q. refl; cost = λ p q. absurd (not_zero s k some p) }

pub arcs_alike : (g : Grammar) (a b : List ℕ) → SaysTooManyArcs g a → SaysTooManyArcs g b → a ≡ b
arcs_alike g a b h k = h.line ∙ ap (λ (xs : List ArcKey). arcs_line (length xs)) (one-list g h.listed k.listed h.are k.are) ∙ sym k.line

days_alike : (i : Instance) (old : Option Cert) (m n : MasterView) (limit : Limit) (s t : ℕ) (a b : List ℕ) (x y : Option (List ℕ)) → Solving i old m limit s a x → Solving i old n limit t b y → EndAlike s t a b x y
days_alike i old m n limit s t a b x y (solves.found p ps z h) (solves.found q qs w k) = found_alike i m n limit s t a b z w h.found k.found h.finds k.finds (solves-at i old m n limit s t a b z w h k)
days_alike i old m n limit s t a b x y (solves.found p ps z h) (solves.too_many qs k) = absurd (many_or_few i.grammar b h.arcs k h.few)
days_alike i old m n limit s t a b x y (solves.too_many ps h) (solves.found q qs w k) = absurd (many_or_few i.grammar a k.arcs h k.few)
days_alike i old m n limit s t a b x y (solves.too_many ps h) (solves.too_many qs k) = refused_alike 9 8 a b refl (arcs_alike i.grammar a b h k)

proofs_alike : (i : Instance) (text : List ℕ) (m n : MasterView) (limit : Limit) (s t : ℕ) (a b : List ℕ) (x y : Option (List ℕ)) → SolvesProof i text m limit s a x → SolvesProof i text n limit t b y → EndAlike s t a b x y
proofs_alike i text m n limit s t a b x y (solves.SolvesProof.accepted c p ps z e h) (solves.SolvesProof.accepted d q qs w f k) =
    days_alike i (Some d) m n limit s t a b x y (subst (λ (o : Cert). Solving i (Some o) m limit s a x) (same_ok (from_of i text) c d e f) h) k
proofs_alike i text m n limit s t a b x y (solves.SolvesProof.accepted c p ps z e h) (solves.SolvesProof.refused qs k) = absurd (not_both (from_of i text) c k.fault e k.reading)
proofs_alike i text m n limit s t a b x y (solves.SolvesProof.refused ps h) (solves.SolvesProof.accepted d q qs w f k) = absurd (not_both (from_of i text) d h.fault f h.reading)
proofs_alike i text m n limit s t a b x y (solves.SolvesProof.refused ps h) (solves.SolvesProof.refused qs k) =
    refused_alike 5 4 a b refl (h.line ∙ ap (λ (z : ProofFault). proof.fault_line z) (same_err (from_of i text) h.fault k.fault h.reading k.reading) ∙ sym k.line)

-- with the name of an old certificate, or without
froms_alike : (held : Texts) (from : Option (List ℕ)) (i : Instance) (m n : MasterView) (limit : Limit) (s t : ℕ) (a b : List ℕ) (x y : Option (List ℕ)) → SolvesFrom (Some held) i from m limit s a x
    → SolvesFrom (Some held) i from n limit t b y → EndAlike s t a b x y
froms_alike held None i m n limit s t a b x y h k = days_alike i None m n limit s t a b x y h k
froms_alike held (Some name) i m n limit s t a b x y h k =
    proofs_alike i k.text m n limit s t a b x y (subst (λ (u : List ℕ). SolvesProof i u m limit s a x) (same_text held name h.text k.text h.holds k.holds) h.answers) k.answers

module _ (held : Texts) (from : Option (List ℕ)) (m n : MasterView) (limit : Limit) where
  demands_alike : (g : Grammar) (text : List ℕ) (s t : ℕ) (a b : List ℕ) (x y : Option (List ℕ)) → SolvesDemand (Some held) g text from m limit s a x → SolvesDemand (Some held) g text from n limit t b y → EndAlike s t a b x y
  demands_alike g text s t a b x y (solves.SolvesDemand.accepted i p ps z e h) (solves.SolvesDemand.accepted j q qs w f k) =
      froms_alike held from j m n limit s t a b x y (subst (λ (d : Instance). SolvesFrom (Some held) d from m limit s a x) (same_ok (instance_of g text) i j e.reading f.reading) h) k
  demands_alike g text s t a b x y (solves.SolvesDemand.accepted i p ps z e h) (solves.SolvesDemand.refused qs k) = absurd (not_both (instance_of g text) i k.fault e.reading k.reading)
  demands_alike g text s t a b x y (solves.SolvesDemand.refused ps h) (solves.SolvesDemand.accepted j q qs w f k) = absurd (not_both (instance_of g text) j h.fault f.reading h.reading)
  demands_alike g text s t a b x y (solves.SolvesDemand.refused ps h) (solves.SolvesDemand.refused qs k) =
      refused_alike 4 3 a b refl (h.line ∙ ap (λ (z : DemandFault). demand.fault_line z) (same_err (instance_of g text) h.fault k.fault h.reading k.reading) ∙ sym k.line)

  rules_alike : (text demand : List ℕ) (s t : ℕ) (a b : List ℕ) (x y : Option (List ℕ)) → SolvesRules (Some held) text demand from m limit s a x → SolvesRules (Some held) text demand from n limit t b y → EndAlike s t a b x y
  rules_alike text demand s t a b x y (solves.SolvesRules.accepted g p ps z e h) (solves.SolvesRules.accepted f q qs w r k) =
      demands_alike f k.text s t a b x y
      (subst (λ (u : List ℕ). SolvesDemand (Some held) f u from m limit s a x) (same_text held demand h.text k.text h.holds k.holds)
      (subst (λ (d : Grammar). SolvesDemand (Some held) d h.text from m limit s a x) (same_grammar text g f e.reading r.reading) h.answers)) k.answers
  rules_alike text demand s t a b x y (solves.SolvesRules.accepted g p ps z e h) (solves.SolvesRules.refused qs k) = absurd (no_fault text g k.fault e.reading k.reading)
  rules_alike text demand s t a b x y (solves.SolvesRules.refused ps h) (solves.SolvesRules.accepted f q qs w r k) = absurd (no_fault text f h.fault r.reading h.reading)
  rules_alike text demand s t a b x y (solves.SolvesRules.refused ps h) (solves.SolvesRules.refused qs k) = refused_alike 3 2 a b refl (faults_once text a b h k)

pub solve-ends : (held : Texts) (rules demand : List ℕ) (from : Option (List ℕ)) (limit : Limit) (m n : MasterView) (s t : ℕ) (a b : List ℕ) (x y : Option (List ℕ)) → AnswersSolve (Some held) rules demand from m limit s a x
    → AnswersSolve (Some held) rules demand from n limit t b y → EndAlike s t a b x y
solve-ends held rules demand from limit m n s t a b x y h k =
    rules_alike held from m n limit k.text demand s t a b x y
    (subst (λ (u : List ℕ). SolvesRules (Some held) u demand from m limit s a x) (same_text held rules h.text k.text h.holds k.holds) h.answers) k.answers

pub make-ends : (number : ℕ) (limit : Limit) (m n : MasterView) (s t : ℕ) (a b : List ℕ) (x y : Option (List ℕ)) → AnswersMake number m limit s a x → AnswersMake number n limit t b y → EndAlike s t a b x y
make-ends number limit m n s t a b x y (makes.found p ps z h) (makes.found q qs w k) = found_alike (made_instance number) m n limit s t a b z w h.found k.found (made-finds number m limit s a z h) (made-finds number n limit t b w k) (makes-at number m n limit s t a b z w h k)
make-ends number limit m n s t a b x y (makes.found p ps z h) (makes.too_many qs k) = absurd (many_or_few (made_instance number).grammar b h.arcs k h.few)
make-ends number limit m n s t a b x y (makes.too_many ps h) (makes.found q qs w k) = absurd (many_or_few (made_instance number).grammar a k.arcs h k.few)
make-ends number limit m n s t a b x y (makes.too_many ps h) (makes.too_many qs k) = refused_alike 9 8 a b refl (arcs_alike (made_instance number).grammar a b h k)
