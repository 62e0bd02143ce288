-- The answers of commands that search, from what their parts answer.
use Rattle.std.proofs.Common.{◌≡◌, ◌≢◌, ℕ, List, Option, None, Some, Result, Ok, Err, IfOk, sym, subst, ◌∙◌}
use Rattle.std.specs.Prelude.{[], ◌∷◌}
use Rattle.command_searches.specs.declared.limit.Limit.{Limit}
use Rattle.command_searches.specs.Limits.{ForLimit}
use Rattle.command_searches.proofs.LimitLemmas.{for-some, for-map}
use Rattle.model_rosters.specs.declared.grammar.Grammar.{Grammar}
use Rattle.model_rosters.specs.declared.instance.Instance.{Instance}
use Rattle.model_rosters.specs.declared.memory.Memory.{Memory}
use Rattle.model_rosters.specs.Sound.{IsSound}
use Rattle.model_rosters.specs.SoundInstance.{IsSoundInstance}
use Rattle.check_certificates.specs.declared.cert.Cert.{Cert}
use Rattle.text_demand_lines.specs.declared.fault.DemandFault.{DemandFault}
use Rattle.text_demand_lines.specs.declared.fault.DemandFault.TheVariants as demand_faults
use Rattle.text_demand_lines.specs.FaultLine as demand
use Rattle.text_demand.specs.InstanceOf.{instance_of}
use Rattle.text_proof_pieces.specs.declared.fault.ProofFault.{ProofFault}
use Rattle.text_proof_pieces.specs.declared.fault.ProofFault.TheVariants as proof_faults
use Rattle.text_old_shifts.specs.FromOf.{from_of}
use Rattle.text_proof_pieces.specs.FaultLine as proof
use Rattle.text_rules.specs.FaultLine.{fault_line}
use Rattle.text_rules.specs.RulesOf.{IsReading}
use Rattle.text_rules.specs.declared.fault.RulesFault.{RulesFault}
use Rattle.text_rules.specs.declared.fault.RulesFault.TheVariants as rules_faults
use Rattle.command_shelf.specs.Shelf.{Texts, Told}
use Rattle.tree_graph.specs.declared.fault.GraphFault.{GraphFault}
use Rattle.tree_graph.specs.Graphs.{IsRefused}
use Rattle.search_primal.specs.OldRosters.{IsNoDearerThan}
use Rattle.search_branch_price.specs.Found.{IsFound, AreCounted}
use Rattle.search_days.specs.declared.solution.Solution.{Solution}
use Rattle.search_days.specs.Solutions.{IsSolution, IsReportText}
use Rattle.command_answers.specs.declared.answer.Answer.{Answer}
use Rattle.command_answers.specs.Fetch.{IsAnswer, IsFetchTo, NoAnswer}
use Rattle.command_answers.specs.Reader.{IsReader}
use Rattle.command_searches.specs.Writer.{IsWriter, IsStoredAnswer, StoresNothing}
use Rattle.command_searches.specs.Solve.{MasterView, Finds, IsNoDearerThanOld, SaysTooManyArcs, Solving, SolvesProof, AnswersSolveProof, SolvesFrom, from_names, old_shifts, SolvesDemand, AnswersSolveDemand, SolvesRules, AnswersSolve, done_status}
use Rattle.command_searches.specs.Solve as solves
use Rattle.command_searches.proofs.Writers.{widen, as_writer, refused_fetch, after_fetch}
use Rattle.command_searches.proofs.SolveFronts.{proof-whole, demand-whole, rules-whole}
use Rattle.command_answers.proofs.AskedLemmas.{no_names}
use Rattle.command_answers.proofs.Readers.{one_held}

refused_demand : (held : Option Texts) (g : Grammar) (text : List ℕ) (from : Option (List ℕ)) (m : MasterView) (limit : Limit) (fault : DemandFault) (r : Result Answer Memory)
    → IfOk r (λ a. (fault ≢ demand_faults.Memory) × (a.status ≡ 4) × (a.output ≡ demand.fault_line fault)) → (fault ≢ demand_faults.Memory → instance_of g text ≡ Err fault)
    → (status : ℕ) (output : List ℕ) (stored : Option (List ℕ)) → StoresNothing (IsAnswer r) status output stored → SolvesDemand held g text from m limit status output stored
refused_demand held g text from m limit fault (Err e) h reading status output stored a = absurd a.0
refused_demand held g text from m limit fault (Ok x) h reading status output stored a =
    let s : status ≡ 4 = a.0.0 ∙ h.1 in
    rw (s, a.1) (solves.SolvesDemand.refused output (record { fault = fault; reading = reading h.0; line = a.0.1 ∙ h.2 }))

refused_rules : (held : Option Texts) (text demand_name : List ℕ) (from : Option (List ℕ)) (m : MasterView) (limit : Limit) (fault : RulesFault) (r : Result Answer Memory)
    → IfOk r (λ a. (fault ≢ rules_faults.Memory) × (a.status ≡ 3) × (a.output ≡ fault_line fault)) → (fault ≢ rules_faults.Memory → IsReading text (Err fault))
    → (status : ℕ) (output : List ℕ) (stored : Option (List ℕ)) → StoresNothing (IsAnswer r) status output stored → SolvesRules held text demand_name from m limit status output stored
refused_rules held text demand_name from m limit fault (Err e) h reading status output stored a = absurd a.0
refused_rules held text demand_name from m limit fault (Ok x) h reading status output stored a =
    let s : status ≡ 3 = a.0.0 ∙ h.1 in
    rw (s, a.1) (solves.SolvesRules.refused output (record { fault = fault; reading = reading h.0; line = a.0.1 ∙ h.2 }))

-- what is said of an instance with too many arcs
abbrev pub IsArcsAnswer : GraphFault → Answer → Type 0
IsArcsAnswer fault a = (a.status ≡ 9) × ((g : Grammar) → IsRefused g fault → SaysTooManyArcs g a.output)

-- what costs no more than the shifts of an old certificate, if there is one
pub no-dearer-old : (i : Instance) (old : Option Cert) (cost : Option ℕ) → IsNoDearerThan i (old_shifts old) cost → IsNoDearerThanOld i old cost
no-dearer-old i None cost h = tt
no-dearer-old i (Some c) cost h = h

module _ (i : Instance) (m : MasterView) (limit : Limit) where
  pub finds : (s : Solution) → ForLimit limit (λ k. IsSolution i m.strict k s) → AreCounted i m.before m.now s.found → (status : ℕ) → status ≡ done_status s.found.done → Finds i m limit status s.proof s.found
  finds s h counted status e =
      let some = (for-some limit (λ k. IsSolution i m.strict k s) h).1 in
      record {
        searched = for-map limit (λ k. IsSolution i m.strict k s) (λ k. IsFound i m.strict k s.found) (λ k solution. solution.found) h;
        counted = counted;
        status_is = e;
        denotes = some.denotes;
        right = some.right;
      }

module _ (i : Instance) (old : Option Cert) (m : MasterView) (limit : Limit) where
  refused_graph : (fault : GraphFault) → IsRefused i.grammar fault → (r : Result Answer Memory) → IfOk r (IsArcsAnswer fault)
      → (status : ℕ) (output : List ℕ) (stored : Option (List ℕ)) → StoresNothing (IsAnswer r) status output stored → Solving i old m limit status output stored
  refused_graph fault refused (Err e) h status output stored a = absurd a.0
  refused_graph fault refused (Ok x) h status output stored a =
      let s : status ≡ 9 = a.0.0 ∙ h.0 in
      rw (s, a.1) (solves.too_many output (subst (λ (o : List ℕ). SaysTooManyArcs i.grammar o) (sym a.0.1) (h.1 i.grammar refused)))

  pub graph-refused : (name : List ℕ) (before after : Told) (status : ℕ) (fault : GraphFault) → IsRefused i.grammar fault → (r : Result Answer Memory) → IfOk r (IsArcsAnswer fault)
      → IsReader (IsAnswer r) [] before after status → IsWriter (Solving i old m limit) [] name before after status
  graph-refused name before after status fault refused r h reader =
      widen (StoresNothing (IsAnswer r)) (Solving i old m limit) (refused_graph fault refused r h) [] [] name before after status (λ h. h) (as_writer (IsAnswer r) [] name before after status reader)

  found_answer : (s : Solution) → IsNoDearerThanOld i old s.found.cert.cost → ForLimit limit (λ k. IsSolution i m.strict k s) → AreCounted i m.before m.now s.found → (r : Result Answer Memory)
      → IfOk r (λ a. (a.status ≡ done_status s.found.done) × IsReportText i s.found a.output)
      → (status : ℕ) (output : List ℕ) (stored : Option (List ℕ)) → IsStoredAnswer r s.proof status output stored → Solving i old m limit status output stored
  found_answer s falls h counted (Err e) f status output stored a = absurd a
  found_answer s falls h counted (Ok x) f status output stored a =
      rw (a.2) (solves.found status output s.proof (record {
        arcs = s.arcs;
        few = (for-some limit (λ k. IsSolution i m.strict k s) h).1.arcs;
        found = s.found;
        finds = finds i m limit s h counted status (a.0 ∙ f.0);
        falls = falls;
        report = subst (λ (o : List ℕ). IsReportText i s.found o) (sym a.1) f.1;
      }))

  pub solved : (s : Solution) → IsNoDearerThanOld i old s.found.cert.cost → ForLimit limit (λ k. IsSolution i m.strict k s) → AreCounted i m.before m.now s.found → (r : Result Answer Memory)
      → IfOk r (λ a. (a.status ≡ done_status s.found.done) × IsReportText i s.found a.output)
      → (name : List ℕ) (before after : Told) (status : ℕ) → IsWriter (IsStoredAnswer r s.proof) [] name before after status → IsWriter (Solving i old m limit) [] name before after status
  solved s falls h counted r f name before after status w =
      widen (IsStoredAnswer r s.proof) (Solving i old m limit) (found_answer s falls h counted r f) [] [] name before after status (λ h. h) w

-- an instance and the proof text of an old certificate
module _ (name : List ℕ) (before after : Told) (status : ℕ) (i : Instance) (m : MasterView) (limit : Limit) where
  refused_proof : (text : List ℕ) (fault : ProofFault) (r : Result Answer Memory) → IfOk r (λ a. (fault ≢ proof_faults.Memory) × (a.status ≡ 5) × (a.output ≡ proof.fault_line fault))
      → (fault ≢ proof_faults.Memory → from_of i text ≡ Err fault) → (status : ℕ) (output : List ℕ) (stored : Option (List ℕ)) → StoresNothing (IsAnswer r) status output stored → SolvesProof i text m limit status output stored
  refused_proof text fault (Err e) h reading status output stored a = absurd a.0
  refused_proof text fault (Ok x) h reading status output stored a =
      let s : status ≡ 5 = a.0.0 ∙ h.1 in
      rw (s, a.1) (solves.SolvesProof.refused output (record { fault = fault; reading = reading h.0; line = a.0.1 ∙ h.2 }))

  pub proof-refused : (text : List ℕ) (fault : ProofFault) (r : Result Answer Memory) → IfOk r (λ a. (fault ≢ proof_faults.Memory) × (a.status ≡ 5) × (a.output ≡ proof.fault_line fault))
      → (fault ≢ proof_faults.Memory → from_of i text ≡ Err fault) → IsReader (IsAnswer r) [] before after status → IsWriter (SolvesProof i text m limit) [] name before after status
  proof-refused text fault r h reading reader =
      widen (StoresNothing (IsAnswer r)) (SolvesProof i text m limit) (refused_proof text fault r h reading) [] [] name before after status (λ h. h) (as_writer (IsAnswer r) [] name before after status reader)

  pub proof-accepted : (text : List ℕ) (c : Cert) → from_of i text ≡ Ok c → IsWriter (Solving i (Some c) m limit) [] name before after status → IsWriter (SolvesProof i text m limit) [] name before after status
  proof-accepted text c reading w =
      widen (Solving i (Some c) m limit) (SolvesProof i text m limit) (λ s o x a. solves.SolvesProof.accepted c s o x reading a) [] [] name before after status (λ h. h) w

  -- a proof text that was fetched, and one that was not
  pub proof-read : (asked front : List ℕ) (middle : Told) → IsFetchTo 1073741824 asked before middle front → IsWriter (SolvesProof i front m limit) [] name middle after status
      → IsWriter (AnswersSolveProof before.held i asked m limit) (asked ∷ []) name before after status
  proof-read asked front middle f w =
      after_fetch (AnswersSolveProof before.held i asked m limit) asked [] name before middle after status f.text f.fetch
      (widen (SolvesProof i front m limit) (AnswersSolveProof before.held i asked m limit)
      (λ s o x a. record { text = f.text; holds = f.fetch.holds; answers = proof-whole i f.text m limit s o x (subst (λ (t : List ℕ). SolvesProof i t m limit s o x) f.front_is a) }) [] [] name middle after status (λ h. h) w)

  pub proof-unread : (asked : List ℕ) → IsReader NoAnswer (asked ∷ []) before after status → IsWriter (AnswersSolveProof before.held i asked m limit) (asked ∷ []) name before after status
  proof-unread asked reader = refused_fetch (AnswersSolveProof before.held i asked m limit) asked (asked ∷ []) name before after status (λ h. h) reader

module _ (name : List ℕ) (before after : Told) (status : ℕ) (from : Option (List ℕ)) (m : MasterView) (limit : Limit) where
  pub demand-refused : (g : Grammar) (text : List ℕ) (fault : DemandFault) (r : Result Answer Memory)
      → IfOk r (λ a. (fault ≢ demand_faults.Memory) × (a.status ≡ 4) × (a.output ≡ demand.fault_line fault)) → (fault ≢ demand_faults.Memory → instance_of g text ≡ Err fault)
      → IsReader (IsAnswer r) [] before after status → IsWriter (SolvesDemand before.held g text from m limit) (from_names from) name before after status
  demand-refused g text fault r h reading reader =
      widen (StoresNothing (IsAnswer r)) (SolvesDemand before.held g text from m limit) (refused_demand before.held g text from m limit fault r h reading) (from_names from) [] name before after status
      (no_names before.held (from_names from)) (as_writer (IsAnswer r) [] name before after status reader)

  pub demand-accepted : (g : Grammar) (text : List ℕ) (i : Instance) → instance_of g text ≡ Ok i → IsSoundInstance i
      → IsWriter (SolvesFrom before.held i from m limit) (from_names from) name before after status → IsWriter (SolvesDemand before.held g text from m limit) (from_names from) name before after status
  demand-accepted g text i reading sound w =
      widen (SolvesFrom before.held i from m limit) (SolvesDemand before.held g text from m limit) (λ s o x a. solves.SolvesDemand.accepted i s o x (record { reading = reading; sound = sound }) a)
      (from_names from) (from_names from) name before after status (λ h. h) w

  pub rules-refused : (text demand_name : List ℕ) (fault : RulesFault) (r : Result Answer Memory)
      → IfOk r (λ a. (fault ≢ rules_faults.Memory) × (a.status ≡ 3) × (a.output ≡ fault_line fault)) → (fault ≢ rules_faults.Memory → IsReading text (Err fault))
      → IsReader (IsAnswer r) [] before after status → IsWriter (SolvesRules before.held text demand_name from m limit) (demand_name ∷ from_names from) name before after status
  rules-refused text demand_name fault r h reading reader =
      widen (StoresNothing (IsAnswer r)) (SolvesRules before.held text demand_name from m limit) (refused_rules before.held text demand_name from m limit fault r h reading) (demand_name ∷ from_names from) []
      name before after status (no_names before.held (demand_name ∷ from_names from)) (as_writer (IsAnswer r) [] name before after status reader)

  pub rules-accepted : (text demand_name : List ℕ) (g : Grammar) → IsReading text (Ok g) → IsSound g
      → IsWriter (AnswersSolveDemand before.held g demand_name from m limit) (demand_name ∷ from_names from) name before after status
      → IsWriter (SolvesRules before.held text demand_name from m limit) (demand_name ∷ from_names from) name before after status
  rules-accepted text demand_name g reading sound w =
      widen (AnswersSolveDemand before.held g demand_name from m limit) (SolvesRules before.held text demand_name from m limit)
      (λ s o x a. solves.SolvesRules.accepted g s o x (record { reading = reading; sound = sound }) a) (demand_name ∷ from_names from) (demand_name ∷ from_names from) name before after status (λ h. h) w

  -- a demand text that was fetched, and one that was not
  pub demand-read : (g : Grammar) (asked front : List ℕ) (middle : Told) → IsFetchTo 1048576 asked before middle front
      → IsWriter (SolvesDemand middle.held g front from m limit) (from_names from) name middle after status
      → IsWriter (AnswersSolveDemand before.held g asked from m limit) (asked ∷ from_names from) name before after status
  demand-read g asked front middle f w =
      after_fetch (AnswersSolveDemand before.held g asked from m limit) asked (from_names from) name before middle after status f.text f.fetch
      (widen (SolvesDemand middle.held g front from m limit) (AnswersSolveDemand before.held g asked from m limit) each (from_names from) (from_names from) name middle after status (λ h. h) w)
    where
      each : (s : ℕ) (o : List ℕ) (x : Option (List ℕ)) → SolvesDemand middle.held g front from m limit s o x → AnswersSolveDemand before.held g asked from m limit s o x
      each s o x a = record {
        text = f.text;
        holds = f.fetch.holds;
        answers = demand-whole before.held g f.text from m limit s o x
            (subst (λ (t : List ℕ). SolvesDemand before.held g t from m limit s o x) f.front_is (subst (λ (h : Option Texts). SolvesDemand h g front from m limit s o x) f.fetch.held a));
      }

  pub demand-unread : (g : Grammar) (asked : List ℕ) → IsReader NoAnswer (asked ∷ []) before after status
      → IsWriter (AnswersSolveDemand before.held g asked from m limit) (asked ∷ from_names from) name before after status
  demand-unread g asked reader =
      refused_fetch (AnswersSolveDemand before.held g asked from m limit) asked (asked ∷ from_names from) name before after status (one_held before.held asked (from_names from)) reader

  -- a rules text that was fetched, and one that was not
  pub rules-read : (asked demand_name front : List ℕ) (middle : Told) → IsFetchTo 1048576 asked before middle front
      → IsWriter (SolvesRules middle.held front demand_name from m limit) (demand_name ∷ from_names from) name middle after status
      → IsWriter (AnswersSolve before.held asked demand_name from m limit) (asked ∷ demand_name ∷ from_names from) name before after status
  rules-read asked demand_name front middle f w =
      after_fetch (AnswersSolve before.held asked demand_name from m limit) asked (demand_name ∷ from_names from) name before middle after status f.text f.fetch
      (widen (SolvesRules middle.held front demand_name from m limit) (AnswersSolve before.held asked demand_name from m limit) each
      (demand_name ∷ from_names from) (demand_name ∷ from_names from) name middle after status (λ h. h) w)
    where
      each : (s : ℕ) (o : List ℕ) (x : Option (List ℕ)) → SolvesRules middle.held front demand_name from m limit s o x → AnswersSolve before.held asked demand_name from m limit s o x
      each s o x a = record {
        text = f.text;
        holds = f.fetch.holds;
        answers = rules-whole before.held f.text demand_name from m limit s o x
            (subst (λ (t : List ℕ). SolvesRules before.held t demand_name from m limit s o x) f.front_is (subst (λ (h : Option Texts). SolvesRules h front demand_name from m limit s o x) f.fetch.held a));
      }

  pub rules-unread : (asked demand_name : List ℕ) → IsReader NoAnswer (asked ∷ []) before after status
      → IsWriter (AnswersSolve before.held asked demand_name from m limit) (asked ∷ demand_name ∷ from_names from) name before after status
  rules-unread asked demand_name reader =
      refused_fetch (AnswersSolve before.held asked demand_name from m limit) asked (asked ∷ demand_name ∷ from_names from) name before after status
      (one_held before.held asked (demand_name ∷ from_names from)) reader
