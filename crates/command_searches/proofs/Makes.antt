-- The answers of `make`, from what its parts answer.
use Rattle.std.proofs.Common.{◌≡◌, ◌≢◌, ℕ, ◌+◌, List, [], ◌∷◌, ◌++◌, Option, None, Some, Result, Ok, Err, IfOk, map, refl, sym, subst, ◌∙◌, arith}
use Rattle.std.specs.List.{range_with_len}
use Rattle.command_searches.specs.declared.limit.Limit.{Limit}
use Rattle.command_searches.specs.Limits.{ForLimit}
use Rattle.command_searches.proofs.LimitLemmas.{for-some}
use Rattle.model_rosters.specs.declared.instance.Cell.{Cell}
use Rattle.model_rosters.specs.declared.instance.Done.{Done}
use Rattle.model_rosters.specs.declared.instance.Done.TheVariants.{Equal, NoRoster, TurnsOut}
use Rattle.model_rosters.specs.declared.memory.Memory.{Memory}
use Rattle.model_rosters.specs.Demands.{Demand, cells_from}
use Rattle.model_rosters.specs.Folds.{Each}
use Rattle.check_certificates.specs.declared.cert.Cert.{Cert}
use Rattle.search_candidates.specs.Starts.{IsFreeCell, HasStart}
use Rattle.tree_graph.specs.declared.fault.GraphFault.{GraphFault}
use Rattle.tree_graph.specs.Graphs.{IsRefused}
use Rattle.search_branch_price.specs.Found.{IsDone, AreCounted}
use Rattle.search_days.specs.declared.solution.Solution.{Solution}
use Rattle.search_days.specs.Solutions.{IsSolution}
use Rattle.model_made_days.specs.Made.{made_instance, made_under, made_periods, asked}
use Rattle.model_made_days.specs.Draws.{draw}
use Rattle.text_reports.specs.SummaryText.{summary_text}
use Rattle.command_shelf.specs.Shelf.{Told}
use Rattle.command_answers.specs.declared.answer.Answer.{Answer}
use Rattle.command_answers.specs.Fetch.{IsAnswer}
use Rattle.command_answers.specs.Reader.{IsReader}
use Rattle.command_searches.specs.Writer.{IsWriter, IsStoredAnswer, StoresNothing}
use Rattle.command_searches.specs.Make.{AnswersMake, summary_of}
use Rattle.command_searches.specs.Make as makes
use Rattle.command_searches.specs.Solve.{MasterView, SaysTooManyArcs, done_status}
use Rattle.command_searches.proofs.Solves.{IsArcsAnswer, finds}
use Rattle.command_searches.proofs.Writers.{widen, as_writer}

-- a demand without floors and ceilings makes free cells
free_cells : (d : Demand) (n : ℕ) (needs : ℕ → ℕ) (xs : List ℕ) → Each IsFreeCell (cells_from d n (map (λ x. asked (needs x)) xs))
free_cells d n needs [] = tt
free_cells d n needs (x ∷ xs) = (record { floor = refl; ceiling = refl }, free_cells d (n + 1) needs xs)

free_joined : (xs ys : List Cell) → Each IsFreeCell xs → Each IsFreeCell ys → Each IsFreeCell (xs ++ ys)
free_joined [] ys h k = k
free_joined (x ∷ xs) ys h k = (h.0, free_joined xs ys h.1 k)

-- the roster without a shift is one to begin with
made_start : (number : ℕ) → HasStart (made_instance number)
made_start number = record {
  free =
      let n = made_periods number in
      let first = free_cells (record { code = 0; under = made_under number; over = 1; periods = map (λ p. asked (draw number (3 + p) 4)) (range_with_len 1 n) }) 1 (λ p. draw number (3 + p) 4) (range_with_len 1 n) in
      let second = free_cells (record { code = 1; under = made_under number; over = 1; periods = map (λ p. asked (draw number (3 + n + p) 3)) (range_with_len 1 n) }) 1 (λ p. draw number (3 + n + p) 3) (range_with_len 1 n) in
      free_joined _ _ first (free_joined _ _ second tt);
  shifts = ((λ less. absurd (omega (arith, less))), tt);
}

not_none : (c : Cert) (d : Done) (n : ℕ) → c.cost ≡ Some n → IsDone c d → done_status d ≢ 1
not_none c Equal n e h one = cc
not_none c NoRoster n e h one = let clash : Some n ≡ None = sym e ∙ h.0 in cc
not_none c TurnsOut n e h one = cc

module _ (number : ℕ) (m : MasterView) (limit : Limit) where
  refused_graph : (fault : GraphFault) → IsRefused (made_instance number).grammar fault → (r : Result Answer Memory) → IfOk r (IsArcsAnswer fault)
      → (status : ℕ) (output : List ℕ) (stored : Option (List ℕ)) → StoresNothing (IsAnswer r) status output stored → AnswersMake number m limit status output stored
  refused_graph fault refused (Err e) h status output stored a = absurd a.0
  refused_graph fault refused (Ok x) h status output stored a =
      let s : status ≡ 9 = a.0.0 ∙ h.0 in
      rw (s, a.1) (makes.too_many output (subst (λ (o : List ℕ). SaysTooManyArcs (made_instance number).grammar o) (sym a.0.1) (h.1 (made_instance number).grammar refused)))

  pub graph-refused : (name : List ℕ) (before after : Told) (status : ℕ) (fault : GraphFault) → IsRefused (made_instance number).grammar fault → (r : Result Answer Memory) → IfOk r (IsArcsAnswer fault)
      → IsReader (IsAnswer r) [] before after status → IsWriter (AnswersMake number m limit) [] name before after status
  graph-refused name before after status fault refused r h reader =
      widen (StoresNothing (IsAnswer r)) (AnswersMake number m limit) (refused_graph fault refused r h) [] [] name before after status (λ h. h) (as_writer (IsAnswer r) [] name before after status reader)

  found_answer : (s : Solution) → ForLimit limit (λ k. IsSolution (made_instance number) m.strict k s) → AreCounted (made_instance number) m.before m.now s.found → (r : Result Answer Memory)
      → IfOk r (λ a. (a.status ≡ done_status s.found.done) × (a.output ≡ summary_text (summary_of number s.arcs s.found)))
      → (status : ℕ) (output : List ℕ) (stored : Option (List ℕ)) → IsStoredAnswer r s.proof status output stored → AnswersMake number m limit status output stored
  found_answer s h counted (Err e) f status output stored a = absurd a
  found_answer s h counted (Ok x) f status output stored a =
      let some = (for-some limit (λ k. IsSolution (made_instance number) m.strict k s) h).1 in
      let start = some.found.start (made_start number) in
      let same : status ≡ done_status s.found.done = a.0 ∙ f.0 in
      let finding = finds (made_instance number) m limit s h counted status same in
      rw (a.2) (makes.found status output s.proof (record {
        found = s.found;
        denotes = finding.denotes;
        right = finding.right;
        arcs = s.arcs;
        few = some.arcs;
        summary = a.1 ∙ f.1;
        status_is = same;
        ended = some.found.done;
        quality = record { searched = finding.searched; counted = finding.counted };
        some = subst (λ (k : ℕ). k ≢ 1) (sym same) (not_none s.found.cert s.found.done start.0 start.1 some.found.done);
      }))

  pub made : (s : Solution) → ForLimit limit (λ k. IsSolution (made_instance number) m.strict k s) → AreCounted (made_instance number) m.before m.now s.found → (r : Result Answer Memory)
      → IfOk r (λ a. (a.status ≡ done_status s.found.done) × (a.output ≡ summary_text (summary_of number s.arcs s.found)))
      → (name : List ℕ) (before after : Told) (status : ℕ) → IsWriter (IsStoredAnswer r s.proof) [] name before after status → IsWriter (AnswersMake number m limit) [] name before after status
  made s h counted r f name before after status w =
      widen (IsStoredAnswer r s.proof) (AnswersMake number m limit) (found_answer s h counted r f) [] [] name before after status (λ h. h) w
