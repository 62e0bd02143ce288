-- The answers of `solve`, one data, are those that its parts say one after another, and the other way round.
use Rattle.std.proofs.Common.{◌≡◌, ℕ, List, [], ◌∷◌, Option, None, Some, refl, sym, subst}
use Rattle.std.proofs.lemmas.Option.{same_Some}
use Rattle.model_rosters.specs.declared.instance.Instance.{Instance}
use Rattle.search_branch_price.specs.Found.{IsFound}
use Rattle.check_certificates.specs.declared.cert.Cert.{Cert}
use Rattle.command_shelf.specs.Shelf.{Texts, Told}
use Rattle.command_answers.specs.Fetch.{IsFetchTo, NoAnswer}
use Rattle.command_answers.specs.Reader.{Holds, IsReader}
use Rattle.command_answers.specs.Says as says
use Rattle.command_searches.specs.declared.limit.Limit.{Limit}
use Rattle.command_searches.specs.Solve.{MasterView, SaysFound, SolvesFrom, SolvesRules, AnswersSolve, from_names}
use Rattle.command_searches.specs.From.{RefusesFrom}
use Rattle.command_searches.specs.Solve as solves
use Rattle.command_searches.specs.SolveAnswers.{IsSolved, SaysOld, SolveAnswers}
use Rattle.command_searches.specs.SolveAnswers as tops
use Rattle.command_searches.specs.Writer.{IsWriter}
use Rattle.command_searches.proofs.LimitLemmas.{for-some}
use Rattle.command_searches.proofs.Writers.{widen}
use Rattle.command_searches.proofs.Solves.{rules-read, rules-unread}

solved-of : (i : Instance) (old : Option Cert) (m : MasterView) (limit : Limit) (status : ℕ) (output stored : List ℕ) → SaysFound i old m limit status output stored → IsSolved i old m limit status output stored
solved-of i old m limit status output stored h = record {
  found = h.found;
  denotes = h.finds.denotes;
  right = h.finds.right;
  report = h.report;
  status_is = h.finds.status_is;
  ended = (for-some limit (λ k. IsFound i m.strict k h.found) h.finds.searched).1.done;
  falls = h.falls;
  arcs = h.arcs;
  few = h.few;
  quality = record { searched = h.finds.searched; counted = h.finds.counted };
}

found-of : (i : Instance) (old : Option Cert) (m : MasterView) (limit : Limit) (status : ℕ) (output stored : List ℕ) → IsSolved i old m limit status output stored → SaysFound i old m limit status output stored
found-of i old m limit status output stored h = record {
  arcs = h.arcs;
  few = h.few;
  found = h.found;
  finds = record { searched = h.quality.searched; counted = h.quality.counted; status_is = h.status_is; denotes = h.denotes; right = h.right };
  falls = h.falls;
  report = h.report;
}

module _ (held : Option Texts) (rules demand : List ℕ) where
  -- the answers for a day and an old certificate, or none
  of-day : (from : Option (List ℕ)) (m : MasterView) (limit : Limit) (i : Instance) (old : Option Cert) (s : ℕ) (o : List ℕ) (x : Option (List ℕ)) → says.SaysDay held rules demand i → SaysOld held i from old
      → solves.Solving i old m limit s o x → SolveAnswers held rules demand from m limit s o x
  of-day from m limit i old s o x say from_says (solves.found s6 o6 text f) = tops.solved i old s6 o6 text say from_says (solved-of i old m limit s6 o6 text f)
  of-day from m limit i old s o x say from_says (solves.too_many o6 f) = tops.too_many_arcs i old o6 say from_says f

  of-proof : (name : List ℕ) (m : MasterView) (limit : Limit) (i : Instance) (text : List ℕ) (s : ℕ) (o : List ℕ) (x : Option (List ℕ)) → says.SaysDay held rules demand i → Holds held name text
      → solves.SolvesProof i text m limit s o x → SolveAnswers held rules demand (Some name) m limit s o x
  of-proof name m limit i text s o x say holds (solves.SolvesProof.accepted c s2 o2 x2 reading a) =
      of-day (Some name) m limit i (Some c) s2 o2 x2 say (record { text = text; holds = holds; says = reading }) a
  of-proof name m limit i text s o x say holds (solves.SolvesProof.refused o2 f) = tops.proof_refused i name o2 say refl (record { text = text; holds = holds; fault = f })

  of-from : (from : Option (List ℕ)) (m : MasterView) (limit : Limit) (i : Instance) (s : ℕ) (o : List ℕ) (x : Option (List ℕ)) → says.SaysDay held rules demand i
      → SolvesFrom held i from m limit s o x → SolveAnswers held rules demand from m limit s o x
  of-from None m limit i s o x say h = of-day None m limit i None s o x say tt h
  of-from (Some name) m limit i s o x say h = of-proof name m limit i h.text s o x say h.holds h.answers

module _ (held : Option Texts) (rules demand : List ℕ) (from : Option (List ℕ)) (m : MasterView) (limit : Limit) where
  pub as-solve : (status : ℕ) (output : List ℕ) (stored : Option (List ℕ)) → AnswersSolve held rules demand from m limit status output stored
      → SolveAnswers held rules demand from m limit status output stored
  as-solve status output stored h = by-rules status output stored h.answers
    where
      by-rules : (s : ℕ) (o : List ℕ) (x : Option (List ℕ)) → solves.SolvesRules held h.text demand from m limit s o x → SolveAnswers held rules demand from m limit s o x
      by-rules s o x (solves.SolvesRules.refused o2 k) = tops.rules_refused o2 (record { text = h.text; holds = h.holds; fault = k })
      by-rules s o x (solves.SolvesRules.accepted g s2 o2 x2 is k) = by-demand s2 o2 x2 k.answers
        where
          rules_say : says.SaysGrammar held rules g
          rules_say = record { text = h.text; holds = h.holds; says = is }

          by-demand : (s3 : ℕ) (o3 : List ℕ) (x3 : Option (List ℕ)) → solves.SolvesDemand held g k.text from m limit s3 o3 x3 → SolveAnswers held rules demand from m limit s3 o3 x3
          by-demand s3 o3 x3 (solves.SolvesDemand.refused o4 f) =
              tops.demand_refused o4 (record { grammar = g; rules_say = rules_say; text = k.text; holds = k.holds; fault = f })
          by-demand s3 o3 x3 (solves.SolvesDemand.accepted i s4 o4 x4 day a) = of-from held rules demand from m limit i s4 o4 x4 (record { grammar = g; rules_say = rules_say; text = k.text; holds = k.holds; says = day }) a

  -- the answers of a day, one after another
  day-parts : (i : Instance) (s : ℕ) (o : List ℕ) (x : Option (List ℕ)) → says.SaysDay held rules demand i → SolvesFrom held i from m limit s o x → AnswersSolve held rules demand from m limit s o x
  day-parts i s o x day a = record {
    text = day.rules_say.text;
    holds = day.rules_say.holds;
    answers = solves.SolvesRules.accepted day.grammar s o x day.rules_say.says (record {
      text = day.text;
      holds = day.holds;
      answers = solves.SolvesDemand.accepted i s o x day.says a;
    });
  }

  -- with an old certificate, or without
  old-parts : (name : Option (List ℕ)) (i : Instance) (old : Option Cert) (s : ℕ) (o : List ℕ) (x : Option (List ℕ)) → SaysOld held i name old → solves.Solving i old m limit s o x → SolvesFrom held i name m limit s o x
  old-parts None i None s o x h a = a
  old-parts None i (Some c) s o x h a = absurd h
  old-parts (Some name) i None s o x h a = absurd h
  old-parts (Some name) i (Some c) s o x h a = record { text = h.text; holds = h.holds; answers = solves.SolvesProof.accepted c s o x h.says a }

  -- or with a proof text that is refused
  refused-parts : (name : Option (List ℕ)) (own : List ℕ) (i : Instance) (o : List ℕ) → name ≡ Some own → RefusesFrom held i own o → SolvesFrom held i name m limit 5 o None
  refused-parts None own i o e h = let clash : ◌≡◌ {A = Option (List ℕ)} None (Some own) = e in cc
  refused-parts (Some name) own i o e h =
      let same : name ≡ own = same_Some name own e in
      record { text = h.text; holds = subst (λ (n : List ℕ). Holds held n h.text) (sym same) h.holds; answers = solves.SolvesProof.refused o h.fault }

  pub as-parts : (status : ℕ) (output : List ℕ) (stored : Option (List ℕ)) → SolveAnswers held rules demand from m limit status output stored
      → AnswersSolve held rules demand from m limit status output stored
  as-parts status output stored (tops.solved i old s o text day from_says a) = day-parts i s o (Some text) day (old-parts from i old s o (Some text) from_says (solves.found s o text (found-of i old m limit s o text a)))
  as-parts status output stored (tops.rules_refused o r) = record { text = r.text; holds = r.holds; answers = solves.SolvesRules.refused o r.fault }
  as-parts status output stored (tops.demand_refused o r) = record {
    text = r.rules_say.text;
    holds = r.rules_say.holds;
    answers = solves.SolvesRules.accepted r.grammar 4 o None r.rules_say.says (record { text = r.text; holds = r.holds; answers = solves.SolvesDemand.refused o r.fault });
  }
  as-parts status output stored (tops.proof_refused i name o day e r) = day-parts i 5 o None day (refused-parts from name i o e r)
  as-parts status output stored (tops.too_many_arcs i old o day from_says a) = day-parts i 9 o None day (old-parts from i old 9 o None from_says (solves.too_many o a))

-- the command once its rules text was fetched, and where it was not
module _ (name : List ℕ) (before after : Told) (status : ℕ) (from : Option (List ℕ)) (m : MasterView) (limit : Limit) (asked demand : List ℕ) where
  wider : IsWriter (AnswersSolve before.held asked demand from m limit) (asked ∷ demand ∷ from_names from) name before after status
      → IsWriter (SolveAnswers before.held asked demand from m limit) (asked ∷ demand ∷ from_names from) name before after status
  wider w =
      widen (AnswersSolve before.held asked demand from m limit) (SolveAnswers before.held asked demand from m limit) (as-solve before.held asked demand from m limit)
      (asked ∷ demand ∷ from_names from) (asked ∷ demand ∷ from_names from) name before after status (λ k. k) w

  pub command-read : (front : List ℕ) (middle : Told) → IsFetchTo 1048576 asked before middle front → IsWriter (SolvesRules middle.held front demand from m limit) (demand ∷ from_names from) name middle after status
      → IsWriter (SolveAnswers before.held asked demand from m limit) (asked ∷ demand ∷ from_names from) name before after status
  command-read front middle f w = wider (rules-read name before after status from m limit asked demand front middle f w)

  pub command-unread : IsReader NoAnswer (asked ∷ []) before after status → IsWriter (SolveAnswers before.held asked demand from m limit) (asked ∷ demand ∷ from_names from) name before after status
  command-unread reader = wider (rules-unread name before after status from m limit asked demand reader)
