-- The answers of `curve`, one data, are those that its parts say one after another, and the other way round.
use Rattle.std.proofs.Common.{ℕ, List, [], ◌∷◌, Option}
use Rattle.model_rosters.specs.declared.grammar.Grammar.{Grammar}
use Rattle.command_shelf.specs.Shelf.{Texts, Told}
use Rattle.command_answers.specs.Fetch.{IsFetchTo, NoAnswer}
use Rattle.command_answers.specs.Reader.{IsReader}
use Rattle.command_answers.specs.Says as says
use Rattle.command_searches.specs.declared.limit.Limit.{Limit}
use Rattle.command_searches.specs.Curve.{CurvesRules, AnswersCurve, MayStoreRules, MayStoreCurve}
use Rattle.command_searches.specs.Curve as curves
use Rattle.command_searches.specs.CurveAnswers.{CurveAnswers, MayStoreDay}
use Rattle.command_searches.specs.CurveAnswers as tops
use Rattle.command_searches.specs.Series.{Entry, End, answered, broken_off, IsSeriesWriter}
use Rattle.command_searches.specs.Solve.{MasterView}
use Rattle.command_searches.proofs.SeriesLemmas.{widen}
use Rattle.command_searches.proofs.CurveAnswers.{rules-read, rules-unread}

module _ (held : Option Texts) (rules demand : List ℕ) (group : Option (List ℕ)) (proof : List ℕ) where
  pub may-store : MayStoreDay proof group rules demand held → MayStoreCurve proof group rules demand held
  may-store may = λ text holds g is text2 holds2 i day.
      may i (record { grammar = g; rules_say = record { text = text; holds = holds; says = is }; text = text2; holds = holds2; says = day })

  module _ (m : MasterView) (limit : Limit) where
    pub as-curve : (end : End) (stored : List Entry) → AnswersCurve held rules demand group proof m limit end stored → CurveAnswers held rules demand group proof m limit end stored
    as-curve end stored h = by-rules end stored h.answers
      where
        by-rules : (e : End) (x : List Entry) → curves.CurvesRules held h.text demand group proof m limit e x → CurveAnswers held rules demand group proof m limit e x
        by-rules e x (curves.CurvesRules.refused o2 k) = tops.rules_refused o2 (record { text = h.text; holds = h.holds; fault = k })
        by-rules e x (curves.CurvesRules.accepted g e2 x2 is k) = by-demand e2 x2 k.answers
          where
            rules_say : says.SaysGrammar held rules g
            rules_say = record { text = h.text; holds = h.holds; says = is }

            by-demand : (e3 : End) (x3 : List Entry) → curves.CurvesDemand g k.text group proof m limit e3 x3 → CurveAnswers held rules demand group proof m limit e3 x3
            by-demand e3 x3 (curves.CurvesDemand.refused o4 f) =
                tops.demand_refused o4 (record { grammar = g; rules_say = rules_say; text = k.text; holds = k.holds; fault = f })
            by-demand e3 x3 (curves.CurvesDemand.accepted i e4 x4 day a) = by-day e4 x4 a
              where
                say : says.SaysDay held rules demand i
                say = record { grammar = g; rules_say = rules_say; text = k.text; holds = k.holds; says = day }

                by-day : (e5 : End) (x5 : List Entry) → curves.Curving i group proof m limit e5 x5 → CurveAnswers held rules demand group proof m limit e5 x5
                by-day e5 x5 (curves.found s o x6 f) = tops.searched i s o x6 say f
                by-day e5 x5 (curves.broken name x6 f) = tops.broken i name x6 say f
                by-day e5 x5 (curves.too_many o staff team f) = tops.too_many_arcs i o staff say team f
                by-day e5 x5 (curves.no_team s o none f) = tops.no_team i s o say none f

    of-day : (g : Grammar) (rules_say : says.SaysGrammar held rules g) (end : End) (stored : List Entry) → curves.AnswersCurveDemand held g demand group proof m limit end stored
        → AnswersCurve held rules demand group proof m limit end stored
    of-day g rules_say end stored h = record { text = rules_say.text; holds = rules_say.holds; answers = curves.CurvesRules.accepted g end stored rules_say.says h }

    pub as-curve-parts : (end : End) (stored : List Entry) → CurveAnswers held rules demand group proof m limit end stored → AnswersCurve held rules demand group proof m limit end stored
    as-curve-parts end stored (tops.searched i s o x day a) =
        of-day day.grammar day.rules_say (answered s o) x (record { text = day.text; holds = day.holds; answers = curves.CurvesDemand.accepted i (answered s o) x day.says (curves.found s o x a) })
    as-curve-parts end stored (tops.broken i name x day a) =
        of-day day.grammar day.rules_say (broken_off name) x (record { text = day.text; holds = day.holds; answers = curves.CurvesDemand.accepted i (broken_off name) x day.says (curves.broken name x a) })
    as-curve-parts end stored (tops.rules_refused o r) = record { text = r.text; holds = r.holds; answers = curves.CurvesRules.refused o r.fault }
    as-curve-parts end stored (tops.demand_refused o r) =
        of-day r.grammar r.rules_say (answered 4 o) [] (record { text = r.text; holds = r.holds; answers = curves.CurvesDemand.refused o r.fault })
    as-curve-parts end stored (tops.no_team i s o day none f) =
        of-day day.grammar day.rules_say (answered s o) [] (record { text = day.text; holds = day.holds; answers = curves.CurvesDemand.accepted i (answered s o) [] day.says (curves.no_team s o none f) })
    as-curve-parts end stored (tops.too_many_arcs i o staff day team a) =
        of-day day.grammar day.rules_say (answered 9 o) [] (record { text = day.text; holds = day.holds; answers = curves.CurvesDemand.accepted i (answered 9 o) [] day.says (curves.too_many o staff team a) })

-- the command once its rules text was fetched, and where it was not
module _ (group : Option (List ℕ)) (proof : List ℕ) (m : MasterView) (limit : Limit) (before after : Told) (status : ℕ) (rules demand : List ℕ) where
  wider : IsSeriesWriter (AnswersCurve before.held rules demand group proof m limit) (rules ∷ demand ∷ []) (MayStoreCurve proof group rules demand) before after status
      → IsSeriesWriter (CurveAnswers before.held rules demand group proof m limit) (rules ∷ demand ∷ []) (MayStoreDay proof group rules demand) before after status
  wider w =
      widen (AnswersCurve before.held rules demand group proof m limit) (CurveAnswers before.held rules demand group proof m limit) (as-curve before.held rules demand group proof m limit)
      (rules ∷ demand ∷ []) (rules ∷ demand ∷ []) (MayStoreDay proof group rules demand) (MayStoreCurve proof group rules demand) before after status (λ k. k) (may-store before.held rules demand group proof) w

  pub command-read : (front : List ℕ) (middle : Told) → IsFetchTo 1048576 rules before middle front
      → IsSeriesWriter (CurvesRules middle.held front demand group proof m limit) (demand ∷ []) (MayStoreRules proof group front demand) middle after status
      → IsSeriesWriter (CurveAnswers before.held rules demand group proof m limit) (rules ∷ demand ∷ []) (MayStoreDay proof group rules demand) before after status
  command-read front middle f w = wider (rules-read group proof m limit before after status rules demand front middle f w)

  pub command-unread : IsReader NoAnswer (rules ∷ []) before after status
      → IsSeriesWriter (CurveAnswers before.held rules demand group proof m limit) (rules ∷ demand ∷ []) (MayStoreDay proof group rules demand) before after status
  command-unread reader = wider (rules-unread group proof m limit before after status rules demand reader)
