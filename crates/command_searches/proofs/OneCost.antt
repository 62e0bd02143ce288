-- Two searches of one day that end with the cost as the bound say one cost.
use Rattle.std.proofs.Common.{◌≡◌, ◌≤◌, ℕ, List, [], ◌∷◌, Option, None, Some, refl, sym, ap, subst, ◌∙◌, arith}
use Rattle.std.specs.Prelude.{IsSome, IfSome, codes, length}
use Rattle.command_searches.specs.declared.limit.Limit.{Limit}
use Rattle.command_searches.proofs.LimitLemmas.{for-some}
use Rattle.text_lines.specs.Written.{written}
use Rattle.model_rosters.specs.declared.grammar.ArcKey.{ArcKey}
use Rattle.model_rosters.specs.declared.grammar.Grammar.{Grammar}
use Rattle.model_rosters.specs.declared.instance.Done.{Done}
use Rattle.model_rosters.specs.declared.instance.Done.TheVariants.{Equal, NoRoster, TurnsOut}
use Rattle.model_rosters.specs.declared.instance.Instance.{Instance}
use Rattle.model_rosters.specs.Duties.{Duty}
use Rattle.model_rosters.specs.Rosters.{Costs}
use Rattle.model_rosters.proofs.arc_laws.OneList.{one-list}
use Rattle.check_certificates.specs.declared.cert.Cert.{Cert}
use Rattle.check_certificates.specs.RosterCauses.{duties}
use Rattle.check_certificates.specs.certificate_laws.Right.{YesIsRight}
use Rattle.search_branch_price.specs.declared.found.Found.{Found}
use Rattle.search_branch_price.specs.Found.{IsDone, IsFound}
use Rattle.search_days.specs.Solutions.{HasArcCount, IsReportText}
use Rattle.model_made_days.specs.Made.{made_instance}
use Rattle.text_reports.specs.declared.report.Report.{Report}
use Rattle.text_reports.specs.ReportText.{header_line, result_line, number_line, cost_lines, report_lines}
use Rattle.text_reports.specs.SummaryText.{summary_text}
use Rattle.command_searches.specs.Make.{SaysMade, summary_of}
use Rattle.command_searches.specs.OneEnd.{lines_with_cost, SayOneCost}
use Rattle.command_searches.specs.Solve.{MasterView, Finds, SaysFound, done_status}

-- an allowed roster and the word that none is allowed
roster_or_none : (i : Instance) (d : Cert) (ds : List Duty) (cost : Option ℕ) → IfSome cost (λ amount. Costs i ds amount) → IsSome cost → YesIsRight i d → d.bound ≡ None → ⊥
roster_or_none i d ds None r some k none = absurd (by_cases some)
  where
    by_cases : IsSome {T = ℕ} None → ⊥
    by_cases h = cc
roster_or_none i d ds (Some amount) r some k none = k.none none ds amount r

pub never_both : (i : Instance) (c d : Cert) → YesIsRight i c → YesIsRight i d → IsSome c.cost → d.bound ≡ None → ⊥
never_both i c d h k some none = roster_or_none i d (duties c.shifts) c.cost h.roster some k none

-- a bound is at most each cost
below : (i : Instance) (c d : Cert) (n m : ℕ) → YesIsRight i c → YesIsRight i d → c.bound ≡ Some n → d.cost ≡ Some m → n ≤ m
below i c d n m h k bound cost =
    let least = subst (λ (o : Option ℕ). IfSome o (λ b. (ds : List Duty) (amount : ℕ) → Costs i ds amount → b ≤ amount)) bound h.bound in
    let has = subst (λ (o : Option ℕ). IfSome o (λ amount. Costs i (duties d.shifts) amount)) cost k.roster in
    least (duties d.shifts) m has

costs_by : (i : Instance) (c d : Cert) → YesIsRight i c → YesIsRight i d → c.bound ≡ c.cost → d.bound ≡ d.cost → (a b : Option ℕ) → c.cost ≡ a → d.cost ≡ b → c.cost ≡ d.cost
costs_by i c d h k e f None None p q = p ∙ sym q
costs_by i c d h k e f None (Some m) p q = absurd (never_both i d c k h (subst (λ (o : Option ℕ). IsSome o) (sym q) refl) (e ∙ p))
costs_by i c d h k e f (Some n) None p q = absurd (never_both i c d h k (subst (λ (o : Option ℕ). IsSome o) (sym p) refl) (f ∙ q))
costs_by i c d h k e f (Some n) (Some m) p q =
    let low = below i c d n m h k (e ∙ p) q in
    let high = below i d c m n k h (f ∙ q) p in
    let same : n ≡ m = omega (arith, low, high) in
    p ∙ ap (λ (x : ℕ). Some x) same ∙ sym q

-- of two right certificates whose bounds are their costs the costs are one
pub costs-alike : (i : Instance) (c d : Cert) → YesIsRight i c → YesIsRight i d → c.bound ≡ c.cost → d.bound ≡ d.cost → c.cost ≡ d.cost
costs-alike i c d h k e f = costs_by i c d h k e f c.cost d.cost refl refl

-- a search that ended with this cost as its bound
record AtCost (f : Found) (n : ℕ) : Type 0 where
  end : f.done ≡ Equal
  cost : f.cert.cost ≡ Some n
  bound : f.cert.bound ≡ Some n

is_equal : (d : Done) → done_status d ≡ 0 → d ≡ Equal
is_equal Equal e = refl
is_equal NoRoster e = let clash : ◌≡◌ {A = ℕ} 1 0 = e in absurd (omega (arith, clash))
is_equal TurnsOut e = let clash : ◌≡◌ {A = ℕ} 8 0 = e in absurd (omega (arith, clash))

some_cost : (cost : Option ℕ) → IsSome cost → (n : ℕ) × (cost ≡ Some n)
some_cost None some = absurd (by_cases some)
  where
    by_cases : IsSome {T = ℕ} None → ⊥
    by_cases h = cc
some_cost (Some n) some = (n, refl)

ends_equal : (i : Instance) (m : MasterView) (limit : Limit) (s : ℕ) (x : List ℕ) (f : Found) → Finds i m limit s x f → s ≡ 0 → (f.done ≡ Equal) × IsDone f.cert Equal
ends_equal i m limit s x f h zero =
    let end = is_equal f.done (sym h.status_is ∙ zero) in
    (end, subst (λ (d : Done). IsDone f.cert d) end (for-some limit (λ k. IsFound i m.strict k f) h.searched).1.done)

-- two searches that end with their costs as the bounds have one cost
one_cost : (i : Instance) (m n : MasterView) (limit : Limit) (s t : ℕ) (x y : List ℕ) (f g : Found) → Finds i m limit s x f → Finds i n limit t y g → s ≡ 0 → t ≡ 0 → (c : ℕ) × AtCost f c × AtCost g c
one_cost i m n limit s t x y f g h k p q =
    let here = ends_equal i m limit s x f h p in
    let there = ends_equal i n limit t y g k q in
    let c = some_cost f.cert.cost here.1.0 in
    let same = costs-alike i g.cert f.cert k.right h.right there.1.1 here.1.1 ∙ c.1 in
    (c.0, record { end = here.0; cost = c.1; bound = here.1.1 ∙ c.1 }, record { end = there.0; cost = same; bound = there.1.1 ∙ same })

-- the lines of a report
report_at : (i : Instance) (r : Report) (n : ℕ) → r.done ≡ Equal → r.cost ≡ Some n → r.bound ≡ Some n
    → report_lines i r ≡ lines_with_cost (header_line i.groups ∷ result_line Equal ∷ []) n (number_line (codes "processed") r.processed ∷ number_line (codes "failed") r.failed ∷ cost_lines i r r.cost)
report_at i r n e c b = rw (e, c, b) refl

report_says : (i : Instance) (f : Found) (n : ℕ) (a : List ℕ) → AtCost f n → IsReportText i f a → (more : List (List (List ℕ))) × (a ≡ written (lines_with_cost (header_line i.groups ∷ result_line Equal ∷ []) n more))
report_says i f n a at text =
    let r = text.report in (
      number_line (codes "processed") r.processed ∷ number_line (codes "failed") r.failed ∷ cost_lines i r r.cost,
      text.written ∙ ap (λ (lines : List (List (List ℕ))). written lines) (report_at i r n (text.is.end ∙ at.end) (text.is.cost ∙ at.cost) (text.is.bound ∙ at.bound)),
    )

pub solves-at : (i : Instance) (old : Option Cert) (m n : MasterView) (limit : Limit) (s t : ℕ) (a b x y : List ℕ) → SaysFound i old m limit s a x → SaysFound i old n limit t b y → s ≡ 0 → t ≡ 0 → SayOneCost a b
solves-at i old m n limit s t a b x y h k p q =
    let c = one_cost i m n limit s t x y h.found k.found h.finds k.finds p q in
    let here = report_says i h.found c.0 a c.1 h.report in
    let there = report_says i k.found c.0 b c.2 k.report in
    record { first = header_line i.groups ∷ result_line Equal ∷ []; cost = c.0; more = here.0; others = there.0; one = here.1; other = there.1 }

-- the number of a day's arcs is one number
one_count : (g : Grammar) (n m : ℕ) → HasArcCount g n → HasArcCount g m → n ≡ m
one_count g n m h k = h.2 ∙ ap (λ (xs : List ArcKey). length xs) (one-list g h.0 k.0 h.1 k.1) ∙ sym k.2

-- a summary's lines before the cost
abbrev first_lines : ℕ → ℕ → List (List (List ℕ))
first_lines number arcs =
    number_line (codes "make") number ∷ number_line (codes "periods") (made_instance number).grammar.periods ∷ number_line (codes "arcs") arcs ∷ result_line Equal ∷ []

summary_at : (number arcs : ℕ) (f : Found) (n : ℕ) → AtCost f n
    → summary_text (summary_of number arcs f) ≡ written (lines_with_cost (first_lines number arcs) n (number_line (codes "processed") f.processed ∷ number_line (codes "failed") f.failed ∷ []))
summary_at number arcs f n at = rw (at.end, at.cost, at.bound) refl

-- a search of a made day is a search
pub made-finds : (number : ℕ) (m : MasterView) (limit : Limit) (s : ℕ) (a x : List ℕ) (h : SaysMade number m limit s a x) → Finds (made_instance number) m limit s x h.found
made-finds number m limit s a x h = record { searched = h.quality.searched; counted = h.quality.counted; status_is = h.status_is; denotes = h.denotes; right = h.right }

pub makes-at : (number : ℕ) (m n : MasterView) (limit : Limit) (s t : ℕ) (a b x y : List ℕ) → SaysMade number m limit s a x → SaysMade number n limit t b y → s ≡ 0 → t ≡ 0 → SayOneCost a b
makes-at number m n limit s t a b x y h k p q =
    let c = one_cost (made_instance number) m n limit s t x y h.found k.found (made-finds number m limit s a x h) (made-finds number n limit t b y k) p q in
    let same = one_count (made_instance number).grammar k.arcs h.arcs k.few h.few in
    record {
      first = first_lines number h.arcs;
      cost = c.0;
      more = number_line (codes "processed") h.found.processed ∷ number_line (codes "failed") h.found.failed ∷ [];
      others = number_line (codes "processed") k.found.processed ∷ number_line (codes "failed") k.found.failed ∷ [];
      one = h.summary ∙ summary_at number h.arcs h.found c.0 c.1;
      other = k.summary ∙ ap (λ (arcs : ℕ). summary_text (summary_of number arcs k.found)) same ∙ summary_at number h.arcs k.found c.0 c.2;
    }
