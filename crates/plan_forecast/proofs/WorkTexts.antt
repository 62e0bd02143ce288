-- The codes of work, one after another.
use Rattle.std.proofs.Common.{◌≡◌, ℕ, ◌+◌, ◌<◌, List, [], ◌∷◌, ◌++◌, length, take, get_or, refl, sym, ap, ◌∙◌, append_assoc, cond}
use Rattle.std.proofs.lemmas.List.{take_more}
use Rattle.plan_meaning.specs.declared.plan.PlanCode.{PlanCode}
use Rattle.plan_forecast.specs.FaultLine.{work_text}

abbrev one : PlanCode → List ℕ
one c = cond c.work (32 ∷ c.code ∷ []) []

behind : (cs : List PlanCode) (c : PlanCode) → work_text (cs ++ c ∷ []) ≡ work_text cs ++ work_text (c ∷ [])
behind [] c = refl
behind (x ∷ cs) c = ap (λ (t : List ℕ). one x ++ t) (behind cs c) ∙ sym (append_assoc (one x) (work_text cs) (work_text (c ∷ [])))

-- one more code
pub work_more : (cs : List PlanCode) (i : ℕ) (c : PlanCode) (o0 o1 o2 : List ℕ) → i < length cs → c ≡ get_or cs i c
    → o1 ≡ o0 ++ work_text (take i cs) → o2 ≡ o1 ++ work_text (c ∷ []) → o2 ≡ o0 ++ work_text (take (i + 1) cs)
work_more cs i c o0 o1 o2 within at before is =
    is ∙ ap (λ (o : List ℕ). o ++ work_text (c ∷ [])) before ∙ append_assoc o0 (work_text (take i cs)) (work_text (c ∷ []))
    ∙ ap (λ (t : List ℕ). o0 ++ t) (sym (behind (take i cs) c))
    ∙ ap (λ (ds : List PlanCode). o0 ++ work_text ds) (sym (take_more cs i c within ∙ ap (λ (d : PlanCode). take i cs ++ d ∷ []) (sym at)))
