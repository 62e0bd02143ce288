-- Lines of each item, one after another.
use Rattle.std.proofs.Common.{◌≡◌, ℕ, ◌+◌, ◌<◌, List, [], ◌∷◌, ◌++◌, length, take, get_or, false, refl, sym, ap, ◌∙◌, append_assoc, append-nil}
use Rattle.std.proofs.lemmas.List.{take_more}
use Rattle.plan_meaning.specs.declared.plan.PlanCode.{PlanCode}
use Rattle.plan_meaning.specs.declared.plan.Staff.{Staff}
use Rattle.text_lines.specs.Written.{written}
use Rattle.text_lines.proofs.WrittenLemmas.{line_then, lines_then}
use Rattle.plan_labels.specs.LabelText.{Line, all_group_lines, all_pause_lines, all_work_lines, code_line, group_lines, paid_lines, pause_lines, work_lines}

module _ {X : Type 0} (f : X → List Line) (F : List X → List Line) (none : F [] ≡ []) (more : (x : X) (xs : List X) → F (x ∷ xs) ≡ f x ++ F xs) where
  behind : (xs : List X) (y : X) → F (xs ++ y ∷ []) ≡ F xs ++ f y
  behind [] y = more y [] ∙ ap (λ (ls : List Line). f y ++ ls) none ∙ append-nil (f y) ∙ ap (λ (ls : List Line). ls ++ f y) (sym none)
  behind (x ∷ xs) y =
      more x (xs ++ y ∷ []) ∙ ap (λ (ls : List Line). f x ++ ls) (behind xs y)
      ∙ sym (append_assoc (f x) (F xs) (f y)) ∙ ap (λ (ls : List Line). ls ++ f y) (sym (more x xs))

  -- the lines of one more item
  pub item_more : (xs : List X) (i : ℕ) (x : X) (o0 o1 o2 : List ℕ) → i < length xs → x ≡ get_or xs i x → o1 ≡ o0 ++ written (F (take i xs)) → o2 ≡ o1 ++ written (f x) → o2 ≡ o0 ++ written (F (take (i + 1) xs))
  item_more xs i x o0 o1 o2 within at before is =
      let items : take (i + 1) xs ≡ take i xs ++ x ∷ [] = take_more xs i x within ∙ ap (λ (y : X). take i xs ++ y ∷ []) (sym at) in
      lines_then o0 o1 o2 (F (take i xs)) (f x) before is
      ∙ ap (λ (ls : List Line). o0 ++ written ls) (sym (ap F items ∙ behind (take i xs) x))

pub work_more : (xs : List PlanCode) (i : ℕ) (x : PlanCode) (o0 o1 o2 : List ℕ) → i < length xs → x ≡ get_or xs i x → o1 ≡ o0 ++ written (all_work_lines (take i xs)) → o2 ≡ o1 ++ written (work_lines x) → o2 ≡ o0 ++ written (all_work_lines (take (i + 1) xs))
work_more = item_more work_lines all_work_lines refl (λ x xs. refl)

pub pause_more : (xs : List PlanCode) (i : ℕ) (x : PlanCode) (o0 o1 o2 : List ℕ) → i < length xs → x ≡ get_or xs i x → o1 ≡ o0 ++ written (all_pause_lines (take i xs)) → o2 ≡ o1 ++ written (pause_lines x) → o2 ≡ o0 ++ written (all_pause_lines (take (i + 1) xs))
pause_more = item_more pause_lines all_pause_lines refl (λ x xs. refl)

pub group_more : (xs : List Staff) (i : ℕ) (x : Staff) (o0 o1 o2 : List ℕ) → i < length xs → x ≡ get_or xs i x → o1 ≡ o0 ++ written (all_group_lines (take i xs)) → o2 ≡ o1 ++ written (group_lines x) → o2 ≡ o0 ++ written (all_group_lines (take (i + 1) xs))
group_more = item_more group_lines all_group_lines refl (λ x xs. refl)

-- the line of a pause, and whether it is paid
pub pause_joined : (c : PlanCode) (o0 o1 o2 : List ℕ) → c.work ≡ false → o1 ≡ o0 ++ written (code_line c ∷ []) → o2 ≡ o1 ++ written (paid_lines c) → o2 ≡ o0 ++ written (pause_lines c)
unfolding pause_lines paid_lines
pause_joined c o0 o1 o2 pause e h = rw pause (line_then o0 o1 o2 (code_line c) (paid_lines c) e h)

-- three texts of lines
pub three_then : (o0 o1 o2 o3 : List ℕ) (ks bs cs : List Line) → o1 ≡ o0 ++ written ks → o2 ≡ o1 ++ written bs → o3 ≡ o2 ++ written cs → o3 ≡ o0 ++ written (ks ++ (bs ++ cs))
three_then o0 o1 o2 o3 ks bs cs e f g = lines_then o0 o1 o3 ks (bs ++ cs) e (lines_then o1 o2 o3 bs cs f g)

-- four, the first from none
pub four_then : (o0 o1 o2 o3 o4 : List ℕ) (ks bs cs ds : List Line) → o0 ≡ [] → o1 ≡ o0 ++ written ks → o2 ≡ o1 ++ written bs → o3 ≡ o2 ++ written cs → o4 ≡ o3 ++ written ds → o4 ≡ written (ks ++ (bs ++ (cs ++ ds)))
four_then o0 o1 o2 o3 o4 ks bs cs ds n e f g h =
    lines_then o0 o1 o4 ks (bs ++ (cs ++ ds)) e (three_then o1 o2 o3 o4 bs cs ds f g h)
    ∙ ap (λ (o : List ℕ). o ++ written (ks ++ (bs ++ (cs ++ ds)))) n
