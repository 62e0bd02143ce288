-- Numbers and windows that were read are in range.
use Rattle.std.proofs.Common.{◌≡◌, ℕ, Bool, true, false, cond, List, [], ◌∷◌, Option, Some, None, Ok, arith, subst}
use Rattle.std.specs.Prelude.{codes, IfSome}
use Rattle.std.specs.Str.{bytes_eq}
use Rattle.model_rosters.specs.declared.grammar.Window.{Window}
use Rattle.model_rosters.specs.Sound.{IsWindow}
use Rattle.text_rules.specs.declared.window.Windows.{Windows}
use Rattle.text_lines.proofs.FieldsLemmas.{number_within}
use Rattle.text_rules.specs.Fields.{number_at}
use Rattle.text_rules.specs.RuleLine.{bounds_at, with_window, window_at, windows_at, whole}
use Rattle.text_lines.proofs.StepsLemmas.{passed, bind_ok, same_ok}

bounds_within : (k : ℕ) (a b : List ℕ) (x : Window) → bounds_at k a b ≡ Ok x → IsWindow x
unfolding bounds_at
bounds_within k a b x e =
    let low = bind_ok (number_at k 1 96 a) _ _ e in
    let high = bind_ok (number_at k low.0 96 b) _ _ low.2 in
    let l = number_within _ _ 1 96 low.0 a low.1 in
    let h = number_within _ _ low.0 96 high.0 b high.1 in
    subst IsWindow (same_ok _ _ high.2) (record { first = l.0; order = h.0; last = h.1 })

-- the windows that were written are windows
pub record AreWindows (v : Windows) : Type 0 where
  pub span : IfSome v.span IsWindow
  pub first : IfSome v.first IsWindow
  pub last : IfSome v.last IsWindow

with_keeps : (v : Windows) (w : List ℕ) (x : Window) → AreWindows v → IsWindow x → AreWindows (with_window v w x)
with_keeps v w x s h = by (bytes_eq w (codes "len")) (bytes_eq w (codes "begin"))
  where
    by : (p q : Bool) → AreWindows (cond p (record v { span = Some x }) (cond q (record v { first = Some x }) (record v { last = Some x })))
    by true q = record { span = h; first = s.first; last = s.last }
    by false true = record { span = s.span; first = h; last = s.last }
    by false false = record { span = s.span; first = s.first; last = h }

window_keeps : (k : ℕ) (v u : Windows) (w a b : List ℕ) → AreWindows v → window_at k v w a b ≡ Ok u → AreWindows u
unfolding window_at
window_keeps k v u w a b s e =
    let free = passed _ _ _ _ e in
    let x = bind_ok (bounds_at k a b) _ _ free.1 in
    subst AreWindows (same_ok _ _ x.2) (with_keeps v w x.0 s (bounds_within k a b x.0 x.1))

pub windows_keep : (k : ℕ) (v u : Windows) (ws : List (List ℕ)) → AreWindows v → windows_at k v ws ≡ Ok u → AreWindows u
windows_keep k v u [] s e = subst AreWindows (same_ok v u e) s
windows_keep k v u (w ∷ []) s e = absurd cc
windows_keep k v u (w ∷ a ∷ []) s e = absurd cc
windows_keep k v u (w ∷ a ∷ b ∷ ws) s e =
    let first = bind_ok (window_at k v w a b) (λ (x : Windows). windows_at k x ws) u e in
    windows_keep k first.0 u ws (window_keeps k v first.0 w a b s first.1) first.2

pub whole_window : (o : Option Window) → IfSome o IsWindow → IsWindow (whole o)
whole_window None h = record { first = omega arith; order = omega arith; last = omega arith }
whole_window (Some x) h = h
