-- Lines of the same words tell the same, whatever their numbers, where nothing is refused.
use Rattle.std.proofs.Common.{◌≡◌, ℕ, ◌+◌, Bool, true, false, cond, ltb, List, [], ◌∷◌, length, Some, None, Result, Ok, Err, refl, sym, ap, subst}
use Rattle.std.specs.Prelude.{codes, is_some}
use Rattle.text_lines.specs.Written.{numbered}
use Rattle.model_rosters.specs.declared.instance.Instance.{Instance}
use Rattle.check_certificates.specs.declared.cert.Cert.{Cert}
use Rattle.check_certificates.specs.declared.cert.Node.{Node}
use Rattle.check_certificates.specs.declared.cert.Node.TheVariants as of
use Rattle.model_rosters.specs.declared.instance.Shift.{Shift}
use Rattle.text_proof_pieces.specs.declared.fault.PieceFault.{PieceFault}
use Rattle.text_proof_pieces.specs.declared.node.NodeLine.{NodeLine}
use Rattle.text_proof_pieces.specs.declared.node.NodeLine.TheVariants.{Split, Priced, Pinned, Bare}
use Rattle.text_proof_pieces.specs.CertOf.{node_pieces, shift_pieces, cert_pieces}
use Rattle.text_proof_pieces.specs.Items.{Items}
use Rattle.text_proof_pieces.specs.PieceList.{Given, Place, Spot, too_long, start, costs, bounds, shifts, nodes, block, ended, over, after, begin, at_node, at_line, pieces_from, wants, is_end, no_place, split_read, leaf_read, node_read, node_of, cut_count, after_bound}
use Rattle.text_proof_pieces.specs.PriceLines.{is_mult}
use Rattle.text_proof_pieces.specs.ShiftLines.{is_header, is_shift}
use Rattle.text_proof_pieces.specs.Told.{Told, cost, bound, shift, node}
use Rattle.text_certificates.specs.SaidLines.{HaveWords}
use Rattle.text_certificates.proofs.LineAgreement.{Agree, agree_amounts, agree_node, agree_price_line, agree_mult_line, agree_shift_line}

-- no fault is told
abbrev pub AllOk : Given → Type 0
AllOk [] = Unit {0}
AllOk (Ok t ∷ rest) = AllOk rest
AllOk (Err e ∷ rest) = ⊥

-- the same is told, unless a fault was told
abbrev pub Keeps : Given → Given → Type 0
Keeps x y = AllOk x → y ≡ x

test_keeps : (t : Bool) (x y u v : Given) → Keeps x y → Keeps u v → Keeps (cond t x u) (cond t y v)
test_keeps true x y u v a b = a
test_keeps false x y u v a b = b

more_keeps : (t : Told) (x y : Given) → Keeps x y → Keeps (Ok t ∷ x) (Ok t ∷ y)
more_keeps t x y h a = ap (λ (g : Given). Ok t ∷ g) (h a)

after_keeps : {A : Type 0} (r q : Result A PieceFault) (f g : A → Given) → Agree r q → ((x : A) → Keeps (f x) (g x)) → Keeps (after r f) (after q g)
after_keeps (Ok x) q f g h k a = rw (h x refl) (k x a)
after_keeps (Err e) q f g h k a = absurd a

module _ (i : Instance) (k m : ℕ) (ws : List (List ℕ)) (go on : Spot → Place → Given) (same : (s : Spot) (p : Place) → Keeps (go s p) (on s p)) where
  begin_keeps : (h : NodeLine) (p : Place) → Keeps (begin h p go) (begin h p on)
  begin_keeps (Split a b None) p = more_keeps (node (of.Split a b None)) _ _ (same nodes (split_read p))
  begin_keeps (Split a b (Some d)) p = same (block (Split a b (Some d)) [] []) p
  begin_keeps (Priced d) p = same (block (Priced d) [] []) p
  begin_keeps Pinned p = more_keeps (node of.Pinned) _ _ (same nodes (leaf_read p))
  begin_keeps Bare p = more_keeps (node of.Bare) _ _ (same nodes (leaf_read p))

  node_keeps : (p : Place) → Keeps (at_node i p (record { number = k; words = ws }) go) (at_node i p (record { number = m; words = ws }) on)
  node_keeps p =
      test_keeps (wants p) _ _ _ _ (after_keeps _ _ _ _ (agree_node k m i.groups p.nodes ws) (λ h. begin_keeps h p))
      (test_keeps (is_end ws) _ _ _ _ (same ended p) (λ f. absurd f))

  line_keeps : (s : Spot) (p : Place) → Keeps (at_line i s p (record { number = k; words = ws }) go) (at_line i s p (record { number = m; words = ws }) on)
  line_keeps too_long p = λ f. absurd f
  line_keeps start p = test_keeps (is_header i.groups ws) _ _ _ _ (same costs no_place) (λ f. absurd f)
  line_keeps costs p = after_keeps _ _ _ _ (agree_amounts k m (codes "cost") ws) (λ x. more_keeps (cost x) _ _ (same (bounds (is_some x)) p))
  line_keeps (bounds paid) p = after_keeps _ _ _ _ (agree_amounts k m (codes "bound") ws) (λ x. more_keeps (bound x) _ _ (same (after_bound paid) p))
  line_keeps (shifts n) p =
      test_keeps (is_shift i.groups ws) _ _ _ _ (after_keeps _ _ _ _ (agree_shift_line k m i n ws) (λ s. more_keeps (shift s) _ _ (same (shifts (n + 1)) p))) (node_keeps p)
  line_keeps nodes p = node_keeps p
  line_keeps (block h cs ms) p =
      test_keeps (ltb (length cs) (length i.cells)) _ _ _ _ (after_keeps _ _ _ _ (agree_price_line k m i cs ws) (λ ds. same (block h ds ms) p))
      (test_keeps (is_mult ws) _ _ _ _ (after_keeps _ _ _ _ (agree_mult_line k m (cut_count i p) ms ws) (λ ns. same (block h cs ns) p))
      (more_keeps (node (node_of h cs ms)) _ _ (node_keeps (node_read h p))))
  line_keeps ended p = λ f. absurd f
  line_keeps over p = λ f. refl

-- written lines, whose numbers follow one another, tell what the items of their words tell
pub written_keeps : (i : Instance) (k : ℕ) (wss : List (List (List ℕ))) (items : Items) → HaveWords items wss → (s : Spot) (p : Place) → Keeps (pieces_from i s p (numbered k wss)) (pieces_from i s p items)
written_keeps i k [] [] h s p = λ f. refl
written_keeps i k [] (Err b ∷ items) h s p = absurd h
written_keeps i k [] (Ok line ∷ items) h s p = absurd h
written_keeps i k (ws ∷ wss) [] h s p = absurd h
written_keeps i k (ws ∷ wss) (Err b ∷ items) h s p = absurd h
written_keeps i k (ws ∷ wss) (Ok line ∷ items) h s p =
    subst (λ (vs : List (List ℕ)). Keeps (at_line i s p (record { number = k; words = ws }) (λ t q. pieces_from i t q (numbered (k + 1) wss))) (at_line i s p (record { number = line.number; words = vs }) (λ t q. pieces_from i t q items))) (sym h.0)
    (line_keeps i k line.number ws (λ t q. pieces_from i t q (numbered (k + 1) wss)) (λ t q. pieces_from i t q items) (λ t q. written_keeps i (k + 1) wss items h.1 t q) s p)

nodes_ok : (ns : List Node) → AllOk (node_pieces ns)
nodes_ok [] = tt
nodes_ok (n ∷ ns) = nodes_ok ns

shifts_ok : (ss : List Shift) (rest : Given) → AllOk rest → AllOk (shift_pieces ss rest)
shifts_ok [] rest h = h
shifts_ok (s ∷ ss) rest h = shifts_ok ss rest h

pub cert_ok : (c : Cert) → AllOk (cert_pieces c)
cert_ok c = shifts_ok c.shifts (node_pieces c.nodes) (nodes_ok c.nodes)
