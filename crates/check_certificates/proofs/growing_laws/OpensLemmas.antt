-- The entries of a queue against the open leaves.
use Rattle.std.proofs.Common.{◌≡◌, arith, ◌+◌, ◌*◌, ◌≤◌, true, false, cond, [], ◌∷◌, ◌++◌, refl, ◌⊎◌, inl, inr}
use Rattle.std.specs.Prelude.{◌≢◌, nat_eq}
use Rattle.model_rosters.specs.Folds.{count}
use Rattle.model_rosters.proofs.EachLemmas.{Each-weaker, Each-append, each_parts}
use Rattle.model_rosters.proofs.arc_laws.FoldsLemmas.{count-append}
use Rattle.check_certificates.specs.Nodes.{low_cut, high_cut}
use Rattle.check_certificates.specs.growing_laws.Grown.{tip, fork, fresh, valued, fixed, raised, put}
use Rattle.check_certificates.specs.growing_laws.Opens.{Entry, leaf_entries, opens, IsEntryOf, PutOpens, OpensSound, OpensLeast}
use Rattle.check_certificates.proofs.growing_laws.GrownLemmas.{told}

pub put-opens : PutOpens
put-opens q n m r above cuts new (tip k l) h = by (told k n)
  where
    by : (k ≡ n) × (nat_eq k n ≡ true) ⊎ (k ≢ n) × (nat_eq k n ≡ false)
        → count q (opens above (cond (nat_eq k n) new (tip k l))) + cond (nat_eq k n) 1 0 * r ≡ count q (leaf_entries above k l) + cond (nat_eq k n) 1 0 * m
    by (inl e) = let f = h e.0 in rw e.1 (omega (arith, f.0, f.1))
    by (inr e) = rw e.1 (omega arith)
put-opens q n m r above cuts new (fork k a b own low high) h =
    let x = put-opens q n m r (raised above own) (cuts ++ low_cut a b ∷ []) new low h.0 in
    let y = put-opens q n m r (raised above own) (cuts ++ high_cut a b ∷ []) new high h.1 in
    let u = count-append q (opens (raised above own) (put n new low)) (opens (raised above own) (put n new high)) in
    let v = count-append q (opens (raised above own) low) (opens (raised above own) high) in
    omega (arith, x, y, u, v)

pub opens-sound : OpensSound
opens-sound above cuts (tip k fresh) = ((refl, tt, refl), tt)
opens-sound above cuts (tip k (valued o)) = ((refl, tt, refl), tt)
opens-sound above cuts (tip k (fixed v)) = tt
opens-sound above cuts (fork k a b own low high) =
    Each-append (λ e. IsEntryOf e above cuts (fork k a b own low high)) (opens (raised above own) low) (opens (raised above own) high)
    (Each-weaker (λ e. IsEntryOf e (raised above own) (cuts ++ low_cut a b ∷ []) low) (λ e. IsEntryOf e above cuts (fork k a b own low high)) (opens (raised above own) low) (λ e h. inl h) (opens-sound (raised above own) (cuts ++ low_cut a b ∷ []) low))
    (Each-weaker (λ e. IsEntryOf e (raised above own) (cuts ++ high_cut a b ∷ []) high) (λ e. IsEntryOf e above cuts (fork k a b own low high)) (opens (raised above own) high) (λ e h. inr h) (opens-sound (raised above own) (cuts ++ high_cut a b ∷ []) high))

pub opens-least : OpensLeast
opens-least v above cuts (tip k fresh) h = λ o. h.0
opens-least v above cuts (tip k (valued w)) h = λ o. h.0
opens-least v above cuts (tip k (fixed w)) h = λ o. absurd o
opens-least v above cuts (fork k a b own low high) h =
    let r = each_parts (λ (e : Entry). v ≤ e.bound) (opens (raised above own) low) (opens (raised above own) high) h in
    (opens-least v (raised above own) (cuts ++ low_cut a b ∷ []) low r.0, opens-least v (raised above own) (cuts ++ high_cut a b ∷ []) high r.1)
