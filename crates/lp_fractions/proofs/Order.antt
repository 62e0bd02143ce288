-- The order of fractions by quotients and remainders.
use Rattle.std.proofs.Common.{◌≡◌, ℕ, ℤ, ◌<◌, ◌≤◌, ◌+◌, ◌*◌, ◌/◌, ◌%◌, ◌-◌, arith, sym, ap, ◌∙◌, refl, pos, negsuc, suc, ◌+ℤ◌, ◌*ℤ◌, ◌<ℤ◌, subst, unsigned_abs, ◌⊎◌, inl, inr}
use Rattle.std.specs.Int.{int_div_euclid, int_rem_euclid}
use Rattle.std.specs.declared.cmp.Ordering.{Ordering}
use Rattle.std.specs.declared.cmp.Ordering.TheVariants.{Less, Equal, Greater}
use Rattle.std.specs.Ordering.{nat_cmp, int_cmp}
use Rattle.std.specs.Cmp.{ranks, int_ranks}
use Rattle.std.specs.Ordering.{MatchOrdering}
use Rattle.std.proofs.lemmas.Int.{ints}
use borrow.Author.Differences.{up, down}
use Rattle.std.proofs.Math.Nat.{mul-le-mul_left, mul-le-mul_right}

clash : (o p : Ordering) (P Q R P' Q' R' : Type 0) → MatchOrdering o P Q R → MatchOrdering p P' Q' R' → (P → Q' → ⊥) → (P → R' → ⊥) → (Q → P' → ⊥) → (Q → R' → ⊥) → (R → P' → ⊥) → (R → Q' → ⊥) → o ≡ p
clash Less Less P Q R P' Q' R' m n a b c d e f = refl
clash Less Equal P Q R P' Q' R' m n a b c d e f = absurd (a m n)
clash Less Greater P Q R P' Q' R' m n a b c d e f = absurd (b m n)
clash Equal Less P Q R P' Q' R' m n a b c d e f = absurd (c m n)
clash Equal Equal P Q R P' Q' R' m n a b c d e f = refl
clash Equal Greater P Q R P' Q' R' m n a b c d e f = absurd (d m n)
clash Greater Less P Q R P' Q' R' m n a b c d e f = absurd (e m n)
clash Greater Equal P Q R P' Q' R' m n a b c d e f = absurd (f m n)
clash Greater Greater P Q R P' Q' R' m n a b c d e f = refl

-- two comparisons agree
pub same_cmp : (x y u v : ℕ) → (x < y → u < v) → (x ≡ y → u ≡ v) → (y < x → v < u) → nat_cmp x y ≡ nat_cmp u v
same_cmp x y u v l e g =
    clash (nat_cmp x y) (nat_cmp u v) (x < y) (x ≡ y) (y < x) (u < v) (u ≡ v) (v < u) (ranks x y) (ranks u v)
    (λ h k. omega (arith, l h)) (λ h k. omega (arith, l h))
    (λ h k. omega (arith, e h)) (λ h k. omega (arith, e h))
    (λ h k. omega (arith, g h)) (λ h k. omega (arith, g h))

pub same_int_cmp : (x y u v : ℤ) → (x <ℤ y → u <ℤ v) → (x ≡ y → u ≡ v) → (y <ℤ x → v <ℤ u) → int_cmp x y ≡ int_cmp u v
same_int_cmp x y u v l e g =
    clash (int_cmp x y) (int_cmp u v) (x <ℤ y) (x ≡ y) (y <ℤ x) (u <ℤ v) (u ≡ v) (v <ℤ u) (int_ranks x y) (int_ranks u v)
    (λ h k. let h' = l h in omega (arith, ints)) (λ h k. let h' = l h in omega (arith, ints))
    (λ h k. let h' = e h in omega (arith, ints)) (λ h k. let h' = e h in omega (arith, ints))
    (λ h k. let h' = g h in omega (arith, ints)) (λ h k. let h' = g h in omega (arith, ints))

quot_less : (a b c d q r p s : ℕ) → a ≡ b * q + r → r < b → c ≡ d * p + s → 0 < d → q < p → a * d < c * b
quot_less a b c d q r p s ea rb ec pd lt =
    let m1 : suc r * d ≤ b * d = mul-le-mul_right d rb in
    let m2 : (b * d) * suc q ≤ (b * d) * p = mul-le-mul_left (b * d) lt in
    omega (arith, ap (λ n. n * d) ea, ap (λ n. n * b) ec, m1, m2)

pub by_quotients : (a b c d : ℕ) → 0 < b → 0 < d → (a / b ≡ c / d → ⊥) → nat_cmp (a / b) (c / d) ≡ nat_cmp (a * d) (c * b)
by_quotients a b c d pb pd ne =
    same_cmp (a / b) (c / d) (a * d) (c * b)
    (λ h. quot_less a b c d (a / b) (a % b) (c / d) (c % d) (omega arith) (omega arith) (omega arith) pd h)
    (λ h. absurd (ne h))
    (λ h. quot_less c d a b (c / d) (c % d) (a / b) (a % b) (omega arith) (omega arith) (omega arith) pb h)

-- with equal quotients the remainders decide
pub by_remainders : (a b c d : ℕ) → 0 < b → 0 < d → a / b ≡ c / d → nat_cmp (a % b * d) (c % d * b) ≡ nat_cmp (a * d) (c * b)
by_remainders a b c d pb pd e =
    let ea : a * d ≡ b * (a / b) * d + a % b * d = omega (arith, ap (λ n. n * d) (div_mod a b)) in
    let ec : c * b ≡ d * (c / d) * b + c % d * b = omega (arith, ap (λ n. n * b) (div_mod c d)) in
    let ee : b * (a / b) * d ≡ d * (c / d) * b = ap (λ n. b * n * d) e ∙ omega arith in
    same_cmp (a % b * d) (c % d * b) (a * d) (c * b) (λ h. omega arith) (λ h. omega arith) (λ h. omega arith)
  where
    div_mod : (n m : ℕ) → n ≡ m * (n / m) + n % m
    div_mod n m = omega arith

-- where a remainder is 0
pub by_zero : (r b s d : ℕ) → 0 < b → 0 < d → (r ≡ 0) ⊎ (s ≡ 0) → nat_cmp r s ≡ nat_cmp (r * d) (s * b)
by_zero r b s d pb pd (inl e) =
    let m : s * 1 ≤ s * b = mul-le-mul_left s pb in
    same_cmp r s (r * d) (s * b) (λ h. omega (arith, ap (λ n. n * d) e)) (λ h. omega (arith, ap (λ n. n * d) e, ap (λ n. n * b) (sym h ∙ e))) (λ h. omega arith)
by_zero r b s d pb pd (inr e) =
    let m : r * 1 ≤ r * d = mul-le-mul_left r pd in
    same_cmp r s (r * d) (s * b) (λ h. omega arith) (λ h. omega (arith, ap (λ n. n * d) (h ∙ e), ap (λ n. n * b) e)) (λ h. omega (arith, ap (λ n. n * b) e))

pub turned : (r b s d : ℕ) → nat_cmp (d * r) (b * s) ≡ nat_cmp (r * d) (s * b)
turned r b s d = same_cmp (d * r) (b * s) (r * d) (s * b) (λ h. omega arith) (λ h. omega arith) (λ h. omega arith)

-- ---- whole numbers

pub euclid : (n : ℤ) (d : ℕ) → 0 < d → (r : ℕ) × (int_rem_euclid n (pos d) ≡ pos r) × (r < d) × (n ≡ int_div_euclid n (pos d) *ℤ pos d +ℤ pos r)
euclid (pos a) d p = (a % d, refl, omega arith, ap pos (omega arith))
euclid (negsuc a) d p =
    let q : d * (a / d) + a % d ≡ a = omega arith in
    let low : a % d < d = omega arith in
    (d - 1 - a % d, refl, omega arith, omega (arith, ints))

-- the greater quotient makes the greater number
pub int_quot_less : (a b q p : ℤ) (c d r s : ℕ) → a ≡ q *ℤ pos c +ℤ pos r → r < c → b ≡ p *ℤ pos d +ℤ pos s → 0 < d → q <ℤ p → (a *ℤ pos d) <ℤ (b *ℤ pos c)
int_quot_less a b q p c d r s ea rc eb pd lt =
    let ra : up a + down q * c ≡ down a + up q * c + r = omega (arith, ints) in
    let rb : up b + down p * d ≡ down b + up p * d + s = omega (arith, ints) in
    let order : suc (up q + down p) ≤ up p + down q = omega (arith, ints) in
    let m1 : suc r * d ≤ c * d = mul-le-mul_right d rc in
    let m2 : (c * d) * suc (up q + down p) ≤ (c * d) * (up p + down q) = mul-le-mul_left (c * d) order in
    omega (arith, ints, ap (λ n. n * d) ra, ap (λ n. n * c) rb, m1, m2)

int_quot_same : (a b q : ℤ) (c d r s : ℕ) → a ≡ q *ℤ pos c +ℤ pos r → b ≡ q *ℤ pos d +ℤ pos s → nat_cmp (r * d) (s * c) ≡ int_cmp (a *ℤ pos d) (b *ℤ pos c)
int_quot_same a b q c d r s ea eb =
    let ra : up a + down q * c ≡ down a + up q * c + r = omega (arith, ints) in
    let rb : up b + down q * d ≡ down b + up q * d + s = omega (arith, ints) in
    clash (nat_cmp (r * d) (s * c)) (int_cmp (a *ℤ pos d) (b *ℤ pos c)) (r * d < s * c) (r * d ≡ s * c) (s * c < r * d) ((a *ℤ pos d) <ℤ (b *ℤ pos c)) (a *ℤ pos d ≡ b *ℤ pos c) ((b *ℤ pos c) <ℤ (a *ℤ pos d)) (ranks (r * d) (s * c)) (int_ranks (a *ℤ pos d) (b *ℤ pos c))
    (λ h k. omega (arith, ints, ap (λ n. n * d) ra, ap (λ n. n * c) rb)) (λ h k. omega (arith, ints, ap (λ n. n * d) ra, ap (λ n. n * c) rb))
    (λ h k. omega (arith, ints, ap (λ n. n * d) ra, ap (λ n. n * c) rb)) (λ h k. omega (arith, ints, ap (λ n. n * d) ra, ap (λ n. n * c) rb))
    (λ h k. omega (arith, ints, ap (λ n. n * d) ra, ap (λ n. n * c) rb)) (λ h k. omega (arith, ints, ap (λ n. n * d) ra, ap (λ n. n * c) rb))

pub int_by_quotients : (a b c d : ℤ) → pos 0 <ℤ c → pos 0 <ℤ d → (int_div_euclid a c ≡ int_div_euclid b d → ⊥) → int_cmp (int_div_euclid a c) (int_div_euclid b d) ≡ int_cmp (a *ℤ d) (b *ℤ c)
int_by_quotients a b (negsuc c) d pc pd ne = absurd (omega (arith, ints))
int_by_quotients a b (pos c) (negsuc d) pc pd ne = absurd (omega (arith, ints))
int_by_quotients a b (pos c) (pos d) pc pd ne =
    let ea = euclid a c (omega (arith, ints)) in
    let eb = euclid b d (omega (arith, ints)) in
    same_int_cmp (int_div_euclid a (pos c)) (int_div_euclid b (pos d)) (a *ℤ pos d) (b *ℤ pos c)
    (λ h. int_quot_less a b _ _ c d ea.0 eb.0 ea.3 ea.2 eb.3 (omega (arith, ints)) h)
    (λ h. absurd (ne h))
    (λ h. int_quot_less b a _ _ d c eb.0 ea.0 eb.3 eb.2 ea.3 (omega (arith, ints)) h)

pub int_by_remainders : (a b c d : ℤ) (r s : ℕ) → pos 0 <ℤ c → pos 0 <ℤ d → int_div_euclid a c ≡ int_div_euclid b d → int_rem_euclid a c ≡ pos r → int_rem_euclid b d ≡ pos s → nat_cmp (r * unsigned_abs d) (s * unsigned_abs c) ≡ int_cmp (a *ℤ d) (b *ℤ c)
int_by_remainders a b (negsuc c) d r s pc pd e er es = absurd (omega (arith, ints))
int_by_remainders a b (pos c) (negsuc d) r s pc pd e er es = absurd (omega (arith, ints))
int_by_remainders a b (pos c) (pos d) r s pc pd e er es =
    let ea = euclid a c (omega (arith, ints)) in
    let eb = euclid b d (omega (arith, ints)) in
    let rr : ea.0 ≡ r = omega (arith, ints, er, ea.1) in
    let ss : eb.0 ≡ s = omega (arith, ints, es, eb.1) in
    int_quot_same a b (int_div_euclid a (pos c)) c d r s
    (subst (λ n. a ≡ int_div_euclid a (pos c) *ℤ pos c +ℤ pos n) rr ea.3)
    (subst (λ q. b ≡ q *ℤ pos d +ℤ pos s) (sym e) (subst (λ n. b ≡ int_div_euclid b (pos d) *ℤ pos d +ℤ pos n) ss eb.3))
