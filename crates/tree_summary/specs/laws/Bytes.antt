-- The bytes of a symbol in two lists, in one node, in none. Assumes nothing.
use Rattle.std.specs.Prelude.{ℕ, zero, suc, ◌+◌, ◌-◌, min, ◌≤◌, ◌<◌, ◌≡◌, refl, Bool, true, false, cond, ◌&&◌, ◌||◌, List, [], ◌∷◌, ◌++◌, leb, ltb}
use Rattle.std.proofs.Common.{ap, ap₂, ◌∙◌, sym as flip, arith, le-leb, leb-true, leb-false, lt-ltb, ltb-true, ltb-false, eqb-true}
use Rattle.base_facts.specs.laws.Bools.{and_parts, and_both, or-false}
use Rattle.match_meaning.specs.Meaning.{Node}
use Rattle.tree_summary.specs.Summary.{is_of, lies_in, covered_of}

-- ── byte i lies between p and q ──
abbrev pub in_span : ℕ → ℕ → ℕ → Bool
in_span p q i = leb p i && ltb i q

pub in-span : (p q i : ℕ) → in_span p q i ≡ true → (p ≤ i) × (i < q)
in-span p q i e =
    let a : (leb p i ≡ true) × (ltb i q ≡ true) = and_parts (leb p i) (ltb i q) e in
    (leb-true p i a.0, ltb-true i q a.1)

pub spanned : (p q i : ℕ) → p ≤ i → i < q → in_span p q i ≡ true
spanned p q i h l = and_both (leb p i) (ltb i q) (le-leb p i h) (lt-ltb i q l)

-- ── the bytes of two lists ──
or_assoc : (a b c : Bool) → ((a || b) || c) ≡ (a || (b || c))
or_assoc true b c = refl
or_assoc false b c = refl

pub lies-append : (r : ℕ) (xs ys : List Node) (i : ℕ) → lies_in r (xs ++ ys) i ≡ (lies_in r xs i || lies_in r ys i)
unfolding lies_in
lies-append r [] ys i = refl
lies-append r (x ∷ xs) ys i =
    let here : Bool = is_of r x && in_span x.start x.end i in
    ap (λ (b : Bool). here || b) (lies-append r xs ys i) ∙ flip (or_assoc here (lies_in r xs i) (lies_in r ys i))

-- lists that have the same bytes
pub same_bytes : (n r : ℕ) (xs ys : List Node) → ((i : ℕ) → lies_in r xs i ≡ lies_in r ys i) → covered_of n r xs ≡ covered_of n r ys
unfolding covered_of
same_bytes zero r xs ys f = refl
same_bytes (suc n) r xs ys f = ap₂ (λ (b : Bool) (c : ℕ). cond b (suc c) c) (f n) (same_bytes n r xs ys f)

-- the second has no byte that the first has not
absorbed : (a b : Bool) → (b ≡ true → a ≡ true) → (a || b) ≡ a
absorbed true b f = refl
absorbed false true f = flip (f refl)
absorbed false false f = refl

pub nothing-new : (n r : ℕ) (xs ys : List Node) → ((i : ℕ) → lies_in r ys i ≡ true → lies_in r xs i ≡ true) → covered_of n r (xs ++ ys) ≡ covered_of n r xs
nothing-new n r xs ys f = same_bytes n r (xs ++ ys) xs (λ i. lies-append r xs ys i ∙ absorbed (lies_in r xs i) (lies_in r ys i) (f i))

-- they have no byte in common
sum_by : (a b : Bool) (c d : ℕ) → (a ≡ true → b ≡ true → ⊥) → cond (a || b) (suc (c + d)) (c + d) ≡ cond a (suc c) c + cond b (suc d) d
sum_by true true c d f = absurd (f refl refl)
sum_by true false c d f = omega arith
sum_by false true c d f = omega arith
sum_by false false c d f = refl

pub apart : (n r : ℕ) (xs ys : List Node) → ((i : ℕ) → lies_in r xs i ≡ true → lies_in r ys i ≡ true → ⊥)
    → covered_of n r (xs ++ ys) ≡ covered_of n r xs + covered_of n r ys
unfolding covered_of
apart zero r xs ys f = refl
apart (suc n) r xs ys f =
    ap₂ (λ (b : Bool) (c : ℕ). cond b (suc c) c) (lies-append r xs ys n) (apart n r xs ys f)
    ∙ sum_by (lies_in r xs n) (lies_in r ys n) (covered_of n r xs) (covered_of n r ys) (f n)

-- ── the bytes of no node, and of one ──
pub no_node : (n r : ℕ) → covered_of n r [] ≡ 0
unfolding covered_of lies_in
no_node zero r = refl
no_node (suc n) r = no_node n r

pub lies-one : (r : ℕ) (x : Node) (i : ℕ) → lies_in r (x ∷ []) i ≡ true → (x.symbol ≡ r) × (x.start ≤ i) × (i < x.end)
unfolding lies_in
lies-one r x i e =
    let a : (is_of r x ≡ true) × (in_span x.start x.end i ≡ true) = and_parts (is_of r x) _ (flip (or-false _) ∙ e) in
    let b : (x.start ≤ i) × (i < x.end) = in-span x.start x.end i a.1 in
    (eqb-true x.symbol r a.0, b.0, b.1)

span-by : (p q n c : ℕ) (a b : Bool) → leb p n ≡ a → ltb n q ≡ b → c ≡ min q n - p → cond (a && b) (suc c) c ≡ min q (suc n) - p
span-by p q n c true true e f h = omega (arith, leb-true p n e, ltb-true n q f, h)
span-by p q n c true false e f h = omega (arith, ltb-false n q f, h)
span-by p q n c false b e f h = omega (arith, leb-false p n e, h)

pub one-node : (n r : ℕ) (x : Node) → is_of r x ≡ true → covered_of n r (x ∷ []) ≡ min x.end n - x.start
unfolding covered_of lies_in
one-node zero r x e = omega arith
one-node (suc n) r x e =
    rw (e, or-false) (span-by x.start x.end n (covered_of n r (x ∷ [])) (leb x.start n) (ltb n x.end) refl refl (one-node n r x e))
