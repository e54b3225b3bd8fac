-- What the byte at a place decides, operator by operator. Assumes nothing.
use Prim.Native.Nat.{ℕ, zero, suc, ◌+◌, ◌-◌, ◌≤◌, ◌<◌}
use Rattle.std.specs.Prelude.{◌≡◌, Bool, true, false, not, List, eqb, ltb, length, get_or}
use Rattle.std.proofs.Math.Path.{refl, ap, sym as flip}
use Rattle.std.proofs.Common.{◌∙◌, subst, ⊎_elim, ltb-true, ltb-false, eq-eqb, ne_eqb}
use native.Mathlib.Omega.{arith}
use Rattle.std.proofs.Math.ListN.{get_or-eq_default}
use Rattle.base_facts.specs.laws.Numbers.{lt-or-ge}
use Rattle.read_tokens.specs.Token.{Leaf, any, literal, class}
use Rattle.grammar.specs.Exp.{Exp, sym, ter, seq, alt, opt, star, plus, ahead, never}
use Rattle.grammar_table.specs.Table.{op_of, left_of, right_of, leaf_in, node_by, words_from, marks_from}
use Rattle.grammar_table.specs.Trees.{tree_of, below}
use Rattle.grammar_table.specs.laws.Trees.{node_at, node-never}
use Rattle.grammar_table.specs.laws.Places.{get_d_any}
use Rattle.grammar_table.specs.laws.Leaves.{marks-at, words-length}
use Rattle.match_eval.specs.Eval.{join_of, seq_of, alt_of, opt_of, ahead_of, never_of, ev, leaf_at}
use Rattle.match_eval.proofs.laws.EvalSteps.{any-takes, literal-takes, literal-fails, class-takes, class-fails, cell-is, rep-ends, plus-ends}
use Rattle.match_eval.proofs.laws.Leaves.{lit-ends, lit-differs, lit-goes, lit-done}
use Rattle.match_firsts.specs.declared.Decided.{Decided}
use Rattle.match_firsts.specs.declared.Decided.TheVariants.{Fails, Empty, Takes}
use Rattle.match_firsts.specs.steps.Firm.{Firm}
use Rattle.match_firsts.specs.steps.Taken.{taken_of}
use Rattle.match_eval.specs.steps.Firsts.{byte_at, word_of, LeafSure, Sure, Guards}

pub taken-small : (v : Decided) → taken_of v < 3
taken-small Fails = omega arith
taken-small Empty = omega arith
taken-small Takes = omega arith

pub not-fails : (v : Decided) → (v ≡ Fails → ⊥) → taken_of v ≡ 0 → ⊥
not-fails Fails f e = f refl
not-fails Empty f e = omega (arith, e)
not-fails Takes f e = omega (arith, e)

pub not-takes : (v : Decided) → (v ≡ Takes → ⊥) → taken_of v ≤ 1
not-takes Fails f = omega arith
not-takes Empty f = omega arith
not-takes Takes f = absurd (f refl)

-- a byte stands within the text
inside : (s : List ℕ) (p b : ℕ) → byte_at s p ≡ b → b < 256 → p < length s
inside s p b e l = ⊎_elim (λ h. h) (λ h. absurd (omega (arith, e, l, get_or-eq_default s 256 {n = p} h))) (lt-or-ge p (length s))

byte-is : (s : List ℕ) (p b : ℕ) → byte_at s p ≡ b → p < length s → get_or s p 0 ≡ b
byte-is s p b e l = get_d_any s p 0 256 l ∙ e

-- ── terminals ──
pub any-sure : (b : ℕ) → b < 256 → LeafSure b any 2
any-sure b l s p e = flip (any-takes s p (inside s p b e l))

pub empty-sure : (t : List ℕ) (i n b : ℕ) → n ≡ 0 → LeafSure b (literal (words_from t i n)) 1
empty-sure t i n b z s p e =
    let k : length (words_from t i n) + 1 ≡ 1 = omega (arith, words-length t i n, z) in
    flip (literal-takes s p (words_from t i n) (lit-done s t p i n (omega (arith, z)))) ∙ k

-- a literal that begins with another byte
pub literal-off : (t : List ℕ) (i n b c : ℕ) → 0 < n → c ≡ get_or t i 0 → (b ≡ c → ⊥) → LeafSure b (literal (words_from t i n)) 0
literal-off t i n b c m h f s p e = go (ltb p (length s)) refl
  where
    go : (d : Bool) → ltb p (length s) ≡ d → leaf_at s (literal (words_from t i n)) p ≡ 0
    go true g =
        let l : p < length s = ltb-true p (length s) g in
        flip (literal-fails s p (words_from t i n) (lit-differs s t p i n m b c l (flip (byte-is s p b e l)) h f))
    go false g = flip (literal-fails s p (words_from t i n) (lit-ends s t p i n m (ltb-false p (length s) g)))

-- a literal that is the byte
pub literal-sure : (t : List ℕ) (i n b c : ℕ) → n ≡ 1 → c ≡ get_or t i 0 → b ≡ c → b < 256 → LeafSure b (literal (words_from t i n)) 2
literal-sure t i n b c m h f g s p e =
    let l : p < length s = inside s p b e g in
    let k : length (words_from t i n) + 1 ≡ 2 = omega (arith, words-length t i n, m) in
    flip (literal-takes s p (words_from t i n) (lit-done s t (p + 1) (i + 1) (n - 1) (omega (arith, m)) ∙ lit-goes s t p i n (omega (arith, m)) b c l (flip (byte-is s p b e l)) h f)) ∙ k

module _ (t : List ℕ) (i b : ℕ) (l : b < 256) (s : List ℕ) (p : ℕ) (e : byte_at s p ≡ b) where
  mark-is : (c : Bool) → eqb (get_or t (i + b) 0) 0 ≡ c → get_or (marks_from t i 256) (get_or s p 0) false ≡ not c
  mark-is c h = ap (λ (v : ℕ). get_or (marks_from t i 256) v false) (byte-is s p b e (inside s p b e l)) ∙ marks-at t i 256 b l ∙ ap not h

pub class-off : (t : List ℕ) (i b : ℕ) → b < 256 → get_or t (i + b) 0 ≡ 0 → LeafSure b (class (marks_from t i 256)) 0
class-off t i b l z s p e =
    flip (class-fails s p (marks_from t i 256) (inside s p b e l) (mark-is t i b l s p e true (eq-eqb (get_or t (i + b) 0) 0 z)))

pub class-sure : (t : List ℕ) (i b : ℕ) → b < 256 → (get_or t (i + b) 0 ≡ 0 → ⊥) → LeafSure b (class (marks_from t i 256)) 2
class-sure t i b l z s p e =
    flip (class-takes s p (marks_from t i 256) (inside s p b e l) (mark-is t i b l s p e false (ne_eqb (get_or t (i + b) 0) 0 z)))

-- ── operators ──
module _ (t mem : List ℕ) (n b : ℕ) where
  leaf-sure : (x : Leaf) (v : ℕ) → LeafSure b x v → Sure t mem n b (ter x) v
  unfolding ev
  leaf-sure x v h s cs p e w = h s p e

  pub symbol-sure : (r v : ℕ) → r < n → b < 256 → v < 3 → word_of t mem b r ≡ suc v → Sure t mem n b (sym r) v
  unfolding ev
  symbol-sure r v l h z u s cs p e w =
      let q : word_of t mem (byte_at s p) r ≡ suc v = ap (λ (j : ℕ). word_of t mem j r) e ∙ u in
      flip (cell-is s cs n r p v l (flip (w r v l q)) (omega (arith, inside s p b e h, z)))

  seq-off : (a d : Exp ℕ) → Sure t mem n b a 0 → Sure t mem n b (seq a d) 0
  unfolding ev seq_of
  seq-off a d h s cs p e w = ap (λ (x : ℕ). seq_of x (λ m. ev s cs n d (p + m))) (h s cs p e w)

  join-none : (v : ℕ) → join_of 0 v ≡ v
  unfolding join_of
  join-none zero = refl
  join-none (suc v) = omega arith

  seq-next : (a d : Exp ℕ) (v : ℕ) → Sure t mem n b a 1 → Sure t mem n b d v → Sure t mem n b (seq a d) v
  unfolding ev seq_of
  seq-next a d v h g s cs p e w =
      let z : p + 0 ≡ p = omega arith in
      ap (λ (x : ℕ). seq_of x (λ m. ev s cs n d (p + m))) (h s cs p e w) ∙ join-none (ev s cs n d (p + 0)) ∙ ap (λ (q : ℕ). ev s cs n d q) z ∙ g s cs p e w

  after-guard : (x : ℕ) (k : ℕ → ℕ) → x ≤ 1 → k 0 ≡ 0 → seq_of x k ≡ 0
  unfolding seq_of join_of
  after-guard zero k h w = refl
  after-guard (suc zero) k h w = ap (join_of 0) w
  after-guard (suc (suc x)) k h w = absurd (omega arith)

  guard-off : (a d : Exp ℕ) → Guards a → Sure t mem n b d 0 → Sure t mem n b (seq a d) 0
  unfolding ev
  guard-off a d g h s cs p e w =
      let z : p + 0 ≡ p = omega arith in
      after-guard (ev s cs n a p) (λ m. ev s cs n d (p + m)) (g s cs n p) (ap (λ (q : ℕ). ev s cs n d q) z ∙ h s cs p e w)

  alt-both : (a d : Exp ℕ) (v : ℕ) → Sure t mem n b a 0 → Sure t mem n b d v → Sure t mem n b (alt a d) v
  unfolding ev alt_of
  alt-both a d v h g s cs p e w = ap (λ (x : ℕ). alt_of x (λ m. ev s cs n d p)) (h s cs p e w) ∙ g s cs p e w

  alt-one : (a d : Exp ℕ) (v : ℕ) → (v ≡ 0 → ⊥) → Sure t mem n b a v → Sure t mem n b (alt a d) v
  unfolding ev alt_of
  alt-one a d zero f h s cs p e w = absurd (f refl)
  alt-one a d (suc v) f h s cs p e w = ap (λ (x : ℕ). alt_of x (λ m. ev s cs n d p)) (h s cs p e w)

  opt-sure : (a : Exp ℕ) (v r : ℕ) → r ≡ opt_of v → Sure t mem n b a v → Sure t mem n b (opt a) r
  unfolding ev
  opt-sure a v r q h s cs p e w = ap opt_of (h s cs p e w) ∙ flip q

  star-sure : (a : Exp ℕ) (v : ℕ) → v ≤ 1 → Sure t mem n b a v → Sure t mem n b (star a) 1
  unfolding ev
  star-sure a v l h s cs p e w = ap suc (flip (rep-ends (λ q. ev s cs n a q) (length s) p v (flip (h s cs p e w)) l))

  plus-sure : (a : Exp ℕ) (v : ℕ) → v ≤ 1 → Sure t mem n b a v → Sure t mem n b (plus a) v
  unfolding ev
  plus-sure a v l h s cs p e w = flip (plus-ends (λ q. ev s cs n a q) (length s) p v (flip (h s cs p e w)) l)

  ahead-sure : (a : Exp ℕ) (v r : ℕ) → r ≡ ahead_of v → Sure t mem n b a v → Sure t mem n b (ahead a) r
  unfolding ev
  ahead-sure a v r q h s cs p e w = ap ahead_of (h s cs p e w) ∙ flip q

  ahead-some : (v : ℕ) → (v ≡ 0 → ⊥) → ahead_of v ≡ 1
  unfolding ahead_of
  ahead-some zero f = absurd (f refl)
  ahead-some (suc v) f = refl

  ahead-firm : (a : Exp ℕ) → Firm a → Sure t mem n b (ahead a) 1
  unfolding ev
  ahead-firm a h s cs p e w = ahead-some (ev s cs n a p) (h s cs n p)

  never-some : (v : ℕ) → (v ≡ 0 → ⊥) → never_of v ≡ 0
  unfolding never_of
  never-some zero f = absurd (f refl)
  never-some (suc v) f = refl

  never-firm : (a : Exp ℕ) → Firm a → Sure t mem n b (never a) 0
  unfolding ev
  never-firm a h s cs p e w = never-some (ev s cs n a p) (h s cs n p)

  never-sure : (a : Exp ℕ) (v r : ℕ) → r ≡ never_of v → Sure t mem n b a v → Sure t mem n b (never a) r
  unfolding ev
  never-sure a v r q h s cs p e w = ap never_of (h s cs p e w) ∙ flip q

  pub dot-sure : (x : ℕ) → x ≡ 0 → b < 256 → Sure t mem n b (tree_of t x) 2
  dot-sure x z l = subst (λ (j : ℕ). Sure t mem n b (tree_of t j) 2) (flip z) (leaf-sure any 2 (any-sure b l))

-- ── by the words of a table: k the kind, l the left ──
module _ (t mem : List ℕ) (n b x k l : ℕ) (f : x ≡ 0 → ⊥) (ka : k ≡ op_of t (x - 1)) (la : l ≡ left_of t (x - 1)) where
  abbrev right_part : ℕ
  right_part = right_of t (x - 1)

  abbrev part_of : ℕ → Exp ℕ
  part_of i = tree_of t (below i (x - 1))

  by-node : (j v : ℕ) → k ≡ j → Sure t mem n b (node_by j l right_part (leaf_in t) part_of) v → Sure t mem n b (tree_of t x) v
  by-node j v e h =
      subst (λ (y : Exp ℕ). Sure t mem n b y v) (ap (λ (i : ℕ). node_by i l right_part (leaf_in t) part_of) (flip e) ∙ node_at t x k l right_part f ka la refl) h

  pub sure-leaf : (v : ℕ) → k ≡ 0 → LeafSure b (leaf_in t l) v → Sure t mem n b (tree_of t x) v
  unfolding node_by
  sure-leaf v e h = by-node 0 v e (leaf-sure t mem n b (leaf_in t l) v h)

  pub sure-symbol : (v : ℕ) → k ≡ 1 → Sure t mem n b (sym l) v → Sure t mem n b (tree_of t x) v
  unfolding node_by
  sure-symbol v e h = by-node 1 v e h

  pub sure-left : k ≡ 2 → Sure t mem n b (part_of l) 0 → Sure t mem n b (tree_of t x) 0
  unfolding node_by
  sure-left e h = by-node 2 0 e (seq-off t mem n b (part_of l) (part_of right_part) h)

  pub sure_next : (v : ℕ) → k ≡ 2 → Sure t mem n b (part_of l) 1 → Sure t mem n b (part_of right_part) v → Sure t mem n b (tree_of t x) v
  unfolding node_by
  sure_next v e h g = by-node 2 v e (seq-next t mem n b (part_of l) (part_of right_part) v h g)

  pub sure-guard : k ≡ 2 → Guards (part_of l) → Sure t mem n b (part_of right_part) 0 → Sure t mem n b (tree_of t x) 0
  unfolding node_by
  sure-guard e g h = by-node 2 0 e (guard-off t mem n b (part_of l) (part_of right_part) g h)

  pub sure-one : (v : ℕ) → k ≡ 3 → (v ≡ 0 → ⊥) → Sure t mem n b (part_of l) v → Sure t mem n b (tree_of t x) v
  unfolding node_by
  sure-one v e z h = by-node 3 v e (alt-one t mem n b (part_of l) (part_of right_part) v z h)

  pub sure-both : (v : ℕ) → k ≡ 3 → Sure t mem n b (part_of l) 0 → Sure t mem n b (part_of right_part) v → Sure t mem n b (tree_of t x) v
  unfolding node_by
  sure-both v e g h = by-node 3 v e (alt-both t mem n b (part_of l) (part_of right_part) v g h)

  pub sure-option : (v r : ℕ) → k ≡ 4 → r ≡ opt_of v → Sure t mem n b (part_of l) v → Sure t mem n b (tree_of t x) r
  unfolding node_by
  sure-option v r e q h = by-node 4 r e (opt-sure t mem n b (part_of l) v r q h)

  pub sure-star : (v : ℕ) → k ≡ 5 → v ≤ 1 → Sure t mem n b (part_of l) v → Sure t mem n b (tree_of t x) 1
  unfolding node_by
  sure-star v e z h = by-node 5 1 e (star-sure t mem n b (part_of l) v z h)

  pub sure-plus : (v : ℕ) → k ≡ 6 → v ≤ 1 → Sure t mem n b (part_of l) v → Sure t mem n b (tree_of t x) v
  unfolding node_by
  sure-plus v e z h = by-node 6 v e (plus-sure t mem n b (part_of l) v z h)

  pub sure-ahead : (v r : ℕ) → k ≡ 7 → r ≡ ahead_of v → Sure t mem n b (part_of l) v → Sure t mem n b (tree_of t x) r
  unfolding node_by
  sure-ahead v r e q h = by-node 7 r e (ahead-sure t mem n b (part_of l) v r q h)

  pub sure-never : (v r : ℕ) → (k ≡ 0 → ⊥) → (k ≡ 1 → ⊥) → (k ≡ 2 → ⊥) → (k ≡ 3 → ⊥) → (k ≡ 4 → ⊥) → (k ≡ 5 → ⊥) → (k ≡ 6 → ⊥) → (k ≡ 7 → ⊥)
      → r ≡ never_of v → Sure t mem n b (part_of l) v → Sure t mem n b (tree_of t x) r
  sure-never v r a c d g i j m o q h =
      by-node k r refl (subst (λ (y : Exp ℕ). Sure t mem n b y r) (node-never k l right_part (leaf_in t) part_of a c d g i j m o) (never-sure t mem n b (part_of l) v r q h))

  pub firm-ahead : k ≡ 7 → Firm (part_of l) → Sure t mem n b (tree_of t x) 1
  unfolding node_by
  firm-ahead e h = by-node 7 1 e (ahead-firm t mem n b (part_of l) h)

  pub firm-never : (k ≡ 0 → ⊥) → (k ≡ 1 → ⊥) → (k ≡ 2 → ⊥) → (k ≡ 3 → ⊥) → (k ≡ 4 → ⊥) → (k ≡ 5 → ⊥) → (k ≡ 6 → ⊥) → (k ≡ 7 → ⊥)
      → Firm (part_of l) → Sure t mem n b (tree_of t x) 0
  firm-never a c d g i j m o h =
      by-node k 0 refl (subst (λ (y : Exp ℕ). Sure t mem n b y 0) (node-never k l right_part (leaf_in t) part_of a c d g i j m o) (never-firm t mem n b (part_of l) h))

-- ── what cannot fail ──
opt-some : (v : ℕ) → opt_of v ≡ 0 → ⊥
unfolding opt_of
opt-some zero e = omega (arith, e)
opt-some (suc v) e = omega (arith, e)

-- options and stars match wherever they are tried
pub firm-option : (t : List ℕ) (x k : ℕ) → (x ≡ 0 → ⊥) → k ≡ op_of t (x - 1) → k ≡ 4 → Firm (tree_of t x)
unfolding node_by ev
firm-option t x k f ka e =
    subst Firm (ap (λ (i : ℕ). node_by i (left_of t (x - 1)) (right_of t (x - 1)) (leaf_in t) (λ i. tree_of t (below i (x - 1)))) (flip e)
    ∙ node_at t x k (left_of t (x - 1)) (right_of t (x - 1)) f ka refl refl)
    (λ s cs n p. opt-some (ev s cs n (tree_of t (below (left_of t (x - 1)) (x - 1))) p))

pub firm-star : (t : List ℕ) (x k : ℕ) → (x ≡ 0 → ⊥) → k ≡ op_of t (x - 1) → k ≡ 5 → Firm (tree_of t x)
unfolding node_by ev
firm-star t x k f ka e =
    subst Firm (ap (λ (i : ℕ). node_by i (left_of t (x - 1)) (right_of t (x - 1)) (leaf_in t) (λ i. tree_of t (below i (x - 1)))) (flip e)
    ∙ node_at t x k (left_of t (x - 1)) (right_of t (x - 1)) f ka refl refl)
    (λ s cs n p h. omega (arith, h))

pub firm-either : (t : List ℕ) (x k : ℕ) → (x ≡ 0 → ⊥) → k ≡ op_of t (x - 1) → 4 ≤ k → k ≤ 5 → Firm (tree_of t x)
firm-either t x k f ka l m = ⊎_elim (λ h. firm-option t x k f ka (omega arith)) (λ h. firm-star t x k f ka (omega arith)) (lt-or-ge k 5)

-- ── guards ──
ahead_small : (x : ℕ) → ahead_of x ≤ 1
unfolding ahead_of
ahead_small zero = omega arith
ahead_small (suc x) = omega arith

never-small : (x : ℕ) → never_of x ≤ 1
unfolding never_of
never-small zero = omega arith
never-small (suc x) = omega arith

-- every kind from 7 on is a guard
guards-by : (k l r : ℕ) (leaf : ℕ → Leaf) (part : ℕ → Exp ℕ) → 7 ≤ k → Guards (node_by k l r leaf part)
unfolding node_by ev
guards-by zero l r leaf part h s cs n p = absurd (omega arith)
guards-by (suc zero) l r leaf part h s cs n p = absurd (omega arith)
guards-by (suc (suc zero)) l r leaf part h s cs n p = absurd (omega arith)
guards-by (suc (suc (suc zero))) l r leaf part h s cs n p = absurd (omega arith)
guards-by (suc (suc (suc (suc zero)))) l r leaf part h s cs n p = absurd (omega arith)
guards-by (suc (suc (suc (suc (suc zero))))) l r leaf part h s cs n p = absurd (omega arith)
guards-by (suc (suc (suc (suc (suc (suc zero)))))) l r leaf part h s cs n p = absurd (omega arith)
guards-by (suc (suc (suc (suc (suc (suc (suc zero))))))) l r leaf part h s cs n p = ahead_small (ev s cs n (part l) p)
guards-by (suc (suc (suc (suc (suc (suc (suc (suc k)))))))) l r leaf part h s cs n p = never-small (ev s cs n (part l) p)

pub guards-node : (t : List ℕ) (x k : ℕ) → (x ≡ 0 → ⊥) → k ≡ op_of t (x - 1) → 7 ≤ k → Guards (tree_of t x)
guards-node t x k f ka h =
    subst Guards (node_at t x k (left_of t (x - 1)) (right_of t (x - 1)) f ka refl refl)
    (guards-by k (left_of t (x - 1)) (right_of t (x - 1)) (leaf_in t) (λ i. tree_of t (below i (x - 1))) h)
