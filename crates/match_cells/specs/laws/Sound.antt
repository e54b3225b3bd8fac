-- What `ev` says is the meaning, operator by operator: there is a derivation at every depth.
-- Assumes nothing.
use Prim.Native.Nat.{ℕ, zero, suc, ◌+◌, ◌-◌, ◌*◌, ◌≤◌, ◌<◌}
use Rattle.std.specs.Prelude.{◌≡◌, Bool, true, false, cond, ◌&&◌, List, [], ◌∷◌, ◌++◌, ltb, leb, eqb, get_or}
use Rattle.std.proofs.Math.Path.{refl}
use Rattle.std.proofs.Common.{subst, ◌∙◌, sym as flip, true≢false, arith, ltb-true, ltb-false, leb-false, eqb-true, lt-ltb, eq-eqb}
use Rattle.std.proofs.lemmas.Bool.{false≢true}
use Rattle.std.proofs.Math.Option.{none}
use Rattle.std.proofs.Math.ListN.{length, get_or-eq_default}
use Rattle.base_facts.specs.laws.Bools.{and_parts}
use Rattle.read_tokens.specs.Token.{Leaf, any, literal, class}
use Rattle.grammar.specs.Exp.{Exp, sym, ter, seq, alt, opt, star, plus, ahead, never}
use Rattle.match_meaning.specs.Meaning.{
  Meant,
  Node,
  nd,
  rule,
  Here,
  Marked,
  any-takes,
  any-fails,
  lit-takes,
  lit-fails,
  cls-takes,
  cls-fails,
  sym-takes,
  sym-fails,
  seq-fails,
  seq-fails-later,
  seq-takes,
  alt-first,
  alt-second,
  star-ends,
  star-idles,
  star-goes,
  plus-fails,
  plus-takes,
  opt-skips,
  opt-takes,
  ahead-fails,
  ahead-takes,
  never-takes,
  never-fails,
  by-rule,
  Derives,
}
use Rattle.match_meaning.proofs.laws.Shape.{within}
use Rattle.match_eval.specs.Eval.{nowhere, body_of, stands, leaf_at, cell_at, join_of, seq_of, alt_of, step_of, rep, plus_of, opt_of, ahead_of, never_of}

-- the grammar that a list of plain bodies is
abbrev pub plainly : List (Exp ℕ) → Meant
plainly bodies = record { body = λ (r : ℕ). rule (body_of bodies r); water = none }

-- a derivation at every depth, with whatever nodes
abbrev pub Means : List (Exp ℕ) → List ℕ → Exp ℕ → ℕ → ℕ → Type 0
Means bodies s e p x = (d : ℕ) → (ns : List Node) × Derives (plainly bodies) s d e p x ns

pub here-stands : (s bs : List ℕ) (p : ℕ) → Here s p bs → stands s p bs ≡ true
unfolding stands
here-stands s [] p h = refl
here-stands s (b ∷ bs) p h = rw (lt-ltb p (length s) h.0, eq-eqb (get_or s p 0) b h.1) (here-stands s bs (suc p) h.2)

pub stands_here : (s bs : List ℕ) (p : ℕ) → stands s p bs ≡ true → Here s p bs
unfolding stands
stands_here s [] p h = tt
stands_here s (b ∷ bs) p h =
    let k : (ltb p (length s) ≡ true) × ((eqb (get_or s p 0) b && stands s (suc p) bs) ≡ true) = and_parts (ltb p (length s)) (eqb (get_or s p 0) b && stands s (suc p) bs) h in
    let l : (eqb (get_or s p 0) b ≡ true) × (stands s (suc p) bs ≡ true) = and_parts (eqb (get_or s p 0) b) (stands s (suc p) bs) k.1 in
    (ltb-true p (length s) k.0, eqb-true (get_or s p 0) b l.0, stands_here s bs (suc p) l.1)

module _ (bodies : List (Exp ℕ)) (s : List ℕ) where
  pub sym-is : (r p x : ℕ) → Means bodies s (body_of bodies r) p x → Means bodies s (sym r) p x
  sym-is r p zero t d = ([], sym-fails {r = r} (by-rule (t (suc d)).1))
  sym-is r p (suc m) t d = (nd r p (p + m) d ∷ (t (suc d)).0, sym-takes {r = r} (by-rule (t (suc d)).1))

  any-sound : (p : ℕ) (b : Bool) → ltb p (length s) ≡ b → Means bodies s (ter any) p (cond b 2 0)
  any-sound p true h d = ([], any-takes (ltb-true p (length s) h))
  any-sound p false h d = ([], any-fails (ltb-false p (length s) h))

  lit-sound : (bs : List ℕ) (p : ℕ) (b : Bool) → stands s p bs ≡ b → Means bodies s (ter (literal bs)) p (cond b (suc (length bs)) 0)
  lit-sound bs p true h d = ([], lit-takes (stands_here s bs p h))
  lit-sound bs p false h d = ([], lit-fails (λ k. true≢false (flip (here-stands s bs p k) ∙ h)))

  cls-sound : (m : List Bool) (p : ℕ) (b c : Bool) → ltb p (length s) ≡ b → get_or m (get_or s p 0) false ≡ c → Means bodies s (ter (class m)) p (cond (b && c) 2 0)
  cls-sound m p true true h g d = ([], cls-takes (ltb-true p (length s) h, g))
  cls-sound m p true false h g d = ([], cls-fails (λ k. true≢false (flip k.1 ∙ g)))
  cls-sound m p false c h g d = ([], cls-fails {m = m} (past (ltb-false p (length s) h)))
    where
      past : length s ≤ p → Marked s p m → ⊥
      past l k = omega (arith, k.0)

  pub leaf-sound : (x : Leaf) (p : ℕ) → Means bodies s (ter x) p (leaf_at s x p)
  unfolding leaf_at
  leaf-sound any p = any-sound p (ltb p (length s)) refl
  leaf-sound (literal bs) p = lit-sound bs p (stands s p bs) refl
  leaf-sound (class m) p = cls-sound m p (ltb p (length s)) (get_or m (get_or s p 0) false) refl refl

  join-sound : (a b : Exp ℕ) (p m y : ℕ) → Means bodies s a p (suc m) → Means bodies s b (p + m) y → Means bodies s (seq a b) p (join_of m y)
  unfolding join_of
  join-sound a b p m zero t u d = ([], seq-fails-later (t d).1 (u d).1)
  join-sound a b p m (suc k) t u d = ((t d).0 ++ (u d).0, seq-takes (t d).1 (u d).1)

  pub seq-sound : (a b : Exp ℕ) (p x : ℕ) (k : ℕ → ℕ) → Means bodies s a p x → ((m : ℕ) → x ≡ suc m → Means bodies s b (p + m) (k m)) → Means bodies s (seq a b) p (seq_of x k)
  unfolding seq_of
  seq-sound a b p zero k t e d = ([], seq-fails (t d).1)
  seq-sound a b p (suc m) k t e d = join-sound a b p m (k m) t (e m refl) d

  pub alt-sound : (a b : Exp ℕ) (p x : ℕ) (k : ℕ → ℕ) → Means bodies s a p x → Means bodies s b p (k 0) → Means bodies s (alt a b) p (alt_of x k)
  unfolding alt_of
  alt-sound a b p zero k t e d = ((e d).0, alt-second (t d).1 (e d).1)
  alt-sound a b p (suc m) k t e d = ((t d).0, alt-first (t d).1)

  step-sound : (a : Exp ℕ) (p x : ℕ) (k : ℕ → ℕ) → Means bodies s a p x → ((m : ℕ) → x ≡ suc (suc m) → Means bodies s (star a) (p + suc m) (suc (k (suc m)))) → Means bodies s (star a) p (suc
      (step_of x k))
  unfolding step_of
  step-sound a p zero k t e d = ([], star-ends (t d).1)
  step-sound a p (suc zero) k t e d = ([], star-idles (t d).1)
  step-sound a p (suc (suc m)) k t e d = ((t d).0 ++ (e m refl d).0, star-goes (t d).1 (e m refl d).1)

  last-sound : (a : Exp ℕ) (p x : ℕ) → x ≤ 1 → Means bodies s a p x → Means bodies s (star a) p 1
  last-sound a p zero h t d = ([], star-ends (t d).1)
  last-sound a p (suc zero) h t d = ([], star-idles (t d).1)
  last-sound a p (suc (suc x)) h t d = absurd (omega arith)

  -- j rounds are enough where no more bytes are left
  pub rep-sound : (a : Exp ℕ) (f : ℕ → ℕ) (from : ℕ) → ((q : ℕ) → from ≤ q → q ≤ length s → Means bodies s a q (f q))
      → (j p : ℕ) → from ≤ p → p ≤ length s → length s ≤ j + p → Means bodies s (star a) p (suc (rep j f p))
  unfolding rep
  rep-sound a f from t zero p l h g = last-sound a p (f p) (omega (arith, within (plainly bodies) s (t p l h 0).1 h)) (t p l h)
  rep-sound a f from t (suc j) p l h g =
      step-sound a p (f p) (λ m. rep j f (p + m)) (t p l h)
      (λ m e. rep-sound a f from t j (p + suc m) (omega arith) (omega (arith, within (plainly bodies) s (t p l h 0).1 h)) (omega arith))

  pub plus-sound : (a : Exp ℕ) (p x : ℕ) (k : ℕ → ℕ) → Means bodies s a p x → ((m : ℕ) → x ≡ suc m → Means bodies s (star a) (p + m) (suc (k m))) → Means bodies s (plus a) p (plus_of x k)
  unfolding plus_of
  plus-sound a p zero k t e d = ([], plus-fails (t d).1)
  plus-sound a p (suc m) k t e d = ((t d).0 ++ (e m refl d).0, plus-takes (t d).1 (e m refl d).1)

  pub opt-sound : (a : Exp ℕ) (p x : ℕ) → Means bodies s a p x → Means bodies s (opt a) p (opt_of x)
  unfolding opt_of
  opt-sound a p zero t d = ([], opt-skips (t d).1)
  opt-sound a p (suc m) t d = ((t d).0, opt-takes (t d).1)

  pub ahead-sound : (a : Exp ℕ) (p x : ℕ) → Means bodies s a p x → Means bodies s (ahead a) p (ahead_of x)
  unfolding ahead_of
  ahead-sound a p zero t d = ([], ahead-fails (t d).1)
  ahead-sound a p (suc m) t d = ([], ahead-takes (t d).1)

  pub never-sound : (a : Exp ℕ) (p x : ℕ) → Means bodies s a p x → Means bodies s (never a) p (never_of x)
  unfolding never_of
  never-sound a p zero t d = ([], never-takes (t d).1)
  never-sound a p (suc m) t d = ([], never-fails (t d).1)

  -- a symbol that there is not matches nowhere
  nowhere-sound : (p : ℕ) → Means bodies s nowhere p 0
  nowhere-sound p d = ([], cls-fails (λ k. false≢true k.1))

  -- v is the cell's number
  cell_in : (r p v : ℕ) (b : Bool) → leb v (length s - p + 1) ≡ b → p ≤ length s → Means bodies s (sym r) p v → Means bodies s (sym r) p (cond b v 0)
  cell_in r p v true h l t = t
  cell_in r p v false h l t = absurd (omega (arith, leb-false v (length s - p + 1) h, within (plainly bodies) s (t 0).1 l))

  cell-by : (r p v : ℕ) (b : Bool) → ltb r (length bodies) ≡ b → p ≤ length s → (r < length bodies → Means bodies s (sym r) p v)
      → Means bodies s (sym r) p (cond (b && leb v (length s - p + 1)) v 0)
  cell-by r p v true h l t = cell_in r p v (leb v (length s - p + 1)) refl l (t (ltb-true r (length bodies) h))
  cell-by r p v false h l t =
      sym-is r p 0 (subst (λ (e : Exp ℕ). Means bodies s e p 0) (flip (get_or-eq_default bodies nowhere {n = r} (ltb-false r (length bodies) h))) (nowhere-sound p))

  pub cell-sound : (cs : List ℕ) (r p : ℕ) → p ≤ length s → (r < length bodies → Means bodies s (sym r) p (get_or cs (p * length bodies + r) 0))
      → Means bodies s (sym r) p (cell_at s cs (length bodies) r p)
  unfolding cell_at
  cell-sound cs r p l t = cell-by r p (get_or cs (p * length bodies + r) 0) (ltb r (length bodies)) refl l t
