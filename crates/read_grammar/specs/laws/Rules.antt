-- Rule after rule. Assumes nothing.
use Rattle.std.specs.Prelude.{ℕ, ◌+◌, ◌<◌, ◌≡◌, refl, List, [], ◌∷◌, ◌++◌, ◌⊎◌, length}
use Rattle.std.proofs.Common.{sym, ap, ◌∙◌, subst, inl, inr, arith, length-append}
use Rattle.read_tokens.specs.declared.Mode.{Mode}
use Rattle.read_tokens.specs.Token.{Symbol, Tok, symbol, arrow}
use Rattle.grammar.specs.Exp.{Rule}
use Rattle.grammar.specs.Syntax.{Choice, Rules, rule, more}
use Rattle.grammar.specs.Trees.{tree_c, ruled, trees}
use Rattle.read_syntax.specs.Reader.{ok, choice_p, rule_by, rules_r, rules_p}
use Rattle.read_entries.specs.steps.Entries.{bodied}
use Rattle.read_grammar.specs.steps.Lay.{St, lay, headed, lay_rules, Rel}
use Rattle.read_grammar.specs.steps.Promises.{toks_at, Over, Grown, Ruled, Laid}
use Rattle.read_grammar.specs.laws.Grows.{lay-grows}
use Rattle.read_grammar.specs.laws.Stores.{rel-body}
use Rattle.read_grammar.specs.laws.Reads.{rules-begin, rules-turn, rules-halt, not-ok}

-- ── one rule ──
pub one-rule : {m : Mode} {s : List ℕ} {at a b to k : ℕ} {old t₁ new : List ℕ} → Over m s at a → Over m s a b → Grown choice_p tree_c m s b to old t₁ → new ≡ bodied k t₁ → Ruled m s at k to old new
one-rule {m} {s} {at} {a} {b} {to} {k} {old} {t₁} {new} o p g e = record {
  low = omega (arith, o.low, p.low, g.low);
  high = g.high;
  forth = λ h. by (toks_at m s at) refl h;
  same = λ f h l c r x y.
      let u = o.behind (symbol h) (arrow ∷ l) x in
      let v = p.behind arrow l u.1 in
      let w = g.same f c r (ap (λ (z : List Tok). choice_p f z) v.1 ∙ y) in (
        w.0,
        λ z q i. subst (λ (t : List ℕ). Rel t (headed (lay (tree_c c) z))) (sym e)
            (rel-body k t₁ (lay (tree_c c) z) (w.1 z i) (q ∙ ap (λ (n : List ℕ). length n) (sym (lay-grows (tree_c c) z).heads))),
      );
}
  where
    by : (l : List Tok) → toks_at m s at ≡ l → (toks_at m s at ≡ [] → ⊥) → at < to
    by [] x h = absurd (h x)
    by (t ∷ l) x h = omega (arith, (o.behind t l x).0, p.low, g.low)

-- ── all rules ──
pub rules-snoc : (d : List Rule) (h : Symbol) (c : Choice) (u : St) → lay_rules (d ++ (ruled h (tree_c c) ∷ [])) u ≡ headed (lay (tree_c c) (lay_rules d u))
unfolding lay_rules
rules-snoc [] h c u = refl
rules-snoc (r ∷ d) h c u = rules-snoc d h c (headed (lay r.right u))

pub rules-heads : (d : List Rule) (u : St) → length (lay_rules d u).heads ≡ length u.heads + length d
unfolding lay_rules
rules-heads [] u = omega arith
rules-heads (r ∷ d) u =
    rules-heads d (headed (lay r.right u))
    ∙ omega (arith, length-append (lay r.right u).heads (length (lay r.right u).parts ∷ []), ap (λ (n : List ℕ). length n) (lay-grows r.right u).heads)

-- what is still to be read: all of it, or the rest behind the rules d
abbrev pub Left : Mode → List ℕ → ℕ → List Rule → Rules → Type 0
Left m s i d g = ((d ≡ []) × (f : ℕ) × (rules_p f (toks_at m s i) ≡ ok g [])) ⊎ ((b : Rules) × (f : ℕ) × (trees b ≡ d) × (rules_r f b (toks_at m s i) ≡ ok g []))

pub record LoopR (m : Mode) (s : List ℕ) (t₁ : List ℕ) (i k : ℕ) (t : List ℕ) : Type 0 where
  pub on : (f : ℕ) (g : Rules) → rules_p f (toks_at m s 0) ≡ ok g []
      → (d : List Rule) × (length d ≡ k) × Left m s i d g × ((u : St) → u.heads ≡ [] → Rel t₁ u → Rel t (lay_rules d u))

pub loop-r : (m : Mode) (s : List ℕ) (t : List ℕ) → LoopR m s t 0 0 t
unfolding lay_rules
loop-r m s t = record { on = λ f g e. ([], refl, inl (refl, f, e), λ u h r. r) }

longer : (d : List Rule) (r : Rule) (k : ℕ) → length d ≡ k → length (d ++ (r ∷ [])) ≡ k + 1
longer d r k e = length-append d (r ∷ []) ∙ omega arith

long : (l : List Tok) → (l ≡ [] → ⊥) → 0 < length l
long [] h = absurd (h refl)
long (t ∷ l) h = omega arith

pub more-r : {m : Mode} {s : List ℕ} {i k j : ℕ} {t₁ t t₂ : List ℕ} → LoopR m s t₁ i k t → (toks_at m s i ≡ [] → ⊥) → Ruled m s i k j t t₂ → LoopR m s t₁ j (k + 1) t₂
unfolding trees
more-r {m} {s} {i} {k} {j} {t₁} {t} {t₂} l h q = record { on = λ f g e. let w = l.on f g e in turn g w.0 w.1 w.3 w.2 }
  where
    laid : (d : List Rule) → length d ≡ k → ((u : St) → u.heads ≡ [] → Rel t₁ u → Rel t (lay_rules d u)) → (y : Symbol) (c : Choice)
        → ((u : St) → k ≡ length u.heads → Rel t u → Rel t₂ (headed (lay (tree_c c) u))) → (u : St) → u.heads ≡ [] → Rel t₁ u → Rel t₂ (lay_rules (d ++ (ruled y (tree_c c) ∷ [])) u)
    laid d n r y c p u z x =
        subst (Rel t₂) (sym (rules-snoc d y c u)) (p (lay_rules d u) (sym (rules-heads d u ∙ omega (arith, ap (λ (v : List ℕ). length v) z))) (r u z x))

    turn : (g : Rules) (d : List Rule) → length d ≡ k → ((u : St) → u.heads ≡ [] → Rel t₁ u → Rel t (lay_rules d u)) → Left m s i d g
        → (d : List Rule) × (length d ≡ k + 1) × Left m s j d g × ((u : St) → u.heads ≡ [] → Rel t₁ u → Rel t₂ (lay_rules d u))
    turn g d n r (inl x) =
        let u = rules-begin x.1 (toks_at m s i) g [] x.2 in
        let v = q.same x.1 u.0 u.1 u.2 u.3 u.4 u.5 in (
          d ++ (ruled u.0 (tree_c u.2) ∷ []),
          longer d (ruled u.0 (tree_c u.2)) k n,
          inr (rule u.0 u.2, x.1, sym (ap (λ (y : List Rule). y ++ (ruled u.0 (tree_c u.2) ∷ [])) x.0), ap (λ (y : List Tok). rules_r x.1 (rule u.0 u.2) y) v.0 ∙ u.6),
          laid d n r u.0 u.2 v.1,
        )
    turn g d n r (inr x) =
        let u = rules-turn x.1 x.0 (toks_at m s i) g [] (long (toks_at m s i) h) x.3 in
        let v = q.same u.0 u.1 u.2 u.3 u.4 u.5 u.6 in (
          d ++ (ruled u.1 (tree_c u.3) ∷ []),
          longer d (ruled u.1 (tree_c u.3)) k n,
          inr (more x.0 u.1 u.3, u.0, ap (λ (y : List Rule). y ++ (ruled u.1 (tree_c u.3) ∷ [])) x.2, ap (λ (y : List Tok). rules_r u.0 (more x.0 u.1 u.3) y) v.0 ∙ u.7),
          laid d n r u.1 u.3 v.1,
        )

no-rules : (f : ℕ) (g : Rules) → rules_p f [] ≡ ok g [] → ⊥
unfolding rules_p rule_by
no-rules f g e = not-ok e

pub end-r : {m : Mode} {s : List ℕ} {i k : ℕ} {t₁ t : List ℕ} → LoopR m s t₁ i k t → toks_at m s i ≡ [] → Laid m s t₁ t
end-r {m} {s} {i} {k} {t₁} {t} l h = record { same = λ f g e u z r. let w = l.on f g e in by g w.0 w.2 u z r (w.3 u z r) }
  where
    by : (g : Rules) (d : List Rule) → Left m s i d g → (u : St) → u.heads ≡ [] → Rel t₁ u → Rel t (lay_rules d u) → Rel t (lay_rules (trees g) u)
    by g d (inl x) u z r y = absurd (no-rules x.1 g (ap (λ (v : List Tok). rules_p x.1 v) (sym h) ∙ x.2))
    by g d (inr x) u z r y =
        let e : x.0 ≡ g = rules-halt x.1 x.0 g (ap (λ (v : List Tok). rules_r x.1 x.0 v) (sym h) ∙ x.3) in
        subst (λ (v : List Rule). Rel t (lay_rules v u)) (sym x.2 ∙ ap trees e) y
