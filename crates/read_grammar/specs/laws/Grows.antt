-- What is laid stays in front of what is laid later. Assumes nothing.
use Rattle.std.specs.Prelude.{◌≤◌, ◌≡◌, refl, Bool, true, false, List, [], ◌∷◌, ◌++◌, length}
use Rattle.std.proofs.Common.{sym, ap, ◌∙◌, subst, append_assoc, append-nil, arith, length-append}
use Rattle.read_tokens.specs.Token.{Symbol, Leaf}
use Rattle.grammar.specs.Exp.{Exp, sym as symb, ter, seq, alt, opt, star, plus, ahead, never}
use Rattle.grammar.specs.Parts.{Part}
use Rattle.grammar.specs.Same.{same_leaf, is_in}
use Rattle.grammar_table.specs.laws.Rows.{also, also-in, also-new, All, all_left}
use Rattle.read_entries.specs.steps.Entries.{FitSymbol, FitLeaf}
use Rattle.read_grammar.specs.steps.Lay.{St, push, leafed, lay, Fits}

pub record Grows (u v : St) : Type 0 where
  pub names : v.names ≡ u.names
  pub heads : v.heads ≡ u.heads
  pub terms : (ys : List Leaf) × (v.terms ≡ u.terms ++ ys)
  pub parts : length u.parts ≤ length v.parts

pub grows-on : (u v w : St) → Grows u v → Grows v w → Grows u w
grows-on u v w a b = record {
  names = b.names ∙ a.names;
  heads = b.heads ∙ a.heads;
  terms = (a.terms.0 ++ b.terms.0, b.terms.1 ∙ ap (λ (l : List Leaf). l ++ b.terms.0) a.terms.1 ∙ append_assoc u.terms a.terms.0 b.terms.0);
  parts = omega (arith, a.parts, b.parts);
}

pub grows-push : (p : Part) (s : St) → Grows s (push p s)
grows-push p s = record { names = refl; heads = refl; terms = ([], sym (append-nil s.terms)); parts = omega (arith, length-append s.parts (p ∷ [])) }

pub also-front : {A : Type 0} (same : A → A → Bool) (x : A) (l : List A) → (ys : List A) × (also same x l ≡ l ++ ys)
also-front {A} same x l = by (is_in same x l) refl
  where
    by : (b : Bool) → is_in same x l ≡ b → (ys : List A) × (also same x l ≡ l ++ ys)
    by true e = ([], also-in same x l e ∙ sym (append-nil l))
    by false e = (x ∷ [], also-new same x l e)

pub grows-leaf : (x : Leaf) (s : St) → Grows s (leafed x s)
grows-leaf x s = record { names = refl; heads = refl; terms = also-front same_leaf x s.terms; parts = omega arith }

pub lay-grows : (e : Exp Symbol) (s : St) → Grows s (lay e s)
unfolding lay
lay-grows (symb h) s = grows-push _ s
lay-grows (ter x) s = grows-on s (leafed x s) _ (grows-leaf x s) (grows-push _ (leafed x s))
lay-grows (seq a b) s = grows-on s (lay b (lay a s)) _ (grows-on s (lay a s) (lay b (lay a s)) (lay-grows a s) (lay-grows b (lay a s))) (grows-push _ (lay b (lay a s)))
lay-grows (alt a b) s = grows-on s (lay b (lay a s)) _ (grows-on s (lay a s) (lay b (lay a s)) (lay-grows a s) (lay-grows b (lay a s))) (grows-push _ (lay b (lay a s)))
lay-grows (opt a) s = grows-on s (lay a s) _ (lay-grows a s) (grows-push _ (lay a s))
lay-grows (star a) s = grows-on s (lay a s) _ (lay-grows a s) (grows-push _ (lay a s))
lay-grows (plus a) s = grows-on s (lay a s) _ (lay-grows a s) (grows-push _ (lay a s))
lay-grows (ahead a) s = grows-on s (lay a s) _ (lay-grows a s) (grows-push _ (lay a s))
lay-grows (never a) s = grows-on s (lay a s) _ (lay-grows a s) (grows-push _ (lay a s))

module _ (u v : St) (g : Grows u v) where
  pub fits-back : Fits v → Fits u
  fits-back f = record {
    symbols = subst (All FitSymbol) g.names f.symbols;
    leaves = all_left FitLeaf u.terms g.terms.0 (subst (All FitLeaf) g.terms.1 f.leaves);
  }

  pub names-back : length v.names ≤ 64 → length u.names ≤ 64
  names-back h = omega (arith, ap (λ (l : List Symbol). length l) g.names)

  pub terms-back : length v.terms ≤ 64 → length u.terms ≤ 64
  terms-back h = omega (arith, ap (λ (l : List Leaf). length l) g.terms.1, length-append u.terms g.terms.0)
