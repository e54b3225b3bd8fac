-- The body of a symbol by its root, and the union of ALT over its uses, as code reads them from a table. Assumes nothing.
use Rattle.std.specs.Prelude.{ℕ, zero, suc, ◌+◌, ◌-◌, ◌≡◌, refl, Bool, false, cond, List, get_or, eqb}
use Rattle.std.proofs.Common.{sym, ap, ◌∙◌, arith, add-one}
use Rattle.base_words.specs.Set.{union_of, empty}
use Rattle.grammar.specs.Parts.{Part}
use Rattle.grammar_table.specs.Table.{expression_count, op_of, left_of, right_of, part_by, part_in}
use Rattle.lake_rules.specs.Beginning.{Beginning, root_eps}
use Rattle.lake_rules.specs.Analysis.{is_use, uses_alt}
use Rattle.lake_sets.specs.steps.Steps.{alt_by}

-- ε of the body with a root
pub root_none : (at : ℕ → Beginning) (w b : ℕ) → w ≡ 0 → w ≡ b → false ≡ root_eps at b
root_none at w b z e = ap (root_eps at) (sym z ∙ e)

pub root-some : (at : ℕ → Beginning) (w b : ℕ) (v : Bool) → (w ≡ 0 → ⊥) → w ≡ b → v ≡ (at (w - 1)).eps → v ≡ root_eps at b
root-some at zero b v h e f = absurd (h refl)
root-some at (suc w) b v h e f = f ∙ ap (λ (i : ℕ). (at i).eps) (let q : suc w - 1 ≡ w = omega arith in q) ∙ ap (root_eps at) e

-- a use of symbol s by the words of an expression
pub use-is : (k l r s : ℕ) → k ≡ 1 → eqb l s ≡ is_use (part_by k l r) s
unfolding part_by
use-is k l r s e = rw e

pub use-not : (k l r s : ℕ) → (k ≡ 1 → ⊥) → false ≡ is_use (part_by k l r) s
unfolding part_by
use-not zero l r s h = refl
use-not (suc zero) l r s h = absurd (h refl)
use-not (suc (suc zero)) l r s h = refl
use-not (suc (suc (suc zero))) l r s h = refl
use-not (suc (suc (suc (suc zero)))) l r s h = refl
use-not (suc (suc (suc (suc (suc zero))))) l r s h = refl
use-not (suc (suc (suc (suc (suc (suc zero)))))) l r s h = refl
use-not (suc (suc (suc (suc (suc (suc (suc zero))))))) l r s h = refl
use-not (suc (suc (suc (suc (suc (suc (suc (suc k)))))))) l r s h = refl

pub part-is : (t : List ℕ) (e s : ℕ) → is_use (part_by (op_of t e) (left_of t e) (right_of t e)) s ≡ is_use (part_in t e) s
unfolding part_in
part-is t e s = refl

-- one expression more
pub uses-none : (part : ℕ → Part) (alt : ℕ → List ℕ) (r : ℕ) → empty ≡ uses_alt part alt r 0
unfolding uses_alt
uses-none part alt r = refl

pub uses-next : (part : ℕ → Part) (alt : ℕ → List ℕ) (r n : ℕ) (s u : List ℕ) → s ≡ uses_alt part alt r n → u ≡ cond (is_use (part n) r) (union_of s (alt n)) s → u ≡ uses_alt part alt r (n + 1)
unfolding uses_alt
uses-next part alt r n s u e f =
    f ∙ ap (λ (x : List ℕ). cond (is_use (part n) r) (union_of x (alt n)) x) e ∙ ap (uses_alt part alt r) (sym (add-one n))

-- ALT by the root
module _ (t : List ℕ) (alts : List (List ℕ)) (r w b : ℕ) (u : List ℕ) (is : w ≡ b) where
  pub alt-none : w ≡ 0 → (n : ℕ) → n ≡ expression_count t → u ≡ uses_alt (part_in t) (λ i. get_or alts i empty) r n → u ≡ alt_by t alts r b
  alt-none z n e f = f ∙ ap (uses_alt (part_in t) (λ i. get_or alts i empty) r) e ∙ ap (alt_by t alts r) (sym z ∙ is)

pub alt-some : (t : List ℕ) (alts : List (List ℕ)) (r w b : ℕ) (u : List ℕ) → w ≡ b → (w ≡ 0 → ⊥) → u ≡ get_or alts (w - 1) empty → u ≡ alt_by t alts r b
alt-some t alts r zero b u e h f = absurd (h refl)
alt-some t alts r (suc w) b u e h f = f ∙ ap (λ (i : ℕ). get_or alts i empty) (let q : suc w - 1 ≡ w = omega arith in q) ∙ ap (alt_by t alts r) e
